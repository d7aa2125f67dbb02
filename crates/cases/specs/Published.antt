-- Published answers, which the definitions give by computation.
use Rattle.std.specs.Prelude.{◌≡◌, ℕ, List, [], ◌∷◌}
use Rattle.std.specs.List.{range_with_len}
use Rattle.sponge.specs.Blocks.{hash, sealed_box}
use Rattle.gimli.specs.Permutation.{permutation}
use Rattle.gimli.specs.Strings.{gimli}

-- the string 0 1 2 .. of n bytes
abbrev pub upto : ℕ → List ℕ
upto n = range_with_len 0 n

-- the box under the key 0 1 .. 31 and the nonce 0 1 .. 15
abbrev pub box : List ℕ → List ℕ → List ℕ
box ad m = sealed_box gimli (upto 32) (upto 16) ad m

pub record Published : Type 0 where
  -- the test state of the permutation
  pub permuted : permutation record { top = 0x00000000 ∷ 0x9e3779ba ∷ 0x3c6ef37a ∷ 0xdaa66d46 ∷ []; middle = 0x78dde724 ∷ 0x1715611a ∷ 0xb54cdb2e ∷ 0x53845566 ∷ []; bottom = 0xf1bbcfc8 ∷ 0x8ff34a5a ∷ 0x2e2ac522 ∷ 0xcc624026 ∷ [] } ≡ record { top = 0xba11c85a ∷ 0x91bad119 ∷ 0x380ce880 ∷ 0xd24c2c68 ∷ []; middle = 0x3eceffea ∷ 0x277a921c ∷ 0x4f73a0bd ∷ 0xda5a9cd8 ∷ []; bottom = 0x84b673f0 ∷ 0x34e52ff7 ∷ 0x9e2bef49 ∷ 0xf41bb8d6 ∷ [] }
  -- digests of 0 and 16 bytes
  pub hash_0 : hash gimli (upto 0) ≡ 39 ∷ 174 ∷ 32 ∷ 233 ∷ 95 ∷ 188 ∷ 43 ∷ 240 ∷ 30 ∷ 151 ∷ 43 ∷ 0 ∷ 21 ∷ 238 ∷ 164 ∷ 49 ∷ 194 ∷ 15 ∷ 200 ∷ 129 ∷ 143 ∷ 37 ∷ 188 ∷ 109 ∷ 190 ∷ 102 ∷ 35 ∷ 34 ∷ 48 ∷ 219 ∷ 53 ∷ 47 ∷ []
  pub hash_16 : hash gimli (upto 16) ≡ 64 ∷ 76 ∷ 19 ∷ 10 ∷ 241 ∷ 185 ∷ 2 ∷ 58 ∷ 121 ∷ 8 ∷ 32 ∷ 9 ∷ 25 ∷ 246 ∷ 144 ∷ 255 ∷ 187 ∷ 117 ∷ 109 ∷ 81 ∷ 118 ∷ 224 ∷ 86 ∷ 255 ∷ 222 ∷ 50 ∷ 0 ∷ 22 ∷ 163 ∷ 124 ∷ 114 ∷ 130 ∷ []
  -- entry 1 of the known boxes: a message of 0 bytes, associated data of 0
  pub box_1 : box (upto 0) (upto 0) ≡ 20 ∷ 218 ∷ 155 ∷ 183 ∷ 18 ∷ 11 ∷ 245 ∷ 139 ∷ 152 ∷ 90 ∷ 142 ∷ 0 ∷ 253 ∷ 235 ∷ 161 ∷ 91 ∷ []
  -- entry 34 of the known boxes: a message of 1 bytes, associated data of 0
  pub box_34 : box (upto 0) (upto 1) ≡ 127 ∷ 128 ∷ 73 ∷ 44 ∷ 49 ∷ 123 ∷ 28 ∷ 213 ∷ 138 ∷ 30 ∷ 220 ∷ 58 ∷ 13 ∷ 62 ∷ 152 ∷ 118 ∷ 252 ∷ []
  -- entry 106 of the known boxes: a message of 3 bytes, associated data of 6
  pub box_106 : box (upto 6) (upto 3) ≡ 72 ∷ 77 ∷ 53 ∷ 3 ∷ 11 ∷ 190 ∷ 162 ∷ 59 ∷ 97 ∷ 192 ∷ 12 ∷ 237 ∷ 96 ∷ 169 ∷ 35 ∷ 189 ∷ 207 ∷ 145 ∷ 71 ∷ []
