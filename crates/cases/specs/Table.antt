-- Worked cases of the definitions that the contracts cite.
use Rattle.std.specs.Prelude.{◌≡◌, [], ◌∷◌, drop, replicate}
use Rattle.sponge.specs.Blocks.{blocks}
use Rattle.cipher.specs.Nonces.{nonce_of}
use Rattle.gimli.specs.Permutation.{Column, sp_box, first_rounds}
use Rattle.gimli.specs.Shares.{share_sp_box}
use Rattle.gimli.specs.declared.state.State.{State}

abbrev pub zero_state : State
zero_state = record { top = 0 ∷ 0 ∷ 0 ∷ 0 ∷ []; middle = 0 ∷ 0 ∷ 0 ∷ 0 ∷ []; bottom = 0 ∷ 0 ∷ 0 ∷ 0 ∷ [] }

-- a column of zeros, and one with its last word 1
abbrev pub none : Column
none = (0, 0, 0)

abbrev pub last_one : Column
last_one = (0, 0, 1)

pub record Table : Type 0 where
  -- the SP-box
  pub last_bit : sp_box last_one ≡ (1, 2, 2)
  pub middle_bit : sp_box (0, 1, 0) ≡ (0x200, 0x200, 0)
  pub first_bit : sp_box (1, 0, 0) ≡ (0, 0x03000000, 0x01000000)
  pub all_ones : sp_box (0xffffffff, 0xffffffff, 0xffffffff) ≡ (0xfffffff8, 0xfffffffe, 0xfffffffd)
  -- the zero state after round 24, and after round 23
  pub after_24 : first_rounds 1 zero_state ≡ record { top = 0x9e377918 ∷ 0 ∷ 0 ∷ 0 ∷ []; middle = 0 ∷ 0 ∷ 0 ∷ 0 ∷ []; bottom = 0 ∷ 0 ∷ 0 ∷ 0 ∷ [] }
  pub after_23 : first_rounds 2 zero_state ≡ record { top = 0 ∷ 0 ∷ 0 ∷ 0 ∷ []; middle = 0x29a2598b ∷ 0 ∷ 0 ∷ 0 ∷ []; bottom = 0x189e3779 ∷ 0 ∷ 0 ∷ 0 ∷ [] }
  -- three shares, all zero but the last word of share 0: output shares 0, 1, 2
  pub share_0 : share_sp_box none none ≡ (0, 0, 0)
  pub share_1 : share_sp_box none last_one ≡ (0, 0, 0)
  pub share_2 : share_sp_box last_one none ≡ (1, 2, 2)
  -- how many blocks 0, 15 and 16 bytes give
  pub blocks_0 : blocks (replicate 0 7) ≡ 1
  pub blocks_15 : blocks (replicate 15 7) ≡ 1
  pub blocks_16 : blocks (replicate 16 7) ≡ 2
  -- a name of twelve 0x41 with count 258
  pub nonce_end : drop 12 (nonce_of (replicate 12 0x41) 258) ≡ 2 ∷ 1 ∷ 0 ∷ 0 ∷ []

-- an output share of two input shares in which every term counts
abbrev pub ShareTerms : Type 0
ShareTerms = share_sp_box (0x01234567, 0x89abcdef, 0x0f1e2d3c) (0x76543210, 0xfedcba98, 0xc3d2e1f0) ≡ (0xe816409f, 0x6888e84c, 0x4f4ecdcd)
