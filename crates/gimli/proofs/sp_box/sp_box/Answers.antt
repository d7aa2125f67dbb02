use Rattle.std.proofs.Common.{◌≡◌, ◌^◌, ◌<◌, refl, ◌∙◌, arith}
use Rattle.gimli.proofs.Words.{rotation}
use Rattle.gimli.specs.Words.{shifted, rotated}
use Rattle.gimli.specs.Permutation.{sp_box}
use Rattle.gimli.proofs.sp_box.sp_box.Goals as goal

pub returns : goal.returns
unfolding sp_box shifted
returns c =
    let fits0 : c.args.column.0 < 2 ^ 32 = omega arith in
    let fits1 : c.args.column.1 < 2 ^ 32 = omega arith in
    let x : c.rotate_left-x.result ≡ rotated 24 c.args.column.0 = c.rotate_left-x.ensures ∙ rotation 8 24 c.args.column.0 refl fits0 in
    let y : c.rotate_left-y.result ≡ rotated 9 c.args.column.1 = c.rotate_left-y.ensures ∙ rotation 23 9 c.args.column.1 refl fits1 in
    simp (x, y)
