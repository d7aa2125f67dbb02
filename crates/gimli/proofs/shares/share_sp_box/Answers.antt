use Rattle.std.proofs.Common.{◌≡◌, refl, ◌∙◌, arith}
use Rattle.gimli.proofs.Words.{rotation}
use Rattle.gimli.specs.Words.{shifted, rotated}
use Rattle.gimli.specs.Shares.{share_sp_box}
use Rattle.gimli.proofs.shares.share_sp_box.Goals as goal

pub returns : goal.returns
unfolding share_sp_box shifted
returns c =
    let xa : c.rotate_left-xa.result ≡ rotated 24 c.args.a.0 = c.rotate_left-xa.ensures ∙ rotation 8 24 c.args.a.0 refl (omega arith) in
    let ya : c.rotate_left-ya.result ≡ rotated 9 c.args.a.1 = c.rotate_left-ya.ensures ∙ rotation 23 9 c.args.a.1 refl (omega arith) in
    let xb : c.rotate_left-xb.result ≡ rotated 24 c.args.b.0 = c.rotate_left-xb.ensures ∙ rotation 8 24 c.args.b.0 refl (omega arith) in
    let yb : c.rotate_left-yb.result ≡ rotated 9 c.args.b.1 = c.rotate_left-yb.ensures ∙ rotation 23 9 c.args.b.1 refl (omega arith) in
    simp (xa, ya, xb, yb)
