use Rattle.c_interface.proofs.Openings.{opened_under}
use Rattle.c_interface.proofs.open.open.Goals as goal

pub returns : goal.returns
returns c =
    let key = c.in_ok-key.ensures in
    let nonce = c.in_ok-nonce.ensures in
    opened_under c.args.key.now c.args.nonce.now c.args.ad.now c.args.sealed.now c.args.message.now c.open_box.new.message key.0 nonce.0 _ _ c.open_box.result key.1 nonce.1 c.open_box.ensures
