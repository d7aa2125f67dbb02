use Rattle.std.proofs.Common.{◌++◌}
use Rattle.gimli.specs.Strings.{gimli}
use Rattle.sponge.specs.Blocks.{absorbed}
use Rattle.cipher.proofs.Records.{closed_state}
use Rattle.c_interface.proofs.open.open_box.Goals as goal

pub returns : goal.returns
returns c =
    let key = c.args.key.now.bytes in
    let nonce = c.args.nonce.now.bytes in
    let ad = c.args.ad.now in
    c.open-answer.ensures.opens (absorbed gimli (gimli (nonce ++ key)) ad)
    (closed_state gimli key nonce ad _ _ _ c.start.ensures c.add-opening.ensures c.close.ensures)
