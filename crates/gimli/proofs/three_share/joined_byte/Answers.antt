use Rattle.gimli.proofs.SharedStrings.{joined_read}
use Rattle.gimli.proofs.three_share.joined_byte.Goals as goal

pub returns : goal.returns
returns c =
    let zeroth = c.in_ok-zeroth.ensures in
    let first = c.in_ok-first.ensures in
    let second = c.in_ok-second.ensures in
    (zeroth.0, joined_read c.args.shares.now.share c.args.place _ _ _ zeroth.0 zeroth.1 first.1 second.1)
