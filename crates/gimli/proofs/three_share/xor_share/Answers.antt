use Rattle.std.proofs.Common.{◌≡◌, length, set, rules}
use Rattle.gimli.specs.ThreeShare.{ShareXored}
use Rattle.gimli.proofs.SharedStrings.{lent_xored, meaning_xored}
use Rattle.gimli.proofs.three_share.xor_share.Goals as goal

pub returns : goal.returns
returns c =
    let before = c.args.shares.now.share in
    let long : length before ≡ 3 = search rules in
    let after = set before 0 c.xor_byte.new.self in
    let each : ShareXored before c.args.place c.args.b c.xor_byte.result after =
    lent_xored before c.xor_byte.new.self c.args.place c.args.b c.xor_byte.result long c.xor_byte.ensures in
    record { shares = each; meaning = meaning_xored before after c.args.place c.args.b c.xor_byte.result each }
