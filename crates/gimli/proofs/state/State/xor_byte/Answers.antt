use Rattle.std.proofs.Common.{arith, rules}
use Rattle.gimli.specs.StringsLemmas.{row-xored}
use Rattle.gimli.proofs.state.State.xor_byte.Goals as goal

pub returns-in-0 : goal.returns-in-0
returns-in-0 c =
    (c.if-place-ge-WIDTH.false, row-xored c.args.self.now c.args.place c.args.b c.from.result 0 c.if-place-ge-WIDTH.false c.ranges.b.fits c.from.ensures c.in-0.is (search rules))

pub returns-in-1 : goal.returns-in-1
returns-in-1 c =
    (c.if-place-ge-WIDTH.false, row-xored c.args.self.now c.args.place c.args.b c.from.result 1 c.if-place-ge-WIDTH.false c.ranges.b.fits c.from.ensures c.in-1.is (search rules))

pub returns-in_default : goal.returns-in_default
returns-in_default c =
    (c.if-place-ge-WIDTH.false, row-xored c.args.self.now c.args.place c.args.b c.from.result 2 c.if-place-ge-WIDTH.false c.ranges.b.fits c.from.ensures (omega arith) (search rules))
