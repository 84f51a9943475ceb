use Rattle.std.proofs.Common.{◌-◌, arith}
use Rattle.ktm_extent.proofs.Bytes.{first_part}
use Rattle.ktm_extent.proofs.unit.whole_unit.Goals as goal

pub returns : goal.returns
returns c =
    let part = first_part c.args.bytes.now c.in-Some.whole.now (c.args.start - c.args.at) c.in-Some.ensures.cases.enough c.in-Some.ensures.cases.same in
    (c.if-start-at.false, omega (arith, part.0, c.if-start-at.false), part.1)
