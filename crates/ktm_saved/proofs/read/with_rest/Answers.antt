use Rattle.std.proofs.Common.{arith, subst}
use Rattle.ktm_saved.proofs.read.with_rest.Goals as goal
use Rattle.ktm_saved.specs.Reading.{ReadsRest}

pub returns-in-Ok-true : goal.returns-in-Ok-true
returns-in-Ok-true c = (subst (ReadsRest c.args.units c.args.bytes.now c.read_rest.new.saved) c.in-Ok-true.field-0-test c.in-Ok-true.ensures) c.args.image (omega arith)

pub returns-in-Ok-false : goal.returns-in-Ok-false
returns-in-Ok-false c = λ s same number is. (subst (ReadsRest c.args.units c.args.bytes.now c.read_rest.new.saved) c.in-Ok-false.field-0-test c.in-Ok-false.ensures) s same is
