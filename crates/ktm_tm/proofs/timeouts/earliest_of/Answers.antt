use Rattle.std.proofs.Common.{false, refl, subst}
use Rattle.std.proofs.lemmas.List.{take_all}
use Rattle.ktm_world.specs.declared.object.Phase.TheVariants.{Active}
use Rattle.ktm_world.specs.declared.object.Transaction.{Transaction}
use Rattle.ktm_world.specs.declared.object.TransactionOutcome.TheVariants.{Undetermined}
use Rattle.ktm_tm.specs.Timeouts.{NoneDueBefore}
use Rattle.ktm_tm.proofs.Early.{early-more}
use Rattle.ktm_tm.proofs.timeouts.earliest_of.Goals as goal

pub loop-t-init : goal.loop-t-init
loop-t-init c = λ clock before. refl

pub loop-t-preserved : goal.loop-t-preserved
loop-t-preserved c =
    let d : Transaction = record { id = record { boot = 0; number = 0 }; timeout = 0; created = 0; phase = Active; outcome = Undetermined; is_recorded = false } in
    rw c.min-earliest.ensures (early-more c.loop-t.earliest c.due_time.result c.args.ts.now c.loop-t.t-index d c.loop-t.invariant c.loop-t-test.true c.due_time.ensures)

pub returns : goal.returns
returns c = subst (NoneDueBefore c.loop-t.earliest) (take_all c.loop-t.t-index c.args.ts.now c.loop-t-test.false) c.loop-t.invariant
