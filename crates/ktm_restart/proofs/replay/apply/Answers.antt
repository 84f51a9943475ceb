use Rattle.std.proofs.Common.{arith, inl, inr}
use Rattle.ktm_codec.proofs.SpansLemmas.{list_no_count}
use Rattle.ktm_event.proofs.Groups.{another_group, no_group}
use Rattle.ktm_restart.proofs.GroupReadings.{all-applied, all-spelled, bad-behind, one-applied}
use Rattle.ktm_restart.proofs.replay.apply.Goals as goal
use Rattle.ktm_world.specs.EventGrammar.{IsEventOf}

pub returns-in_default-clause-bad : goal.returns-in_default-clause-bad
returns-in_default-clause-bad c is events group applies = no_group c.args.payload.now (record { none = list_no_count IsEventOf _ _ c.in_default.ensures }) events group

pub returns-in_default-2-clause-bad : goal.returns-in_default-2-clause-bad
returns-in_default-2-clause-bad c is =
    bad-behind c.args.state.now.state c.args.payload.now c.in-Some.count c.in-Some.start c.events.end c.events.counter c.events.state c.in-Some.ensures c.events.invariant (omega arith)
    (rw c.in_default-2.is at c.in_ok-next.ensures)

pub events-preserved : goal.events-preserved
events-preserved c =
    one-applied c.args.state.now.state c.args.payload.now c.in-Some.start c.events.end c.events.counter c.events.state c.events.invariant c.in-Some-2.next c.apply_at.new.self
    (rw c.in-Some-2.is at c.in_ok-next.ensures)

pub returns-then-count-eq0-clause-bad : goal.returns-then-count-eq0-clause-bad
returns-then-count-eq0-clause-bad c is events group applies =
    another_group c.args.payload.now c.events.invariant.events c.events.end
    (all-spelled c.args.state.now.state c.args.payload.now c.in-Some.count c.in-Some.start c.events.end c.events.counter c.events.state c.in-Some.ensures c.events.invariant (omega arith))
    (elim c.then-count-eq0.either [ inl none ↦ inl (omega (arith, none, c.events.invariant.counted)) | inr other ↦ inr other.1 ]) events group

pub returns-clause-good : goal.returns-clause-good
returns-clause-good c is =
    all-applied c.args.state.now.state c.args.payload.now c.in-Some.count c.in-Some.start c.events.end c.events.counter c.events.state c.in-Some.ensures c.events.invariant (omega arith) (omega arith) c.if-end-payload.false
