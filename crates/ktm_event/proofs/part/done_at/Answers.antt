use Rattle.std.proofs.Common.{Err, arith}
use Rattle.ktm_codec.proofs.SpansLemmas.{spans_tagged}
use Rattle.ktm_world.specs.EventGrammar.{IsDoneOf}
use Rattle.ktm_event.specs.declared.fault.EventFault.TheVariants.{NotAnEvent}
use Rattle.ktm_event.proofs.PartReadings.{no_done, other_done, done_starts}
use Rattle.ktm_event.proofs.Readings.{passes, absent_behind, behind, no_tag}
use Rattle.ktm_event.proofs.part.done_at.Goals as goal

pub returns-in_err-tag : goal.returns-in_err-tag
returns-in_err-tag c = passes _ _ c.from_residual.ensures.1 c.in_err-tag.ensures (no_tag IsDoneOf done_starts)

pub returns-in_default : goal.returns-in_default
returns-in_default c =
    behind IsDoneOf done_starts c.in_ok-tag.ensures (Err NotAnEvent) (other_done c.in_ok-tag.tag (omega arith) (omega arith) (omega arith))

pub returns-in_err-enlistment-in-1 : goal.returns-in_err-enlistment-in-1
returns-in_err-enlistment-in-1 c =
    passes _ _ c.from_residual-in_err-enlistment-in-1.ensures.1 c.in_err-enlistment-in-1.ensures
    (λ none. absent_behind IsDoneOf done_starts (rw c.in-1.is at c.in_ok-tag.ensures) (no_done none))

pub returns-in_ok-enlistment-in-1 : goal.returns-in_ok-enlistment-in-1
returns-in_ok-enlistment-in-1 c = spans_tagged _ _ 1 _ (rw c.in-1.is at c.in_ok-tag.ensures) _ c.in_ok-enlistment-in-1.ensures
