use Rattle.std.proofs.Common.{Err, arith}
use Rattle.ktm_codec.proofs.SpansLemmas.{spans_tagged}
use Rattle.ktm_event.proofs.Readings.{passes, absent_behind, behind, no_tag}
use Rattle.ktm_event.specs.declared.fault.EventFault.TheVariants.{NotAnEvent}
use Rattle.ktm_snapshot.proofs.Fields.{no_enlistment, other_superior, superior_starts}
use Rattle.ktm_snapshot.proofs.transaction.superior_at.Goals as goal
use Rattle.ktm_snapshot.specs.StateGrammar.{IsSuperiorOf}

pub returns-in_default : goal.returns-in_default
returns-in_default c = (no_tag IsSuperiorOf superior_starts (record { none = c.in_default.ensures })).none

pub returns-in_default-tag : goal.returns-in_default-tag
returns-in_default-tag c = behind IsSuperiorOf superior_starts c.in-Some.ensures (Err NotAnEvent) (other_superior c.in-Some.tag (omega arith) (omega arith))

pub returns-in_err-enlistment-in-1 : goal.returns-in_err-enlistment-in-1
returns-in_err-enlistment-in-1 c =
    passes _ _ c.from_residual.ensures.1 c.in_err-enlistment-in-1.ensures
    (λ none. absent_behind IsSuperiorOf superior_starts (rw c.in-1.is at c.in-Some.ensures) (no_enlistment none))

pub returns-in_ok-enlistment-in-1 : goal.returns-in_ok-enlistment-in-1
returns-in_ok-enlistment-in-1 c = spans_tagged _ _ 1 _ (rw c.in-1.is at c.in-Some.ensures) _ c.in_ok-enlistment-in-1.ensures
