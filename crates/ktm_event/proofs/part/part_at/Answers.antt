use Rattle.std.proofs.Common.{Err, arith}
use Rattle.ktm_codec.proofs.SpansLemmas.{spans_tagged}
use Rattle.ktm_world.specs.EventGrammar.{IsPartOf}
use Rattle.ktm_event.specs.declared.fault.EventFault.TheVariants.{NotAnEvent}
use Rattle.ktm_event.proofs.PartReadings.{no_enlistment, no_changes, no_settings, other_part, part_starts}
use Rattle.ktm_event.proofs.Readings.{passes, absent_behind, behind, no_tag}
use Rattle.ktm_event.proofs.part.part_at.Goals as goal

pub returns-in_err-tag : goal.returns-in_err-tag
returns-in_err-tag c = passes _ _ c.from_residual.ensures.1 c.in_err-tag.ensures (no_tag IsPartOf part_starts)

pub returns-in_default : goal.returns-in_default
returns-in_default c =
    behind IsPartOf part_starts c.in_ok-tag.ensures (Err NotAnEvent) (other_part c.in_ok-tag.tag (omega arith) (omega arith) (omega arith))

pub returns-in_err-enlistment-in-1 : goal.returns-in_err-enlistment-in-1
returns-in_err-enlistment-in-1 c =
    passes _ _ c.from_residual-in_err-enlistment-in-1.ensures.1 c.in_err-enlistment-in-1.ensures
    (λ none. absent_behind IsPartOf part_starts (rw c.in-1.is at c.in_ok-tag.ensures) (no_enlistment none))

pub returns-in_ok-enlistment-in-1 : goal.returns-in_ok-enlistment-in-1
returns-in_ok-enlistment-in-1 c = spans_tagged _ _ 1 _ (rw c.in-1.is at c.in_ok-tag.ensures) _ c.in_ok-enlistment-in-1.ensures

pub returns-in_err-changes-in-2 : goal.returns-in_err-changes-in-2
returns-in_err-changes-in-2 c =
    passes _ _ c.from_residual-in_err-changes-in-2.ensures.1 c.in_err-changes-in-2.ensures
    (λ none. absent_behind IsPartOf part_starts (rw c.in-2.is at c.in_ok-tag.ensures) (no_changes none))

pub returns-in_ok-changes-in-2 : goal.returns-in_ok-changes-in-2
returns-in_ok-changes-in-2 c = spans_tagged _ _ 2 _ (rw c.in-2.is at c.in_ok-tag.ensures) _ c.in_ok-changes-in-2.ensures

pub returns-in_err-settings-in-3 : goal.returns-in_err-settings-in-3
returns-in_err-settings-in-3 c =
    passes _ _ c.from_residual-in_err-settings-in-3.ensures.1 c.in_err-settings-in-3.ensures
    (λ none. absent_behind IsPartOf part_starts (rw c.in-3.is at c.in_ok-tag.ensures) (no_settings none))

pub returns-in_ok-settings-in-3 : goal.returns-in_ok-settings-in-3
returns-in_ok-settings-in-3 c = spans_tagged _ _ 3 _ (rw c.in-3.is at c.in_ok-tag.ensures) _ c.in_ok-settings-in-3.ensures
