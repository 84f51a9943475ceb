use Rattle.std.proofs.Common.{Err, arith}
use Rattle.ktm_codec.proofs.SpansLemmas.{spans_tagged}
use Rattle.ktm_world.specs.EventGrammar.{IsSetTo}
use Rattle.ktm_event.specs.declared.fault.EventFault.TheVariants.{NotAnEvent}
use Rattle.ktm_event.proofs.PartReadings.{no_value, other_set_to, set_to_starts}
use Rattle.ktm_event.proofs.Readings.{passes, absent_behind, behind, no_tag}
use Rattle.ktm_event.proofs.setting.set_to_at.Goals as goal

pub returns-in_err-tag : goal.returns-in_err-tag
returns-in_err-tag c = passes _ _ c.from_residual.ensures.1 c.in_err-tag.ensures (no_tag IsSetTo set_to_starts)

pub returns-in_default : goal.returns-in_default
returns-in_default c = behind IsSetTo set_to_starts c.in_ok-tag.ensures (Err NotAnEvent) (other_set_to c.in_ok-tag.tag (omega arith) (omega arith))

pub returns-in_default-value_at : goal.returns-in_default-value_at
returns-in_default-value_at c = (absent_behind IsSetTo set_to_starts (rw c.in-1.is at c.in_ok-tag.ensures) (no_value c.in_default-value_at.ensures)).none

pub returns-in_ok-to_vec-in-1 : goal.returns-in_ok-to_vec-in-1
returns-in_ok-to_vec-in-1 c =
    rw (c.new-value.ensures, c.in_ok-to_vec-in-1.ensures.items_if_clones_equal (λ x y same. same)) (spans_tagged _ _ 1 _ (rw c.in-1.is at c.in_ok-tag.ensures) _ c.in-Some.ensures)
