use Rattle.ktm_codec.proofs.SpansLemmas.{spans_tagged}
use Rattle.ktm_event.proofs.PartReadings.{no_value, set_to_starts}
use Rattle.ktm_event.proofs.Readings.{absent_behind, no_tag}
use Rattle.ktm_world.specs.EventGrammar.{IsSetTo}
use Rattle.ktm_replayed.proofs.settings.set_to_in.Goals as goal

pub returns-in_err-tag : goal.returns-in_err-tag
returns-in_err-tag c = rw c.from_residual.ensures (no_tag IsSetTo set_to_starts (record { none = c.in_err-tag.ensures })).none

pub returns-in_err-value-in-1 : goal.returns-in_err-value-in-1
returns-in_err-value-in-1 c =
    rw c.from_residual-in_err-value-in-1.ensures (absent_behind IsSetTo set_to_starts (rw c.in-1.is at c.in_ok-tag.ensures) (no_value c.in_err-value-in-1.ensures)).none

pub returns-in_ok-value-in-1 : goal.returns-in_ok-value-in-1
returns-in_ok-value-in-1 c = spans_tagged _ _ 1 _ (rw c.in-1.is at c.in_ok-tag.ensures) _ c.in_ok-value-in-1.ensures
