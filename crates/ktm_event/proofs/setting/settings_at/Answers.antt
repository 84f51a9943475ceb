use Rattle.std.proofs.Common.{sym, ◌∙◌, ap}
use Rattle.ktm_keyed.specs.Keyed.{is_rising}
use Rattle.ktm_event.proofs.PartReadings.{no_list, not_rising, settings_read}
use Rattle.ktm_event.proofs.Readings.{passes}
use Rattle.ktm_event.proofs.setting.settings_at.Goals as goal

pub returns-in_err-settings : goal.returns-in_err-settings
returns-in_err-settings c = passes _ _ c.from_residual.ensures.1 c.in_err-settings.ensures no_list

pub returns-then-not-is_rising : goal.returns-then-not-is_rising
returns-then-not-is_rising c = not_rising _ c.in_ok-settings.ensures (ap is_rising (sym c.as_slice.ensures) ∙ sym c.is_rising.ensures ∙ c.if-not-is_rising.true)

pub returns : goal.returns
returns c = settings_read _ c.in_ok-settings.ensures (ap is_rising (sym c.as_slice.ensures) ∙ sym c.is_rising.ensures ∙ c.if-not-is_rising.false)
