use Rattle.ktm_event.proofs.Parts.{unambiguous_key}
use Rattle.ktm_event.proofs.PartReadings.{no_setting, setting_read}
use Rattle.ktm_event.proofs.Readings.{passes, no_first, after}
use Rattle.ktm_event.proofs.setting.setting_at.Goals as goal

pub returns-in_err-key : goal.returns-in_err-key
returns-in_err-key c = passes _ _ c.from_residual.ensures.1 c.in_err-key.ensures (λ none. no_setting (no_first _ none))

pub returns-in_err-value : goal.returns-in_err-value
returns-in_err-value c = passes _ _ c.from_residual-in_err-value.ensures.1 c.in_err-value.ensures (λ none. no_setting (after unambiguous_key c.in_ok-key.ensures none))

pub returns : goal.returns
returns c = setting_read c.in_ok-key.ensures c.in_ok-value.ensures
