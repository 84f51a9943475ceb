use Rattle.ktm_event.proofs.Parts.{unambiguous_key}
use Rattle.ktm_event.proofs.PartReadings.{no_setting, setting_read}
use Rattle.ktm_event.proofs.Readings.{no_first, after}
use Rattle.ktm_replayed.proofs.settings.setting_in.Goals as goal

pub returns-in_err-key : goal.returns-in_err-key
returns-in_err-key c = rw c.from_residual.ensures (no_setting (no_first _ (record { none = c.in_err-key.ensures }))).none

pub returns-in_err-value : goal.returns-in_err-value
returns-in_err-value c = rw c.from_residual-in_err-value.ensures (no_setting (after unambiguous_key c.in_ok-key.ensures (record { none = c.in_err-value.ensures }))).none

pub returns : goal.returns
returns c = setting_read c.in_ok-key.ensures c.in_ok-value.ensures
