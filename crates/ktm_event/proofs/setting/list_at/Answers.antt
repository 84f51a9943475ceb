use Rattle.std.proofs.Common.{◌+◌, ◌<◌, length, ◌∙◌, ap, arith}
use Rattle.std.proofs.lemmas.List.{length_push}
use Rattle.ktm_codec.proofs.SpansLemmas.{row_push, list_no_count, list_cut, list_read}
use Rattle.ktm_world.specs.EventGrammar.{IsSettingOf}
use Rattle.ktm_event.proofs.Parts.{unambiguous_setting}
use Rattle.ktm_event.proofs.Readings.{passes}
use Rattle.ktm_event.proofs.setting.list_at.Goals as goal

pub returns-in_err-count : goal.returns-in_err-count
returns-in_err-count c = passes _ _ c.from_residual.ensures.1 c.in_err-count.ensures (λ absent. record { none = list_no_count IsSettingOf _ _ absent.none })

pub returns-in_err-setting : goal.returns-in_err-setting
returns-in_err-setting c =
    let fewer : length c.settings.settings.items < c.in_ok-count.count = omega arith in
    passes _ _ c.from_residual-in_err-setting.ensures.1 c.in_err-setting.ensures
    (λ absent. record { none = list_cut IsSettingOf _ _ _ _ c.in_ok-count.ensures unambiguous_setting _ _ c.settings.invariant.row fewer absent.none })

pub settings-preserved : goal.settings-preserved
settings-preserved c = record {
  row = rw c.in_ok-push.ensures.items (row_push IsSettingOf _ _ _ _ _ _ c.settings.invariant.row c.in_ok-setting.ensures);
  counted = ap length c.in_ok-push.ensures.items ∙ length_push _ _ ∙ ap (λ n. n + 1) c.settings.invariant.counted;
}

pub returns : goal.returns
returns c = rw c.new.ensures (list_read IsSettingOf _ _ _ _ c.in_ok-count.ensures _ _ c.settings.invariant.row (omega arith))
