use Rattle.std.proofs.Common.{◌≡◌, length}
use Rattle.ktm_base.specs.Grammar.{IsRow}
use Rattle.ktm_codec.specs.Spans.{Spans}
use Rattle.ktm_world.specs.EventGrammar.{IsSettingOf}
use Rattle.ktm_event.proofs.setting.list_at.Given as goal

abbrev pub invariant-settings : goal.invariant-settings
invariant-settings l = record {
  row : Spans (IsRow IsSettingOf l.settings.items) l.bytes l.start l.end;
  counted : length l.settings.items ≡ l.counter;
}
