use Rattle.std.proofs.Common.{◌≡◌, ◌+◌, ◌≤◌, length, take, sum_by, vec_len, vec_capacity}
use Rattle.ktm_base.specs.Grammar.{Then, IsU32, IsRow}
use Rattle.ktm_codec.specs.Spans.{Adds}
use Rattle.ktm_world.specs.EventGrammar.{IsSettingOf}
use Rattle.ktm_world.specs.Sizes.{setting_size}
use Rattle.ktm_event.proofs.setting.put_settings.Given as goal

abbrev pub invariant-loop-setting : goal.invariant-loop-setting
invariant-loop-setting l = record {
  adds : Adds (Then (IsU32 (length l.settings)) (IsRow IsSettingOf (take l.setting-index l.settings))) l.fn.out.items l.out.items;
  len : vec_len l.out ≡ vec_len l.fn.out + 4 + sum_by setting_size (take l.setting-index l.settings);
  room : vec_capacity l.fn.out ≤ vec_capacity l.out;
}
