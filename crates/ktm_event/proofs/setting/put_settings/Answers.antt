use Rattle.std.proofs.Common.{arith}
use Rattle.std.proofs.lemmas.List.{take_all}
use Rattle.std.proofs.lemmas.Result.{err_from_is_err_and}
use Rattle.ktm_codec.proofs.Adding.{adds_no_items, adds_item, adds_items}
use Rattle.ktm_world.specs.EventGrammar.{IsSettingOf}
use Rattle.ktm_world.specs.Sizes.{setting_size}
use Rattle.ktm_event.specs.Spelling.{IsSpellableSetting}
use Rattle.ktm_event.proofs.Rows.{each_of}
use Rattle.ktm_event.proofs.Writings.{size_more, size_within, rising}
use Rattle.ktm_event.proofs.setting.put_settings.Goals as goal

pub returns-in_err-put_setting-clause-full : goal.returns-in_err-put_setting-clause-full
returns-in_err-put_setting-clause-full c =
    let p = err_from_is_err_and c.from_residual-in_err-put_setting.result c.from_residual-in_err-put_setting.ensures.1 in
    rw p.1 (omega (arith, c.in_err-put_setting.ensures.full, size_within setting_size c.args.settings.now c.loop-setting.setting-index c.setting-item.result (omega arith) c.setting-item.is))

pub loop-setting-preserved : goal.loop-setting-preserved
loop-setting-preserved c = record {
  adds = adds_item IsSettingOf _ _ _ _ c.setting-item.result _ _ (omega arith) c.setting-item.is c.loop-setting.invariant.adds c.in_ok-put_setting.ensures.adds;
  len = omega (arith, c.in_ok-put_setting.ensures.len, size_more setting_size c.args.settings.now c.loop-setting.setting-index c.setting-item.result (omega arith) c.setting-item.is);
  room = omega arith;
}

pub loop-setting-init : goal.loop-setting-init
loop-setting-init c = record {
  adds = rw (← c.in_ok-reserve.ensures.items) (adds_no_items IsSettingOf _ _ _ c.put_u32.ensures.adds);
  len = omega arith;
  room = omega arith;
}

pub returns-clause-adds : goal.returns-clause-adds
returns-clause-adds c = rising c.requires.rising (adds_items IsSettingOf _ _ _ c.loop-setting.setting-index _ (omega arith) c.loop-setting.invariant.adds)

pub returns-clause-len : goal.returns-clause-len
returns-clause-len c = rw (take_all c.loop-setting.setting-index c.args.settings.now (omega arith)) at c.loop-setting.invariant.len

pub put_setting-requires : goal.put_setting-requires
put_setting-requires c = each_of IsSpellableSetting c.args.settings.now c.loop-setting.setting-index (omega arith) c.setting-item.is c.requires.each
