use Rattle.std.proofs.Common.{◌+◌, ◌∙◌, length-set, sym}
use Rattle.std.proofs.lemmas.List.{drop-set-add}
use Rattle.ktm_keyed.proofs.KeyedLemmas.{is_rising-put}
use Rattle.kv_rm.proofs.setting_list.SettingList.replace.Goals as goal

pub invariant_of-self : goal.invariant_of-self
invariant_of-self c =
    let l = c.self.inside in
    let here = rw (← c.self.view_is) at c.requires in
    record {
      within = rw (length-set l.items.items (l.free + c.args.i) c.args.setting) c.self.invariant.within;
      rising =
          rw (drop-set-add l.free l.items.items c.args.i c.args.setting ∙ sym (here.replaces c.args.setting.value))
          (is_rising-put c.args.setting.key c.args.setting.value _ c.self.invariant.rising);
    }

pub returns : goal.returns
returns c =
    let l = c.self.inside in
    let here = rw (← c.self.view_is) at c.requires in
    rw (← c.self.view_is) (drop-set-add l.free l.items.items c.args.i c.args.setting ∙ sym (here.replaces c.args.setting.value))
