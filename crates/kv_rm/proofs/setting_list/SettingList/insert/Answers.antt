use Rattle.std.proofs.Common.{◌+◌, ◌∙◌, ap, drop, sym}
use Rattle.ktm_keyed.proofs.KeyedLemmas.{is_rising-put}
use Rattle.kv_rm.proofs.FreePlaces.{drop-insert, within-insert}
use Rattle.kv_rm.proofs.setting_list.SettingList.insert.Goals as goal

pub invariant_of-self-2 : goal.invariant_of-self-2
invariant_of-self-2 c =
    let l = c.self.inside in
    let free = rw (← c.self.view_is) at c.requires in
    rw c.in_default.ensures.items (record {
      within = within-insert l.items.items l.free (l.free + c.args.i) c.args.setting c.self.invariant.within;
      rising =
          rw (drop-insert l.items.items l.free c.args.i c.args.setting c.self.invariant.within ∙ sym (free.adds c.args.setting.value))
          (is_rising-put c.args.setting.key c.args.setting.value _ c.self.invariant.rising);
    })

pub returns-clause-ok : goal.returns-clause-ok
returns-clause-ok c =
    let l = c.self.inside in
    let free = rw (← c.self.view_is) at c.requires in
    rw (← c.self.view_is)
    (ap (drop l.free) c.in_default.ensures.items
    ∙ drop-insert l.items.items l.free c.args.i c.args.setting c.self.invariant.within ∙ sym (free.adds c.args.setting.value))
