use Rattle.std.proofs.Common.{◌≡◌, ℕ, ◌+◌, ◌-◌, ◌<◌, ◌≤◌, true, List, Option, length, ◌∙◌, ap, arith, drop, set, length-set, sym}
use Rattle.std.specs.List.{insert}
use Rattle.ktm_keyed.specs.Keyed.{is_rising}
use Rattle.ktm_keyed.specs.Slot.{IsFree}
use Rattle.ktm_keyed.specs.declared.keyed.Keyed.{Keyed}
use Rattle.ktm_keyed.proofs.KeyedLemmas.{is_rising-put}
use Rattle.ktm_world.specs.Keys.{OwnSettings}
use Rattle.kv_rm.proofs.FreePlaces.{drop-insert, drop-last, within-insert}
use Rattle.kv_rm.proofs.setting_list.SettingList.put_first.Goals as goal

-- the settings still rise with one before them in the last free place
last_rises : (items : OwnSettings) (free : ℕ) (setting : Keyed (Option (List ℕ))) → 0 < free → free ≤ length items → is_rising (drop free items) ≡ true
    → IsFree (drop free items) setting.key 0 → is_rising (drop (free - 1) (set items (free - 1) setting)) ≡ true
last_rises items free setting some within rises is =
    rw (drop-last items free setting some within ∙ sym (is.adds setting.value)) (is_rising-put setting.key setting.value _ rises)

pub invariant_of-self-else-self-eq0 : goal.invariant_of-self-else-self-eq0
invariant_of-self-else-self-eq0 c =
    let l = c.self.inside in
    record {
      within = rw (length-set l.items.items (l.free - 1) c.args.setting) (omega (arith, c.self.invariant.within));
      rising =
          last_rises l.items.items l.free c.args.setting (omega (arith, c.if-self-eq0.false)) c.self.invariant.within c.self.invariant.rising
          (rw (← c.self.view_is) at c.requires);
    }

pub invariant_of-self-else-self-eq0-2 : goal.invariant_of-self-else-self-eq0-2
invariant_of-self-else-self-eq0-2 c =
    let l = c.self.inside in
    record {
      within = rw (length-set l.items.items (l.free - 1) c.args.setting) (omega (arith, c.self.invariant.within));
      rising =
          last_rises l.items.items l.free c.args.setting (omega (arith, c.if-self-eq0.false)) c.self.invariant.within c.self.invariant.rising
          (rw (← c.self.view_is) at c.requires);
    }

pub invariant_of-self-in_default : goal.invariant_of-self-in_default
invariant_of-self-in_default c =
    let l = c.self.inside in
    let free = rw (← c.self.view_is) at c.requires in
    let none : 0 ≡ l.free + 0 = omega (arith, c.if-self-eq0.true) in
    rw c.in_default.ensures.items (record {
      within = within-insert l.items.items l.free 0 c.args.setting c.self.invariant.within;
      rising =
          rw (ap (λ k. drop l.free (insert l.items.items k c.args.setting)) none ∙ drop-insert l.items.items l.free 0 c.args.setting c.self.invariant.within
          ∙ sym (free.adds c.args.setting.value))
          (is_rising-put c.args.setting.key c.args.setting.value _ c.self.invariant.rising);
    })
