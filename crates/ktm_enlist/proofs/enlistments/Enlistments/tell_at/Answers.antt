use Rattle.std.proofs.Common.{◌≡◌, ◌∙◌, ◌<◌, ◌^◌, ap, arith, length, rules, vec_len}
use Rattle.ktm_world.specs.Enlistments.{Enlistment}
use Rattle.ktm_world.specs.Steps.{is_one_of}
use Rattle.ktm_enlist.specs.Groups.{regrouped_all}
use Rattle.ktm_enlist.specs.Telling.{asked_if}
use Rattle.ktm_enlist.proofs.Changing.{asked_if_keeps, set_fits, set_grouped, set_is, set_rising, whole_regrouped}
use Rattle.ktm_enlist.proofs.enlistments.Enlistments.tell_at.Goals as goal

pub regroup-requires-clause-may : goal.regroup-requires-clause-may
regroup-requires-clause-may g c =
    let test = is_one_of c.args.t.transaction c.args.t.caller c.args.t.who in
    let count : vec_len c.self.inside.items ≡ length c.self.inside.items.items = search rules in
    let few : length c.self.inside.items.items < 2 ^ 32 = omega (arith, count, c.self.invariant.4) in
    rw c.deref_mut.ensures.value
    (set_fits (asked_if test c.args.t.owed) (asked_if_keeps test c.args.t.owed) c.self.inside.items.items c.args.place c.index_mut-e.result.now c.tell_one.new.e (rw (← c.self.view_is) at c.requires.within) c.index_mut-e.ensures.value c.tell_one.ensures.enlistment
    c.self.inside.next.items c.self.inside.groups.items c.e.inside.transaction c.standing_of-was.result c.standing_of-is.result (ap (λ (e : Enlistment). e.transaction) c.e.view_is) c.standing_of-was.ensures c.standing_of-is.ensures c.self.invariant.5 few)

pub invariant_of-self : goal.invariant_of-self
invariant_of-self g c =
    let test = is_one_of c.args.t.transaction c.args.t.caller c.args.t.who in
    let same : length c.self.inside.groups.items ≡ vec_len c.self.inside.groups = search rules in (
      set_rising (asked_if test c.args.t.owed) (asked_if_keeps test c.args.t.owed) c.self.inside.items.items c.args.place c.index_mut-e.result.now c.tell_one.new.e (rw (← c.self.view_is) at c.requires.within) c.index_mut-e.ensures.value c.tell_one.ensures.enlistment c.self.invariant.0,
      c.self.invariant.1,
      c.self.invariant.2,
      c.self.invariant.3,
      c.self.invariant.4,
      rw (whole_regrouped c.regroup.new.groups c.self.inside.groups.items (vec_len c.self.inside.groups) c.e.inside.transaction c.standing_of-was.result c.standing_of-is.result same
          (c.regroup.ensures ∙ ap (regrouped_all c.e.inside.transaction c.standing_of-was.result c.standing_of-is.result) c.deref_mut.ensures.value))
          (set_grouped (asked_if test c.args.t.owed) (asked_if_keeps test c.args.t.owed) c.self.inside.items.items c.args.place c.index_mut-e.result.now c.tell_one.new.e (rw (← c.self.view_is) at c.requires.within) c.index_mut-e.ensures.value c.tell_one.ensures.enlistment
          c.self.inside.next.items c.self.inside.groups.items c.e.inside.transaction c.standing_of-was.result c.standing_of-is.result (ap (λ (e : Enlistment). e.transaction) c.e.view_is) c.standing_of-was.ensures c.standing_of-is.ensures c.self.invariant.5),
    )

pub returns-clause-enlistments : goal.returns-clause-enlistments
returns-clause-enlistments g c =
    let test = is_one_of c.args.t.transaction c.args.t.caller c.args.t.who in
    rw (← c.self.view_is)
    (set_is (asked_if test c.args.t.owed) (asked_if_keeps test c.args.t.owed) c.self.inside.items.items c.args.place c.index_mut-e.result.now c.tell_one.new.e (rw (← c.self.view_is) at c.requires.within) c.index_mut-e.ensures.value c.tell_one.ensures.enlistment)
