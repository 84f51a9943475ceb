use Rattle.std.proofs.Common.{◌≡◌, ◌∙◌, ◌<◌, ◌^◌, ap, sym, arith, length, rules, vec_len}
use Rattle.ktm_world.specs.Enlistments.{Enlistment, has_id}
use Rattle.ktm_world.specs.Steps.{answered}
use Rattle.ktm_manager.proofs.offered.Places.{nothing_changed, within}
use Rattle.ktm_enlist.proofs.Changing.{answered_keeps, set_fits, set_grouped, set_is, set_rising, whole_regrouped}
use Rattle.ktm_enlist.specs.Groups.{regrouped_all}
use Rattle.ktm_enlist.proofs.Told.{one_with, only_at}
use Rattle.ktm_enlist.proofs.enlistments.Enlistments.answer.Goals as goal

pub index_mut-e-requires : goal.index_mut-e-requires
index_mut-e-requires c =
    let count : vec_len c.self.inside.items ≡ length c.self.inside.items.items = search rules in
    let inside = within (λ (e : Enlistment). e.id) _ _ _ (rw c.deref.ensures.value at c.in-Some.ensures) in
    omega (arith, count, inside)

pub regroup-requires-clause-may : goal.regroup-requires-clause-may
regroup-requires-clause-may c =
    let count : vec_len c.self.inside.items ≡ length c.self.inside.items.items = search rules in
    let inside = within (λ (e : Enlistment). e.id) _ _ _ (rw c.deref.ensures.value at c.in-Some.ensures) in
    let few : length c.self.inside.items.items < 2 ^ 32 = omega (arith, count, c.self.invariant.4) in
    rw c.deref_mut.ensures.value
    (set_fits (answered c.args.answer) (answered_keeps c.args.answer) c.self.inside.items.items c.in-Some.place c.index_mut-e.result.now c.answer.new.self inside c.index_mut-e.ensures.value c.answer.ensures
    c.self.inside.next.items c.self.inside.groups.items c.e.inside.transaction c.standing_of-was.result c.standing_of-is.result (ap (λ (e : Enlistment). e.transaction) c.e.view_is) c.standing_of-was.ensures c.standing_of-is.ensures c.self.invariant.5 few)

pub invariant_of-self : goal.invariant_of-self
invariant_of-self c =
    let inside = within (λ (e : Enlistment). e.id) _ _ _ (rw c.deref.ensures.value at c.in-Some.ensures) in
    let same : length c.self.inside.groups.items ≡ vec_len c.self.inside.groups = search rules in (
      set_rising (answered c.args.answer) (answered_keeps c.args.answer) c.self.inside.items.items c.in-Some.place c.index_mut-e.result.now c.answer.new.self inside c.index_mut-e.ensures.value c.answer.ensures c.self.invariant.0,
      c.self.invariant.1,
      c.self.invariant.2,
      c.self.invariant.3,
      c.self.invariant.4,
      rw (whole_regrouped c.regroup.new.groups c.self.inside.groups.items (vec_len c.self.inside.groups) c.e.inside.transaction c.standing_of-was.result c.standing_of-is.result same
          (c.regroup.ensures ∙ ap (regrouped_all c.e.inside.transaction c.standing_of-was.result c.standing_of-is.result) c.deref_mut.ensures.value))
          (set_grouped (answered c.args.answer) (answered_keeps c.args.answer) c.self.inside.items.items c.in-Some.place c.index_mut-e.result.now c.answer.new.self inside c.index_mut-e.ensures.value c.answer.ensures
          c.self.inside.next.items c.self.inside.groups.items c.e.inside.transaction c.standing_of-was.result c.standing_of-is.result (ap (λ (e : Enlistment). e.transaction) c.e.view_is) c.standing_of-was.ensures c.standing_of-is.ensures c.self.invariant.5),
    )

pub returns-in-Some-clause-enlistments : goal.returns-in-Some-clause-enlistments
returns-in-Some-clause-enlistments c =
    let at = rw c.deref.ensures.value at c.in-Some.ensures in
    let inside = within (λ (e : Enlistment). e.id) _ _ _ at in
    rw (← c.self.view_is)
    (set_is (answered c.args.answer) (answered_keeps c.args.answer) c.self.inside.items.items c.in-Some.place c.index_mut-e.result.now c.answer.new.self inside c.index_mut-e.ensures.value c.answer.ensures
    ∙ sym (one_with (has_id c.args.id) (answered c.args.answer) c.self.inside.items.items c.in-Some.place (only_at c.self.inside.items.items c.args.id c.in-Some.place at)))

pub returns-in_default-clause-enlistments : goal.returns-in_default-clause-enlistments
returns-in_default-clause-enlistments c = rw (← c.self.view_is) (sym (nothing_changed (λ (e : Enlistment). e.id) (answered c.args.answer) _ _ (rw c.deref.ensures.value at c.in_default.ensures)))
