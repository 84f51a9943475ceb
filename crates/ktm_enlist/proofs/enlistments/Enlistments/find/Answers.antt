use Rattle.std.proofs.Common.{◌≡◌, ◌∙◌, ap, sym, arith, length, rules, vec_len, Some}
use Rattle.ktm_world.specs.Enlistments.{Enlistment}
use Rattle.ktm_manager.proofs.offered.Places.{found_at, none_found, within}
use Rattle.ktm_enlist.proofs.enlistments.Enlistments.find.Goals as goal

pub index-requires : goal.index-requires
index-requires c =
    let count : vec_len c.self.inside.items ≡ length c.self.inside.items.items = search rules in
    let inside = within (λ (e : Enlistment). e.id) _ _ _ (rw c.deref.ensures.value at c.in-Some.ensures) in
    omega (arith, count, inside)

pub returns-in-Some : goal.returns-in-Some
returns-in-Some c = rw (← c.self.view_is) (ap (λ (e : Enlistment). Some e) c.index.ensures ∙ sym (found_at (λ (e : Enlistment). e.id) _ _ _ c.index.result.now (rw c.deref.ensures.value at c.in-Some.ensures)))

pub returns-in-None : goal.returns-in-None
returns-in-None c = rw (← c.self.view_is) (sym (none_found (λ (e : Enlistment). e.id) _ _ (rw c.deref.ensures.value at c.in-None.ensures)))
