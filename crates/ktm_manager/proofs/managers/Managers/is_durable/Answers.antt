use Rattle.std.proofs.Common.{sym, ap, arith, vec_len, length, ◌≡◌, rules, ◌∙◌}
use Rattle.ktm_manager.specs.declared.managers.Listed.{Listed}
use Rattle.ktm_manager.proofs.offered.Places.{within}
use Rattle.ktm_manager.proofs.Serving.{durable_at, none_durable}
use Rattle.ktm_manager.proofs.managers.Managers.is_durable.Goals as goal

pub index-requires : goal.index-requires
index-requires c =
    let count : vec_len c.self.inside.listed ≡ length c.self.inside.listed.items = search rules in
    let inside = within (λ (x : Listed). x.id) _ _ _ (rw c.deref.ensures.value at c.in-Some.ensures) in
    omega (arith, count, inside)

pub returns-in-Some : goal.returns-in-Some
returns-in-Some c = rw (← c.self.view_is) (ap (λ (x : Listed). x.is_durable) c.index.ensures ∙ sym (durable_at _ _ _ _ _ (rw c.deref.ensures.value at c.in-Some.ensures)))

pub returns-in-None : goal.returns-in-None
returns-in-None c = rw (← c.self.view_is) (sym (none_durable _ _ _ (rw c.deref.ensures.value at c.in-None.ensures)))
