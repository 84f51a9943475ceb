use Rattle.std.proofs.Common.{sym, ap, arith, length, ◌≡◌, rules, ◌∙◌, option_map}
use Rattle.ktm_manager.specs.declared.managers.Listed.{Listed}
use Rattle.ktm_manager.specs.Managers.{first_of, note_of}
use Rattle.ktm_manager.proofs.offered.Places.{within}
use Rattle.ktm_manager.proofs.Serving.{first_at, no_manager}
use Rattle.ktm_manager.proofs.managers.Managers.first.Goals as goal

pub first-requires : goal.first-requires
first-requires c =
    let inside = within (λ (x : Listed). x.id) _ _ _ (rw c.deref.ensures.value at c.in-Some.ensures) in
    omega (arith, c.self.invariant.1, inside)

pub returns-in-Some : goal.returns-in-Some
returns-in-Some c = rw (← c.self.view_is) (ap (option_map note_of) c.first.ensures ∙ first_at _ _ _ _ (rw c.deref.ensures.value at c.in-Some.ensures))

pub returns-in-None : goal.returns-in-None
returns-in-None c = rw (← c.self.view_is) (sym (ap first_of (no_manager _ _ _ (rw c.deref.ensures.value at c.in-None.ensures))))
