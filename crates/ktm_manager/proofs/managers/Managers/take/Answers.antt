use Rattle.std.proofs.Common.{sym, ap, arith, length, ◌≡◌, rules, ◌∙◌, option_map}
use Rattle.ktm_manager.specs.declared.managers.Listed.{Listed}
use Rattle.ktm_manager.specs.Managers.{first_of, note_of}
use Rattle.ktm_manager.proofs.offered.Places.{within}
use Rattle.ktm_manager.proofs.Serving.{first_at, no_manager, none_served, taken_at}
use Rattle.ktm_manager.proofs.managers.Managers.take.Goals as goal

pub take-requires : goal.take-requires
take-requires c =
    let inside = within (λ (x : Listed). x.id) _ _ _ (rw c.deref.ensures.value at c.in-Some.ensures) in
    omega (arith, c.self.invariant.1, inside)

pub returns-in-Some-clause-note : goal.returns-in-Some-clause-note
returns-in-Some-clause-note c = rw (← c.self.view_is) (ap (option_map note_of) c.take.ensures.note ∙ first_at _ _ _ _ (rw c.deref.ensures.value at c.in-Some.ensures))

pub returns-in-Some-clause-managers : goal.returns-in-Some-clause-managers
returns-in-Some-clause-managers c = rw (← c.self.view_is, c.take.ensures.queues) (taken_at _ _ _ _ c.self.invariant.1 (rw c.deref.ensures.value at c.in-Some.ensures))

pub returns-in-None-clause-note : goal.returns-in-None-clause-note
returns-in-None-clause-note c = rw (← c.self.view_is) (sym (ap first_of (no_manager _ _ _ (rw c.deref.ensures.value at c.in-None.ensures))))

pub returns-in-None-clause-managers : goal.returns-in-None-clause-managers
returns-in-None-clause-managers c = rw (← c.self.view_is) (sym (none_served _ _ _ (rw c.deref.ensures.value at c.in-None.ensures)))
