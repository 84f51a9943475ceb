-- What memory has once the machine went down in a command.
use Rattle.std.proofs.Common.{◌≡◌, ◌⊎◌, false, [], ◌∷◌, refl, ◌∙◌, ap, inl, inr}
use Rattle.ktm_core.specs.Done.{fallen, left_behind}
use Rattle.ktm_world.specs.declared.event.Event.{Event}
use Rattle.ktm_world.specs.Durable.{after_events}
use Rattle.ktm_world.specs.Groups.{Group}
use Rattle.ktm_world.specs.Outcome.{Outcome, apply}
use Rattle.ktm_world.specs.Present.{Present}

-- by its events
abbrev left_by : Present → Outcome → Group → Present
left_by x o events = elim events as (λ _. Present) [ [] ↦ fallen (apply x o) | (_ ∷ _) ↦ fallen x ]

-- a command that records something left what was so, and any other one what it makes of that
pub left-cases : (x : Present) (o : Outcome) → ((o.events ≡ []) × (left_behind x o ≡ fallen (apply x o))) ⊎ ((left_behind x o ≡ fallen x) × ((e : Event) × (es : Group) × (o.events ≡ e ∷ es)))
left-cases x o = go o.events refl
  where
    go : (events : Group) → o.events ≡ events → ((o.events ≡ []) × (left_behind x o ≡ fallen (apply x o))) ⊎ ((left_behind x o ≡ fallen x) × ((e : Event) × (es : Group) × (o.events ≡ e ∷ es)))
    go [] is = inl (is, ap (left_by x o) is)
    go (e ∷ es) is = inr (ap (left_by x o) is, (e, es, is))

-- it is down
pub left-off : (x : Present) (o : Outcome) → (left_behind x o).machine.is_up ≡ false
left-off x o = elim (left-cases x o) [
  | inl none ↦ ap (λ (y : Present). y.machine.is_up) none.1
  | inr some ↦ ap (λ (y : Present). y.machine.is_up) some.0
]

-- and nothing more was recorded
pub left-recorded : (x : Present) (o : Outcome) → (left_behind x o).recorded ≡ x.recorded
left-recorded x o = elim (left-cases x o) [
  | inl none ↦ ap (λ (y : Present). y.recorded) none.1 ∙ ap (after_events x.recorded) none.0
  | inr some ↦ ap (λ (y : Present). y.recorded) some.0
]
