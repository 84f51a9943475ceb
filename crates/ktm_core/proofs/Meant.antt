-- Events that are recorded with pages are as many as those that they mean, and take no more room.
use Rattle.std.proofs.Common.{◌≡◌, ℕ, suc, ◌+◌, ◌≤◌, Bool, true, false, [], ◌∷◌, length, refl, ap, arith, inl, inr}
use Rattle.std.specs.Prelude.{sum_by, if◌then◌else◌}
use Rattle.std.proofs.lemmas.Bool.{cases_Bool, lt-ltb, ltb-true}
use Rattle.ktm_debts.specs.Debts.{frame_of}
use Rattle.ktm_journal.specs.Image.{JournalState}
use Rattle.ktm_paged.specs.Paged.{meant_group, paged_after}
use Rattle.ktm_world.specs.Groups.{Group}
use Rattle.ktm_world.specs.Sizes.{event_size}
use Rattle.ktm_world.specs.Durable.{Durable}
use Rattle.ktm_core.specs.Core.{log_left}
use Rattle.ktm_core.specs.Recording.{append_calls, lacks_room_beside}

-- what means no event is none
pub nothing : (s : Durable) (raw : Group) → meant_group s raw ≡ [] → raw ≡ []
nothing s [] none = refl
nothing s (event ∷ events) none = absurd (cc)

-- events mean as many as they are
pub many : (s : Durable) (raw : Group) → length (meant_group s raw) ≡ length raw
many s [] = refl
many s (event ∷ events) = ap suc (many (paged_after s event) events)

-- so their frame takes no more
pub frame-fewer : (s : Durable) (raw group : Group) → meant_group s raw ≡ group → sum_by event_size raw ≤ sum_by event_size group → frame_of raw ≤ frame_of group
frame-fewer s [] group means less = omega arith
frame-fewer s (event ∷ events) [] means less = absurd (cc)
frame-fewer s (event ∷ events) (e ∷ es) means less = omega (arith, less)

-- and fewer device calls append it
pub fewer-calls : (beside : ℕ) (j : JournalState) (raw group : Group) → frame_of raw ≤ frame_of group → append_calls beside j raw ≤ append_calls beside j group
fewer-calls beside j raw group less = elim (cases_Bool (lacks_room_beside beside j raw)) [
  | inl full ↦ (
      let more : lacks_room_beside beside j group ≡ true = lt-ltb (log_left j) (frame_of group + beside + 1) (omega (arith, less, ltb-true (log_left j) (frame_of raw + beside + 1) full)) in
      rw (full, more) (omega arith))
  | inr free ↦ rw free (by (lacks_room_beside beside j group))
]
  where
    by : (b : Bool) → 4 ≤ (if b then 10 else 4)
    by true = omega arith
    by false = omega arith
