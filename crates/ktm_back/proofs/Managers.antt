-- The resource managers of the enlistments that are brought back.
use Rattle.std.proofs.Common.{◌≡◌, true, List, [], ◌∷◌, map, is_some, refl, sym, inl, inr}
use Rattle.std.specs.List.{list_all, list_any}
use Rattle.std.proofs.lemmas.Bool.{cases_Bool, true≢false}
use Rattle.ktm_base.specs.declared.id.Id.{Id}
use Rattle.ktm_world.specs.Enlistments.{Enlistment, manager_at}
use Rattle.ktm_world.specs.Transactions.{same_id}
use Rattle.ktm_world.specs.World.{by_rising_id}
use Rattle.txf_laws.proofs.offered.Elements.{list_all-at, list_all-from}
use Rattle.ktm_enlist.specs.Telling.{has_manager}
use Rattle.ktm_courses.proofs.offered.EnlistmentOrder.{IsIn-rising}
use Rattle.ktm_back.specs.Bringing.{manager_back}

-- one whose Id was recorded is there
there-back : (ids : List Id) (id : Id) → list_any (λ other. same_id other id) ids ≡ true → is_some (manager_at (map manager_back ids) id) ≡ true
there-back [] id there = absurd (true≢false (sym there))
there-back (a ∷ ids) id there = elim (cases_Bool (same_id a id)) [
  | inl same ↦ rw same refl
  | inr other ↦ rw other (there-back ids id (rw other at there))
]

-- the resource manager of each enlistment is there, where its Id was recorded
pub all-there : (ids : List Id) (coming : List Enlistment) → list_all (λ (e : Enlistment). list_any (λ id. same_id id e.manager) ids) coming ≡ true → list_all (has_manager (map manager_back ids)) (by_rising_id coming) ≡ true
all-there ids coming all = list_all-from (has_manager (map manager_back ids)) (by_rising_id coming)
    (λ e there. there-back ids e.manager (list_all-at (λ (f : Enlistment). list_any (λ id. same_id id f.manager) ids) coming all e (IsIn-rising coming e there)))
