-- What a transaction records, and what waits, is made unit by unit.
use Rattle.std.proofs.Common.{◌≡◌, ◌&&◌, ◌||◌, not, true, List, Option, Some, None, refl, sym, subst, inl, inr}
use Rattle.std.specs.List.{list_all}
use Rattle.std.proofs.lemmas.Bool.{cases_Bool, and_parts}
use Rattle.ktm_base.specs.declared.id.Id.{Id}
use Rattle.ktm_paged.proofs.offered.Meanings.{ends-can}
use Rattle.txf_laws.specs.GoodState.{are_kept_changes}
use Rattle.txf_laws.proofs.offered.WaitingChanges.{no_changes-left, no_changes_part}
use Rattle.ktm_world.specs.declared.change.Change.{Change}
use Rattle.ktm_waiting.specs.Table.{changes_at}
use Rattle.ktm_waiting.specs.Waiting.{AreKept, IsWaitingKept}
use Rattle.ktm_waiting.proofs.offered.Keeping.{found-kept}
use Rattle.ktm_world.specs.Changes.{has_changes}
use Rattle.ktm_world.specs.Durable.{Recorded, are_recorded_changes, changes_of, ends_in_bytes, gives_bytes, has_changes_part, is_decided, made_files, recorded_at}
use Rattle.ktm_world.specs.Tree.{Tree}
use Rattle.txf_tree.specs.UnitChanges.{CanAllBeMade}

-- changes in the form in which a transaction records them
pub recorded-can : (tree : Tree) (cs : List Change) → are_recorded_changes cs ≡ true → CanAllBeMade tree cs
recorded-can tree cs is = ends-can tree cs (and_parts (has_changes cs) (ends_in_bytes cs) (and_parts (has_changes cs && ends_in_bytes cs) (list_all (gives_bytes cs) (made_files cs)) is).0).1

-- the changes of a transaction that is kept have that form, and of a decided one none are left
kept-can : (tree : Tree) (t : Recorded) → are_kept_changes t ≡ true → CanAllBeMade tree (changes_of t)
kept-can tree t kept = elim (cases_Bool (is_decided t.stage)) [
  | inl decided ↦ subst (CanAllBeMade tree) (sym (no_changes-left t kept decided)) tt
  | inr waits ↦ elim (cases_Bool (has_changes_part t)) [
    | inl has ↦ recorded-can tree (changes_of t) (rw (waits, has) at form)
    | inr none ↦ subst (CanAllBeMade tree) (sym (no_changes_part t none)) tt
  ]
]
  where
    form : (is_decided t.stage || not (has_changes_part t) || are_recorded_changes (changes_of t)) ≡ true
    form = (and_parts (not (is_decided t.stage) || not (has_changes (changes_of t))) (is_decided t.stage || not (has_changes_part t) || are_recorded_changes (changes_of t)) kept).1

pub kept-made : (tree : Tree) (ts : List Recorded) (id : Id) → AreKept tree ts → CanAllBeMade tree (changes_at (recorded_at ts id))
kept-made tree ts id kept = go (recorded_at ts id) (λ t found. found-kept tree ts id t kept found)
  where
    go : (o : Option Recorded) → ((t : Recorded) → o ≡ Some t → IsWaitingKept tree t) → CanAllBeMade tree (changes_at o)
    go None found = tt
    go (Some t) found = kept-can tree t (found t refl).changes
