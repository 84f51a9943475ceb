-- An ordinary enlistment that rolls its transaction back is not the superior, so that is told.
use Rattle.std.proofs.Common.{◌≡◌, ◌&&◌, not, Bool, true, false, List, [], ◌∷◌, ◌++◌, refl, sym, subst, append-nil, inl, inr}
use Rattle.std.proofs.lemmas.Bool.{and_parts, cases_Bool, true≢false}
use Rattle.std.specs.List.{AllByRecursion, list_any}
use Rattle.ktm_base.specs.declared.id.Id.{Id}
use Rattle.ktm_world.specs.Enlistments.{Enlistment, has_id, is_ordinary, is_superior, takes_part}
use Rattle.ktm_world.specs.Phases.{Course, is_its_superior}
use Rattle.ktm_world.specs.Transactions.{same_id}
use Rattle.ktm_steps.specs.Laws.{IsPart, TellsSuperior, by}

and-true : (b : Bool) → (b && true) ≡ b
and-true true = refl
and-true false = refl

none-told : (a b : Bool) → ((a && false) && b) ≡ (a && false)
none-told true b = refl
none-told false b = refl

module _ (c : Course) (id : Id) where
  abbrev Told : Enlistment → Type 0
  Told e = (is_its_superior c e && not (has_id id e)) ≡ is_its_superior c e

  told-others : (es rest : List Enlistment) → list_any (has_id id) es ≡ false → AllByRecursion Told rest → AllByRecursion Told (es ++ rest)
  told-others [] rest none all = all
  told-others (e ∷ es) rest none all = elim (cases_Bool (has_id id e)) [
    | inl is ↦ let wrong = rw is at none in absurd (true≢false wrong)
    | inr other ↦ (rw other (and-true (is_its_superior c e)), told-others es rest (let rest_none = rw other at none in rest_none) all)
  ]

  told-ordinary : (e : Enlistment) → takes_part c.transaction.id e ≡ true → Told e
  told-ordinary e part =
      let ordinary = (and_parts (same_id e.transaction c.transaction.id) (not (is_superior e)) (and_parts (is_ordinary c.transaction.id e) (not e.is_read_only) part).0).1 in
      elim (cases_Bool (is_superior e)) [
        | inl is ↦ let wrong = rw is at ordinary in absurd (true≢false (sym wrong))
        | inr other ↦ rw other (none-told (same_id e.transaction c.transaction.id) (not (has_id id e)))
      ]

-- the superior is told whoever else takes part and calls
pub tells-superior : (c : Course) (e : Enlistment) → IsPart c e → TellsSuperior (by c e)
tells-superior c e is = subst (AllByRecursion (Told c e.id)) (sym is.is) (told-others c e.id is.before (e ∷ is.after) is.none_before (told-ordinary c e.id e is.part, after))
  where
    after : AllByRecursion (Told c e.id) is.after
    after = subst (AllByRecursion (Told c e.id)) (append-nil is.after) (told-others c e.id is.after [] is.none_after tt)
