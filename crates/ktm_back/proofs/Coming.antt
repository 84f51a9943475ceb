-- The enlistments that are brought back, each put at its place.
use Rattle.std.proofs.Common.{◌≡◌, ℕ, suc, ◌+◌, ◌<◌, List, [], ◌∷◌, ◌++◌, length, get_or, drop, refl, sym, ◌∙◌, ap, inl, inr, arith, add-one, drop-cons}
use Rattle.std.specs.List.{flat_map, insert, position_or_len, prefix_len}
use Rattle.std.specs.Prelude.{not}
use Rattle.std.proofs.lemmas.Bool.{cases_Bool}
use Rattle.std.proofs.lemmas.List.{append_assoc}
use Rattle.ktm_world.specs.Durable.{Recorded, is_before}
use Rattle.ktm_world.specs.Enlistments.{Enlistment}
use Rattle.ktm_world.specs.World.{by_rising_id, enlistments_back, is_brought_back, with_enlistment}
use Rattle.ktm_back.specs.Coming.{enlistments_coming, with_all}

-- its place is before the first that it comes before
pub with-inserted : (es : List Enlistment) (e : Enlistment) → with_enlistment es e ≡ insert es (position_or_len (λ (a : Enlistment). is_before e.id a.id) es) e
with-inserted [] e = refl
with-inserted (a ∷ es) e = elim (cases_Bool (is_before e.id a.id)) [
  | inl before ↦ rw before refl
  | inr behind ↦
      let more : 1 + prefix_len (λ (b : Enlistment). not (is_before e.id b.id)) es ≡ suc (prefix_len (λ (b : Enlistment). not (is_before e.id b.id)) es) = omega arith in
      rw (behind, more) (ap (λ l. a ∷ l) (with-inserted es e))
]

-- those of one list, once those behind them are put at their places
pub with-append : (es xs ys : List Enlistment) → with_all es (xs ++ ys) ≡ with_all (with_all es ys) xs
with-append es [] ys = refl
with-append es (x ∷ xs) ys = ap (λ l. with_enlistment l x) (with-append es xs ys)

-- all of them put at their places among none stand by rising Id
pub with-none : (xs : List Enlistment) → with_all [] xs ≡ by_rising_id xs
with-none [] = refl
with-none (x ∷ xs) = ap (λ l. with_enlistment l x) (with-none xs)

-- those of the last things, with those of the one before them
pub with-before : {X : Type 0} (f : X → List Enlistment) (es : List Enlistment) (xs : List X) (i j : ℕ) (x : X) → i < length xs → x ≡ get_or xs i x → j ≡ i + 1
    → with_all (with_all es (flat_map f (drop j xs))) (f x) ≡ with_all es (flat_map f (drop i xs))
with-before f es xs i j x within is next =
    sym (ap (λ l. with_all es (flat_map f l)) (drop-cons xs i x within ∙ ap (λ y. y ∷ drop (suc i) xs) (sym is) ∙ ap (λ k. x ∷ drop k xs) (sym (next ∙ add-one i))) ∙ with-append es (f x) (flat_map f (drop j xs)))

-- those of all transactions are those of each
pub coming-each : (ts : List Recorded) → enlistments_coming ts ≡ flat_map (λ t. enlistments_coming (t ∷ [])) ts
coming-each [] = refl
coming-each (t ∷ ts) = elim (cases_Bool (is_brought_back t)) [
  | inl is ↦ rw is (ap (λ l. enlistments_back t ++ l) (coming-each ts) ∙ sym (append_assoc (enlistments_back t) [] (flat_map (λ u. enlistments_coming (u ∷ [])) ts)))
  | inr not' ↦ rw not' (coming-each ts)
]
