-- What each one of a list names, while they are named one behind another.
use Rattle.std.specs.Prelude.{Result, Ok, Err, OnOk}
use Rattle.std.proofs.Common.{◌≡◌, ℕ, zero, suc, ◌+◌, ◌<◌, ◌≤◌, List, [], ◌∷◌, ◌++◌, length, get_or, drop, refl, sym, ◌∙◌, ap, subst, append_assoc, arith, drop-cons}
use Rattle.std.proofs.lemmas.List.{append-nil}
use Rattle.ktm_owners.specs.declared.owners.Named.{Named}
use Rattle.ktm_owners.specs.Owners.{AreNamedInTurn}

-- what is left from an index on
pub rest-at : {X : Type 0} (xs : List X) (i : ℕ) (x : X) → i < length xs → x ≡ get_or xs i x → drop i xs ≡ x ∷ drop (i + 1) xs
rest-at xs i x low is =
    let next : suc i ≡ i + 1 = omega arith in
    drop-cons xs i x low ∙ ap (λ y. y ∷ drop (suc i) xs) (sym is) ∙ ap (λ n. x ∷ drop n xs) next

pub rest-past : {X : Type 0} (xs : List X) (i : ℕ) → length xs ≤ i → drop i xs ≡ []
rest-past [] zero past = refl
rest-past [] (suc i) past = refl
rest-past (x ∷ xs) zero past = absurd (omega (arith, past))
rest-past (x ∷ xs) (suc i) past = rest-past xs i (omega (arith, past))

-- with what those that are left name, all that was named since is what all of them name
pub record AreNamedSoFar {X : Type 0} (IsNamed : X → List Named → Type 0) (all left : List X) (before now : List Named) : Type 0 where
  pub so_far : (rest : List Named) → AreNamedInTurn IsNamed left rest → (names : List Named) × AreNamedInTurn IsNamed all names × (now ++ rest ≡ before ++ names)

module _ {X : Type 0} (IsNamed : X → List Named → Type 0) where
  pub none-named : (all : List X) (before : List Named) → AreNamedSoFar IsNamed all all before before
  none-named all before = record { so_far = λ rest is. (rest, is, refl) }

  pub one-named : (all : List X) (x : X) (left : List X) (before now own next : List Named) → AreNamedSoFar IsNamed all (x ∷ left) before now → IsNamed x own → next ≡ now ++ own → AreNamedSoFar IsNamed all left before next
  one-named all x left before now own next so here is = record {
    so_far = λ rest later.
        let (names, all_named, same) = so.so_far (own ++ rest) (own, rest, here, later, refl) in
        (names, all_named, ap (λ (l : List Named). l ++ rest) is ∙ append_assoc now own rest ∙ same);
  }

  pub all-named : (all : List X) (before now : List Named) → AreNamedSoFar IsNamed all [] before now → (names : List Named) × AreNamedInTurn IsNamed all names × (now ≡ before ++ names)
  all-named all before now so =
      let (names, all_named, same) = so.so_far [] refl in
      (names, all_named, sym (append-nil now) ∙ same)

  -- the same of those that a loop over all has passed
  pub one-named-at : (all : List X) (i : ℕ) (x : X) (before now own next : List Named) → i < length all → x ≡ get_or all i x → AreNamedSoFar IsNamed all (drop i all) before now → IsNamed x own → next ≡ now ++ own
      → AreNamedSoFar IsNamed all (drop (i + 1) all) before next
  one-named-at all i x before now own next low at so here is =
      one-named all x (drop (i + 1) all) before now own next (subst (λ (left : List X). AreNamedSoFar IsNamed all left before now) (rest-at all i x low at) so) here is

  pub all-named-at : (all : List X) (i : ℕ) (before now : List Named) → length all ≤ i → AreNamedSoFar IsNamed all (drop i all) before now → (names : List Named) × AreNamedInTurn IsNamed all names × (now ≡ before ++ names)
  all-named-at all i before now past so = all-named all before now (subst (λ (left : List X). AreNamedSoFar IsNamed all left before now) (rest-past all i past) so)

-- what follows where a call went well
pub on-ok : {A E : Type 0} (r : Result A E) {P Q : Type 0} → (P → Q) → OnOk r P → OnOk r Q
on-ok (Ok a) so is = so is
on-ok (Err e) so is = tt
