-- Lemmas on which name comes before which.
use Rattle.std.proofs.Common.{◌≡◌, ℕ, ◌⊎◌, ◌<◌, true, false, List, [], ◌∷◌, ◌++◌, refl, sym, ap, ◌∙◌, inl, inr, arith}
use Rattle.std.specs.Ordering.{is_eq, is_gt, is_lt, nat_cmp, ordering_reverse, ordering_then}
use Rattle.std.specs.declared.cmp.Ordering.{Ordering}
use Rattle.std.specs.declared.cmp.Ordering.TheVariants.{Less, Equal, Greater}
use Rattle.std.proofs.lemmas.Bool.{cases_Bool}
use Rattle.std.proofs.lemmas.Cmp.{nat_cmp_total, nat_list_cmp_total, ranked, tied_itself, upto}
use Rattle.ktm_links.specs.Mapped.{name_cmp, IsNotBelow}
use Rattle.ktm_links.proofs.offered.Names.{name_equal, name_same, from_is_eq}

pub cases_name : (a b : List ℕ) → (a ≡ b) ⊎ (a ≡ b → ⊥)
cases_name a b =
    elim (cases_Bool (is_eq (name_cmp a b))) [
      | inl same ↦ inl (name_equal a b (from_is_eq (name_cmp a b) same))
      | inr differs ↦ inr (λ same. absurd (let equal : name_cmp a b ≡ Equal = rw same (name_same b) in let is = rw equal at differs in cc))
    ]

pub less_from : (o : Ordering) → is_lt o ≡ true → o ≡ Less
less_from Less less = refl
less_from Equal less = absurd (cc)
less_from Greater less = absurd (cc)

pub turned_is : (o : Ordering) → is_lt (ordering_reverse o) ≡ is_gt o
turned_is Less = refl
turned_is Equal = refl
turned_is Greater = refl

pub not_above : (a b : List ℕ) → IsNotBelow a b → is_gt (name_cmp b a) ≡ false
not_above a b not_below = sym (ap is_lt (nat_list_cmp_total.antisymm a b) ∙ turned_is (name_cmp b a)) ∙ not_below

pub not_below_upto : (a b c : List ℕ) → IsNotBelow a b → IsNotBelow b c → IsNotBelow a c
not_below_upto a b c high low =
    ap is_lt (nat_list_cmp_total.antisymm a c) ∙ turned_is (name_cmp c a) ∙ upto nat_list_cmp_total c b a (not_above b c low) (not_above a b high)

-- a name is below the one right after it
pub below_next : (name : List ℕ) → name_cmp name (name ++ 0 ∷ []) ≡ Less
below_next [] = refl
below_next (c ∷ cs) = rw (tied_itself nat_cmp_total c) (below_next cs)

-- what is below a name is below those that are not below that
pub below_upto : (a b c : List ℕ) → is_lt (name_cmp a b) ≡ true → IsNotBelow c b → is_lt (name_cmp a c) ≡ true
below_upto a b c below high = elim (cases_Bool (is_lt (name_cmp a c))) [
  | inl is ↦ is
  | inr over ↦ absurd (let no = not_below_upto a c b over high in cc)
]

-- where a name is above another, it is not below the one right after that
pub above_next : (q n : List ℕ) → IsNotBelow q n → (q ≡ n → ⊥) → IsNotBelow q (n ++ 0 ∷ [])
above_next [] [] not_below differs = absurd (differs refl)
above_next (c ∷ cs) [] not_below differs = first_above c cs (nat_cmp c 0) refl
  where
    first_above : (c : ℕ) (cs : List ℕ) (o : Ordering) → o ≡ nat_cmp c 0 → IsNotBelow (c ∷ cs) (0 ∷ [])
    first_above c cs Less is = let no : c < 0 = ranked c 0 Less is in absurd (omega arith)
    first_above c [] Equal is = rw (← is) refl
    first_above c (d ∷ ds) Equal is = rw (← is) refl
    first_above c cs Greater is = rw (← is) refl
above_next [] (a ∷ ms) not_below differs = absurd (cc)
above_next (b ∷ bs) (a ∷ ms) not_below differs = by_first b a bs ms (nat_cmp b a) refl (above_next bs ms) not_below differs
  where
    by_first : (b a : ℕ) (bs ms : List ℕ) (o : Ordering) → o ≡ nat_cmp b a → (IsNotBelow bs ms → (bs ≡ ms → ⊥) → IsNotBelow bs (ms ++ 0 ∷ []))
        → IsNotBelow (b ∷ bs) (a ∷ ms) → (b ∷ bs ≡ a ∷ ms → ⊥) → IsNotBelow (b ∷ bs) (a ∷ (ms ++ 0 ∷ []))
    by_first b a bs ms Less is rest not_below differs = absurd (let no = rw (← is) at not_below in cc)
    by_first b a bs ms Equal is rest not_below differs =
        let same : b ≡ a = ranked b a Equal is in
        rw (← is) (rest (rw (← is) at not_below) (λ tails. differs (ap (λ x. x ∷ bs) same ∙ ap (λ l. a ∷ l) tails)))
    by_first b a bs ms Greater is rest not_below differs = rw (← is) refl

-- the first numbers decide, or the rest does
pub level : (a b : ℕ) (rest o : Ordering) → o ≡ nat_cmp a b → is_lt (ordering_then o rest) ≡ false → (b < a) ⊎ ((a ≡ b) × (is_lt rest ≡ false))
level a b rest Less is not_below = absurd (cc)
level a b rest Equal is not_below = inr (ranked a b Equal is, not_below)
level a b rest Greater is not_below = inl (ranked a b Greater is)
