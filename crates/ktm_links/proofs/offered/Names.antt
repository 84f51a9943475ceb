-- Lemmas on the order of names.
use Rattle.std.proofs.Common.{◌≡◌, ℕ, ◌≤◌, true, false, List, [], ◌∷◌, ◌++◌, refl, sym, ap, ◌∙◌, inl, inr, arith}
use Rattle.std.specs.declared.cmp.Ordering.{Ordering}
use Rattle.std.specs.Ordering.{is_eq, is_lt, nat_cmp, ordering_index, ordering_reverse}
use Rattle.std.specs.declared.cmp.Ordering.TheVariants.{Less, Equal, Greater}
use Rattle.std.proofs.lemmas.Cmp.{nat_cmp_total, nat_list_cmp_total, ranked, tied_itself, tied_back}
use Rattle.std.proofs.lemmas.Bool.{cases_Bool}
use Rattle.std.proofs.lemmas.Map.Lookups.{exact_bytes}
use Rattle.ktm_links.specs.Mapped.{name_cmp, Begins, IsNotBelow}

pub name_equal : (a b : List ℕ) → name_cmp a b ≡ Equal → a ≡ b
name_equal a b e = exact_bytes a b e

pub less_equal : (a b c : List ℕ) → name_cmp a b ≡ Less → name_cmp b c ≡ Equal → name_cmp a c ≡ Less
less_equal a b c less equal = rw (name_equal b c equal) at less

pub index_rises : (a b c : List ℕ) (o : Ordering) → name_cmp a b ≡ Less → name_cmp b c ≡ o → ordering_index (name_cmp a c) ≤ ordering_index o
index_rises a b c Less less is = rw (nat_list_cmp_total.trans a b c less is) (omega arith)
index_rises a b c Equal less is = rw (less_equal a b c less is) (omega arith)
index_rises a b c Greater less is = index_small (name_cmp a c)
  where
    index_small : (o : Ordering) → ordering_index o ≤ 2
    index_small Less = omega arith
    index_small Equal = omega arith
    index_small Greater = omega arith

pub turned : (a b : List ℕ) → name_cmp a b ≡ Greater → name_cmp b a ≡ Less
turned a b greater = nat_list_cmp_total.antisymm b a ∙ ap ordering_reverse greater

pub name_same : (a : List ℕ) → name_cmp a a ≡ Equal
name_same a = by_order (name_cmp a a) refl
  where
    by_order : (o : Ordering) → name_cmp a a ≡ o → name_cmp a a ≡ Equal
    by_order Less is = absurd (let other = nat_list_cmp_total.antisymm a a ∙ ap ordering_reverse is in cc)
    by_order Equal is = is
    by_order Greater is = absurd (let other = turned a a is in cc)

pub from_is_eq : (o : Ordering) → is_eq o ≡ true → o ≡ Equal
from_is_eq Less same = absurd (cc)
from_is_eq Equal same = refl
from_is_eq Greater same = absurd (cc)

pub is_eq-other : (a b : List ℕ) → (a ≡ b → ⊥) → is_eq (name_cmp a b) ≡ false
is_eq-other a b apart =
    elim (cases_Bool (is_eq (name_cmp a b))) [
      | inl same ↦ absurd (apart (name_equal a b (from_is_eq (name_cmp a b) same)))
      | inr other ↦ other
    ]

pub not_lower : (a q : List ℕ) → name_cmp a q ≡ Less → IsNotBelow q a
not_lower a q less = let greater : name_cmp q a ≡ Greater = nat_list_cmp_total.antisymm q a ∙ ap ordering_reverse less in rw greater refl

-- a name below this one is no other name that is not below it
pub lower_differs : (a q name : List ℕ) → is_lt (name_cmp a name) ≡ true → IsNotBelow q name → is_eq (name_cmp a q) ≡ false
lower_differs a q name lower not_below = is_eq-other a q (λ same. let is = rw same at lower in cc)

-- ---- names that begin alike
pub begins_not_below : (prefix after : List ℕ) → IsNotBelow (prefix ++ after) prefix
begins_not_below [] [] = refl
begins_not_below [] (a ∷ after) = refl
begins_not_below (p ∷ ps) after = rw (tied_itself nat_cmp_total p) (begins_not_below ps after)

begins_alike : (p n : ℕ) (ps after ns : List ℕ) (o : Ordering) → nat_cmp n p ≡ o → (IsNotBelow ns ps → IsNotBelow (ps ++ after) ns → Begins ps ns)
    → IsNotBelow (n ∷ ns) (p ∷ ps) → IsNotBelow (p ∷ (ps ++ after)) (n ∷ ns) → Begins (p ∷ ps) (n ∷ ns)
begins_alike p n ps after ns Less is rest low high = absurd (let no = rw is at low in cc)
begins_alike p n ps after ns Equal is rest low high =
    let inner = rest (rw is at low) (rw (tied_back nat_cmp_total n p is) at high) in
    let same : n ≡ p = ranked n p Equal (sym is) in
    record { after = inner.after; is = ap (λ x. x ∷ ns) same ∙ ap (λ l. p ∷ l) inner.is }
begins_alike p n ps after ns Greater is rest low high =
    let less : nat_cmp p n ≡ Less = nat_cmp_total.antisymm p n ∙ ap ordering_reverse is in
    absurd (let no = rw less at high in cc)

-- a name between these bytes and a name that begins with them begins with them too
pub begins_between : (prefix after name : List ℕ) → IsNotBelow name prefix → IsNotBelow (prefix ++ after) name → Begins prefix name
begins_between [] after name low high = record { after = name; is = refl }
begins_between (p ∷ ps) after [] low high = absurd (cc)
begins_between (p ∷ ps) after (n ∷ ns) low high =
    begins_alike p n ps after ns (nat_cmp n p) refl (begins_between ps after ns) low high
