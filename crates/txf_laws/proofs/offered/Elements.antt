-- Elements of lists, and tests of each and of each two of them.
use Rattle.std.proofs.Common.{◌≡◌, Bool, true, find, Some, List, [], ◌∷◌, ◌++◌, filter, refl, sym, ◌∙◌, ap, subst, inl, inr, ◌⊎◌, not, false, ◌≤◌, length, arith}
use Rattle.std.proofs.lemmas.Bool.{cases_Bool, and_parts, and_from, true≢false}
use Rattle.std.proofs.lemmas.Option.{none-some, same_Some}
use Rattle.std.specs.List.{list_all, list_any, flat_map}
use Rattle.txf_laws.specs.Elements.{IsIn, each_pair}
use Rattle.txf_laws.proofs.offered.Diamonds.{IsIn-right}
use Rattle.txf_laws.proofs.offered.Lists.{IsIn-left, IsIn-cases}

-- ---- elements

pub IsIn-filter : {X : Type 0} (test : X → Bool) (xs : List X) (x : X) → IsIn x (filter test xs) → IsIn x xs × (test x ≡ true)
IsIn-filter test [] x there = absurd there
IsIn-filter test (y ∷ ys) x there = elim (cases_Bool (test y)) [
  | inl is ↦ first is (rw is at there) (IsIn-filter test ys x)
  | inr not' ↦ let rest = IsIn-filter test ys x (rw not' at there) in (inr rest.0, rest.1)
]
  where
    first : test y ≡ true → IsIn x (y ∷ filter test ys) → (IsIn x (filter test ys) → IsIn x ys × (test x ≡ true)) → IsIn x (y ∷ ys) × (test x ≡ true)
    first is (inl e) later = (inl e, subst (λ z. test z ≡ true) e is)
    first is (inr more) later = let rest = later more in (inr rest.0, rest.1)

pub IsIn-kept : {X : Type 0} (test : X → Bool) (xs : List X) (x : X) → IsIn x xs → test x ≡ true → IsIn x (filter test xs)
IsIn-kept test [] x there is = absurd there
IsIn-kept test (y ∷ ys) x (inl e) is = rw (subst (λ z. test z ≡ true) (sym e) is) (inl e)
IsIn-kept test (y ∷ ys) x (inr there) is = elim (cases_Bool (test y)) [
  | inl passes ↦ rw passes (inr (IsIn-kept test ys x there is))
  | inr fails ↦ rw fails (IsIn-kept test ys x there is)
]

pub IsIn-flat_map : {X Y : Type 0} (f : X → List Y) (xs : List X) (x : X) (y : Y) → IsIn x xs → IsIn y (f x) → IsIn y (flat_map f xs)
IsIn-flat_map f [] x y there has = absurd there
IsIn-flat_map f (z ∷ zs) x y (inl e) has = IsIn-left y (f z) (flat_map f zs) (subst (λ w. IsIn y (f w)) (sym e) has)
IsIn-flat_map f (z ∷ zs) x y (inr there) has = IsIn-right y (f z) (flat_map f zs) (IsIn-flat_map f zs x y there has)

pub IsIn-unflat : {X Y : Type 0} (f : X → List Y) (xs : List X) (y : Y) → IsIn y (flat_map f xs) → (x : X) × IsIn x xs × IsIn y (f x)
IsIn-unflat f [] y there = absurd there
IsIn-unflat f (z ∷ zs) y there = elim (IsIn-cases y (f z) (flat_map f zs) there) [
  | inl here ↦ (z, inl refl, here)
  | inr later ↦ let rest = IsIn-unflat f zs y later in (rest.0, inr rest.1, rest.2)
]

-- ---- equal lists

pub some-not_none : {X : Type 0} (x : X) (xs : List X) → x ∷ xs ≡ [] → ⊥
some-not_none x xs same = absurd (cc)

pub first-same : {X : Type 0} (x y : X) (xs ys : List X) → x ∷ xs ≡ y ∷ ys → x ≡ y
first-same {X} x y xs ys same = ap first_or same
  where
    first_or : List X → X
    first_or [] = x
    first_or (z ∷ zs) = z

pub rest-same : {X : Type 0} (x y : X) (xs ys : List X) → x ∷ xs ≡ y ∷ ys → xs ≡ ys
rest-same {X} x y xs ys same = ap behind_first same
  where
    behind_first : List X → List X
    behind_first [] = []
    behind_first (z ∷ zs) = zs

-- ---- a test of each

pub list_all-at : {X : Type 0} (test : X → Bool) (xs : List X) → list_all test xs ≡ true → (x : X) → IsIn x xs → test x ≡ true
list_all-at test [] all x there = absurd there
list_all-at test (y ∷ ys) all x (inl e) = subst (λ z. test z ≡ true) e (and_parts (test y) (list_all test ys) all).0
list_all-at test (y ∷ ys) all x (inr there) = list_all-at test ys (and_parts (test y) (list_all test ys) all).1 x there

pub list_all-from : {X : Type 0} (test : X → Bool) (xs : List X) → ((x : X) → IsIn x xs → test x ≡ true) → list_all test xs ≡ true
list_all-from test [] each = refl
list_all-from test (y ∷ ys) each = and_from _ _ (each y (inl refl)) (list_all-from test ys (λ x there. each x (inr there)))

pub list_any-at : {X : Type 0} (test : X → Bool) (xs : List X) → list_any test xs ≡ true → (x : X) × IsIn x xs × (test x ≡ true)
list_any-at test [] any = absurd (true≢false (sym any))
list_any-at test (y ∷ ys) any = elim (cases_Bool (test y)) [
  | inl is ↦ (y, inl refl, is)
  | inr not' ↦ let rest = list_any-at test ys (rw not' at any) in (rest.0, inr rest.1, rest.2)
]

pub list_any-from : {X : Type 0} (test : X → Bool) (xs : List X) (x : X) → IsIn x xs → test x ≡ true → list_any test xs ≡ true
list_any-from test [] x there is = absurd there
list_any-from test (y ∷ ys) x (inl e) is = rw (subst (λ z. test z ≡ true) (sym e) is) refl
list_any-from test (y ∷ ys) x (inr there) is = elim (cases_Bool (test y)) [
  | inl passes ↦ rw passes refl
  | inr fails ↦ rw fails (list_any-from test ys x there is)
]

pub find-in : {X : Type 0} (test : X → Bool) (xs : List X) (x : X) → find test xs ≡ Some x → IsIn x xs × (test x ≡ true)
find-in test [] x found = absurd (none-some x found)
find-in test (y ∷ ys) x found = elim (cases_Bool (test y)) [
  | inl is ↦ let e : y ≡ x = same_Some y x (rw is at found) in (inl e, subst (λ z. test z ≡ true) e is)
  | inr not' ↦ let rest = find-in test ys x (rw not' at found) in (inr rest.0, rest.1)
]

-- ---- a test of each two

pub each_pair-either : {X : Type 0} (test : X → X → Bool) (xs : List X) → each_pair test xs ≡ true → (x y : X) → IsIn x xs → IsIn y xs
    → (x ≡ y) ⊎ ((test x y ≡ true) ⊎ (test y x ≡ true))
each_pair-either test [] pairs x y there there' = absurd there
each_pair-either test (z ∷ zs) pairs x y (inl e) (inl e') = inl (sym e ∙ e')
each_pair-either test (z ∷ zs) pairs x y (inl e) (inr there') =
    inr (inl (subst (λ w. test w y ≡ true) e (list_all-at (test z) zs (and_parts (list_all (test z) zs) (each_pair test zs) pairs).0 y there')))
each_pair-either test (z ∷ zs) pairs x y (inr there) (inl e') =
    inr (inr (subst (λ w. test w x ≡ true) e' (list_all-at (test z) zs (and_parts (list_all (test z) zs) (each_pair test zs) pairs).0 x there)))
each_pair-either test (z ∷ zs) pairs x y (inr there) (inr there') =
    each_pair-either test zs (and_parts (list_all (test z) zs) (each_pair test zs) pairs).1 x y there there'

-- what follows from another test of two elements
pub each_pair-from : {X : Type 0} (given test : X → X → Bool) (xs : List X) → each_pair given xs ≡ true
    → ((x y : X) → IsIn x xs → IsIn y xs → given x y ≡ true → test x y ≡ true) → each_pair test xs ≡ true
each_pair-from given test [] pairs follows = refl
each_pair-from given test (z ∷ zs) pairs follows =
    let parts = and_parts (list_all (given z) zs) (each_pair given zs) pairs in
    and_from _ _ (list_all-from (test z) zs (λ y there. follows z y (inl refl) (inr there) (list_all-at (given z) zs parts.0 y there)))
    (each_pair-from given test zs parts.1 (λ x y there there'. follows x y (inr there) (inr there')))

pub each_pair-filter : {X : Type 0} (test : X → X → Bool) (keep : X → Bool) (xs : List X) → each_pair test xs ≡ true → each_pair test (filter keep xs) ≡ true
each_pair-filter test keep [] pairs = refl
each_pair-filter test keep (z ∷ zs) pairs =
    let parts = and_parts (list_all (test z) zs) (each_pair test zs) pairs in
    elim (cases_Bool (keep z)) [
      | inl is ↦ rw is (and_from _ _ (list_all-from (test z) (filter keep zs) (λ y there. list_all-at (test z) zs parts.0 y (IsIn-filter keep zs y there).0)) (each_pair-filter test keep zs parts.1))
      | inr not' ↦ rw not' (each_pair-filter test keep zs parts.1)
    ]

pub each_pair-append : {X : Type 0} (test : X → X → Bool) (xs ys : List X) → each_pair test xs ≡ true → each_pair test ys ≡ true
    → ((x y : X) → IsIn x xs → IsIn y ys → test x y ≡ true) → each_pair test (xs ++ ys) ≡ true
each_pair-append test [] ys left right across = right
each_pair-append test (z ∷ zs) ys left right across =
    let parts = and_parts (list_all (test z) zs) (each_pair test zs) left in
    and_from _ _
    (list_all-from (test z) (zs ++ ys) (λ y there. elim (IsIn-cases y zs ys there) [ inl here ↦ list_all-at (test z) zs parts.0 y here | inr later ↦ across z y (inl refl) later ]))
    (each_pair-append test zs ys parts.1 right (λ x y there there'. across x y (inr there) there'))

pub each_pair-left : {X : Type 0} (test : X → X → Bool) (xs ys : List X) → each_pair test (xs ++ ys) ≡ true → each_pair test xs ≡ true
each_pair-left test [] ys pairs = refl
each_pair-left test (z ∷ zs) ys pairs =
    let parts = and_parts (list_all (test z) (zs ++ ys)) (each_pair test (zs ++ ys)) pairs in
    and_from _ _ (list_all-from (test z) zs (λ y there. list_all-at (test z) (zs ++ ys) parts.0 y (IsIn-left y zs ys there))) (each_pair-left test zs ys parts.1)

pub each_pair-right : {X : Type 0} (test : X → X → Bool) (xs ys : List X) → each_pair test (xs ++ ys) ≡ true → each_pair test ys ≡ true
each_pair-right test [] ys pairs = pairs
each_pair-right test (z ∷ zs) ys pairs = each_pair-right test zs ys (and_parts (list_all (test z) (zs ++ ys)) (each_pair test (zs ++ ys)) pairs).1

pub each_pair-across : {X : Type 0} (test : X → X → Bool) (xs ys : List X) → each_pair test (xs ++ ys) ≡ true → (x y : X) → IsIn x xs → IsIn y ys → test x y ≡ true
each_pair-across test [] ys pairs x y there there' = absurd there
each_pair-across test (z ∷ zs) ys pairs x y (inl e) there' =
    subst (λ w. test w y ≡ true) e (list_all-at (test z) (zs ++ ys) (and_parts (list_all (test z) (zs ++ ys)) (each_pair test (zs ++ ys)) pairs).0 y (IsIn-right y zs ys there'))
each_pair-across test (z ∷ zs) ys pairs x y (inr there) there' =
    each_pair-across test zs ys (and_parts (list_all (test z) (zs ++ ys)) (each_pair test (zs ++ ys)) pairs).1 x y there there'

-- of the lists of each element: each passes by itself, and so do two of them
pub each_pair-flat : {X Y : Type 0} (given : X → X → Bool) (test : Y → Y → Bool) (f : X → List Y) (xs : List X) → each_pair given xs ≡ true
    → ((x : X) → IsIn x xs → each_pair test (f x) ≡ true)
    → ((x y : X) → IsIn x xs → IsIn y xs → given x y ≡ true → (a b : Y) → IsIn a (f x) → IsIn b (f y) → test a b ≡ true)
    → each_pair test (flat_map f xs) ≡ true
each_pair-flat given test f [] pairs each across = refl
each_pair-flat given test f (z ∷ zs) pairs each across =
    let parts = and_parts (list_all (given z) zs) (each_pair given zs) pairs in
    each_pair-append test (f z) (flat_map f zs) (each z (inl refl))
    (each_pair-flat given test f zs parts.1 (λ x there. each x (inr there)) (λ x y there there'. across x y (inr there) (inr there')))
    (λ a b there there'. let of = IsIn-unflat f zs b there' in across z of.0 (inl refl) (inr of.1) (list_all-at (given z) zs parts.0 of.0 of.1) a b there of.2)

-- of the lists of those that are kept each two pass too
pub each_pair-flat_kept : {X Y : Type 0} (test : Y → Y → Bool) (f : X → List Y) (keep : X → Bool) (xs : List X) → each_pair test (flat_map f xs) ≡ true → each_pair test (flat_map f (filter keep xs)) ≡ true
each_pair-flat_kept test f keep [] pairs = refl
each_pair-flat_kept test f keep (x ∷ xs) pairs = elim (cases_Bool (keep x)) [
  | inr out ↦ rw out (each_pair-flat_kept test f keep xs (each_pair-right test (f x) (flat_map f xs) pairs))
  | inl stays ↦ rw stays (each_pair-append test (f x) (flat_map f (filter keep xs)) (each_pair-left test (f x) (flat_map f xs) pairs)
      (each_pair-flat_kept test f keep xs (each_pair-right test (f x) (flat_map f xs) pairs))
      (λ a b there there'.
      let from = IsIn-unflat f (filter keep xs) b there' in
      each_pair-across test (f x) (flat_map f xs) pairs a b there (IsIn-flat_map f xs from.0 b (IsIn-filter keep xs from.0 from.1).0 from.2)))
]

pub each_pair-unflat : {X Y : Type 0} (test : Y → Y → Bool) (f : X → List Y) (xs : List X) → each_pair test (flat_map f xs) ≡ true → (x : X) → IsIn x xs → each_pair test (f x) ≡ true
each_pair-unflat test f [] pairs x there = absurd there
each_pair-unflat test f (z ∷ zs) pairs x (inl e) = subst (λ w. each_pair test (f w) ≡ true) e (each_pair-left test (f z) (flat_map f zs) pairs)
each_pair-unflat test f (z ∷ zs) pairs x (inr there) = each_pair-unflat test f zs (each_pair-right test (f z) (flat_map f zs) pairs) x there

-- an element of each of two lists, one way or the other
pub each_pair-of_two : {X Y : Type 0} (test : Y → Y → Bool) (f : X → List Y) (xs : List X) → each_pair test (flat_map f xs) ≡ true → (x y : X) → IsIn x xs → IsIn y xs
    → (a b : Y) → IsIn a (f x) → IsIn b (f y) → (x ≡ y) ⊎ ((test a b ≡ true) ⊎ (test b a ≡ true))
each_pair-of_two test f [] pairs x y there there' a b has has' = absurd there
each_pair-of_two test f (z ∷ zs) pairs x y (inl e) (inl e') a b has has' = inl (sym e ∙ e')
each_pair-of_two test f (z ∷ zs) pairs x y (inl e) (inr there') a b has has' =
    inr (inl (each_pair-across test (f z) (flat_map f zs) pairs a b (subst (λ w. IsIn a (f w)) (sym e) has) (IsIn-flat_map f zs y b there' has')))
each_pair-of_two test f (z ∷ zs) pairs x y (inr there) (inl e') a b has has' =
    inr (inr (each_pair-across test (f z) (flat_map f zs) pairs b a (subst (λ w. IsIn b (f w)) (sym e') has') (IsIn-flat_map f zs x a there has)))
each_pair-of_two test f (z ∷ zs) pairs x y (inr there) (inr there') a b has has' =
    each_pair-of_two test f zs (each_pair-right test (f z) (flat_map f zs) pairs) x y there there' a b has has'

pub not-not : (b : Bool) → not b ≡ false → b ≡ true
not-not true is = refl
not-not false is = absurd (true≢false is)

pub length-filter-less : {X : Type 0} (keep : X → Bool) (ts : List X) → length (filter keep ts) ≤ length ts
length-filter-less keep [] = omega arith
length-filter-less keep (t ∷ ts) =
    let rest = length-filter-less keep ts in
    elim (cases_Bool (keep t)) [ inl is ↦ rw is (omega arith) | inr other ↦ rw other (omega arith) ]

pub filter-true : {X : Type 0} (xs : List X) → filter (λ (x : X). true) xs ≡ xs
filter-true [] = refl
filter-true (x ∷ xs) = ap (λ ys. x ∷ ys) (filter-true xs)
