-- Keys are in a total order, and a list under keys keeps rising where a value is put into it.
use Rattle.std.proofs.Common.{◌≡◌, ℕ, zero, suc, ◌+◌, ◌<◌, ◌≤◌, ◌&&◌, Bool, true, false, cond, List, [], ◌∷◌, length, get_or, count_by, bytes_eq, refl, sym, ◌∙◌, ap, arith, inl, inr, is_eq, is_lt, nat_cmp, Ordering, Less, Equal, Greater}
use Rattle.std.proofs.lemmas.Bool.{cases_Bool, and_parts, and_from}
use Rattle.std.proofs.lemmas.Cmp.{nat_list_cmp_total, nat_list_eq_equiv}
use Rattle.std.proofs.lemmas.List.Sums.{sum_by-cons}
use Rattle.std.proofs.lemmas.Map.Text.{is_eq-slice_cmp}
use Rattle.std.proofs.lemmas.Slice.Eq.{bytes_eq-Decides}
use Rattle.std.specs.Cmp.Lexicographic.{slice_cmp}
use Rattle.std.specs.List.{list_all, AllByRecursion}
use Rattle.std.specs.Ordering.{ordering_reverse}
use Rattle.ktm_keyed.specs.declared.keyed.Keyed.{Keyed}
use Rattle.ktm_keyed.specs.Keyed.{comes_before, put, without, comes_first, is_rising}

after_by : (r s : Ordering) → s ≡ ordering_reverse r → is_eq r ≡ false → is_lt r ≡ false → is_lt s ≡ true
after_by Less s turned other behind = cc
after_by Equal s turned other behind = cc
after_by Greater s turned other behind = ap is_lt turned

-- of two keys that differ one comes before the other
pub comes_before-total : (a b : List ℕ) → bytes_eq a b ≡ false → comes_before b a ≡ false → comes_before a b ≡ true
comes_before-total a b other behind =
    after_by (slice_cmp nat_cmp b a) (slice_cmp nat_cmp a b) (nat_list_cmp_total.antisymm a b) (is_eq-slice_cmp b a ∙ nat_list_eq_equiv.symm b a ∙ other) behind

pub comes_before-less : (a b : List ℕ) → comes_before a b ≡ true → slice_cmp nat_cmp a b ≡ Less
comes_before-less a b before = by_order (slice_cmp nat_cmp a b) before
  where
    by_order : (o : Ordering) → is_lt o ≡ true → o ≡ Less
    by_order Less is = refl
    by_order Equal is = absurd (cc)
    by_order Greater is = absurd (cc)

pub comes_before-differs : (a b : List ℕ) → comes_before a b ≡ true → bytes_eq a b ≡ false
comes_before-differs a b before = sym (is_eq-slice_cmp a b) ∙ ap is_eq (comes_before-less a b before)

pub comes_before-after : (a b : List ℕ) → comes_before a b ≡ true → comes_before b a ≡ false
comes_before-after a b before = ap is_lt (nat_list_cmp_total.antisymm b a ∙ ap ordering_reverse (comes_before-less a b before))

pub comes_before-trans : (a b c : List ℕ) → comes_before a b ≡ true → comes_before b c ≡ true → comes_before a c ≡ true
comes_before-trans a b c first second = ap is_lt (nat_list_cmp_total.trans a b c (comes_before-less a b first) (comes_before-less b c second))

-- ---- a key that comes before the first one comes before all

pub comes_first-trans : {V : Type 0} (a b : List ℕ) (xs : List (Keyed V)) → comes_before a b ≡ true → comes_first b xs ≡ true → comes_first a xs ≡ true
comes_first-trans a b [] before first = refl
comes_first-trans a b (x ∷ xs) before first = comes_before-trans a b x.key before first

pub comes_first-at : {V : Type 0} (a : List ℕ) (xs : List (Keyed V)) (i : ℕ) (d : Keyed V) → comes_first a xs ≡ true → is_rising xs ≡ true → i < length xs
    → comes_before a (get_or xs i d).key ≡ true
comes_first-at a [] i d first rises within = absurd (omega arith)
comes_first-at a (x ∷ xs) zero d first rises within = first
comes_first-at a (x ∷ xs) (suc i) d first rises within =
    let parts = and_parts (comes_first x.key xs) (is_rising xs) rises in
    comes_first-at a xs i d (comes_first-trans a x.key xs first parts.0) parts.1 (omega arith)

-- ---- what is under a key is taken away

comes_first-without : {V : Type 0} (a : List ℕ) (xs : List (Keyed V)) (key : List ℕ) → comes_first a xs ≡ true → is_rising xs ≡ true → comes_first a (without xs key) ≡ true
comes_first-without a [] key first rises = refl
comes_first-without a (x ∷ xs) key first rises = elim (cases_Bool (bytes_eq x.key key)) [
  | inl same ↦ rw same (comes_first-trans a x.key xs first (and_parts (comes_first x.key xs) (is_rising xs) rises).0)
  | inr other ↦ rw other first
]

pub is_rising-without : {V : Type 0} (xs : List (Keyed V)) (key : List ℕ) → is_rising xs ≡ true → is_rising (without xs key) ≡ true
is_rising-without [] key rises = refl
is_rising-without (x ∷ xs) key rises =
    let parts = and_parts (comes_first x.key xs) (is_rising xs) rises in
    elim (cases_Bool (bytes_eq x.key key)) [
      | inl same ↦ rw same parts.1
      | inr other ↦ rw other (and_from _ _ (comes_first-without x.key xs key parts.0 parts.1) (is_rising-without xs key parts.1))
    ]

-- ---- what holds of a list with a value put into it: the value took the place of one, or came before one or at the end

put-by : {V : Type 0} (P : List (Keyed V) → List (Keyed V) → Type 0) (key : List ℕ) (value : V)
    → P [] (record { key = key; value = value } ∷ [])
    → ((x : Keyed V) (xs : List (Keyed V)) → x.key ≡ key → P (x ∷ xs) (record { key = key; value = value } ∷ xs))
    → ((x : Keyed V) (xs : List (Keyed V)) → comes_before key x.key ≡ true → P (x ∷ xs) (record { key = key; value = value } ∷ x ∷ xs))
    → ((x : Keyed V) (xs : List (Keyed V)) → comes_before x.key key ≡ true → P xs (put xs key value) → P (x ∷ xs) (x ∷ put xs key value))
    → (xs : List (Keyed V)) → P xs (put xs key value)
put-by P key value none same before behind [] = none
put-by P key value none same before behind (x ∷ xs) = elim (cases_Bool (bytes_eq x.key key)) [
  | inl is ↦ rw is (same x xs ((bytes_eq-Decides x.key key).0 is))
  | inr other ↦ elim (cases_Bool (comes_before key x.key)) [
    | inl first ↦ rw (other, first) (before x xs first)
    | inr later ↦ rw (other, later) (behind x xs (comes_before-total x.key key other later) (put-by P key value none same before behind xs))
  ]
]

comes_first-put : {V : Type 0} (a key : List ℕ) (value : V) (xs : List (Keyed V)) → comes_before a key ≡ true → comes_first a xs ≡ true → comes_first a (put xs key value) ≡ true
comes_first-put a key value xs before =
    put-by (λ old new. comes_first a old ≡ true → comes_first a new ≡ true) key value (λ first. before) (λ x ys is first. before) (λ x ys first old. before) (λ x ys later ih first. first) xs

pub is_rising-put : {V : Type 0} (key : List ℕ) (value : V) (xs : List (Keyed V)) → is_rising xs ≡ true → is_rising (put xs key value) ≡ true
is_rising-put key value =
    put-by (λ old new. is_rising old ≡ true → is_rising new ≡ true) key value
    (λ rises. refl)
    (λ x xs is rises. ap (λ k. comes_first k xs && is_rising xs) (sym is) ∙ rises)
    (λ x xs before rises. and_from _ _ before rises)
    (λ x xs before ih rises.
    let parts = and_parts (comes_first x.key xs) (is_rising xs) rises in
    and_from _ _ (comes_first-put x.key key value xs before parts.0) (ih parts.1))

pub list_all-put : {V : Type 0} (test : Keyed V → Bool) (key : List ℕ) (value : V) → test (record { key = key; value = value }) ≡ true
    → (xs : List (Keyed V)) → list_all test xs ≡ true → list_all test (put xs key value) ≡ true
list_all-put test key value good =
    put-by (λ old new. list_all test old ≡ true → list_all test new ≡ true) key value
    (λ all. and_from _ _ good refl)
    (λ x xs is all. and_from _ _ good (and_parts (test x) (list_all test xs) all).1)
    (λ x xs before all. and_from _ _ good all)
    (λ x xs before ih all. let parts = and_parts (test x) (list_all test xs) all in and_from _ _ parts.0 (ih parts.1))

pub AllByRecursion-put : {V : Type 0} (P : Keyed V → Type 0) (key : List ℕ) (value : V) → P (record { key = key; value = value })
    → (xs : List (Keyed V)) → AllByRecursion P xs → AllByRecursion P (put xs key value)
AllByRecursion-put P key value good =
    put-by (λ old new. AllByRecursion P old → AllByRecursion P new) key value
    (λ all. (good, tt))
    (λ x xs is all. (good, all.1))
    (λ x xs before all. (good, all))
    (λ x xs before ih all. (all.0, ih all.1))

-- ---- how many there are

pub length-put-le : {V : Type 0} (key : List ℕ) (value : V) (xs : List (Keyed V)) → length (put xs key value) ≤ length xs + 1
length-put-le key value =
    put-by (λ old new. length new ≤ length old + 1) key value (omega arith) (λ x xs is. omega arith) (λ x xs before. omega arith) (λ x xs before ih. omega arith)

pub length-without-le : {V : Type 0} (xs : List (Keyed V)) (key : List ℕ) → length (without xs key) ≤ length xs
length-without-le [] key = omega arith
length-without-le (x ∷ xs) key = let rest = length-without-le xs key in elim (cases_Bool (bytes_eq x.key key)) [
  | inl same ↦ rw same (omega arith)
  | inr other ↦ rw other (omega (arith, rest))
]

pub count_by-cons : {X : Type 0} (p : X → Bool) (x : X) (xs : List X) → count_by p (x ∷ xs) ≡ cond (p x) 1 0 + count_by p xs
count_by-cons p x xs = sum_by-cons (λ y. cond (p y) 1 0) x xs

-- a value that is not counted makes the count no greater
pub count_by-put-le : {V : Type 0} (p : Keyed V → Bool) (key : List ℕ) (value : V) → p (record { key = key; value = value }) ≡ false
    → (xs : List (Keyed V)) → count_by p (put xs key value) ≤ count_by p xs
count_by-put-le {V} p key value uncounted =
    put-by (λ old new. count_by p new ≤ count_by p old) key value
    (let it = one [] in omega arith)
    (λ x xs is. let it = one xs in let old = count_by-cons p x xs in omega arith)
    (λ x xs before. let it = one (x ∷ xs) in omega arith)
    (λ x xs before ih. let old = count_by-cons p x xs in let new = count_by-cons p x (put xs key value) in omega arith)
  where
    one : (xs : List (Keyed V)) → count_by p (record { key = key; value = value } ∷ xs) ≡ count_by p xs
    one xs = count_by-cons p (record { key = key; value = value }) xs ∙ ap (λ b. cond b 1 0 + count_by p xs) uncounted ∙ omega arith
