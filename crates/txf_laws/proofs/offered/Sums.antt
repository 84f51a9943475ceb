-- Sums over lists, and how many elements pass a test, where some are taken out or one is changed.
use Rattle.std.proofs.Common.{◌≡◌, ℕ, ◌+◌, ◌≤◌, not, Bool, true, false, cond, List, [], ◌∷◌, ◌++◌, map, filter, sum_by, count_by, refl, ◌∙◌, ap, subst, arith, inl, inr}
use Rattle.std.proofs.lemmas.Bool.{cases_Bool}
use Rattle.std.proofs.lemmas.List.Sums.{sum_by-cons, sum_by-append}
use Rattle.txf_laws.specs.Elements.{IsIn}

-- ---- sums

-- where each is the same
pub sum-same : {X : Type 0} (f g : X → ℕ) (xs : List X) → ((x : X) → IsIn x xs → f x ≡ g x) → sum_by f xs ≡ sum_by g xs
sum-same f g [] same = refl
sum-same f g (x ∷ xs) same =
    let rest = sum-same f g xs (λ y there. same y (inr there)) in
    let one = same x (inl refl) in
    let a = sum_by-cons f x xs in
    let b = sum_by-cons g x xs in
    omega arith

-- where none is more
pub sum-less : {X : Type 0} (f g : X → ℕ) (xs : List X) → ((x : X) → IsIn x xs → f x ≤ g x) → sum_by f xs ≤ sum_by g xs
sum-less f g [] less = omega arith
sum-less f g (x ∷ xs) less =
    let rest = sum-less f g xs (λ y there. less y (inr there)) in
    let one = less x (inl refl) in
    let a = sum_by-cons f x xs in
    let b = sum_by-cons g x xs in
    omega arith

-- of those that pass a test, and of the others
pub sum-split : {X : Type 0} (f : X → ℕ) (test : X → Bool) (xs : List X) → sum_by f (filter test xs) + sum_by f (filter (λ x. not (test x)) xs) ≡ sum_by f xs
sum-split f test [] = omega arith
sum-split f test (x ∷ xs) =
    let rest = sum-split f test xs in
    let all = sum_by-cons f x xs in
    elim (cases_Bool (test x)) [
      | inl is ↦ rw is (let one = sum_by-cons f x (filter test xs) in omega arith)
      | inr not' ↦ rw not' (let one = sum_by-cons f x (filter (λ x. not (test x)) xs) in omega arith)
    ]

-- of some of them
pub sum-filter-less : {X : Type 0} (f : X → ℕ) (test : X → Bool) (xs : List X) → sum_by f (filter test xs) ≤ sum_by f xs
sum-filter-less f test xs = let parts = sum-split f test xs in omega arith

-- one of them
pub sum-one : {X : Type 0} (f : X → ℕ) (xs : List X) (x : X) → IsIn x xs → f x ≤ sum_by f xs
sum-one f [] x there = absurd there
sum-one f (y ∷ ys) x (inl e) = let all = sum_by-cons f y ys in subst (λ z. f z ≤ sum_by f (y ∷ ys)) e (omega arith)
sum-one f (y ∷ ys) x (inr there) = let rest = sum-one f ys x there in let all = sum_by-cons f y ys in omega arith

-- of what each is changed to
pub sum-map-by : {X Y : Type 0} (f : Y → ℕ) (step : X → Y) (xs : List X) → sum_by f (map step xs) ≡ sum_by (λ x. f (step x)) xs
sum-map-by f step [] = refl
sum-map-by f step (x ∷ xs) = let rest = sum-map-by f step xs in let a = sum_by-cons f (step x) (map step xs) in let b = sum_by-cons (λ x. f (step x)) x xs in omega arith

-- ---- counts

-- one where it is so, and else none
abbrev pub one_where : {X : Type 0} → (X → Bool) → X → ℕ
one_where test x = cond (test x) 1 0

pub count-cons : {X : Type 0} (test : X → Bool) (x : X) (xs : List X) → count_by test (x ∷ xs) ≡ one_where test x + count_by test xs
count-cons test x xs = sum_by-cons (one_where test) x xs

pub count-append : {X : Type 0} (test : X → Bool) (xs ys : List X) → count_by test (xs ++ ys) ≡ count_by test xs + count_by test ys
count-append test xs ys = sum_by-append (one_where test) xs ys

-- one that passes no test that the other fails
pub one-less : {X Y : Type 0} (before : X → Bool) (after : Y → Bool) (x : X) (y : Y) → (after y ≡ true → before x ≡ true) → one_where after y ≤ one_where before x
one-less before after x y less = elim (cases_Bool (after y)) [
  | inl is ↦ rw (is, less is) (omega arith)
  | inr not' ↦ rw not' (omega arith)
]

pub one-at-most : {X : Type 0} (test : X → Bool) (x : X) → one_where test x ≤ 1
one-at-most test x = elim (cases_Bool (test x)) [ inl is ↦ rw is (omega arith) | inr not' ↦ rw not' (omega arith) ]

-- where no more pass
pub count-less : {X : Type 0} (after before : X → Bool) (xs : List X) → ((x : X) → IsIn x xs → after x ≡ true → before x ≡ true) → count_by after xs ≤ count_by before xs
count-less after before xs less = sum-less (one_where after) (one_where before) xs (λ x there. one-less before after x x (less x there))

-- where no more pass once each is changed
pub count-map-less : {X : Type 0} (after before : X → Bool) (step : X → X) (xs : List X) → ((x : X) → IsIn x xs → after (step x) ≡ true → before x ≡ true) → count_by after (map step xs) ≤ count_by before xs
count-map-less after before step xs less =
    let moved = sum-map-by (one_where after) step xs in
    let low = sum-less (λ x. one_where after (step x)) (one_where before) xs (λ x there. one-less before after x (step x) (less x there)) in
    omega arith

-- those that pass one test pass another
pub sum-implied : {X : Type 0} (f : X → ℕ) (some all : X → Bool) (xs : List X) → ((x : X) → IsIn x xs → some x ≡ true → all x ≡ true) → sum_by f (filter some xs) ≤ sum_by f (filter all xs)
sum-implied f some all [] implied = omega arith
sum-implied f some all (x ∷ xs) implied =
    let rest = sum-implied f some all xs (λ y there. implied y (inr there)) in
    elim (cases_Bool (some x)) [
      | inl is ↦ rw (is, implied x (inl refl) is) (let a = sum_by-cons f x (filter some xs) in let b = sum_by-cons f x (filter all xs) in omega arith)
      | inr fails ↦ elim (cases_Bool (all x)) [
        | inl is ↦ rw (fails, is) (let b = sum_by-cons f x (filter all xs) in omega arith)
        | inr fails' ↦ rw (fails, fails') rest
      ]
    ]

-- of two numbers each
pub sum-plus : {X : Type 0} (f g : X → ℕ) (xs : List X) → sum_by (λ x. f x + g x) xs ≡ sum_by f xs + sum_by g xs
sum-plus f g [] = omega arith
sum-plus f g (x ∷ xs) = let rest = sum-plus f g xs in let a = sum_by-cons (λ x. f x + g x) x xs in let b = sum_by-cons f x xs in let c = sum_by-cons g x xs in omega arith

-- one more passes the second test
pub count-strict : {X : Type 0} (some all : X → Bool) (xs : List X) (x : X) → ((y : X) → IsIn y xs → some y ≡ true → all y ≡ true) → IsIn x xs → some x ≡ false → all x ≡ true → count_by some xs + 1 ≤ count_by all xs
count-strict some all [] x implied there fails is = absurd there
count-strict some all (y ∷ ys) x implied (inl e) fails is =
    let low = count-less some all ys (λ z there. implied z (inr there)) in
    let a = count-cons some y ys in
    let b = count-cons all y ys in
    let none : one_where some y ≡ 0 = ap (λ t. cond t 1 0) (ap some e ∙ fails) in
    let one : one_where all y ≡ 1 = ap (λ t. cond t 1 0) (ap all e ∙ is) in
    omega arith
count-strict some all (y ∷ ys) x implied (inr there) fails is =
    let rest = count-strict some all ys x (λ z has. implied z (inr has)) there fails is in
    let a = count-cons some y ys in
    let b = count-cons all y ys in
    let one = one-less all some y y (λ passes. implied y (inl refl) passes) in
    omega arith
