-- The older versions that were first opened: how many units they have, where first opens end, and where versions become older.
use Rattle.std.proofs.Common.{◌≡◌, ℕ, ◌+◌, ◌≤◌, ◌==◌, ◌&&◌, ◌||◌, not, Bool, true, false, cond, List, [], ◌∷◌, ◌++◌, filter, sum_by, refl, sym, ◌∙◌, ap, arith, inl, inr}
use Rattle.std.proofs.lemmas.Bool.{cases_Bool, and_parts, and_from, eqb-true, true≢false}
use Rattle.std.proofs.lemmas.List.Sums.{sum_by-cons}
use Rattle.std.specs.List.{list_any}
use Rattle.ktm_world.specs.Files.{FilesNow, FirstOpen, is_last_version}
use Rattle.ktm_world.specs.FileUses.{same_version, older_versions}
use Rattle.ktm_world.specs.Tree.{units_of}
use Rattle.txf_laws.specs.Elements.{IsIn}
use Rattle.txf_laws.proofs.offered.Elements.{IsIn-filter, list_any-at, list_any-from}

-- the older versions, each once, where a test says which are older
abbrev pub older_by : (FirstOpen → Bool) → List FirstOpen → List FirstOpen
older_by old [] = []
older_by old (o ∷ os) = let rest = older_by old os in filter (λ a. old a && not (list_any (same_version a) rest)) (o ∷ []) ++ rest

pub older-is : (files : FilesNow) (os : List FirstOpen) → older_versions files os ≡ older_by (λ a. not (is_last_version files a)) os
older-is files [] = refl
older-is files (o ∷ os) = ap (λ rest. filter (λ a. not (is_last_version files a) && not (list_any (same_version a) rest)) (o ∷ []) ++ rest) (older-is files os)

-- the units of a version
abbrev pub version_units : FirstOpen → ℕ
version_units o = units_of o.bytes

-- the units of the older versions
abbrev pub older_units : (FirstOpen → Bool) → List FirstOpen → ℕ
older_units old os = sum_by version_units (older_by old os)

-- is some older one the same version
abbrev pub has_older : (FirstOpen → Bool) → List FirstOpen → FirstOpen → Bool
has_older old os a = list_any (λ o. old o && same_version a o) os

-- ---- the same version

pub same_version-like : (a b : FirstOpen) → same_version a b ≡ true → (c : FirstOpen) → same_version a c ≡ same_version b c
same_version-like a b same c =
    let parts = and_parts (a.file == b.file) (a.version == b.version) same in
    let file = eqb-true _ _ parts.0 in
    let version = eqb-true _ _ parts.1 in
    λ i. (file i == c.file) && (version i == c.version)

-- of which one is the same, the other is
pub same_version-turned : (k o p : FirstOpen) → same_version o p ≡ true → same_version k p ≡ same_version k o
same_version-turned k o p same =
    let parts = and_parts (o.file == p.file) (o.version == p.version) same in
    let file = eqb-true _ _ parts.0 in
    let version = eqb-true _ _ parts.1 in
    λ i. (k.file == sym file i) && (k.version == sym version i)

pub list_any-alike : {X : Type 0} (f g : X → Bool) (xs : List X) → ((x : X) → IsIn x xs → f x ≡ g x) → list_any f xs ≡ list_any g xs
list_any-alike f g [] same = refl
list_any-alike f g (x ∷ xs) same = λ i. same x (inl refl) i || list_any-alike f g xs (λ y there. same y (inr there)) i

pub has_older-like : (old : FirstOpen → Bool) (os : List FirstOpen) (a b : FirstOpen) → same_version a b ≡ true → has_older old os a ≡ has_older old os b
has_older-like old os a b same = list_any-alike (λ o. old o && same_version a o) (λ o. old o && same_version b o) os (λ o there. ap (λ s. old o && s) (same_version-like a b same o))

-- ---- one after another

-- an older version is kept unless it comes again
any-kept : (a o : FirstOpen) (b : Bool) (rest : List FirstOpen) → list_any (same_version a) (cond b (o ∷ []) [] ++ rest) ≡ ((b && same_version a o) || list_any (same_version a) rest)
any-kept a o true rest = refl
any-kept a o false rest = refl

any-older : (old : FirstOpen → Bool) (os : List FirstOpen) (a : FirstOpen) → list_any (same_version a) (older_by old os) ≡ has_older old os a
any-older old [] a = refl
any-older old (o ∷ os) a =
    let rest = older_by old os in
    any-kept a o (old o && not (list_any (same_version o) rest)) rest ∙ elim (cases_Bool (old o)) [
      | inr young ↦ rw young (any-older old os a)
      | inl is ↦ elim (cases_Bool (list_any (same_version o) rest)) [
        | inr once ↦ rw (is, once) (ap (λ b. same_version a o || b) (any-older old os a))
        | inl again ↦ elim (cases_Bool (same_version a o)) [
          | inl same ↦ rw (is, again, same) (list_any-alike (same_version a) (same_version o) rest (λ c there. same_version-like a o same c) ∙ again)
          | inr other ↦ rw (is, again, other) (any-older old os a)
        ]
      ]
    ]

sum-kept : (o : FirstOpen) (b : Bool) (rest : List FirstOpen) → sum_by version_units (cond b (o ∷ []) [] ++ rest) ≡ cond b (version_units o) 0 + sum_by version_units rest
sum-kept o true rest = sum_by-cons version_units o rest
sum-kept o false rest = omega arith

pub older-cons : (old : FirstOpen → Bool) (o : FirstOpen) (os : List FirstOpen) → older_units old (o ∷ os) ≡ cond (old o && not (has_older old os o)) (version_units o) 0 + older_units old os
older-cons old o os = sum-kept o (old o && not (list_any (same_version o) (older_by old os))) (older_by old os) ∙ ap (λ b. cond (old o && not b) (version_units o) 0 + older_units old os) (any-older old os o)

-- ---- where first opens end

-- first opens of the same version have the same bytes
abbrev pub AreFixed : List FirstOpen → Type 0
AreFixed os = (a b : FirstOpen) → IsIn a os → IsIn b os → same_version a b ≡ true → a.bytes ≡ b.bytes

-- the versions but this one
abbrev pub but_not : (FirstOpen → Bool) → FirstOpen → FirstOpen → Bool
but_not old k o = old o && not (same_version k o)

-- one version by itself
pub one-step : (is same has_it has_that has_but : Bool) (all but units unit : ℕ) → all ≡ but + cond has_that unit 0 → (same ≡ true → (has_it ≡ has_that) × (units ≡ unit)) → (same ≡ false → has_but ≡ has_it)
    → cond (is && not has_it) units 0 + all ≡ cond ((is && not same) && not has_but) units 0 + but + cond ((is && same) || has_that) unit 0
one-step false same has_it has_that has_but all but units unit ih like other = omega arith
one-step true false has_it has_that has_but all but units unit ih like other = rw (other refl) (omega arith)
one-step true true has_it true has_but all but units unit ih like other = rw (like refl).0 (omega arith)
one-step true true has_it false has_but all but units unit ih like other = let e = (like refl).1 in rw (like refl).0 (omega arith)

pub without-one : (old : FirstOpen → Bool) (os : List FirstOpen) (k : FirstOpen) → ((o : FirstOpen) → IsIn o os → same_version k o ≡ true → version_units o ≡ version_units k)
    → older_units old os ≡ older_units (but_not old k) os + cond (has_older old os k) (version_units k) 0
without-one old [] k units = omega arith
without-one old (o ∷ os) k units =
    older-cons old o os
    ∙ one-step (old o) (same_version k o) (has_older old os o) (has_older old os k) (has_older (but_not old k) os o) (older_units old os) (older_units (but_not old k) os) (version_units o) (version_units k)
    (without-one old os k (λ p there. units p (inr there))) (λ same. (sym (has_older-like old os k o same), units o (inl refl) same)) beside
    ∙ ap (λ n. n + cond ((old o && same_version k o) || has_older old os k) (version_units k) 0) (sym (older-cons (but_not old k) o os))
  where
    and-true : (b : Bool) → ((b && true) && true) ≡ (b && true)
    and-true true = refl
    and-true false = refl

    and-none : (a b : Bool) → (a && false) ≡ (b && false)
    and-none true true = refl
    and-none true false = refl
    and-none false true = refl
    and-none false false = refl

    beside : same_version k o ≡ false → has_older (but_not old k) os o ≡ has_older old os o
    beside other = list_any-alike (λ p. but_not old k p && same_version o p) (λ p. old p && same_version o p) os (λ p there. elim (cases_Bool (same_version o p)) [
      | inl same ↦
          let apart : same_version k p ≡ false = same_version-turned k o p same ∙ other in
          rw (same, apart) (and-true (old p))
      | inr differs ↦ rw differs (and-none (old p && not (same_version k p)) (old p))
    ])

filter-step : (is has_kept has_it : Bool) (kept all kept' all' units : ℕ) → kept ≤ all → kept' ≤ all' → kept ≡ kept' + cond has_kept units 0 → all ≡ all' + cond has_it units 0
    → cond (is && not has_kept) units 0 + kept ≤ cond (is && not has_it) units 0 + all
filter-step false has_kept has_it kept all kept' all' units less less' e e' = omega arith
filter-step true true true kept all kept' all' units less less' e e' = omega arith
filter-step true true false kept all kept' all' units less less' e e' = omega arith
filter-step true false true kept all kept' all' units less less' e e' = omega arith
filter-step true false false kept all kept' all' units less less' e e' = omega arith

pub older-filter : (keep : FirstOpen → Bool) (os : List FirstOpen) (old : FirstOpen → Bool) → AreFixed os → older_units old (filter keep os) ≤ older_units old os
older-filter keep [] old fixed = omega arith
older-filter keep (o ∷ os) old fixed =
    let rest : AreFixed os = λ a b there there' same. fixed a b (inr there) (inr there') same in
    let all = older-cons old o os in
    elim (cases_Bool (keep o)) [
      | inr gone ↦ rw gone (let low = older-filter keep os old rest in omega arith)
      | inl stays ↦ rw stays (let some = older-cons old o (filter keep os) in
          let step = filter-step (old o) (has_older old (filter keep os) o) (has_older old os o) (older_units old (filter keep os)) (older_units old os)
          (older_units (but_not old o) (filter keep os)) (older_units (but_not old o) os) (version_units o) (older-filter keep os old rest) (older-filter keep os (but_not old o) rest)
          (without-one old (filter keep os) o (λ p there same. ap units_of (sym (fixed o p (inl refl) (inr (IsIn-filter keep os p there).0) same))))
          (without-one old os o (λ p there same. ap units_of (sym (fixed o p (inl refl) (inr there) same)))) in
          omega arith)
    ]

-- ---- where a version becomes older

-- is it older now, and was it not before
abbrev pub newly : (FirstOpen → Bool) → (FirstOpen → Bool) → FirstOpen → Bool
newly old new o = new o && not (old o)

-- what becomes older is one version
pub record GrowsOlder (old new : FirstOpen → Bool) (most : ℕ) (os : List FirstOpen) : Type 0 where
  pub stays : (o : FirstOpen) → IsIn o os → old o ≡ true → new o ≡ true
  pub old_like : (a b : FirstOpen) → same_version a b ≡ true → old a ≡ old b
  pub new_like : (a b : FirstOpen) → same_version a b ≡ true → new a ≡ new b
  pub one : (a b : FirstOpen) → IsIn a os → IsIn b os → newly old new a ≡ true → newly old new b ≡ true → same_version a b ≡ true
  pub units : (o : FirstOpen) → IsIn o os → newly old new o ≡ true → version_units o ≤ most

grow-step : (is was has_new has_old some : Bool) (new old unit most : ℕ) → new ≤ old + cond some most 0 → (was ≡ true → is ≡ true) → (was ≡ true → has_new ≡ has_old) → ((is && not was) ≡ true → unit ≤ most)
    → ((is && not was) ≡ true → some ≡ true → has_new ≡ true)
    → cond (is && not has_new) unit 0 + new ≤ cond (was && not has_old) unit 0 + old + cond ((is && not was) || some) most 0
grow-step false true has_new has_old some new old unit most ih stays like low again = absurd (true≢false (sym (stays refl)))
grow-step false false has_new has_old some new old unit most ih stays like low again = omega arith
grow-step true true has_new has_old some new old unit most ih stays like low again = rw (like refl) (omega arith)
grow-step true false true has_old true new old unit most ih stays like low again = omega arith
grow-step true false true has_old false new old unit most ih stays like low again = omega arith
grow-step true false false has_old true new old unit most ih stays like low again = absurd (true≢false (sym (again refl refl)))
grow-step true false false has_old false new old unit most ih stays like low again = let less = low refl in omega arith

grows : (old new : FirstOpen → Bool) (units : ℕ) (os : List FirstOpen) → GrowsOlder old new units os → older_units new os ≤ older_units old os + cond (list_any (newly old new) os) units 0
grows old new units [] grow = omega arith
grows old new units (o ∷ os) grow =
    let ih = grows old new units os (record {
      stays = λ p there. grow.stays p (inr there);
      old_like = grow.old_like;
      new_like = grow.new_like;
      one = λ a b there there'. grow.one a b (inr there) (inr there');
      units = λ p there. grow.units p (inr there);
    }) in
    let after = older-cons new o os in
    let before = older-cons old o os in
    let step = grow-step (new o) (old o) (has_older new os o) (has_older old os o) (list_any (newly old new) os) (older_units new os) (older_units old os) (version_units o) units ih
    (grow.stays o (inl refl)) both (grow.units o (inl refl)) again in
    omega arith
  where
    none : (a b : Bool) → (a && false) ≡ (b && false)
    none true true = refl
    none true false = refl
    none false true = refl
    none false false = refl

    both : old o ≡ true → has_older new os o ≡ has_older old os o
    both was = list_any-alike (λ p. new p && same_version o p) (λ p. old p && same_version o p) os (λ p there. elim (cases_Bool (same_version o p)) [
      | inl same ↦ rw (sym (grow.old_like o p same) ∙ was, sym (grow.new_like o p same) ∙ grow.stays o (inl refl) was) refl
      | inr other ↦ rw other (none (new p) (old p))
    ])

    again : newly old new o ≡ true → list_any (newly old new) os ≡ true → has_older new os o ≡ true
    again is some =
        let p = list_any-at (newly old new) os some in
        list_any-from (λ p. new p && same_version o p) os p.0 p.1 (and_from _ _ (and_parts (new p.0) (not (old p.0)) p.2).0 (grow.one o p.0 (inl refl) (inr p.1) is p.2))

pub older-grows : (old new : FirstOpen → Bool) (units : ℕ) (os : List FirstOpen) → GrowsOlder old new units os → older_units new os ≤ older_units old os + units
older-grows old new units os grow =
    let less = grows old new units os grow in
    elim (cases_Bool (list_any (newly old new) os)) [ inl some ↦ (let low = rw some at less in omega arith) | inr none ↦ (let low = rw none at less in omega arith) ]
