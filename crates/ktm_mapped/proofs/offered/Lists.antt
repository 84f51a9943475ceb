-- Lists that are mapped, and tests and steps that tell no difference.
use Rattle.std.proofs.Common.{◌≡◌, ℕ, ◌+◌, ◌&&◌, ◌||◌, Bool, true, false, cond, List, [], ◌∷◌, ◌++◌, map, filter, find, fold, sum_by, count_by, Option, Some, None, is_some, refl, sym, ◌∙◌, ap}
use Rattle.std.specs.Prelude.{option_map}
use Rattle.std.specs.List.{list_any, list_all, flat_map}
use Rattle.std.proofs.lemmas.List.{map-append}
use Rattle.txf_laws.specs.Elements.{each_pair}

pub cond-mapped : {X Y : Type 0} (g : X → Y) (b : Bool) (x y : X) → cond b (g x) (g y) ≡ g (cond b x y)
cond-mapped g true x y = refl
cond-mapped g false x y = refl

pub is_some-mapped : {X Y : Type 0} (g : X → Y) (o : Option X) → is_some (option_map g o) ≡ is_some o
is_some-mapped g None = refl
is_some-mapped g (Some x) = refl

-- steps over a list
pub fold-mapped : {A B X Y : Type 0} (step : B → Y → B) (before : A → X → A) (h : A → B) (g : X → Y) → ((a : A) (x : X) → step (h a) (g x) ≡ h (before a x))
    → (a : A) (xs : List X) → fold step (h a) (map g xs) ≡ h (fold before a xs)
fold-mapped step before h g same a [] = refl
fold-mapped step before h g same a (x ∷ xs) = ap (λ b. fold step b (map g xs)) (same a x) ∙ fold-mapped step before h g same (before a x) xs

-- a test that tells no difference
module _ {X Y : Type 0} (test : Y → Bool) (before : X → Bool) (g : X → Y) (same : (x : X) → test (g x) ≡ before x) where
  pub list_any-mapped : (xs : List X) → list_any test (map g xs) ≡ list_any before xs
  list_any-mapped [] = refl
  list_any-mapped (x ∷ xs) = λ i. same x i || list_any-mapped xs i

  pub list_all-mapped : (xs : List X) → list_all test (map g xs) ≡ list_all before xs
  list_all-mapped [] = refl
  list_all-mapped (x ∷ xs) = λ i. same x i && list_all-mapped xs i

  pub find-mapped : (xs : List X) → find test (map g xs) ≡ option_map g (find before xs)
  find-mapped [] = refl
  find-mapped (x ∷ xs) = (λ i. cond (same x i) (Some (g x)) (find-mapped xs i)) ∙ cond-mapped (option_map g) (before x) (Some x) (find before xs)

  pub filter-mapped : (xs : List X) → filter test (map g xs) ≡ map g (filter before xs)
  filter-mapped [] = refl
  filter-mapped (x ∷ xs) = (λ i. cond (same x i) (g x ∷ filter-mapped xs i) (filter-mapped xs i)) ∙ cond-mapped (map g) (before x) (x ∷ filter before xs) (filter before xs)

  pub count_by-mapped : (xs : List X) → count_by test (map g xs) ≡ count_by before xs
  count_by-mapped xs = fold-mapped (λ a y. a + cond (test y) 1 0) (λ a x. a + cond (before x) 1 0) (λ (a : ℕ). a) g (λ a x i. a + cond (same x i) 1 0) 0 xs

pub each_pair-mapped : {X Y : Type 0} (test : Y → Y → Bool) (before : X → X → Bool) (g : X → Y) → ((x y : X) → test (g x) (g y) ≡ before x y) → (xs : List X)
    → each_pair test (map g xs) ≡ each_pair before xs
each_pair-mapped test before g same [] = refl
each_pair-mapped test before g same (x ∷ xs) = λ i. list_all-mapped (test (g x)) (before x) g (same x) xs i && each_pair-mapped test before g same xs i

pub sum_by-mapped : {X Y : Type 0} (many : Y → ℕ) (before : X → ℕ) (g : X → Y) → ((x : X) → many (g x) ≡ before x) → (xs : List X) → sum_by many (map g xs) ≡ sum_by before xs
sum_by-mapped many before g same xs = fold-mapped (λ a y. a + many y) (λ a x. a + before x) (λ (a : ℕ). a) g (λ a x i. a + same x i) 0 xs

-- lists of each element
pub flat_map-same : {X Y Z : Type 0} (of : Y → List Z) (before : X → List Z) (g : X → Y) → ((x : X) → of (g x) ≡ before x) → (xs : List X) → flat_map of (map g xs) ≡ flat_map before xs
flat_map-same of before g same [] = refl
flat_map-same of before g same (x ∷ xs) = λ i. same x i ++ flat_map-same of before g same xs i

pub flat_map-mapped : {X Y Z W : Type 0} (of : Y → List W) (before : X → List Z) (g : X → Y) (h : Z → W) → ((x : X) → of (g x) ≡ map h (before x)) → (xs : List X)
    → flat_map of (map g xs) ≡ map h (flat_map before xs)
flat_map-mapped of before g h same [] = refl
flat_map-mapped of before g h same (x ∷ xs) = (λ i. same x i ++ flat_map-mapped of before g h same xs i) ∙ sym (map-append h (before x) (flat_map before xs))

-- what is as it was
pub map-same : {X Y Z : Type 0} (of : Y → Z) (before : X → Z) (g : X → Y) → ((x : X) → of (g x) ≡ before x) → (xs : List X) → map of (map g xs) ≡ map before xs
map-same of before g same [] = refl
map-same of before g same (x ∷ xs) = λ i. same x i ∷ map-same of before g same xs i

pub map-swapped : {X Y : Type 0} (of : Y → Y) (before : X → X) (g : X → Y) → ((x : X) → of (g x) ≡ g (before x)) → (xs : List X) → map of (map g xs) ≡ map g (map before xs)
map-swapped of before g same [] = refl
map-swapped of before g same (x ∷ xs) = λ i. same x i ∷ map-swapped of before g same xs i
