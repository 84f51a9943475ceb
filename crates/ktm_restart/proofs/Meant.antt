-- Changes that come to mean what they say on pages, one after another in place.
use Rattle.std.proofs.Common.{◌≡◌, ℕ, suc, ◌+◌, ◌<◌, ◌&&◌, Bool, true, false, List, [], ◌∷◌, ◌++◌, length, get_or, map, set, refl, sym, ◌∙◌, ap, arith, append_assoc}
use Rattle.std.specs.List.{flat_map, list_all}
use Rattle.std.proofs.lemmas.List.{append-nil}
use Rattle.std.proofs.lemmas.List.Folds.{list_all-append}

-- a test of all that each of a list gives
pub all-flat : {X Y : Type 0} (p : Y → Bool) (f : X → List Y) (xs : List X) → list_all p (flat_map f xs) ≡ list_all (λ x. list_all p (f x)) xs
all-flat p f [] = refl
all-flat p f (x ∷ xs) = list_all-append p (f x) (flat_map f xs) ∙ ap (λ b. list_all p (f x) && b) (all-flat p f xs)

-- the element behind others, and another one in its place
at-behind : {X : Type 0} (front : List X) (x : X) (rest : List X) (d : X) → get_or (front ++ x ∷ rest) (length front) d ≡ x
at-behind [] x rest d = refl
at-behind (y ∷ front) x rest d = at-behind front x rest d

set-behind : {X : Type 0} (front : List X) (x : X) (rest : List X) (y : X) → set (front ++ x ∷ rest) (length front) y ≡ front ++ y ∷ rest
set-behind [] x rest y = refl
set-behind (z ∷ front) x rest y = ap (λ l. z ∷ l) (set-behind front x rest y)

-- so many of a list passed a test, and are what it makes of them
pub record ChangedSoFar {X : Type 0} (test : X → Bool) (step : X → X) (before : List X) (many : ℕ) (now : List X) : Type 0 where
  pub front : List X
  pub back : List X
  pub all : before ≡ front ++ back
  pub long : length front ≡ many
  pub passed : list_all test front ≡ true
  pub is : now ≡ map step front ++ back

module _ {X : Type 0} (test : X → Bool) (step : X → X) where
  pub none-changed : (before : List X) → ChangedSoFar test step before 0 before
  none-changed before = record { front = []; back = before; all = refl; long = refl; passed = refl; is = refl }

  map-long : (xs : List X) → length (map step xs) ≡ length xs
  map-long [] = refl
  map-long (x ∷ xs) = ap suc (map-long xs)

  map-behind : (xs : List X) (y : X) → map step (xs ++ y ∷ []) ≡ map step xs ++ step y ∷ []
  map-behind [] y = refl
  map-behind (x ∷ xs) y = ap (λ l. step x ∷ l) (map-behind xs y)

  all-behind : (xs : List X) (y : X) → list_all test xs ≡ true → test y ≡ true → list_all test (xs ++ y ∷ []) ≡ true
  all-behind xs y all last = list_all-append test xs (y ∷ []) ∙ ap (λ b. b && (test y && true)) all ∙ ap (λ b. b && true) last

  long-behind : (xs : List X) (y : X) → length (xs ++ y ∷ []) ≡ length xs + 1
  long-behind [] y = refl
  long-behind (x ∷ xs) y = ap suc (long-behind xs y) ∙ omega arith

  module _ (before : List X) (many : ℕ) (now : List X) (d : X) (so : ChangedSoFar test step before many now) (low : many < length now) where
    -- the next one is as it was
    record Next : Type 0 where
      at : X
      rest : List X
      back_is : so.back ≡ at ∷ rest

    length-both : (xs ys : List X) → length (xs ++ ys) ≡ length xs + length ys
    length-both [] ys = omega arith
    length-both (x ∷ xs) ys = ap suc (length-both xs ys) ∙ omega arith

    next : Next
    next = go so.back refl
      where
        go : (back : List X) → so.back ≡ back → Next
        go [] is = absurd (let many_is = ap length so.is ∙ length-both (map step so.front) so.back in let none = ap length is in omega (arith, many_is, none, map-long so.front, so.long, low))
        go (x ∷ xs) is = record { at = x; rest = xs; back_is = is }

    now-is : now ≡ map step so.front ++ next.at ∷ next.rest
    now-is = so.is ∙ ap (λ l. map step so.front ++ l) next.back_is

    place : length (map step so.front) ≡ many
    place = map-long so.front ∙ so.long

    next-at : get_or now many d ≡ next.at
    next-at = ap (λ n. get_or now n d) (sym place) ∙ ap (λ l. get_or l (length (map step so.front)) d) now-is ∙ at-behind (map step so.front) next.at next.rest d

    pub one-changed : (y : X) → test (get_or now many d) ≡ true → y ≡ step (get_or now many d) → ChangedSoFar test step before (many + 1) (set now many y)
    one-changed y passes made = record {
      front = so.front ++ next.at ∷ [];
      back = next.rest;
      all = so.all ∙ ap (λ l. so.front ++ l) next.back_is ∙ sym (append_assoc so.front (next.at ∷ []) next.rest);
      long = long-behind so.front next.at ∙ ap (λ n. n + 1) so.long;
      passed = all-behind so.front next.at so.passed (ap test (sym next-at) ∙ passes);
      is =
          ap (λ n. set now n y) (sym place) ∙ ap (λ l. set l (length (map step so.front)) y) now-is ∙ set-behind (map step so.front) next.at next.rest y
          ∙ sym (ap (λ l. l ++ next.rest) (map-behind so.front next.at) ∙ append_assoc (map step so.front) (step next.at ∷ []) next.rest ∙ ap (λ z. map step so.front ++ z ∷ next.rest) (ap step (sym next-at) ∙ sym made));
    }

    -- where it does not pass, not all do
    pub one-fails : test (get_or now many d) ≡ false → list_all test before ≡ false
    one-fails fails =
        ap (list_all test) (so.all ∙ ap (λ l. so.front ++ l) next.back_is) ∙ list_all-append test so.front (next.at ∷ next.rest) ∙ ap (λ b. b && list_all test (next.at ∷ next.rest)) so.passed
        ∙ ap (λ b. b && list_all test next.rest) (ap test (sym next-at) ∙ fails)

  pub all-changed : (before : List X) (now : List X) → (many : ℕ) → many ≡ length before → ChangedSoFar test step before many now → (list_all test before ≡ true) × (now ≡ map step before)
  all-changed before now many whole so = go so.back refl
    where
      both : (xs ys : List X) → length (xs ++ ys) ≡ length xs + length ys
      both [] ys = omega arith
      both (x ∷ xs) ys = ap suc (both xs ys) ∙ omega arith

      go : (back : List X) → so.back ≡ back → (list_all test before ≡ true) × (now ≡ map step before)
      go [] none =
          let all : before ≡ so.front = so.all ∙ ap (λ l. so.front ++ l) none ∙ append-nil so.front in
          (ap (list_all test) all ∙ so.passed, so.is ∙ ap (λ l. map step so.front ++ l) none ∙ append-nil (map step so.front) ∙ ap (map step) (sym all))
      go (x ∷ xs) more = absurd (let total = ap length so.all ∙ both so.front so.back in let long = ap length more in omega (arith, total, long, so.long, whole))
