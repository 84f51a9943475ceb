-- Lemmas on whether an element of a list passes a test.
use Rattle.std.proofs.Common.{◌≡◌, ◌||◌, ◌&&◌, Bool, true, false, List, [], ◌∷◌, map, filter, refl, ap, ◌∙◌, inl, inr}
use Rattle.std.specs.List.{list_any}
use Rattle.std.proofs.lemmas.Bool.{cases_Bool, or_cases, or_left, or_right}

module _ {X : Type 0} where
  -- an element that passes, and which others find too
  pub record IsSome (p : X → Bool) (xs : List X) : Type 0 where
    pub one : X
    pub so : p one ≡ true
    pub among : (q : X → Bool) → q one ≡ true → list_any q xs ≡ true

  pub some_of : (p : X → Bool) (xs : List X) → list_any p xs ≡ true → IsSome p xs
  some_of p [] any = absurd (cc)
  some_of p (x ∷ xs) any =
      elim (or_cases (p x) (list_any p xs) any) [
        | inl here ↦ record { one = x; so = here; among = λ q so. or_left (q x) (list_any q xs) so }
        | inr behind ↦
            let rest = some_of p xs behind in
            record { one = rest.one; so = rest.so; among = λ q so. or_right (q x) (list_any q xs) (rest.among q so) }
      ]

  -- none passes where each that did would be wrong
  pub none_of : (p : X → Bool) (xs : List X) → (IsSome p xs → ⊥) → list_any p xs ≡ false
  none_of p xs wrong =
      elim (cases_Bool (list_any p xs)) [ inl any ↦ absurd (wrong (some_of p xs any)) | inr none ↦ none ]

-- ---- whether one passes, over lists made of others
pub any-map : {X Y : Type 0} (f : Y → Bool) (g : X → Y) (xs : List X) → list_any f (map g xs) ≡ list_any (λ x. f (g x)) xs
any-map f g [] = refl
any-map f g (x ∷ xs) = ap (λ b. f (g x) || b) (any-map f g xs)

pub any-filter : {X : Type 0} (f g : X → Bool) (xs : List X) → list_any f (filter g xs) ≡ list_any (λ x. g x && f x) xs
any-filter f g [] = refl
any-filter f g (x ∷ xs) =
    elim (cases_Bool (g x)) [
      | inl passes ↦ rw passes (ap (λ b. f x || b) (any-filter f g xs))
      | inr not_so ↦ rw not_so (any-filter f g xs)
    ]

-- tests that say the same of each element find the same
pub any_agree : {X : Type 0} (f g : X → Bool) (xs : List X) → ((x : X) → ((q : X → Bool) → q x ≡ true → list_any q xs ≡ true) → f x ≡ g x) → list_any f xs ≡ list_any g xs
any_agree f g [] same = refl
any_agree f g (x ∷ xs) same =
    ap (λ b. b || list_any f xs) (same x (λ q so. or_left (q x) (list_any q xs) so))
    ∙ ap (λ b. g x || b) (any_agree f g xs (λ y among. same y (λ q so. or_right (q x) (list_any q xs) (among q so))))

pub any_same : {X : Type 0} (f g : X → Bool) → ((x : X) → f x ≡ g x) → (xs : List X) → list_any f xs ≡ list_any g xs
any_same f g same xs = any_agree f g xs (λ x among. same x)

pub any_false : {X : Type 0} (f : X → Bool) → ((x : X) → f x ≡ false) → (xs : List X) → list_any f xs ≡ false
any_false f none [] = refl
any_false f none (x ∷ xs) = ap (λ b. b || list_any f xs) (none x) ∙ any_false f none xs

or_regroup : (a b x y : Bool) → ((a || b) || (x || y)) ≡ ((a || x) || (b || y))
or_regroup true b x y = refl
or_regroup false true true y = refl
or_regroup false true false y = refl
or_regroup false false x y = refl

pub any_or : {X : Type 0} (f g : X → Bool) (xs : List X) → list_any (λ x. f x || g x) xs ≡ (list_any f xs || list_any g xs)
any_or f g [] = refl
any_or f g (x ∷ xs) = ap (λ b. (f x || g x) || b) (any_or f g xs) ∙ or_regroup (f x) (g x) (list_any f xs) (list_any g xs)
