-- What is read in decimal digits is what is spelled in them.
use Rattle.std.proofs.Common.{◌≡◌, ◌≢◌, ℕ, ◌+◌, ◌-◌, ◌*◌, ◌/◌, ◌%◌, ◌^◌, ◌<◌, ◌≤◌, nat_eq, nat_le, true, false, List, [], ◌∷◌, ◌++◌, Some, refl, sym, ap, ◌∙◌, arith, inl, inr, append_assoc}
use Rattle.std.proofs.lemmas.Bool.{cases_Bool, cases_lt, cases_eq, le-leb}
use Rattle.std.proofs.lemmas.Fmt.{decimal_by_steps, decimal_digit, decimal_step}
use Rattle.std.proofs.lemmas.List.{append-nil}
use Rattle.std.proofs.lemmas.Option.{some_pair_parts}
use Rattle.std.specs.Char.{is_ascii_digit}
use Rattle.std.specs.Fmt.{decimal}
use Rattle.ktm_codec.specs.Number.{digits_at, last_number_at, number_at, starts_with_digit}
use Rattle.ktm_codec.proofs.Steps.{bind_some, at_end_is}

-- one digit more
digits-cons : (most value c : ℕ) (cs : List ℕ) → is_ascii_digit c ≡ true → value * 10 + (c - 48) ≤ most
    → digits_at most value (c ∷ cs) ≡ digits_at most (value * 10 + (c - 48)) cs
unfolding digits_at
digits-cons most value c cs digit small = rw (digit, le-leb _ _ small) refl

digits-end : (most value : ℕ) (rest : List ℕ) → starts_with_digit rest ≡ false → digits_at most value rest ≡ Some (value, rest)
unfolding digits_at
digits-end most value [] e = refl
digits-end most value (c ∷ cs) e = rw e refl

abbrev Runs : ℕ → ℕ → List ℕ → Type 0
Runs most n ds = n ≤ most → (rest : List ℕ) → digits_at most 0 (ds ++ rest) ≡ digits_at most n rest

-- the digits of a number, read from the front
digits-run : (most n : ℕ) → most < 2 ^ 64 → n ≤ most → (rest : List ℕ) → digits_at most 0 (decimal n ++ rest) ≡ digits_at most n rest
digits-run most n fits small rest = decimal_by_steps (Runs most)
    (λ k low within r.
    let digit : is_ascii_digit (48 + k) ≡ true = grind arith in
    let value : 0 * 10 + ((48 + k) - 48) ≡ k = omega arith in
    digits-cons most 0 (48 + k) r digit (omega arith) ∙ rw value refl)
    (λ k ds big ih within r.
    let last = 48 + k % 10 in
    let digit : is_ascii_digit last ≡ true = grind arith in
    let value : (k / 10) * 10 + (last - 48) ≡ k = omega arith in
    rw (append_assoc ds (last ∷ []) r) (ih (omega arith) (last ∷ r) ∙ digits-cons most (k / 10) last r digit (omega arith) ∙ rw value refl))
    n (omega arith) small rest

abbrev Begins : ℕ → List ℕ → Type 0
Begins n ds = 0 < n → (c : ℕ) × (cs : List ℕ) × (ds ≡ c ∷ cs) × (is_ascii_digit c ≡ true) × (48 < c)

-- a number other than 0 begins with a digit other than 0
first_digit : (n : ℕ) → n < 2 ^ 64 → 0 < n → (c : ℕ) × (cs : List ℕ) × (decimal n ≡ c ∷ cs) × (is_ascii_digit c ≡ true) × (48 < c)
first_digit n fits some = decimal_by_steps Begins
    (λ k low above.
    let digit : is_ascii_digit (48 + k) ≡ true = grind arith in
    (48 + k, [], refl, digit, omega arith))
    (λ k ds big ih above.
    let front = ih (omega arith) in
    (front.0, front.1 ++ (48 + k % 10) ∷ [], ap (λ (xs : List ℕ). xs ++ (48 + k % 10) ∷ []) front.2, front.3, front.4))
    n fits some

number-digits : (most c : ℕ) (cs : List ℕ) → is_ascii_digit c ≡ true → 48 < c → number_at most (c ∷ cs) ≡ digits_at most 0 (c ∷ cs)
unfolding number_at
number-digits most c cs digit above =
    let other : nat_eq c 48 ≡ false = grind arith in
    rw (other, digit) refl

number-positive : (most n : ℕ) (rest : List ℕ) → most < 2 ^ 64 → n ≤ most → 0 < n → starts_with_digit rest ≡ false
    → number_at most (decimal n ++ rest) ≡ Some (n, rest)
number-positive most n rest fits small some ends =
    let front = first_digit n (omega arith) some in
    let run = digits-run most n fits small rest ∙ digits-end most n rest ends in
    ap (λ (ds : List ℕ). number_at most (ds ++ rest)) front.2
    ∙ number-digits most front.0 (front.1 ++ rest) front.3 front.4
    ∙ ap (λ (ds : List ℕ). digits_at most 0 (ds ++ rest)) (sym front.2)
    ∙ run

number-zero : (most : ℕ) (rest : List ℕ) → number_at most (decimal 0 ++ rest) ≡ Some (0, rest)
unfolding number_at
number-zero most rest = ap (λ (ds : List ℕ). number_at most (ds ++ rest)) (decimal_digit 0 (omega arith))

-- what is spelled in digits is read, where they end
pub number_again : (most n : ℕ) (rest : List ℕ) → most < 2 ^ 64 → n ≤ most → starts_with_digit rest ≡ false
    → number_at most (decimal n ++ rest) ≡ Some (n, rest)
number_again most n rest fits small ends = elim (cases_lt 0 n) [
  | inl some ↦ number-positive most n rest fits small some ends
  | inr none ↦ let zero_is : n ≡ 0 = omega arith in rw zero_is (number-zero most rest)
]

-- digits that were read go on to spell what was read
digits_is : (most value : ℕ) (text : List ℕ) (n : ℕ) (rest : List ℕ) → most < 2 ^ 64 → 0 < value → value ≤ most
    → digits_at most value text ≡ Some (n, rest) → (n ≤ most) × (decimal value ++ text ≡ decimal n ++ rest)
unfolding digits_at
digits_is most value [] n rest fits some small e =
    let parts = some_pair_parts value n [] rest e in
    (rw (← parts.0) small, rw (parts.0, parts.1) refl)
digits_is most value (c ∷ cs) n rest fits some small e = elim (cases_Bool (is_ascii_digit c)) [
  | inl digit ↦ elim (cases_Bool (nat_le (value * 10 + (c - 48)) most)) [
    | inl within ↦
        let range : (48 ≤ c) × (c ≤ 57) = grind arith in
        let bound : value * 10 + (c - 48) ≤ most = grind arith in
        let next = rw (digit, within) at e in
        let ih = digits_is most (value * 10 + (c - 48)) cs n rest fits (omega arith) bound next in
        let step = decimal_step (value * 10 + (c - 48)) (omega arith) (omega arith) in
        let top : (value * 10 + (c - 48)) / 10 ≡ value = omega arith in
        let low : 48 + (value * 10 + (c - 48)) % 10 ≡ c = omega arith in
        let spelled : decimal (value * 10 + (c - 48)) ≡ decimal value ++ c ∷ [] = rw (top, low) at step in
        (ih.0, sym (append_assoc (decimal value) (c ∷ []) cs) ∙ ap (λ (ds : List ℕ). ds ++ cs) (sym spelled) ∙ ih.1)
    | inr beyond ↦ cc (rw (digit, beyond) at e)
  ]
  | inr other ↦
      let parts = some_pair_parts value n (c ∷ cs) rest (rw other at e) in
      (rw (← parts.0) small, rw (parts.0, parts.1) refl)
]

digits_first : (most c : ℕ) (cs : List ℕ) (n : ℕ) (rest : List ℕ) → most < 2 ^ 64 → is_ascii_digit c ≡ true → c ≢ 48
    → digits_at most 0 (c ∷ cs) ≡ Some (n, rest) → (n ≤ most) × (c ∷ cs ≡ decimal n ++ rest)
unfolding digits_at
digits_first most c cs n rest fits digit other e = elim (cases_Bool (nat_le (0 * 10 + (c - 48)) most)) [
  | inl within ↦
      let range : (48 ≤ c) × (c ≤ 57) = grind arith in
      let bound : 0 * 10 + (c - 48) ≤ most = grind arith in
      let value : 0 * 10 + (c - 48) ≡ c - 48 = omega arith in
      let next = rw (digit, within, value) at e in
      let ih = digits_is most (c - 48) cs n rest fits (omega arith) (omega arith) next in
      let one = decimal_digit (c - 48) (omega arith) in
      let same : 48 + (c - 48) ≡ c = omega arith in
      let spelled : decimal (c - 48) ≡ c ∷ [] = rw same at one in
      (ih.0, ap (λ (ds : List ℕ). ds ++ cs) (sym spelled) ∙ ih.1)
  | inr beyond ↦ cc (rw (digit, beyond) at e)
]

-- what is read is spelled so
pub number_is : (most : ℕ) (text : List ℕ) (n : ℕ) (rest : List ℕ) → most < 2 ^ 64 → number_at most text ≡ Some (n, rest)
    → (n ≤ most) × (text ≡ decimal n ++ rest)
unfolding number_at
number_is most [] n rest fits e = cc
number_is most (c ∷ cs) n rest fits e = elim (cases_eq c 48) [
  | inl zero_is ↦
      let test : nat_eq c 48 ≡ true = grind arith in
      let parts = some_pair_parts 0 n cs rest (rw test at e) in
      let spelled : decimal n ≡ 48 ∷ [] = rw (← parts.0) (decimal_digit 0 (omega arith)) in
      (omega (arith, parts.0), rw (zero_is, spelled, parts.1) refl)
  | inr other ↦
      let test : nat_eq c 48 ≡ false = grind arith in
      elim (cases_Bool (is_ascii_digit c)) [
        | inl digit ↦ digits_first most c cs n rest fits digit other (rw (test, digit) at e)
        | inr no_digit ↦ cc (rw (test, no_digit) at e)
      ]
]

pub last_number_is : (most : ℕ) (text : List ℕ) (n : ℕ) → most < 2 ^ 64 → last_number_at most text ≡ Some n → (n ≤ most) × (text ≡ decimal n)
unfolding last_number_at
last_number_is most text n fits e = bind_some _ (number_at most text) n e (λ read f end.
    let whole = at_end_is read.0 n read.1 end in
    let number = number_is most text read.0 read.1 fits f in
    let spelled : text ≡ decimal read.0 = number.1 ∙ rw whole.0 (append-nil (decimal read.0)) in
    (rw (← whole.1) number.0, rw (← whole.1) spelled))

pub last_number_again : (most n : ℕ) → most < 2 ^ 64 → n ≤ most → last_number_at most (decimal n) ≡ Some n
unfolding last_number_at
last_number_again most n fits within =
    let read : number_at most (decimal n) ≡ Some (n, []) = rw append-nil at (number_again most n [] fits within refl) in
    rw read refl
