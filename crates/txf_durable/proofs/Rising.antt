-- Lemmas on numbers that rise.
use Rattle.std.proofs.Common.{◌≡◌, ℕ, ◌<◌, ◌≤◌, ◌==◌, zero, suc, Bool, true, false, List, [], ◌∷◌, length, get_or, nat_lt, refl, ap, arith, subst, nat_cmp, inl, inr, lt-ltb, ltb-true, ltb-false, eq-eqb, ne_eqb}
use Rattle.std.specs.Prelude.{if◌then◌else◌, Ok, Err}
use Rattle.std.specs.List.{insert, remove}
use Rattle.std.specs.List.Sorted.{IsBinarySearchResult}
use Rattle.std.proofs.lemmas.Bool.{cases_Bool, eqb-false}
use Rattle.std.proofs.lemmas.List.Sorted.{searched}
use Rattle.ktm_world.specs.Committed.{with_number, without_number}
use Rattle.txf_durable.specs.Numbers.{AreAbove, AreNumbersRising}

above-lower : (ns : List ℕ) (a b : ℕ) → a < b → AreAbove b ns → AreAbove a ns
above-lower [] a b low above = tt
above-lower (n ∷ ns) a b low above = (omega (arith, low, above.0), above-lower ns a b low above.1)

above-at : (ns : List ℕ) (n i : ℕ) → AreAbove n ns → i < length ns → n < get_or ns i 0
above-at [] n i above within = absurd (omega (arith, within))
above-at (m ∷ ms) n zero above within = above.0
above-at (m ∷ ms) n (suc i) above within = above-at ms n i above.1 (omega (arith, within))

-- they can be searched by halves
sorted : (ns : List ℕ) → AreNumbersRising ns → (i j : ℕ) → i ≤ j → j < length ns → get_or ns i 0 ≤ get_or ns j 0
sorted [] rising i j low within = absurd (omega (arith, within))
sorted (n ∷ ns) rising zero zero low within = omega arith
sorted (n ∷ ns) rising zero (suc j) low within = omega (arith, above-at ns n j rising.0 (omega (arith, within)))
sorted (n ∷ ns) rising (suc i) zero low within = absurd (omega (arith, low))
sorted (n ∷ ns) rising (suc i) (suc j) low within = sorted ns rising.1 i j (omega (arith, low)) (omega (arith, within))

-- ---- one more, and one less

above-with : (ns : List ℕ) (a n : ℕ) → a < n → AreAbove a ns → AreAbove a (with_number ns n)
above-with [] a n low above = (low, tt)
above-with (m ∷ ms) a n low above = elim (cases_Bool (m == n)) [
  | inl same ↦ rw same above
  | inr other ↦ elim (cases_Bool (nat_lt n m)) [
    | inl before ↦ rw (other, before) ((low, above))
    | inr behind ↦ rw (other, behind) ((above.0, above-with ms a n low above.1))
  ]
]

rising-with : (ns : List ℕ) (n : ℕ) → AreNumbersRising ns → AreNumbersRising (with_number ns n)
rising-with [] n rising = (tt, tt)
rising-with (m ∷ ms) n rising = elim (cases_Bool (m == n)) [
  | inl same ↦ rw same rising
  | inr other ↦ elim (cases_Bool (nat_lt n m)) [
    | inl before ↦
        let low : n < m = ltb-true n m before in
        rw (other, before) (((low, above-lower ms n m low rising.0), rising))
    | inr behind ↦
        let low : m < n = let not = eqb-false m n other in let high = ltb-false n m behind in omega arith in
        rw (other, behind) ((above-with ms m n low rising.0, rising-with ms n rising.1))
  ]
]

above-without : (ns : List ℕ) (a n : ℕ) → AreAbove a ns → AreAbove a (without_number ns n)
above-without [] a n above = tt
above-without (m ∷ ms) a n above = elim (cases_Bool (m == n)) [
  | inl same ↦ rw same (above-without ms a n above.1)
  | inr other ↦ rw other ((above.0, above-without ms a n above.1))
]

rising-without : (ns : List ℕ) (n : ℕ) → AreNumbersRising ns → AreNumbersRising (without_number ns n)
rising-without [] n rising = tt
rising-without (m ∷ ms) n rising = elim (cases_Bool (m == n)) [
  | inl same ↦ rw same (rising-without ms n rising.1)
  | inr other ↦ rw other ((above-without ms m n rising.0, rising-without ms n rising.1))
]

-- ---- a number that is among them

here-with : (ns : List ℕ) (n i : ℕ) → AreNumbersRising ns → i < length ns → get_or ns i 0 ≡ n → with_number ns n ≡ ns
here-with [] n i rising within is = absurd (omega (arith, within))
here-with (m ∷ ms) n zero rising within is = rw (eq-eqb m n is) refl
here-with (m ∷ ms) n (suc i) rising within is =
    let low : m < n = omega (arith, is, above-at ms m i rising.0 (omega (arith, within))) in
    rw (ne_eqb m n (λ e. omega (arith, e, low)), ltb-not n m (omega (arith, low))) (ap (λ l. m ∷ l) (here-with ms n i rising.1 (omega (arith, within)) is))
  where
    ltb-not : (a b : ℕ) → b ≤ a → nat_lt a b ≡ false
    ltb-not a b low = search (arith, low)

without-above : (ns : List ℕ) (n : ℕ) → AreAbove n ns → without_number ns n ≡ ns
without-above [] n above = refl
without-above (m ∷ ms) n above = rw (ne_eqb m n (λ e. omega (arith, e, above.0))) (ap (λ l. m ∷ l) (without-above ms n above.1))

here-without : (ns : List ℕ) (n i : ℕ) → AreNumbersRising ns → i < length ns → get_or ns i 0 ≡ n → without_number ns n ≡ remove ns i
here-without [] n i rising within is = absurd (omega (arith, within))
here-without (m ∷ ms) n zero rising within is = rw (eq-eqb m n is) (without-above ms n (subst (λ k. AreAbove k ms) is rising.0))
here-without (m ∷ ms) n (suc i) rising within is =
    rw (ne_eqb m n (λ e. omega (arith, e, is, above-at ms m i rising.0 (omega (arith, within)))))
    (ap (λ l. m ∷ l) (here-without ms n i rising.1 (omega (arith, within)) is))

-- ---- one that is not

free-with : (ns : List ℕ) (n i : ℕ) → i ≤ length ns → ((k : ℕ) → k < i → get_or ns k 0 < n) → ((k : ℕ) → i ≤ k → k < length ns → n < get_or ns k 0) → with_number ns n ≡ insert ns i n
free-with [] n zero within less more = refl
free-with [] n (suc i) within less more = absurd (omega (arith, within))
free-with (m ∷ ms) n zero within less more =
    let high : n < m = more 0 (omega arith) (omega arith) in
    rw (ne_eqb m n (λ e. omega (arith, e, high)), lt-ltb n m high) refl
free-with (m ∷ ms) n (suc i) within less more =
    let low : m < n = less 0 (omega arith) in
    rw (ne_eqb m n (λ e. omega (arith, e, low)), ltb-not n m (omega (arith, low)))
    (ap (λ l. m ∷ l) (free-with ms n i (omega (arith, within)) (λ k low. less (suc k) (omega (arith, low))) (λ k high inside. more (suc k) (omega (arith, high)) (omega (arith, inside)))))
  where
    ltb-not : (a b : ℕ) → b ≤ a → nat_lt a b ≡ false
    ltb-not a b low = search (arith, low)

free-without : (ns : List ℕ) (n i : ℕ) → i ≤ length ns → ((k : ℕ) → k < i → get_or ns k 0 < n) → ((k : ℕ) → i ≤ k → k < length ns → n < get_or ns k 0) → without_number ns n ≡ ns
free-without [] n i within less more = refl
free-without (m ∷ ms) n zero within less more =
    rw (ne_eqb m n (λ e. omega (arith, e, more 0 (omega arith) (omega arith))))
    (ap (λ l. m ∷ l) (free-without ms n 0 (omega arith) (λ k low. absurd (omega (arith, low))) (λ k high inside. more (suc k) (omega arith) (omega (arith, inside)))))
free-without (m ∷ ms) n (suc i) within less more =
    rw (ne_eqb m n (λ e. omega (arith, e, less 0 (omega arith))))
    (ap (λ l. m ∷ l) (free-without ms n i (omega (arith, within)) (λ k low. less (suc k) (omega (arith, low))) (λ k high inside. more (suc k) (omega (arith, high)) (omega (arith, inside)))))

-- ---- what a search by halves finds, of numbers that are read elsewhere

-- the number is there, at this place
pub record IsFound (ns : List ℕ) (n i : ℕ) : Type 0 where
  pub put : with_number ns n ≡ ns
  pub taken : without_number ns n ≡ remove ns i
  pub rising : AreNumbersRising (remove ns i)

pub found : (ns read : List ℕ) (n i : ℕ) → read ≡ ns → AreNumbersRising ns → IsBinarySearchResult (λ y. nat_cmp y n) read (Ok i) → IsFound ns n i
found ns read n i same rising result =
    let at = searched ns n (Ok i) (subst (λ (ns : List ℕ). IsBinarySearchResult (λ y. nat_cmp y n) ns (Ok i)) same result) (sorted ns rising) in
    let taken = here-without ns n i rising at.0 at.1 in
    record { put = here-with ns n i rising at.0 at.1; taken = taken; rising = subst AreNumbersRising taken (rising-without ns n rising) }

-- the number is not there, and this is its place
pub record IsMissing (ns : List ℕ) (n i : ℕ) : Type 0 where
  pub put : with_number ns n ≡ insert ns i n
  pub taken : without_number ns n ≡ ns
  pub rising : (b : Bool) → AreNumbersRising (if b then insert ns i n else ns)

pub missing : (ns read : List ℕ) (n i : ℕ) → read ≡ ns → AreNumbersRising ns → IsBinarySearchResult (λ y. nat_cmp y n) read (Err i) → IsMissing ns n i
missing ns read n i same rising result =
    let at = searched ns n (Err i) (subst (λ (ns : List ℕ). IsBinarySearchResult (λ y. nat_cmp y n) ns (Err i)) same result) (sorted ns rising) in
    let put = free-with ns n i at.0 at.1 at.2 in
    record { put = put; taken = free-without ns n i at.0 at.1 at.2; rising = rises put }
  where
    rises : with_number ns n ≡ insert ns i n → (b : Bool) → AreNumbersRising (if b then insert ns i n else ns)
    rises put true = subst AreNumbersRising put (rising-with ns n rising)
    rises put false = rising
