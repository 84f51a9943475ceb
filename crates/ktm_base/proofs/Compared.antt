-- Lemmas on names that are compared byte by byte.
use Rattle.std.proofs.Common.{◌≡◌, ℕ, zero, suc, ◌+◌, ◌^◌, ◌<◌, ◌≤◌, min, List, [], ◌∷◌, ◌++◌, length, get_or, take, drop, refl, sym, ap, ◌∙◌, inl, inr, arith}
use Rattle.std.specs.declared.cmp.Ordering.{Ordering}
use Rattle.std.specs.declared.cmp.Ordering.TheVariants.{Less, Equal, Greater}
use Rattle.std.specs.Int.{w64, from_be_bytes}
use Rattle.std.specs.Cmp.Lexicographic.{slice_cmp}
use Rattle.std.specs.Ordering.{nat_cmp, ordering_reverse, ordering_then}
use Rattle.std.proofs.lemmas.Bool.{cases_lt}
use Rattle.std.proofs.lemmas.Cmp.{nat_cmp_total, nat_list_cmp_total, ranked, tied_itself}
use Rattle.std.proofs.lemmas.List.{at_drop_more, get_or-drop, get_or-take, get_or_past, length-take, take-append-drop, take-take}
use Rattle.std.proofs.lemmas.Nat.{be_bytes_8}
use Rattle.ktm_base.specs.Order.{digits}
use Rattle.ktm_base.proofs.offered.Digits.{digits-append, digits-less, to_be_bytes-digits}

-- the next bytes decide, or the rest does
next_bytes : (xs ys : List ℕ) (i : ℕ) → i < length xs → i < length ys
    → slice_cmp nat_cmp (drop i xs) (drop i ys) ≡ ordering_then (nat_cmp (get_or xs i 0) (get_or ys i 0)) (slice_cmp nat_cmp (drop (i + 1) xs) (drop (i + 1) ys))
next_bytes xs ys i inside within =
    at_drop_more (λ l. slice_cmp nat_cmp l (drop i ys)) xs i 0 inside ∙ at_drop_more (λ l. slice_cmp nat_cmp (get_or xs i 0 ∷ drop (i + 1) xs) l) ys i 0 within

pub by_differing : (xs ys : List ℕ) (i : ℕ) (o : Ordering) → i < length xs → i < length ys → (get_or xs i 0 ≡ get_or ys i 0 → ⊥)
    → o ≡ nat_cmp (get_or xs i 0) (get_or ys i 0) → slice_cmp nat_cmp (drop i xs) (drop i ys) ≡ o
by_differing xs ys i o inside within differs is =
    next_bytes xs ys i inside within ∙ ap (λ o. ordering_then o (slice_cmp nat_cmp (drop (i + 1) xs) (drop (i + 1) ys))) (sym is) ∙ decided o is
  where
    decided : (o : Ordering) → o ≡ nat_cmp (get_or xs i 0) (get_or ys i 0) → ordering_then o (slice_cmp nat_cmp (drop (i + 1) xs) (drop (i + 1) ys)) ≡ o
    decided Less is = refl
    decided Equal is = absurd (differs (ranked (get_or xs i 0) (get_or ys i 0) Equal is))
    decided Greater is = refl

pub behind_same : (xs ys : List ℕ) (i : ℕ) → i < length xs → i < length ys → get_or xs i 0 ≡ get_or ys i 0
    → slice_cmp nat_cmp (drop i xs) (drop i ys) ≡ slice_cmp nat_cmp (drop (i + 1) xs) (drop (i + 1) ys)
behind_same xs ys i inside within same = next_bytes xs ys i inside within ∙ tied (nat_cmp (get_or xs i 0) (get_or ys i 0)) refl
  where
    tied : (o : Ordering) → o ≡ nat_cmp (get_or xs i 0) (get_or ys i 0)
        → ordering_then o (slice_cmp nat_cmp (drop (i + 1) xs) (drop (i + 1) ys)) ≡ slice_cmp nat_cmp (drop (i + 1) xs) (drop (i + 1) ys)
    tied Less is = absurd (let below : get_or xs i 0 < get_or ys i 0 = ranked (get_or xs i 0) (get_or ys i 0) Less is in omega (arith, below, same))
    tied Equal is = refl
    tied Greater is = absurd (let above : get_or ys i 0 < get_or xs i 0 = ranked (get_or xs i 0) (get_or ys i 0) Greater is in omega (arith, above, same))

below : (a b : ℕ) (o : Ordering) → o ≡ nat_cmp a b → a < b → Less ≡ o
below a b Less is less = refl
below a b Equal is less = absurd (let same : a ≡ b = ranked a b Equal is in omega (arith, less, same))
below a b Greater is less = absurd (let above : b < a = ranked a b Greater is in omega (arith, less, above))

level : (a b : ℕ) (o : Ordering) → o ≡ nat_cmp a b → a ≡ b → Equal ≡ o
level a b Less is same = absurd (let less : a < b = ranked a b Less is in omega (arith, same, less))
level a b Equal is same = refl
level a b Greater is same = absurd (let above : b < a = ranked a b Greater is in omega (arith, same, above))

above : (a b : ℕ) (o : Ordering) → o ≡ nat_cmp a b → b < a → Greater ≡ o
above a b Less is more = absurd (let less : a < b = ranked a b Less is in omega (arith, more, less))
above a b Equal is more = absurd (let same : a ≡ b = ranked a b Equal is in omega (arith, more, same))
above a b Greater is more = refl

-- the rest of two names, of which one has ended after so many bytes
ended : (xs ys : List ℕ) (n a b before : ℕ) → n ≡ min (length xs) (length ys) → a ≡ length xs + before → b ≡ length ys + before
    → slice_cmp nat_cmp (drop n xs) (drop n ys) ≡ nat_cmp a b
ended [] [] zero a b before is first second = level a b (nat_cmp a b) refl (omega (arith, first, second))
ended [] (y ∷ ys) zero a b before is first second = below a b (nat_cmp a b) refl (omega (arith, first, second))
ended (x ∷ xs) [] zero a b before is first second = above a b (nat_cmp a b) refl (omega (arith, first, second))
ended (x ∷ xs) (y ∷ ys) zero a b before is first second = absurd (omega (arith, is))
ended [] ys (suc n) a b before is first second = absurd (omega (arith, is))
ended (x ∷ xs) [] (suc n) a b before is first second = absurd (omega (arith, is))
ended (x ∷ xs) (y ∷ ys) (suc n) a b before is first second =
    ended xs ys n a b (suc before) (omega (arith, is)) (omega (arith, first)) (omega (arith, second))

pub by_lengths : (xs ys : List ℕ) (n : ℕ) → n ≡ min (length xs) (length ys) → slice_cmp nat_cmp (drop n xs) (drop n ys) ≡ nat_cmp (length xs) (length ys)
by_lengths xs ys n is = ended xs ys n (length xs) (length ys) 0 is (omega arith) (omega arith)

-- ---- names that begin alike
-- the rest decides
pub behind_front : (xs ys : List ℕ) (n : ℕ) → take n xs ≡ take n ys → slice_cmp nat_cmp xs ys ≡ slice_cmp nat_cmp (drop n xs) (drop n ys)
behind_front xs ys zero same = refl
behind_front [] [] (suc n) same = refl
behind_front [] (y ∷ ys) (suc n) same = absurd (cc)
behind_front (x ∷ xs) [] (suc n) same = absurd (cc)
behind_front (x ∷ xs) (y ∷ ys) (suc n) same =
    let first : x ≡ y = cc in
    let rest : take n xs ≡ take n ys = cc in
    rw (first, tied_itself nat_cmp_total y) (behind_front xs ys n rest)

-- so they do to any place before
pub front_before : (xs ys : List ℕ) (m n : ℕ) → m ≤ n → take n xs ≡ take n ys → take m xs ≡ take m ys
front_before xs ys m n under same = sym (take-take m n xs under) ∙ ap (λ l. take m l) same ∙ take-take m n ys under

-- ---- eight bytes at a time
-- eight bytes are the digits of their number
pub eight_bytes : (bs : List ℕ) (n : ℕ) → n < 2 ^ 64 → 8 ≤ length bs → ((i : ℕ) → get_or bs i 0 < 256) → n ≡ from_be_bytes w64 (take 8 bs) → bs ≡ digits 7 n (drop 8 bs)
eight_bytes bs n fits long bytes is =
    let len : length (take 8 bs) ≡ 8 = length-take 8 bs ∙ omega (arith, long) in
    sym (take-append-drop 8 bs)
    ∙ ap (λ l. l ++ drop 8 bs) (sym (be_bytes_8 (take 8 bs) n len taken is) ∙ to_be_bytes-digits n fits)
    ∙ digits-append 7 n [] (drop 8 bs)
  where
    taken : (i : ℕ) → get_or (take 8 bs) i 0 < 256
    taken i =
        elim (cases_lt i 8) [
          | inl within ↦ rw (get_or-take 8 bs i 0 within) (bytes i)
          | inr past ↦ rw (get_or_past (take 8 bs) i 0 (omega (arith, past, length-take 8 bs))) (omega arith)
        ]

-- the first numbers decide where they differ
pub by_numbers : (a b : ℕ) (r s : List ℕ) (o : Ordering) → (a ≡ b → ⊥) → o ≡ nat_cmp a b → o ≡ slice_cmp nat_cmp (digits 7 a r) (digits 7 b s)
by_numbers a b r s Less differs is = sym (digits-less 7 a b r s (ranked a b Less is))
by_numbers a b r s Equal differs is = absurd (differs (ranked a b Equal is))
by_numbers a b r s Greater differs is =
    sym
    (nat_list_cmp_total.antisymm (digits 7 a r) (digits 7 b s) ∙ ap (λ o. ordering_reverse o) (digits-less 7 b a s r (ranked a b Greater is)))

-- eight bytes more are the same where they are the same number
pub eight_more : (xs ys : List ℕ) (at more n : ℕ) (r s : List ℕ) → more ≡ at + 8 → take at xs ≡ take at ys → drop at xs ≡ digits 7 n r → drop at ys ≡ digits 7 n s
    → take more xs ≡ take more ys
eight_more xs ys zero more n r s is same first second = rw is (ap (λ l. take 8 l) first ∙ sym (ap (λ l. take 8 l) second))
eight_more xs ys (suc at) zero n r s is same first second = absurd (omega (arith, is))
eight_more [] [] (suc at) (suc more) n r s is same first second = refl
eight_more [] (y ∷ ys) (suc at) (suc more) n r s is same first second = absurd (cc)
eight_more (x ∷ xs) [] (suc at) (suc more) n r s is same first second = absurd (cc)
eight_more (x ∷ xs) (y ∷ ys) (suc at) (suc more) n r s is same first second =
    let start : x ≡ y = cc in
    let rest : take at xs ≡ take at ys = cc in
    let behind = eight_more xs ys at more n r s (omega (arith, is)) rest first second in
    cc

-- the bytes behind a place are bytes
pub bytes_behind : (bs : List ℕ) (at : ℕ) → ((i : ℕ) → get_or bs i 0 < 256) → (i : ℕ) → get_or (drop at bs) i 0 < 256
bytes_behind bs at bytes i = rw (get_or-drop at bs i 0) (bytes (at + i))
