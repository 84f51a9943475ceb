-- Lemmas on the digits of a number to the base 256.
use Rattle.std.proofs.Common.{◌≡◌, ℕ, zero, suc, ◌/◌, ◌%◌, ◌^◌, ◌<◌, List, [], ◌∷◌, ◌++◌, refl, ◌∙◌, inl, inr, arith}
use Rattle.std.specs.Int.{w64, to_be_bytes}
use Rattle.std.specs.declared.cmp.Ordering.TheVariants.{Less}
use Rattle.std.proofs.lemmas.Bool.{cases_lt, lt-ltb}
use Rattle.std.proofs.lemmas.Cmp.{nat_cmp_total, tied_itself}
use Rattle.std.specs.Cmp.Lexicographic.{slice_cmp}
use Rattle.std.specs.Ordering.{nat_cmp}
use Rattle.ktm_base.specs.Order.{digits}

first_less : (a b : ℕ) (r s : List ℕ) → a < b → slice_cmp nat_cmp (a ∷ r) (b ∷ s) ≡ Less
first_less a b r s less = rw (lt-ltb a b less) refl

-- behind the same digits the rest decides
pub digits-alike : (k c : ℕ) (r s : List ℕ) → slice_cmp nat_cmp (digits k c r) (digits k c s) ≡ slice_cmp nat_cmp r s
digits-alike zero c r s = rw (tied_itself nat_cmp_total c) refl
digits-alike (suc k) c r s =
    digits-alike k (c / 256) (c % 256 ∷ r) (c % 256 ∷ s) ∙ rw (tied_itself nat_cmp_total (c % 256)) refl

-- digits are in the order of their numbers
pub digits-less : (k a b : ℕ) (r s : List ℕ) → a < b → slice_cmp nat_cmp (digits k a r) (digits k b s) ≡ Less
digits-less zero a b r s less = first_less a b r s less
digits-less (suc k) a b r s less =
    elim (cases_lt (a / 256) (b / 256)) [
      | inl high ↦ digits-less k (a / 256) (b / 256) (a % 256 ∷ r) (b % 256 ∷ s) high
      | inr low ↦
          let same : a / 256 ≡ b / 256 = omega arith in
          let rest : a % 256 < b % 256 = omega arith in
          rw same (digits-alike k (b / 256) (a % 256 ∷ r) (b % 256 ∷ s) ∙ first_less (a % 256) (b % 256) r s rest)
    ]

-- digits tell the number, and what stands behind them
pub digits-same : (k a b : ℕ) (r s : List ℕ) → digits k a r ≡ digits k b s → (a ≡ b) × (r ≡ s)
digits-same zero a b r s same = (cc, cc)
digits-same (suc k) a b r s same =
    let inner = digits-same k (a / 256) (b / 256) (a % 256 ∷ r) (b % 256 ∷ s) same in
    let high : a / 256 ≡ b / 256 = inner.0 in
    let tails : a % 256 ∷ r ≡ b % 256 ∷ s = inner.1 in
    let low : a % 256 ≡ b % 256 = cc in
    (omega arith, cc)

pub digits-append : (k n : ℕ) (r t : List ℕ) → digits k n r ++ t ≡ digits k n (r ++ t)
digits-append zero n r t = refl
digits-append (suc k) n r t = digits-append k (n / 256) (n % 256 ∷ r) t

-- the bytes of a number of 64 bits are its digits
pub to_be_bytes-digits : (n : ℕ) → n < 2 ^ 64 → to_be_bytes w64 n ≡ digits 7 n []
to_be_bytes-digits n fits =
    let p2 : n / 65536 ≡ n / 256 / 256 = omega arith in
    let p3 : n / 16777216 ≡ n / 256 / 256 / 256 = omega arith in
    let p4 : n / 4294967296 ≡ n / 256 / 256 / 256 / 256 = omega arith in
    let p5 : n / 1099511627776 ≡ n / 256 / 256 / 256 / 256 / 256 = omega arith in
    let p6 : n / 281474976710656 ≡ n / 256 / 256 / 256 / 256 / 256 / 256 = omega arith in
    let p7 : n / 72057594037927936 % 256 ≡ n / 256 / 256 / 256 / 256 / 256 / 256 / 256 = omega arith in
    λ i. p7 i ∷ (p6 i % 256) ∷ (p5 i % 256) ∷ (p4 i % 256) ∷ (p3 i % 256) ∷ (p2 i % 256) ∷ (n / 256 % 256) ∷ (n % 256) ∷ []
