-- Lemmas on the bytes of a number.
use Rattle.std.proofs.Common.{◌≡◌, ℕ, ◌^◌, ◌<◌, List, [], ◌++◌, length, refl, sym, ap, ◌∙◌}
use Rattle.std.specs.Int.{w64, to_be_bytes}
use Rattle.std.specs.declared.cmp.Ordering.TheVariants.{Less}
use Rattle.ktm_links.specs.Mapped.{name_cmp, Begins}
use Rattle.ktm_base.specs.Order.{digits}
use Rattle.ktm_base.proofs.offered.Digits.{digits-alike, digits-append, digits-less, digits-same, to_be_bytes-digits}
use Rattle.txf_nodes.specs.Places.{number_bytes}

-- bytes of numbers are in the order of the numbers
pub number_bytes-less : (a b : ℕ) → a < b → name_cmp (number_bytes a) (number_bytes b) ≡ Less
unfolding number_bytes
number_bytes-less a b less = digits-less 7 a b [] [] less

-- behind the bytes of one number the rest decides
pub number_bytes-alike : (n : ℕ) (r s : List ℕ) → name_cmp (number_bytes n ++ r) (number_bytes n ++ s) ≡ name_cmp r s
unfolding number_bytes
number_bytes-alike n r s =
    ap (λ l. name_cmp l (digits 7 n [] ++ s)) (digits-append 7 n [] r) ∙ ap (name_cmp (digits 7 n r)) (digits-append 7 n [] s) ∙ digits-alike 7 n r s

-- the bytes tell the number, and what stands behind them
pub number_bytes-same : (a b : ℕ) (r s : List ℕ) → number_bytes a ++ r ≡ number_bytes b ++ s → (a ≡ b) × (r ≡ s)
unfolding number_bytes
number_bytes-same a b r s same = digits-same 7 a b r s (sym (digits-append 7 a [] r) ∙ same ∙ digits-append 7 b [] s)

pub number_bytes-one : (a b : ℕ) → number_bytes a ≡ number_bytes b → a ≡ b
unfolding number_bytes
number_bytes-one a b same = (digits-same 7 a b [] [] same).0

-- the bytes of a number begin its names alone
pub number_begins : (a b : ℕ) (r : List ℕ) → Begins (number_bytes a) (number_bytes b ++ r) → b ≡ a
number_begins a b r begins = (number_bytes-same b a r begins.after begins.is).0

pub length-number_bytes : (n : ℕ) → length (number_bytes n) ≡ 8
unfolding number_bytes
length-number_bytes n = refl

pub to_be_bytes-is : (n : ℕ) → n < 2 ^ 64 → to_be_bytes w64 n ≡ number_bytes n
unfolding number_bytes
to_be_bytes-is n fits = to_be_bytes-digits n fits
