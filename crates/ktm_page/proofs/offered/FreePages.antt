-- How many pages are free, as holders come and go.
use Rattle.std.proofs.Common.{◌≡◌, ℕ, zero, suc, ◌+◌, ◌<◌, ◌==◌, if◌then◌else◌, refl, sym, ◌∙◌, ap, inl, inr, arith}
use Rattle.std.proofs.lemmas.Bool.{cases_lt}
use Rattle.ktm_page.specs.Space.{OthersStay, free_below}

-- one where there is no holder
abbrev pub one_free : ℕ → ℕ
one_free n = if n == 0 then 1 else 0

-- pages with the same holders are free alike
pub free-same : (old new : ℕ → ℕ) (n : ℕ) → ((page : ℕ) → page < n → new page ≡ old page) → free_below new n ≡ free_below old n
free-same old new zero same = refl
free-same old new (suc n) same =
    ap (λ (k : ℕ). one_free k + free_below new n) (same n (omega arith))
    ∙ ap (λ (k : ℕ). one_free (old n) + k) (free-same old new n (λ page below. same page (omega (arith, below))))

-- where one page alone changes, as many are free as it says
pub free-changed : (old new : ℕ → ℕ) (n page : ℕ) → page < n → OthersStay old page new → free_below new n + one_free (old page) ≡ free_below old n + one_free (new page)
free-changed old new zero page below others = absurd (omega (arith, below))
free-changed old new (suc n) page below others = elim (cases_lt page n) [
  | inr least ↦ (let is : page ≡ n = omega (arith, least, below) in
      let rest = free-same old new n (λ other smaller. others other (λ same. omega (arith, is, same, smaller))) in
      let top : new n ≡ new page = ap new (sym is) in
      let was : old n ≡ old page = ap old (sym is) in
      rw (top, was) (omega (arith, rest)))
  | inl smaller ↦ (let rest = free-changed old new n page smaller others in
      let top : new n ≡ old n = others n (λ same. omega (arith, same, smaller)) in
      rw top (omega (arith, rest)))
]
