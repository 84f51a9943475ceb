-- Lemmas on the names of numbers: they are in the order of the numbers.
use Rattle.std.proofs.Common.{◌≡◌, ℕ, ◌<◌, refl, ◌∙◌, ap, inl, inr, arith}
use Rattle.std.specs.Ordering.{nat_cmp, ordering_reverse}
use Rattle.std.specs.declared.cmp.Ordering.TheVariants.{Less, Equal, Greater}
use Rattle.std.proofs.lemmas.Bool.{cases_order, lt-ltb, le-ltb, eq-eqb, ne_eqb}
use Rattle.std.proofs.lemmas.Cmp.{nat_list_cmp_total}
use Rattle.ktm_links.specs.Mapped.{name_cmp}
use Rattle.ktm_links.proofs.offered.Names.{name_same}
use Rattle.txf_tree.specs.Places.{number_bytes}
use Rattle.txf_tree.proofs.Digits.{number_bytes-less}

pub cmp-less : (a b : ℕ) → a < b → nat_cmp a b ≡ Less
cmp-less a b less = rw (lt-ltb a b less) refl

pub cmp-same : (a b : ℕ) → a ≡ b → nat_cmp a b ≡ Equal
cmp-same a b same = rw (le-ltb a b (omega arith), eq-eqb a b same) refl

pub cmp-more : (a b : ℕ) → b < a → nat_cmp a b ≡ Greater
cmp-more a b more = rw (le-ltb a b (omega arith), ne_eqb a b (λ same. omega arith)) refl

pub name_cmp-numbers : (a b : ℕ) → name_cmp (number_bytes a) (number_bytes b) ≡ nat_cmp a b
name_cmp-numbers a b = elim (cases_order a b) [
  | inl same ↦ rw (cmp-same a b same, same) (name_same (number_bytes b))
  | inr (inl less) ↦ rw (cmp-less a b less) (number_bytes-less a b less)
  | inr (inr more) ↦
      rw (cmp-more a b more)
      (nat_list_cmp_total.antisymm (number_bytes a) (number_bytes b) ∙ ap ordering_reverse (number_bytes-less b a more))
]
