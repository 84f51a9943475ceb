-- Lemmas on the order of names.
use Rattle.std.proofs.Common.{◌≡◌, ◌/◌, ◌%◌, ◌≤◌, false, refl, inl, inr, arith}
use Rattle.std.specs.Ordering.{is_lt, nat_cmp, ordering_then}
use Rattle.std.specs.declared.cmp.Ordering.TheVariants.{Equal}
use Rattle.std.proofs.lemmas.Cmp.{nat_cmp_total, tied_itself}
use Rattle.ktm_base.specs.declared.id.Label.{Label}
use Rattle.ktm_base.specs.declared.id.Pid.{Pid}
use Rattle.ktm_links.specs.Mapped.{IsNotBelow}
use Rattle.ktm_object.specs.Names.{label_bytes}
use Rattle.ktm_links.proofs.offered.Comparing.{level}

-- ---- labels

-- names of one process are in the order of its labels
pub label_order : (process : Pid) (a b : Label) → IsNotBelow (label_bytes process a) (label_bytes process b) → b.0 ≤ a.0
label_order process a b not_below =
    let low = ordering_then (nat_cmp (a.0 % 256) (b.0 % 256)) Equal in
    let high : is_lt (ordering_then (nat_cmp (a.0 / 256) (b.0 / 256)) low) ≡ false = rw (tied_itself nat_cmp_total process.0) at not_below in
    elim (level (a.0 / 256) (b.0 / 256) low (nat_cmp (a.0 / 256) (b.0 / 256)) refl high) [
      | inl above ↦ omega arith
      | inr same ↦
          elim (level (a.0 % 256) (b.0 % 256) Equal (nat_cmp (a.0 % 256) (b.0 % 256)) refl same.1) [
            | inl above ↦ omega arith
            | inr level ↦ omega arith
          ]
    ]
