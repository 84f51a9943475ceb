-- The limits where no transaction is there.
use Rattle.std.proofs.Common.{◌≡◌, ◌∙◌, ◌+◌, ◌&&◌, ℕ, Bool, List, [], true, ap, arith, inl, inr, length, nat_le, nat_lt, sum_by, sym}
use Rattle.std.proofs.Math.Bool.{and-true}
use Rattle.std.proofs.lemmas.Bool.{cases_lt, le-leb, le-ltb, lt-leb, lt-ltb}
use Rattle.ktm_base.specs.declared.limits.TheConstants.{MOST_LIVE}
use Rattle.ktm_world.specs.Durable.{Durable, Recorded, is_within_limits}
use Rattle.ktm_world.specs.Tree.{bytes_or_none, units_of}

-- what is committed and the resource managers are tested alone
pub within_alone : (s : Durable) → s.transactions ≡ [] → is_within_limits s ≡
    (nat_le (sum_by (λ node. units_of (bytes_or_none node.content)) s.tree) s.units && nat_lt (length s.tree) s.units && nat_le (length s.keys) s.units && nat_le (length s.managers) MOST_LIVE)
unfolding is_within_limits
within_alone s none =
    ap (λ (ts : List Recorded). is_within_limits (record s { transactions = ts })) none
    ∙ (λ i. nat_le (no_more (sum_by (λ node. units_of (bytes_or_none node.content)) s.tree) i) s.units && nat_le (no_more (1 + length s.tree) i) s.units && nat_le (no_more (length s.keys) i) s.units
    && none_waits i && true && true && nat_le (length s.managers) MOST_LIVE)
    ∙ (λ i. nat_le (sum_by (λ node. units_of (bytes_or_none node.content)) s.tree) s.units && root_too (length s.tree) i && nat_le (length s.keys) s.units && true && true && true && nat_le (length s.managers) MOST_LIVE)
    ∙ ap (λ b. b && nat_le (length s.managers) MOST_LIVE) (and-true (rest && true && true) ∙ and-true (rest && true) ∙ and-true rest)
  where
    rest : Bool
    rest = nat_le (sum_by (λ node. units_of (bytes_or_none node.content)) s.tree) s.units && nat_lt (length s.tree) s.units && nat_le (length s.keys) s.units

    no_more : (n : ℕ) → n + 0 ≡ n
    no_more n = omega arith

    none_waits : nat_le 0 s.units ≡ true
    none_waits = le-leb 0 s.units (omega arith)

    root_too : (n : ℕ) → nat_le (1 + n) s.units ≡ nat_lt n s.units
    root_too n = elim (cases_lt n s.units) [
      | inl few ↦ le-leb (1 + n) s.units (omega (arith, few)) ∙ sym (lt-ltb n s.units few)
      | inr many ↦ lt-leb (1 + n) s.units (omega (arith, many)) ∙ sym (le-ltb n s.units many)
    ]
