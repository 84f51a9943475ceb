-- The line of a transaction, by its stage.
use Rattle.std.proofs.Common.{◌≡◌, ℕ, List, codes, ap, subst}
use Rattle.ktm_base.specs.declared.id.ObjectKind.TheVariants.{Transaction}
use Rattle.ktm_base.specs.Guid.{guid_of}
use Rattle.ktm_dump.specs.Text.{guid_line, transaction_lines}
use Rattle.ktm_world.specs.declared.recorded.Stage.TheVariants.{Held, Decided}
use Rattle.ktm_world.specs.Durable.{Recorded}

module _ (image : ℕ) (t now : Recorded) (guid : List ℕ) (same : t ≡ now) (is : guid ≡ guid_of Transaction image t.id) where
  pub held_line : t.stage ≡ Held → guid_line (codes "held ") guid ≡ transaction_lines image now
  held_line stage = subst (λ (n : Recorded). guid_line (codes "held ") guid ≡ transaction_lines image n) same (rw stage (ap (guid_line (codes "held ")) is))

  pub decided_line : t.stage ≡ Decided → guid_line (codes "committing ") guid ≡ transaction_lines image now
  decided_line stage = subst (λ (n : Recorded). guid_line (codes "committing ") guid ≡ transaction_lines image n) same (rw stage (ap (guid_line (codes "committing ")) is))
