-- Labels that are free.
use Rattle.std.proofs.Common.{ℕ}
use Rattle.ktm_base.specs.declared.id.Label.{Label}

-- the label with a number
abbrev pub numbered : ℕ → Label
numbered n = record { 0 = n }
