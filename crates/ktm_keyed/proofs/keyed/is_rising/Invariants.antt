use Rattle.std.proofs.Common.{◌≡◌, drop}
use Rattle.ktm_keyed.specs.Keyed.{is_rising}
use Rattle.ktm_keyed.proofs.keyed.is_rising.Given as goal

-- so far each key comes before the next one
abbrev pub invariant-loop-i : goal.invariant-loop-i
invariant-loop-i g l = is_rising (drop l.i l.items) ≡ is_rising l.items
