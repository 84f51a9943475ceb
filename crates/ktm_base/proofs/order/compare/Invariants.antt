use Rattle.std.proofs.Common.{◌≡◌, ◌*◌, take}
use Rattle.ktm_base.proofs.order.compare.Given as goal

-- so many bytes are the same
abbrev pub invariant-loop-eight : goal.invariant-loop-eight
invariant-loop-eight l = take (8 * l.eight) l.a ≡ take (8 * l.eight) l.b
