use Rattle.std.proofs.Common.{◌≡◌, drop}
use Rattle.kv_rm.specs.Held.{mixed_all}
use Rattle.kv_rm.proofs.held.hash_of.Given as goal

-- the rest is still to be mixed in
abbrev pub invariant-loop-byte : goal.invariant-loop-byte
invariant-loop-byte l = mixed_all l.hash (drop l.byte-index l.key) ≡ mixed_all 0 l.key
