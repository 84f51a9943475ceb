use Rattle.std.proofs.Common.{◌≡◌, drop}
use Rattle.ktm_world.specs.Keys.{is_held_by_other}
use Rattle.kv_rm.proofs.own.is_held.Given as goal

-- who holds the key is in the rest
abbrev pub invariant-loop-own : goal.invariant-loop-own
invariant-loop-own l = is_held_by_other (drop l.own-index l.entries) l.transaction l.key ≡ is_held_by_other l.entries l.transaction l.key
