use Rattle.std.proofs.Common.{◌≡◌, ◌++◌, take}
use Rattle.ktm_world.specs.Keys.{keys_of}
use Rattle.kv_rm.proofs.list.push_keys.Given as goal

-- the keys so far are behind the ones that were there
abbrev pub invariant-loop-entry : goal.invariant-loop-entry
invariant-loop-entry l = l.keys ≡ l.initial.keys ++ keys_of (take l.entry-index l.store)
