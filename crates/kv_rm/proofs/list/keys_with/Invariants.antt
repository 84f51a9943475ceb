use Rattle.ktm_world.specs.Keys.{stored_all, keys_of}
use Rattle.kv_rm.proofs.Merges.{Merged}
use Rattle.kv_rm.proofs.list.keys_with.Given as goal

-- what is left is still to be merged
abbrev pub invariant-loop-setting : goal.invariant-loop-setting
invariant-loop-setting l = Merged l.settings (keys_of (stored_all l.store l.settings)) l.keys l.rest l.setting-index
