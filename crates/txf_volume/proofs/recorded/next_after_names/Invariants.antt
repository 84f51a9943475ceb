use Rattle.std.proofs.Common.{◌≡◌, take}
use Rattle.ktm_world.specs.Durable.{next_after_all}
use Rattle.txf_volume.proofs.recorded.next_after_names.Given as goal

-- those so far have made their nodes
abbrev pub invariant-loop-change : goal.invariant-loop-change
invariant-loop-change l = l.number ≡ next_after_all l.next (take l.change-index l.names)
