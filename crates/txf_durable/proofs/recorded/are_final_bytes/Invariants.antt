use Rattle.std.proofs.Common.{◌≡◌, None, drop}
use Rattle.ktm_world.specs.Durable.{are_final_bytes}
use Rattle.txf_durable.proofs.recorded.are_final_bytes.Given as goal

abbrev pub invariant-loop-change : goal.invariant-loop-change
invariant-loop-change l = are_final_bytes l.least l.cut (drop l.change-index l.changes) ≡ are_final_bytes 0 None l.changes
