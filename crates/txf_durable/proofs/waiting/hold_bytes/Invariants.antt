use Rattle.std.proofs.Common.{◌+◌, ◌≤◌, false, [], map, take}
use Rattle.ktm_world.specs.Changes.{node_of}
use Rattle.txf_reserve.specs.ReserveState.{HoldsToo}
use Rattle.txf_durable.proofs.waiting.hold_bytes.Given as goal

abbrev pub invariant-loop-change : goal.invariant-loop-change
invariant-loop-change l = record {
  spare : l.fn.reserve.spare ≤ l.reserve.spare + l.change-index;
  holds : HoldsToo (map node_of (take l.change-index l.bytes)) [] [] false l.transaction l.fn.reserve l.reserve;
}
