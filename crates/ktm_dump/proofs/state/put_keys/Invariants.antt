use Rattle.std.proofs.Common.{flat_map, take}
use Rattle.ktm_dump.specs.Text.{key_line}
use Rattle.ktm_dump.specs.Written.{IsPut, out}
use Rattle.ktm_dump.proofs.state.put_keys.Given as goal

abbrev pub invariant-loop-item : goal.invariant-loop-item
invariant-loop-item g l = IsPut (out (g.K.Sink.taken l.fn.sink) (g.K.Sink.faults l.fn.sink) l.fn.waiting.items) (out (g.K.Sink.taken l.sink) (g.K.Sink.faults l.sink) l.waiting.items) (flat_map key_line (take l.item-index l.keys))
