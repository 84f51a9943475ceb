use Rattle.std.proofs.Common.{flat_map, take}
use Rattle.ktm_dump.specs.Text.{manager_line}
use Rattle.ktm_dump.specs.Written.{IsPut, out}
use Rattle.ktm_dump.proofs.state.put_managers.Given as goal

abbrev pub invariant-loop-manager : goal.invariant-loop-manager
invariant-loop-manager g l = IsPut (out (g.K.Sink.taken l.fn.sink) (g.K.Sink.faults l.fn.sink) l.fn.waiting.items) (out (g.K.Sink.taken l.sink) (g.K.Sink.faults l.sink) l.waiting.items) (flat_map (manager_line l.image) (take l.manager-index l.managers))
