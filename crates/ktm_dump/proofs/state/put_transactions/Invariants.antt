use Rattle.std.proofs.Common.{flat_map, take}
use Rattle.ktm_dump.specs.Text.{transaction_lines}
use Rattle.ktm_dump.specs.Written.{IsPut, out}
use Rattle.ktm_dump.proofs.state.put_transactions.Given as goal

abbrev pub invariant-loop-transaction : goal.invariant-loop-transaction
invariant-loop-transaction g l = IsPut (out (g.K.Sink.taken l.fn.sink) (g.K.Sink.faults l.fn.sink) l.fn.waiting.items) (out (g.K.Sink.taken l.sink) (g.K.Sink.faults l.sink) l.waiting.items) (flat_map (transaction_lines l.image) (take l.transaction-index l.transactions))
