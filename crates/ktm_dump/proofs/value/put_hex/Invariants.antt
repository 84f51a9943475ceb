use Rattle.std.proofs.Common.{flat_map, take}
use Rattle.ktm_codec.specs.Hex.{hex_pair}
use Rattle.ktm_dump.specs.Written.{IsPut, out}
use Rattle.ktm_dump.proofs.value.put_hex.Given as goal

abbrev pub invariant-loop-byte : goal.invariant-loop-byte
invariant-loop-byte g l = IsPut (out (g.K.Sink.taken l.fn.sink) (g.K.Sink.faults l.fn.sink) l.fn.waiting.items) (out (g.K.Sink.taken l.sink) (g.K.Sink.faults l.sink) l.waiting.items) (flat_map hex_pair (take l.byte-index l.bytes))
