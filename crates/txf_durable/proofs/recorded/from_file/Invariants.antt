use Rattle.std.proofs.Common.{◌≡◌, drop}
use Rattle.txf_durable.specs.Recorded.{from_file}
use Rattle.txf_durable.proofs.recorded.from_file.Given as goal

abbrev pub invariant-loop-index : goal.invariant-loop-index
invariant-loop-index l = from_file (drop l.index l.changes) l.file ≡ from_file l.changes l.file
