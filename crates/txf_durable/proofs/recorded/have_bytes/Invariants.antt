use Rattle.std.proofs.Common.{◌≡◌, drop}
use Rattle.std.specs.List.{list_all}
use Rattle.ktm_world.specs.Durable.{gives_bytes}
use Rattle.txf_durable.specs.Numbers.{AreNumbersRising}
use Rattle.txf_durable.specs.Recorded.{AreBytesFrom}
use Rattle.txf_durable.proofs.recorded.have_bytes.Given as goal

abbrev pub invariant-loop-file : goal.invariant-loop-file
invariant-loop-file l = record {
  files : AreNumbersRising (drop l.file-index l.files);
  bytes : AreBytesFrom 0 l.rest;
  rest : list_all (gives_bytes l.rest) (drop l.file-index l.files) ≡ list_all (gives_bytes l.bytes) l.files;
}
