use Rattle.std.proofs.Common.{◌≡◌, length}
use Rattle.ktm_base.specs.Grammar.{IsRow}
use Rattle.ktm_codec.specs.Spans.{Spans}
use Rattle.ktm_snapshot.proofs.transaction.read_transaction.Given as goal
use Rattle.ktm_snapshot.specs.StateGrammar.{IsMarkedOf}

abbrev pub invariant-parts : goal.invariant-parts
invariant-parts l = record {
  row : Spans (IsRow IsMarkedOf l.parts.items) l.bytes l.start l.end;
  counted : length l.parts.items ≡ l.counter;
  kept : l.superior ≡ l.initial.superior;
}
