use Rattle.std.proofs.Common.{◌≡◌, length}
use Rattle.ktm_base.specs.Grammar.{IsRow}
use Rattle.ktm_codec.specs.Spans.{Spans}
use Rattle.ktm_world.specs.EventGrammar.{IsChangeOf}
use Rattle.ktm_event.proofs.change.changes_at.Given as goal

abbrev pub invariant-changes : goal.invariant-changes
invariant-changes l = record {
  row : Spans (IsRow IsChangeOf l.changes.items) l.bytes l.start l.end;
  counted : length l.changes.items ≡ l.counter;
}
