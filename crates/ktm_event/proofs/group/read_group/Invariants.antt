use Rattle.std.proofs.Common.{◌≡◌, length}
use Rattle.ktm_base.specs.Grammar.{IsRow}
use Rattle.ktm_codec.specs.Spans.{Spans}
use Rattle.ktm_world.specs.EventGrammar.{IsEventOf}
use Rattle.ktm_event.proofs.group.read_group.Given as goal

abbrev pub invariant-events : goal.invariant-events
invariant-events l = record {
  row : Spans (IsRow IsEventOf l.events.items) l.payload l.start l.end;
  counted : length l.events.items ≡ l.counter;
}
