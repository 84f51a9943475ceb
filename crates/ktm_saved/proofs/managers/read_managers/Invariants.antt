use Rattle.std.proofs.Common.{◌≡◌, length, true}
use Rattle.ktm_base.specs.Grammar.{IsU32}
use Rattle.ktm_codec.specs.Spans.{Spans}
use Rattle.ktm_snapshot.specs.Pieces.{IsFrontOf}
use Rattle.ktm_world.specs.EventGrammar.{IsIdOf}
use Rattle.ktm_saved.proofs.managers.read_managers.Given as goal
use Rattle.ktm_saved.specs.Reading.{are_good_managers}

abbrev pub invariant-managers : goal.invariant-managers
invariant-managers l = record {
  front : Spans (IsFrontOf (IsU32 l.count) IsIdOf l.managers.managers) l.bytes l.at l.end;
  good : are_good_managers l.boots l.managers.managers ≡ true;
  counted : length l.managers.managers ≡ l.counter;
}
