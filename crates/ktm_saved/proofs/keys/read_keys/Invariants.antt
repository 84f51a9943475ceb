use Rattle.std.proofs.Common.{◌≡◌, length, true}
use Rattle.ktm_base.specs.Grammar.{IsU32}
use Rattle.ktm_codec.specs.Spans.{Spans}
use Rattle.ktm_snapshot.specs.Pieces.{IsFrontOf}
use Rattle.ktm_snapshot.specs.StateGrammar.{IsEntryOf}
use Rattle.ktm_saved.proofs.keys.read_keys.Given as goal
use Rattle.ktm_saved.specs.Reading.{are_good_keys}

abbrev pub invariant-keys : goal.invariant-keys
invariant-keys l = record {
  front : Spans (IsFrontOf (IsU32 l.count) IsEntryOf l.keys.items) l.bytes l.at l.end;
  good : are_good_keys l.keys.items ≡ true;
  counted : length l.keys.items ≡ l.counter;
}
