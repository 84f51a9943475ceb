use Rattle.std.proofs.Common.{◌≡◌, length, true}
use Rattle.ktm_base.specs.Grammar.{IsU32}
use Rattle.ktm_codec.specs.Spans.{Spans}
use Rattle.ktm_snapshot.specs.Pieces.{IsFrontOf}
use Rattle.ktm_snapshot.specs.StateGrammar.{IsNodeOf}
use Rattle.ktm_world.specs.Tree.{numbers_rise}
use Rattle.txf_saved.proofs.listed.nodes_at.Given as goal
use Rattle.txf_saved.specs.Making.{nodes_of}

abbrev pub invariant-nodes : goal.invariant-nodes
invariant-nodes l = record {
  front : Spans (IsFrontOf (IsU32 l.count) IsNodeOf (nodes_of l.nodes.items)) l.bytes l.at l.end;
  rising : numbers_rise (nodes_of l.nodes.items) ≡ true;
  counted : length l.nodes.items ≡ l.counter;
}
