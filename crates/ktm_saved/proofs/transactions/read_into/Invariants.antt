use Rattle.std.proofs.Common.{◌≡◌, ◌≤◌, length}
use Rattle.ktm_base.specs.Grammar.{IsU32}
use Rattle.ktm_base.specs.declared.limits.TheConstants.{MOST_LIVE}
use Rattle.ktm_codec.specs.Spans.{Spans}
use Rattle.ktm_saved.proofs.transactions.read_into.Given as goal
use Rattle.ktm_saved.specs.Tests.{AreGoodSoFar, against_of}
use Rattle.ktm_snapshot.specs.Pieces.{IsFrontOf}
use Rattle.ktm_snapshot.specs.StateGrammar.{IsTransactionOf}
use Rattle.ktm_waiting.specs.Waiting.{AreHeld}
use Rattle.txf_tree.specs.TreeState.{tree_of}

abbrev pub invariant-transactions : goal.invariant-transactions
invariant-transactions l = record {
  front : Spans (IsFrontOf (IsU32 l.count) IsTransactionOf l.transactions.transactions) l.bytes l.at l.end;
  good : AreGoodSoFar (against_of l.head) l.transactions.transactions;
  held : AreHeld l.waiting (tree_of l.head.files.now.tree) l.transactions.transactions;
  counted : length l.transactions.transactions ≡ l.counter;
  few : length l.transactions.transactions ≤ MOST_LIVE;
}
