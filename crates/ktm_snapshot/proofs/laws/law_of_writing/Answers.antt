use Rattle.std.proofs.Common.{length}
use Rattle.ktm_base.specs.Grammar.{IsU32}
use Rattle.ktm_keyed.specs.Keyed.{is_rising}
use Rattle.ktm_world.specs.EventGrammar.{IsIdOf}
use Rattle.ktm_world.specs.Durable.{is_before}
use Rattle.ktm_world.specs.Tree.{numbers_rise}
use Rattle.txf_laws.specs.Elements.{each_pair}
use Rattle.ktm_snapshot.proofs.Writing.{adds_items, list_written, state_written}
use Rattle.ktm_snapshot.proofs.laws.law_of_writing.Goals as goal
use Rattle.ktm_snapshot.specs.StateGrammar.{IsNodeOf, IsEntryOf, IsTransactionOf, IsMarkedOf, IsStartOf, transactions_rise}

pub returns : goal.returns
returns c = record {
  nodes = (λ count. adds_items IsNodeOf (IsU32 count), list_written IsNodeOf numbers_rise);
  entries = (λ count. adds_items IsEntryOf (IsU32 count), list_written IsEntryOf is_rising);
  managers = (λ count. adds_items IsIdOf (IsU32 count), list_written IsIdOf (each_pair is_before));
  transactions = (λ count. adds_items IsTransactionOf (IsU32 count), list_written IsTransactionOf transactions_rise);
  parts = λ t. adds_items IsMarkedOf (IsStartOf t.id t.stage t.superior (length t.parts));
  state = state_written;
}
