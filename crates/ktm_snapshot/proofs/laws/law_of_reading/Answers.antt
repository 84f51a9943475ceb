use Rattle.ktm_event.proofs.Parts.{unambiguous_id}
use Rattle.ktm_keyed.specs.Keyed.{is_rising}
use Rattle.ktm_world.specs.EventGrammar.{IsIdOf}
use Rattle.ktm_world.specs.Durable.{is_before}
use Rattle.ktm_world.specs.Tree.{numbers_rise}
use Rattle.txf_laws.specs.Elements.{each_pair}
use Rattle.ktm_snapshot.proofs.OnePiece.{unambiguous_node, unambiguous_entry, unambiguous_transaction}
use Rattle.ktm_snapshot.proofs.Rising.{numbers_front, keys_front, managers_front, transactions_front}
use Rattle.ktm_snapshot.proofs.Reading.{reads_list, reads_state}
use Rattle.ktm_snapshot.proofs.laws.law_of_reading.Goals as goal
use Rattle.ktm_snapshot.specs.StateGrammar.{IsNodeOf, IsEntryOf, IsTransactionOf, transactions_rise}

pub returns : goal.returns
returns c = record {
  nodes = reads_list numbers_rise IsNodeOf unambiguous_node numbers_front;
  entries = reads_list is_rising IsEntryOf unambiguous_entry keys_front;
  managers = reads_list (each_pair is_before) IsIdOf unambiguous_id managers_front;
  transactions = reads_list transactions_rise IsTransactionOf unambiguous_transaction transactions_front;
  state = reads_state;
}
