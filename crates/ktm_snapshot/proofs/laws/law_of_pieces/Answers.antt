use Rattle.ktm_event.proofs.Parts.{unambiguous_id, one_id}
use Rattle.ktm_snapshot.proofs.OnePiece.{unambiguous_head, unambiguous_node, unambiguous_entry, unambiguous_transaction, one_head, one_node, one_entry, one_transaction}
use Rattle.ktm_snapshot.proofs.laws.law_of_pieces.Goals as goal

pub returns : goal.returns
returns c = record {
  heads = (unambiguous_head, one_head);
  nodes = (unambiguous_node, one_node);
  entries = (unambiguous_entry, one_entry);
  managers = (unambiguous_id, one_id);
  transactions = (unambiguous_transaction, one_transaction);
}
