use Rattle.ktm_snapshot.proofs.Rising.{numbers_by_last, keys_by_last, managers_by_last, transactions_by_last}
use Rattle.ktm_snapshot.proofs.laws.law_of_order.Goals as goal

pub returns : goal.returns
returns c = record { nodes = numbers_by_last; entries = keys_by_last; managers = managers_by_last; transactions = transactions_by_last }
