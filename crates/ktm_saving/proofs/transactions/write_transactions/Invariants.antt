use Rattle.std.proofs.Common.{length, map}
use Rattle.ktm_base.specs.Grammar.{IsU32}
use Rattle.ktm_snapshot.specs.Sizes.{transaction_size}
use Rattle.ktm_snapshot.specs.StateGrammar.{IsTransactionOf}
use Rattle.ktm_saving.specs.Owned.{recorded_in}
use Rattle.ktm_saving.proofs.Lists.{ArePartly}
use Rattle.ktm_saving.proofs.transactions.write_transactions.Given as goal

abbrev pub invariant-transactions : goal.invariant-transactions
invariant-transactions l =
    let all = map (recorded_in l.memory) l.memory.trace in
    ArePartly (IsU32 (length all)) IsTransactionOf transaction_size 4 all (map (recorded_in l.memory) l.transactions) l.fn.out l.out

abbrev pub decreases-transactions : goal.decreases-transactions
decreases-transactions l = length l.transactions
