use Rattle.ktm_dump.proofs.Puts.{broken_next, put_next}
use Rattle.ktm_dump.specs.Text.{transaction_lines}
use Rattle.ktm_dump.proofs.state.put_transactions.Goals as goal

pub returns-in-Err : goal.returns-in-Err
returns-in-Err g c =
    broken_next (transaction_lines c.args.image) c.args.transactions.now c.loop-transaction.transaction-index _ c.transaction-item.is c.loop-transaction-test.true _ _ _ c.loop-transaction.invariant c.in-Err.ensures

pub loop-transaction-preserved : goal.loop-transaction-preserved
loop-transaction-preserved g c =
    put_next (transaction_lines c.args.image) c.args.transactions.now c.loop-transaction.transaction-index _ c.transaction-item.is c.loop-transaction-test.true _ _ _ c.loop-transaction.invariant c.in_default.ensures
