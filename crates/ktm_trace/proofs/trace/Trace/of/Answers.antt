use Rattle.std.proofs.Common.{◌∙◌, ◌+◌, ◌++◌, List, ap, drop, map}
use Rattle.ktm_trace.specs.Traces.{Traced, traced}
use Rattle.ktm_trace.proofs.Bringing.{next-brought, next-last}
use Rattle.ktm_trace.proofs.trace.Trace.of.Goals as goal

pub add-requires : goal.add-requires
add-requires c =
    let last = next-last c.args.transactions.now c.loop-transaction.trace c.loop-transaction.transaction-index c.transaction-item.result
    c.requires.rise c.loop-transaction-test.true c.transaction-item.is c.loop-transaction.invariant.transactions in
    last.new

pub loop-transaction-preserved : goal.loop-transaction-preserved
loop-transaction-preserved c =
    let ts = c.args.transactions.now in
    let brought = c.loop-transaction.trace in
    let i = c.loop-transaction.transaction-index in
    let t = c.transaction-item.result in
    let last = next-last ts brought i t c.requires.rise c.loop-transaction-test.true c.transaction-item.is c.loop-transaction.invariant.transactions in
    record {
      transactions =
          ap (λ (us : List Traced). us ++ map traced (drop (i + 1) ts)) (c.in_ok-add.ensures.transactions ∙ last.placed_last)
          ∙ next-brought ts brought i t c.loop-transaction-test.true c.transaction-item.is c.loop-transaction.invariant.transactions;
    }
