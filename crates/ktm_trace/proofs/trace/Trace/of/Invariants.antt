use Rattle.std.proofs.Common.{◌≡◌, ◌++◌, drop, map}
use Rattle.ktm_trace.specs.Traces.{traced}
use Rattle.ktm_trace.proofs.trace.Trace.of.Given as goal

-- with the transactions that are left, all are there
abbrev pub invariant-loop-transaction : goal.invariant-loop-transaction
invariant-loop-transaction l = record {
  transactions : l.trace ++ map traced (drop l.transaction-index l.transactions) ≡ map traced l.transactions;
}
