use Rattle.std.proofs.Common.{drop}
use Rattle.ktm_world.specs.Durable.{is_ready}
use Rattle.ktm_waiting.proofs.Together.{IsLeft}
use Rattle.ktm_waiting.proofs.transactions.without_ready.Given as goal

abbrev pub invariant-loop-t : goal.invariant-loop-t
invariant-loop-t l = IsLeft (λ t. is_ready t.stage) l.left l.transactions (drop l.t-index l.transactions)
