use Rattle.std.proofs.Common.{◌≡◌, drop}
use Rattle.ktm_waiting.specs.Waiting.{others_set}
use Rattle.ktm_waiting.proofs.beside.others_set.Given as goal

abbrev pub invariant-loop-t : goal.invariant-loop-t
invariant-loop-t l = others_set l.who l.settings (drop l.t-index l.transactions) ≡ others_set l.who l.settings l.transactions
