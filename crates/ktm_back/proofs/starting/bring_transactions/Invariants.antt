use Rattle.std.proofs.Common.{◌≡◌, ◌++◌, drop, filter, map}
use Rattle.ktm_world.specs.World.{is_brought_back, transaction_back}
use Rattle.ktm_tm.specs.TmState.{KeepsManaging}
use Rattle.ktm_back.proofs.starting.bring_transactions.Given as goal

-- with those that are left, all that come back are there
abbrev pub invariant-loop-t : goal.invariant-loop-t
invariant-loop-t l = record {
  items : (l.tm.now).items ++ map transaction_back (filter is_brought_back (drop l.t-index l.transactions)) ≡ map transaction_back (filter is_brought_back l.transactions);
  now : l.tm.now ≡ record (l.initial.tm.now) { items = (l.tm.now).items };
  boot : l.tm.boot ≡ l.initial.tm.boot;
  rest : KeepsManaging l.initial.tm l.tm;
}
