use Rattle.std.proofs.Common.{◌≡◌, ◌++◌, drop, map}
use Rattle.ktm_back.specs.Bringing.{manager_back}
use Rattle.ktm_back.proofs.starting.bring_managers.Given as goal

-- with those that are left, all are there
abbrev pub invariant-loop-id : goal.invariant-loop-id
invariant-loop-id l = record {
  managers : l.tm.managers ++ map manager_back (drop l.id-index l.managers) ≡ map manager_back l.managers;
  boot : l.tm.boot ≡ l.initial.tm.boot;
  now : l.tm.now ≡ l.initial.tm.now;
}
