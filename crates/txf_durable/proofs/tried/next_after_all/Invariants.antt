use Rattle.std.proofs.Common.{◌≡◌, true, drop}
use Rattle.ktm_world.specs.Changes.{changes_apply}
use Rattle.ktm_world.specs.Durable.{next_after_all}
use Rattle.ktm_world.specs.Tree.{Tree}
use Rattle.txf_durable.proofs.tried.next_after_all.Given as goal

abbrev pub invariant-loop-change : goal.invariant-loop-change
invariant-loop-change l = record {
  apply : (tree : Tree) × (changes_apply tree (drop l.change-index l.changes) ≡ true);
  next : next_after_all l.next (drop l.change-index l.changes) ≡ next_after_all l.fn.next l.changes;
}
