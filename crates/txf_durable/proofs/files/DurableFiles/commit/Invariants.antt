use Rattle.std.proofs.Common.{◌≡◌}
use Rattle.std.specs.Vec.Iter.{into_iter_items}
use Rattle.ktm_world.specs.Changes.{changes_apply, changed_all}
use Rattle.ktm_world.specs.Durable.{next_after_all}
use Rattle.txf_tree.specs.TreeState.{tree_of}
use Rattle.txf_tree.specs.UnitChanges.{CanAllBeMade}
use Rattle.txf_durable.specs.State.{CanMakeAll}
use Rattle.txf_durable.proofs.files.DurableFiles.commit.Given as goal

abbrev pub invariant-loop-change : goal.invariant-loop-change
invariant-loop-change l = record {
  apply : changes_apply (tree_of l.self.tree) (into_iter_items l.change-iterator) ≡ changes_apply (tree_of l.fn.self.tree) l.fn.changes.items;
  tree : changed_all (tree_of l.self.tree) (into_iter_items l.change-iterator) ≡ changed_all (tree_of l.fn.self.tree) l.fn.changes.items;
  next_node : next_after_all l.self.next_node (into_iter_items l.change-iterator) ≡ next_after_all l.fn.self.next_node l.fn.changes.items;
  units : CanAllBeMade (tree_of l.self.tree) (into_iter_items l.change-iterator);
  can : CanMakeAll l.fn.self.tree l.fn.changes.items → CanMakeAll l.self.tree (into_iter_items l.change-iterator);
}
