use Rattle.std.proofs.Common.{◌≡◌, ℕ, List, ◌++◌, length}
use Rattle.txf_nodes.specs.Children.{entries_in, matching}
use Rattle.txf_nodes.specs.NodesState.{tree_by}
use Rattle.txf_nodes.proofs.Reaching.{IsAhead}
use Rattle.txf_nodes.proofs.table.NodeTable.entries.Given as goal

abbrev pub invariant-loop-entry : goal.invariant-loop-entry
invariant-loop-entry g l = record {
  so_far : (bytes : g.row.C.Denot → List ℕ) → l.entries ++ matching l.pattern.last l.children ≡ matching l.pattern.last (entries_in (tree_by bytes l.self) l.directory);
  ahead : IsAhead l.pattern.last l.children;
}

abbrev pub decreases-loop-entry : goal.decreases-loop-entry
decreases-loop-entry g l = length l.children
