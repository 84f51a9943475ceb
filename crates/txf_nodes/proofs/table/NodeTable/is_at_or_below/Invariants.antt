use Rattle.std.proofs.Common.{◌≡◌, ℕ, ◌+◌, ◌-◌, List, length}
use Rattle.txf_nodes.specs.NodesState.{tree_by}
use Rattle.txf_nodes.proofs.Upward.{is_up}
use Rattle.txf_nodes.proofs.table.NodeTable.is_at_or_below.Given as goal

abbrev pub invariant-loop : goal.invariant-loop
invariant-loop g l = record {
  end : l.end ≡ length l.self.nodes;
  rest : (bytes : g.row.C.Denot → List ℕ) → is_up (tree_by bytes l.self) l.number l.other (length (tree_by bytes l.self) + 1) ≡ is_up (tree_by bytes l.self) l.at l.other (l.end - l.counter + 1);
}
