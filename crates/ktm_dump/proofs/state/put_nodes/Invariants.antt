use Rattle.std.proofs.Common.{◌≡◌, ℕ, List, ◌++◌, flat_map, length}
use Rattle.ktm_dump.specs.Text.{node_line}
use Rattle.ktm_dump.specs.Written.{IsPut, out}
use Rattle.txf_tree.specs.TreeState.{tree_of}
use Rattle.ktm_dump.proofs.state.put_nodes.Given as goal

abbrev pub invariant-lines : goal.invariant-lines
invariant-lines g l =
    (text : List ℕ) × (text ++ flat_map (node_line (tree_of l.tree)) l.nodes ≡ flat_map (node_line (tree_of l.tree)) (tree_of l.tree))
    × IsPut (out (g.K.Sink.taken l.fn.sink) (g.K.Sink.faults l.fn.sink) l.fn.waiting.items) (out (g.K.Sink.taken l.sink) (g.K.Sink.faults l.sink) l.waiting.items) text

abbrev pub decreases-lines : goal.decreases-lines
decreases-lines g l = length l.nodes
