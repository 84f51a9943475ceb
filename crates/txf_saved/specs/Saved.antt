-- Files as a snapshot has them.
use Rattle.std.specs.Prelude.{◌≡◌, ◌↔◌, ℕ, ◌+◌, ◌≤◌, ◌^◌, true, List, [], ◌∷◌, max, nat_lt, Option, Some, None}
use Rattle.std.specs.List.{list_all}
use Rattle.ktm_codec.specs.Spans.{Spans}
use Rattle.ktm_snapshot.specs.StateGrammar.{AreNodesOf}
use Rattle.ktm_world.specs.Tree.{Tree, IsWellFormed, root}
use Rattle.txf_durable.specs.State.{DurableFilesState}
use Rattle.txf_tree.specs.TreeState.{tree_of}

-- the least number behind the root and all nodes
abbrev pub number_behind : Tree → ℕ
number_behind [] = root + 1
number_behind (node ∷ nodes) = max (node.number + 1) (number_behind nodes)

-- can the committed files have these nodes: they are well formed, and node numbers have not come to their end
pub record AreFiles (nodes : Tree) : Type 0 where
  pub formed : IsWellFormed nodes
  pub numbers : number_behind nodes ≤ 2 ^ 63

-- the nodes of the files stand between two places of the bytes, and the next one comes right behind them
pub record AreSaved (bytes : List ℕ) (at end : ℕ) (files : DurableFilesState) : Type 0 where
  pub spelled : Spans (AreNodesOf (tree_of files.tree)) bytes at end
  pub nodes : AreFiles (tree_of files.tree)
  pub next : files.next_node ≡ number_behind (tree_of files.tree)

-- the files whose nodes stand at a place, and the place behind them; there are none only where no nodes stand there that files can have
abbrev pub ReadsFiles : List ℕ → ℕ → Option (DurableFilesState × ℕ) → Type 0
ReadsFiles bytes at None = (nodes : Tree) (end : ℕ) → Spans (AreNodesOf nodes) bytes at end → ¬ AreFiles nodes
ReadsFiles bytes at (Some (files, end)) = AreSaved bytes at end files

-- a number is behind the root and all nodes exactly where it is not below the least such
abbrev pub LeastBehind : Type 0
LeastBehind = (nodes : Tree) (next : ℕ) → (number_behind nodes ≤ next) ↔ ((2 ≤ next) × (list_all (λ node. nat_lt node.number next) nodes ≡ true))
