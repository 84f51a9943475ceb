-- The path of a node, by that of its directory.
use Rattle.std.proofs.Common.{◌≡◌, ℕ, zero, suc, ◌-◌, [], ◌∷◌, ◌++◌, Some, None, refl, append_assoc, arith}
use Rattle.ktm_base.specs.Names.{backslash}
use Rattle.ktm_dump.specs.Text.{path_up}
use Rattle.ktm_world.specs.declared.recorded.Node.{Node}
use Rattle.ktm_world.specs.Tree.{Tree, node_at}

pub path_none : (tree : Tree) (most number : ℕ) → None ≡ node_at tree number → [] ≡ path_up tree most number
path_none tree zero number none = refl
path_none tree (suc most) number none = rw (← none) refl

pub path_some : (tree : Tree) (most number : ℕ) (node : Node) → (most ≡ 0 → ⊥) → Some node ≡ node_at tree number
    → (path_up tree (most - 1) node.parent ++ backslash ∷ []) ++ node.name ≡ path_up tree most number
path_some tree zero number node some there = absurd (some refl)
path_some tree (suc most) number node some there =
    let less : suc most - 1 ≡ most = omega arith in rw (← there, less) (append_assoc (path_up tree most node.parent) (backslash ∷ []) node.name)
