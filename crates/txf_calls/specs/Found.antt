-- What a path leads to, as callers are told it: it is there, and has a short name. No public clause cites this module.
use Rattle.std.specs.Prelude.{◌≡◌, ℕ, ◌≤◌, ◌==◌, ◌&&◌, ⊤, Bool, true, List, length, is_some}
use Rattle.std.specs.List.{list_any}
use Rattle.ktm_base.specs.declared.limits.TheConstants.{MOST_NAME_BYTES}
use Rattle.ktm_world.specs.Tree.{Tree, is_there}
use Rattle.txf_calls.specs.declared.along.Whereabouts.{Whereabouts}
use Rattle.txf_calls.specs.declared.along.Whereabouts.TheVariants.{NoWay, Free, Root, Node}
use Rattle.txf_calls.specs.declared.view.Seen.{Seen}

-- is one of the nodes a file with this number
abbrev pub has_file : Tree → ℕ → Bool
has_file tree number = list_any (λ node. node.number == number && is_some node.content) tree

-- the directory is there, and the name has at most 255 bytes
pub record IsRoom (tree : Tree) (directory : ℕ) (name : List ℕ) : Type 0 where
  pub there : is_there tree directory ≡ true
  pub short : length name ≤ MOST_NAME_BYTES

-- a node that is a file is there as one, and the name has at most 255 bytes
pub record IsNamed (tree : Tree) (node : Seen) (name : List ℕ) : Type 0 where
  pub file : node.is_file ≡ true → has_file tree node.number ≡ true
  pub short : length name ≤ MOST_NAME_BYTES

-- what the path leads to is there
abbrev pub IsFound : Tree → Whereabouts → Type 0
IsFound tree NoWay = ⊤
IsFound tree (Free directory name) = IsRoom tree directory name.now
IsFound tree Root = ⊤
IsFound tree (Node node name) = IsNamed tree node name.now
