-- Where a path leads, as a caller is told it.
use Rattle.std.specs.Prelude.{◌≡◌, ℕ, List, [], ◌∷◌, Option, Some, is_some, option_and_then}
use Rattle.ktm_base.specs.Names.{folded}
use Rattle.ktm_world.specs.declared.recorded.Node.{Node}
use Rattle.ktm_world.specs.FileCalls.{Whereabouts as There, no_way, free, at_root, at_node, entered}
use Rattle.ktm_world.specs.Tree.{Tree, child_of}
use Rattle.txf_calls.specs.declared.along.Whereabouts.{Whereabouts}
use Rattle.txf_calls.specs.declared.along.Whereabouts.TheVariants.{NoWay, Free, Root, Node as At}
use Rattle.txf_calls.specs.declared.view.Seen.{Seen}

-- what is told of a node
abbrev pub seen_of : Node → Seen
seen_of node = record { number = node.number; parent = node.parent; is_file = is_some node.content }

-- the directory that names lead to from this one, if they lead to one
abbrev pub way : Tree → ℕ → List (List ℕ) → Option ℕ
way tree directory [] = Some directory
way tree directory (name ∷ names) = option_and_then (λ next. way tree next names) (entered (child_of tree directory name))

-- what is told is where the path leads: the free name is the one that was asked for, and a node has that name but for the case of its letters
abbrev pub Leads : Whereabouts → There → Type 0
Leads NoWay no_way = Unit {0}
Leads (Free directory name) (free other wanted) = (directory ≡ other) × (name.now ≡ wanted)
Leads Root at_root = Unit {0}
Leads (At node name) (at_node other) = (node ≡ seen_of other) × (folded other.name ≡ folded name.now)
Leads _ _ = ⊥
