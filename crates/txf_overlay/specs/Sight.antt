-- A node as it is seen.
use Rattle.std.specs.Prelude.{is_some}
use Rattle.ktm_world.specs.declared.recorded.Node.{Node}
use Rattle.txf_overlay.specs.declared.view.Seen.{Seen}

-- what is seen of the node
abbrev pub sight_of : Node → Seen
sight_of n = record { parent = n.parent; is_file = is_some n.content }
