-- What is shown where it stands, as the model has it.
use Rattle.std.specs.Prelude.{ℕ, List, Option}
use Rattle.ktm_base.specs.declared.id.Id.{Id}
use Rattle.ktm_keyed.specs.declared.keyed.Keyed.{Keyed}
use Rattle.ktm_world.specs.declared.recorded.Node.{Node}
use Rattle.ktm_world.specs.declared.recorded.Stage.{Stage}
use Rattle.ktm_world.specs.declared.recorded.Superior.{Superior}
use Rattle.ktm_snapshot.specs.declared.entry.ShownEntry.{ShownEntry}
use Rattle.ktm_snapshot.specs.declared.node.ReadNode.{ReadNode}
use Rattle.ktm_snapshot.specs.declared.node.ShownNode.{ShownNode}
use Rattle.ktm_snapshot.specs.declared.transaction.ShownSuperior.{ShownSuperior}
use Rattle.ktm_snapshot.specs.StateGrammar.{IsNamedOf, IsStartOf}

-- the node that is shown
abbrev pub node_of : ShownNode → Node
node_of n = record { number = n.number; parent = n.parent; name = n.name.now; content = n.content }

-- the node that was read
abbrev pub node_read : ReadNode → Node
node_read n = record { number = n.number; parent = n.parent; name = n.name.now; content = n.content }

-- the key and the value that are shown
abbrev pub entry_of : ShownEntry → Keyed (List ℕ)
entry_of e = record { key = e.key.now; value = e.value.now }

-- the superior that is shown
abbrev pub superior_of : ShownSuperior → Superior
superior_of s = record { enlistment = s.enlistment; manager = s.manager; information = s.information.now }

-- the name of a node and its contents, as one thing
abbrev pub IsNamedPairOf : List ℕ × Option (List ℕ) → List ℕ → Type 0
IsNamedPairOf (name, content) = IsNamedOf name content

-- what a transaction begins with, as one thing
abbrev pub IsBegunOf : Id × Stage × Option Superior × ℕ → List ℕ → Type 0
IsBegunOf (id, stage, superior, count) = IsStartOf id stage superior count
