-- How many bytes a durable state takes.
use Rattle.std.specs.Prelude.{ℕ, ◌+◌, ◌*◌, List, length, sum_by, Option, Some, None}
use Rattle.ktm_content.specs.Contents.{units_of}
use Rattle.ktm_keyed.specs.declared.keyed.Keyed.{Keyed}
use Rattle.ktm_world.specs.declared.recorded.Node.{Node}
use Rattle.ktm_world.specs.declared.recorded.RecordedPart.{RecordedPart}
use Rattle.ktm_world.specs.declared.recorded.Superior.{Superior}
use Rattle.ktm_world.specs.Sizes.{part_size, record_size}
use Rattle.ktm_world.specs.Durable.{Durable, Recorded}

-- the contents of a file: their length in eight bytes, a count of four, and four for the page of each unit; a directory has none
abbrev pub contents_size : Option (List ℕ) → ℕ
contents_size None = 0
contents_size (Some contents) = 12 + 4 * units_of contents

-- a node: two numbers of eight bytes, a tag, the name behind its length in one byte, and the contents
abbrev pub node_size : Node → ℕ
node_size node = 18 + length node.name + contents_size node.content

-- a committed key behind its length in one byte, and its value behind its length in two
abbrev pub entry_size : Keyed (List ℕ) → ℕ
entry_size entry = 3 + length entry.key + length entry.value

-- the superior of a transaction: a tag, and an enlistment where it has one
abbrev pub superior_size : Option Superior → ℕ
superior_size None = 1
superior_size (Some superior) = 1 + record_size superior.information

-- a part: its mark, and the part as in events
abbrev pub marked_size : RecordedPart → ℕ
marked_size part = 1 + part_size part.part

-- what a transaction begins with: its Id, its stage, its superior, and a count of four bytes
abbrev pub start_size : Option Superior → ℕ
start_size superior = 13 + superior_size superior

-- a transaction: what it begins with, and its parts
abbrev pub transaction_size : Recorded → ℕ
transaction_size t = start_size t.superior + sum_by marked_size t.parts

-- a state: a head of 20 bytes, and four lists, of which a resource manager takes eight bytes
abbrev pub state_size : Durable → ℕ
state_size s = 36 + sum_by node_size s.tree + sum_by entry_size s.keys + 8 * length s.managers + sum_by transaction_size s.transactions
