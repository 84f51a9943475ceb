-- The text of a durable state: a line for each thing that it has, and the first one for the image.
use Rattle.std.specs.Prelude.{ℕ, zero, suc, List, [], ◌∷◌, ◌++◌, length, codes, decimal, flat_map, Option, Some, None}
use Rattle.ktm_base.specs.declared.id.Id.{Id}
use Rattle.ktm_base.specs.declared.id.ObjectKind.TheVariants.{Transaction, Manager}
use Rattle.ktm_base.specs.Guid.{guid_of}
use Rattle.ktm_base.specs.Names.{backslash}
use Rattle.ktm_codec.specs.Guid.{guid_spelling}
use Rattle.ktm_codec.specs.Hex.{hex_or_dash}
use Rattle.ktm_codec.specs.Quoted.{quoted}
use Rattle.ktm_dump.specs.declared.line.TheConstants.{LAYOUT}
use Rattle.ktm_dump.specs.Written.{newline}
use Rattle.ktm_keyed.specs.declared.keyed.Keyed.{Keyed}
use Rattle.ktm_world.specs.declared.recorded.Node.{Node}
use Rattle.ktm_world.specs.declared.recorded.Stage.{Stage}
use Rattle.ktm_world.specs.declared.recorded.Stage.TheVariants.{Ready, Held, Decided}
use Rattle.ktm_world.specs.Durable.{Durable, Recorded}
use Rattle.ktm_world.specs.Tree.{Tree, node_at}

-- the first line: the layout of the image, its units, and how many events and boots there were
abbrev pub counts_line : ℕ → ℕ → ℕ → ℕ → List ℕ
counts_line layout units events boots =
    codes "layout=" ++ decimal layout ++ (codes " units=" ++ decimal units) ++ (codes " events=" ++ decimal events) ++ (codes " boots=" ++ decimal boots) ++ newline ∷ []

-- the first line of the text of a state
abbrev pub head_line : Durable → List ℕ
head_line s = counts_line LAYOUT s.units s.events s.boots

-- a word and the GUID behind it
abbrev pub guid_line : List ℕ → List ℕ → List ℕ
guid_line word guid = word ++ guid_spelling guid ++ newline ∷ []

-- a durable resource manager of the image with this number
abbrev pub manager_line : ℕ → Id → List ℕ
manager_line image manager = guid_line (codes "rm ") (guid_of Manager image manager)

-- by its stage: a transaction that waits for its superior, and one that is decided; one that is ready has no line
abbrev pub stage_lines : Stage → List ℕ → List ℕ
stage_lines Ready guid = []
stage_lines Held guid = guid_line (codes "held ") guid
stage_lines Decided guid = guid_line (codes "committing ") guid

-- a transaction that is not over
abbrev pub transaction_lines : ℕ → Recorded → List ℕ
transaction_lines image t = stage_lines t.stage (guid_of Transaction image t.id)

-- the path of a node in a directory whose path this gives; the root, which is no node of the tree, has the empty one
abbrev pub path_below : (ℕ → List ℕ) → Option Node → List ℕ
path_below above None = []
path_below above (Some node) = above node.parent ++ backslash ∷ node.name

-- the path of the node with this number, by the names on the way up to the root, at most so many
abbrev pub path_up : Tree → ℕ → ℕ → List ℕ
path_up tree zero number = []
path_up tree (suc most) number = path_below (path_up tree most) (node_at tree number)

-- the path of a node: the names from the root down to it, each behind a backslash
abbrev pub path_of : Tree → Node → List ℕ
path_of tree node = path_up tree (length tree) node.number

-- what a node is
abbrev pub kind_word : Option (List ℕ) → List ℕ
kind_word None = codes "dir "
kind_word (Some bytes) = codes "file "

-- how many bytes a file has
abbrev pub size_word : Option (List ℕ) → List ℕ
size_word None = []
size_word (Some bytes) = codes " " ++ decimal (length bytes)

-- a directory or a file
abbrev pub node_line : Tree → Node → List ℕ
node_line tree node = kind_word node.content ++ quoted (path_of tree node) ++ size_word node.content ++ newline ∷ []

-- a key and its value
abbrev pub key_line : Keyed (List ℕ) → List ℕ
key_line item = codes "key " ++ quoted item.key ++ codes " " ++ hex_or_dash item.value ++ newline ∷ []

-- the whole text: managers and transactions come by rising Id, nodes by rising number, keys by rising bytes
abbrev pub state_text : Durable → List ℕ
state_text s =
    head_line s ++ flat_map (manager_line s.image) s.managers ++ flat_map (transaction_lines s.image) s.transactions ++ flat_map (node_line s.tree) s.tree ++ flat_map key_line s.keys
