-- Numbers as bytes, which are in the order of the numbers, and the names under which the open files are sorted.
use Rattle.std.specs.Prelude.{ℕ, List, [], ◌∷◌, Option, Some, None}
use Rattle.ktm_base.specs.declared.id.Id.{Id}
use Rattle.ktm_world.specs.Files.{OpenFile}
use Rattle.ktm_links.specs.Numbers.{number_bytes, long_bytes}

-- what the plain open files have in their names in front of those of transactions
abbrev pub kind_of : Option Id → ℕ
kind_of None = 0
kind_of (Some id) = 1

-- the boot in which the transaction was made, if there is one
abbrev pub boot_of : Option Id → ℕ
boot_of None = 0
boot_of (Some id) = id.boot

-- the number of the transaction, if there is one
abbrev pub number_of : Option Id → ℕ
number_of None = 0
number_of (Some id) = id.number

-- whether there is a transaction, and which, and then these bytes
abbrev pub group_bytes : Option Id → List ℕ → List ℕ
group_bytes group rest = kind_of group ∷ number_bytes (boot_of group) (number_bytes (number_of group) rest)

-- by which name the open file stands under its number
abbrev pub number_name : OpenFile → List ℕ
number_name o = number_bytes o.number []

-- by which name it stands under its group
abbrev pub group_name : OpenFile → List ℕ
group_name o = group_bytes o.transaction (number_name o)

-- by which name it stands under what it is open on
abbrev pub use_name : OpenFile → List ℕ
use_name o = long_bytes o.node (group_name o)

-- the names that come after those of the open files of a group on a node begin here
abbrev pub past : ℕ → Option Id → List ℕ
past node group = long_bytes node (group_bytes group (255 ∷ 255 ∷ 255 ∷ 255 ∷ 0 ∷ []))
