-- What holds of each byte of each content, by the number of its file and its index there.
use Rattle.std.specs.Prelude.{ℕ, suc, List, [], ◌∷◌, All, ⊤}
use Rattle.ktm_world.specs.declared.change.Change.{Change}
use Rattle.ktm_world.specs.declared.change.Change.TheVariants.{Put}
use Rattle.ktm_world.specs.declared.event.Event.{Event}
use Rattle.ktm_world.specs.declared.event.Part.{Part}
use Rattle.ktm_world.specs.declared.recorded.Node.{Node}
use Rattle.ktm_world.specs.Changes.{bytes_in}
use Rattle.ktm_world.specs.Durable.{Durable, Recorded, changes_in}
use Rattle.ktm_world.specs.Files.{FilesNow, FirstOpen, OwnChanges}
use Rattle.ktm_world.specs.Logs.{Group}
use Rattle.ktm_world.specs.Tree.{Tree, bytes_or_none}
use Rattle.txf_laws.specs.Grammatical.{changes_of_event}

-- ---- bytes

-- it holds of each byte, the first of which has this index
abbrev pub EachFrom : (ℕ → ℕ → Type 0) → ℕ → List ℕ → Type 0
EachFrom p from [] = ⊤
EachFrom p from (b ∷ bs) = p from b × EachFrom p (suc from) bs

-- it holds of zeros, with which gaps are filled, wherever they stand
abbrev pub AreZerosSuch : (ℕ → ℕ → ℕ → Type 0) → Type 0
AreZerosSuch p = (file index : ℕ) → p file index 0

-- ---- files

-- it holds of each byte of the file; a directory has none
abbrev pub EachOfNode : (ℕ → ℕ → ℕ → Type 0) → Node → Type 0
EachOfNode p node = EachFrom (p node.number) 0 (bytes_or_none node.content)

-- it holds of each byte of each file
abbrev pub EachOfTree : (ℕ → ℕ → ℕ → Type 0) → Tree → Type 0
EachOfTree p tree = All (EachOfNode p) tree

-- ---- changes

-- it holds of each byte that the change puts, at the index that it gets
abbrev pub EachOfChange : (ℕ → ℕ → ℕ → Type 0) → Change → Type 0
EachOfChange p (Put node offset contents) = EachFrom (p node) offset (bytes_in contents)
EachOfChange p _ = ⊤

-- it holds of each byte that the changes put
abbrev pub EachOfChanges : (ℕ → ℕ → ℕ → Type 0) → List Change → Type 0
EachOfChanges p changes = All (EachOfChange p) changes

-- ---- the files now

-- it holds of each byte that the undecided transaction puts
abbrev pub EachOfOwn : (ℕ → ℕ → ℕ → Type 0) → OwnChanges → Type 0
EachOfOwn p o = EachOfChanges p o.changes

-- it holds of each byte of the version that a transaction opened first
abbrev pub EachOfFirst : (ℕ → ℕ → ℕ → Type 0) → FirstOpen → Type 0
EachOfFirst p o = EachFrom (p o.file) 0 o.bytes

-- it holds of each byte that is committed, and that undecided transactions put and opened first
pub record EachOfFiles (p : ℕ → ℕ → ℕ → Type 0) (files : FilesNow) : Type 0 where
  pub tree : EachOfTree p files.tree
  pub own : All (EachOfOwn p) files.table.own
  pub first_opens : All (EachOfFirst p) files.first_opens

-- ---- what is recorded

-- it holds of each byte that the part puts
abbrev pub EachOfPart : (ℕ → ℕ → ℕ → Type 0) → Part → Type 0
EachOfPart p part = EachOfChanges p (changes_in part)

-- it holds of each byte that the event puts
abbrev pub EachOfEvent : (ℕ → ℕ → ℕ → Type 0) → Event → Type 0
EachOfEvent p event = EachOfChanges p (changes_of_event event)

-- it holds of each byte that the events of the group put
abbrev pub EachOfGroup : (ℕ → ℕ → ℕ → Type 0) → Group → Type 0
EachOfGroup p group = All (EachOfEvent p) group

-- it holds of each byte that the transaction puts, which is not over
abbrev pub EachOfRecorded : (ℕ → ℕ → ℕ → Type 0) → Recorded → Type 0
EachOfRecorded p t = All (λ part. EachOfPart p part.part) t.parts

-- it holds of each byte that is committed, and that transactions put which are not over
pub record EachOfDurable (p : ℕ → ℕ → ℕ → Type 0) (s : Durable) : Type 0 where
  pub tree : EachOfTree p s.tree
  pub transactions : All (EachOfRecorded p) s.transactions
