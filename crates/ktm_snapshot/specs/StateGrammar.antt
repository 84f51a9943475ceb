-- How a durable state, whose contents are the places of their bytes, stands in bytes. Its units and the number of its image are those of the image's header, and are not spelled.
use Rattle.std.specs.Prelude.{◌≡◌, ℕ, Bool, true, false, List, [], length, Option, Some, None}
use Rattle.ktm_base.specs.declared.id.Id.{Id}
use Rattle.ktm_base.specs.Grammar.{IsU8, IsU32, IsU64, Then, Tagged, IsTextOf, IsValueOf, IsRow, IsListOf}
use Rattle.ktm_content.specs.Places.{LieOn}
use Rattle.ktm_keyed.specs.declared.keyed.Keyed.{Keyed}
use Rattle.ktm_keyed.specs.Keyed.{is_rising}
use Rattle.ktm_world.specs.declared.event.Part.{Part}
use Rattle.ktm_world.specs.declared.recorded.Node.{Node}
use Rattle.ktm_world.specs.declared.recorded.RecordedPart.{RecordedPart}
use Rattle.ktm_world.specs.declared.recorded.Stage.{Stage}
use Rattle.ktm_world.specs.declared.recorded.Stage.TheVariants.{Ready, Held, Decided}
use Rattle.ktm_world.specs.declared.recorded.Superior.{Superior}
use Rattle.ktm_world.specs.EventGrammar.{IsIdOf, IsRecordOf, IsPartOf}
use Rattle.ktm_world.specs.Values.{IsText}
use Rattle.ktm_world.specs.Durable.{Durable, Recorded, is_before}
use Rattle.ktm_world.specs.Keys.{Store}
use Rattle.ktm_world.specs.Tree.{Tree, numbers_rise}
use Rattle.txf_laws.specs.Elements.{each_pair}
use Rattle.ktm_snapshot.specs.Works.{is_work, placed_part}
use Rattle.ktm_snapshot.specs.declared.head.StateHead.{StateHead}

-- the head of a state: the numbers of its events and boots, and the number of the next node
abbrev pub IsHeadOf : StateHead → List ℕ → Type 0
IsHeadOf head = Then (IsU64 head.events) (Then (IsU32 head.boots) (IsU64 head.next_node))

-- the contents of a file, as the places of its bytes: how many bytes there are, and the list of the pages that they lie on
pub record IsContentsOf (contents bytes : List ℕ) : Type 0 where
  pub pages : List ℕ
  pub lie : LieOn pages contents
  pub spelled : Then (IsU64 (length contents)) (IsListOf IsU32 pages) bytes

-- what a node is, and its name: tag 0 for a file, whose contents follow, and tag 1 for a directory
abbrev pub IsNamedOf : List ℕ → Option (List ℕ) → List ℕ → Type 0
IsNamedOf name (Some contents) = Tagged 0 (Then (IsTextOf name) (IsContentsOf contents))
IsNamedOf name None = Tagged 1 (IsTextOf name)

-- a node is its number, that of its directory, and what it is
abbrev pub IsNodeOf : Node → List ℕ → Type 0
IsNodeOf node = Then (IsU64 node.number) (Then (IsU64 node.parent) (IsNamedOf node.name node.content))

-- a committed key, which has the characters of a text, and its value
pub record IsEntryOf (entry : Keyed (List ℕ)) (bytes : List ℕ) : Type 0 where
  pub text : IsText entry.key
  pub parts : Then (IsTextOf entry.key) (IsValueOf entry.value) bytes

-- how far a transaction is
abbrev pub IsStageOf : Stage → List ℕ → Type 0
IsStageOf Ready = IsU8 0
IsStageOf Held = IsU8 1
IsStageOf Decided = IsU8 2

-- the superior of a transaction, or tag 0 where it has none
abbrev pub IsSuperiorOf : Option Superior → List ℕ → Type 0
IsSuperiorOf None = Tagged 0 (λ rest. rest ≡ [])
IsSuperiorOf (Some superior) = Tagged 1 (IsRecordOf superior.enlistment superior.manager superior.information)

-- is a part done: 1 where it is, and 0 where it is not
abbrev pub IsMarkOf : Bool → List ℕ → Type 0
IsMarkOf false = IsU8 0
IsMarkOf true = IsU8 1

-- a part of a transaction, whose contents are places, stands as the one in events that it is recorded as
pub record IsPlacedPartOf (part : Part) (bytes : List ℕ) : Type 0 where
  pub recorded : Part
  pub work : is_work recorded ≡ true
  pub placed : part ≡ placed_part recorded
  pub spelled : IsPartOf recorded bytes

-- a part is its mark, and what it is
abbrev pub IsMarkedOf : RecordedPart → List ℕ → Type 0
IsMarkedOf part = Then (IsMarkOf part.is_done) (IsPlacedPartOf part.part)

-- what a transaction begins with: its Id, its stage, its superior, and how many parts it has
abbrev pub IsStartOf : Id → Stage → Option Superior → ℕ → List ℕ → Type 0
IsStartOf id stage superior count = Then (IsIdOf id) (Then (IsStageOf stage) (Then (IsSuperiorOf superior) (IsU32 count)))

-- a transaction is what it begins with, and its parts
abbrev pub IsTransactionOf : Recorded → List ℕ → Type 0
IsTransactionOf t = Then (IsStartOf t.id t.stage t.superior (length t.parts)) (IsRow IsMarkedOf t.parts)

-- a list whose things rise
pub record IsRisingListOf {X : Type 0} (rises : List X → Bool) (Item : X → List ℕ → Type 0) (xs : List X) (bytes : List ℕ) : Type 0 where
  pub rising : rises xs ≡ true
  pub listed : IsListOf Item xs bytes

-- do the transactions rise by their Ids
abbrev pub transactions_rise : List Recorded → Bool
transactions_rise = each_pair (λ (t u : Recorded). is_before t.id u.id)

-- the nodes but the root, by rising number
abbrev pub AreNodesOf : Tree → List ℕ → Type 0
AreNodesOf = IsRisingListOf numbers_rise IsNodeOf

-- the committed keys, by rising key
abbrev pub AreEntriesOf : Store → List ℕ → Type 0
AreEntriesOf = IsRisingListOf is_rising IsEntryOf

-- the durable resource managers, by rising Id
abbrev pub AreManagersOf : List Id → List ℕ → Type 0
AreManagersOf = IsRisingListOf (each_pair is_before) IsIdOf

-- the transactions that are not over, by rising Id
abbrev pub AreTransactionsOf : List Recorded → List ℕ → Type 0
AreTransactionsOf = IsRisingListOf transactions_rise IsTransactionOf

-- the head of this state
abbrev pub head_of : Durable → StateHead
head_of s = record { events = s.events; boots = s.boots; next_node = s.next_node }

-- a state from its head up to its nodes
abbrev pub IsUpToNodesOf : Durable → List ℕ → Type 0
IsUpToNodesOf s = Then (IsHeadOf (head_of s)) (AreNodesOf s.tree)

-- a state from its head up to its keys
abbrev pub IsUpToEntriesOf : Durable → List ℕ → Type 0
IsUpToEntriesOf s = Then (IsUpToNodesOf s) (AreEntriesOf s.keys)

-- a state from its head up to its resource managers
abbrev pub IsUpToManagersOf : Durable → List ℕ → Type 0
IsUpToManagersOf s = Then (IsUpToEntriesOf s) (AreManagersOf s.managers)

-- a state: the head, the nodes, the keys, the resource managers and, last, the transactions
pub record IsStateOf (s : Durable) (bytes : List ℕ) : Type 0 where
  pub spelled : Then (IsUpToManagersOf s) (AreTransactionsOf s.transactions) bytes
