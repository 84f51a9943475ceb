-- How events stand in bytes.
use Rattle.std.specs.Prelude.{◌≡◌, ℕ, zero, suc, ◌≤◌, IsTrue, List, [], ◌∷◌, Option, Some, None}
use Rattle.ktm_base.specs.declared.id.Id.{Id}
use Rattle.ktm_base.specs.Grammar.{IsU8, IsU32, IsU64, Then, Tagged, IsTextOf, IsValueOf, IsListOf}
use Rattle.ktm_keyed.specs.declared.keyed.Keyed.{Keyed}
use Rattle.ktm_world.specs.declared.event.Part.{Part}
use Rattle.ktm_world.specs.declared.event.Part.TheVariants.{Enlistment, Changes, Settings}
use Rattle.ktm_world.specs.declared.event.DonePart.{DonePart}
use Rattle.ktm_world.specs.declared.event.DonePart.TheVariants.{Files, Keys}
use Rattle.ktm_world.specs.declared.event.Event.{Event}
use Rattle.ktm_world.specs.declared.event.Event.TheVariants.{Boot, MadeRm, Plain, Ready, Single, Held, Decide, Undo}
use Rattle.ktm_world.specs.declared.change.Change.{Change}
use Rattle.ktm_world.specs.declared.change.Change.TheVariants.{Make, Put, Cut, Move, Drop}
use Rattle.ktm_world.specs.declared.change.Contents.{Contents}
use Rattle.ktm_world.specs.declared.change.Contents.TheVariants.{Whole, Paged}
use Rattle.ktm_world.specs.declared.change.NodeKind.{NodeKind}
use Rattle.ktm_world.specs.declared.change.NodeKind.TheVariants.{File, Directory}
use Rattle.ktm_keyed.specs.Keyed.{is_rising}
use Rattle.ktm_world.specs.Values.{IsText}

-- an Id is its boot and its number, each at least 1
pub record IsIdOf (id : Id) (bytes : List ℕ) : Type 0 where
  pub boot_from : 1 ≤ id.boot
  pub number_from : 1 ≤ id.number
  pub numbers : Then (IsU32 id.boot) (IsU32 id.number) bytes

-- what a key is set to: tag 0 where it is unset
abbrev pub IsSetTo : Option (List ℕ) → List ℕ → Type 0
IsSetTo None = Tagged 0 (λ rest. rest ≡ [])
IsSetTo (Some value) = Tagged 1 (IsValueOf value)

-- a setting is its key, which has the characters of a text, and what it is set to
pub record IsSettingOf (setting : Keyed (Option (List ℕ))) (bytes : List ℕ) : Type 0 where
  pub text : IsText setting.key
  pub parts : Then (IsTextOf setting.key) (IsSetTo setting.value) bytes

-- the settings of a part are a list by rising key: no key stands twice
pub record AreSettingsOf (settings : List (Keyed (Option (List ℕ)))) (bytes : List ℕ) : Type 0 where
  pub rising : IsTrue (is_rising settings)
  pub listed : IsListOf IsSettingOf settings bytes

-- what a node is: 0 for a file, 1 for a directory
abbrev pub IsKindOf : NodeKind → List ℕ → Type 0
IsKindOf File = IsU8 0
IsKindOf Directory = IsU8 1

-- contents that are put are not empty, and stand on pages: how many bytes there are, and the list of the pages
abbrev pub IsPutOf : Contents → List ℕ → Type 0
IsPutOf (Whole contents) bytes = ⊥
IsPutOf (Paged zero pages) bytes = ⊥
IsPutOf (Paged (suc n) pages) bytes = Then (IsU32 (suc n)) (IsListOf IsU32 pages) bytes

-- a cut is its size, and the list of its pages
abbrev pub IsCutOf : ℕ → List ℕ → List ℕ → Type 0
IsCutOf size pages = Then (IsU64 size) (IsListOf IsU32 pages)

-- a change is its tag and its fields
abbrev pub IsChangeOf : Change → List ℕ → Type 0
IsChangeOf (Make node parent kind name) = Tagged 1 (Then (IsU64 node) (Then (IsU64 parent) (Then (IsKindOf kind) (IsTextOf name))))
IsChangeOf (Put node offset contents) = Tagged 2 (Then (IsU64 node) (Then (IsU64 offset) (IsPutOf contents)))
IsChangeOf (Cut node size pages) = Tagged 3 (Then (IsU64 node) (IsCutOf size pages))
IsChangeOf (Move node parent name) = Tagged 4 (Then (IsU64 node) (Then (IsU64 parent) (IsTextOf name)))
IsChangeOf (Drop node) = Tagged 5 (IsU64 node)

-- an enlistment, its resource manager and its recovery information
abbrev pub IsRecordOf : Id → Id → List ℕ → List ℕ → Type 0
IsRecordOf enlistment manager information = Then (IsIdOf enlistment) (Then (IsIdOf manager) (IsTextOf information))

-- a part is its tag, and an enlistment or a list
abbrev pub IsPartOf : Part → List ℕ → Type 0
IsPartOf (Enlistment enlistment manager information) = Tagged 1 (IsRecordOf enlistment manager information)
IsPartOf (Changes changes) = Tagged 2 (IsListOf IsChangeOf changes)
IsPartOf (Settings settings) = Tagged 3 (AreSettingsOf settings)

-- the part of a transaction that has this one alone: no enlistment's
abbrev pub IsSoleOf : Part → List ℕ → Type 0
IsSoleOf (Enlistment enlistment manager information) bytes = ⊥
IsSoleOf (Changes changes) bytes = IsPartOf (Changes changes) bytes
IsSoleOf (Settings settings) bytes = IsPartOf (Settings settings) bytes

-- who is done: an enlistment, the files or the keys
abbrev pub IsDoneOf : DonePart → List ℕ → Type 0
IsDoneOf (DonePart.Enlistment enlistment) = Tagged 1 (IsIdOf enlistment)
IsDoneOf Files = IsU8 2
IsDoneOf Keys = IsU8 3

-- an event is its tag and its fields
abbrev pub IsEventOf : Event → List ℕ → Type 0
IsEventOf (Boot boot) = Tagged 1 (IsU32 boot)
IsEventOf (MadeRm manager) = Tagged 2 (IsIdOf manager)
IsEventOf (Plain change) = Tagged 3 (IsChangeOf change)
IsEventOf (Ready transaction part) = Tagged 4 (Then (IsIdOf transaction) (IsPartOf part))
IsEventOf (Single transaction part) = Tagged 5 (Then (IsIdOf transaction) (IsSoleOf part))
IsEventOf (Held transaction enlistment manager information) = Tagged 6 (Then (IsIdOf transaction) (IsRecordOf enlistment manager information))
IsEventOf (Decide transaction) = Tagged 7 (IsIdOf transaction)
IsEventOf (Undo transaction) = Tagged 8 (IsIdOf transaction)
IsEventOf (Event.Done transaction done) = Tagged 9 (Then (IsIdOf transaction) (IsDoneOf done))

-- a group is the payload of one frame of the log: the list of its events, of which there is one at least
abbrev pub IsGroupOf : List Event → List ℕ → Type 0
IsGroupOf [] bytes = ⊥
IsGroupOf (event ∷ events) bytes = IsListOf IsEventOf (event ∷ events) bytes
