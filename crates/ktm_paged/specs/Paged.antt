-- The states that a log with pages comes to, and what is so of them.
use Rattle.std.specs.Prelude.{◌≡◌, ◌≢◌, ◌⊎◌, ℕ, ◌+◌, ◌-◌, ◌*◌, ◌/◌, ◌%◌, ◌==◌, ◌<◌, ◌≤◌, true, List, [], ◌∷◌, length, slice_index, fold, All, ⊤, if◌then◌else◌}
use Rattle.ktm_base.specs.declared.limits.TheConstants.{UNIT_BYTES}
use Rattle.ktm_world.specs.declared.change.Change.{Change}
use Rattle.ktm_world.specs.declared.change.Change.TheVariants.{Put, Cut}
use Rattle.ktm_world.specs.declared.event.Event.{Event}
use Rattle.ktm_world.specs.declared.event.Event.TheVariants.{Plain}
use Rattle.ktm_world.specs.declared.recorded.Node.{Node}
use Rattle.ktm_world.specs.declared.recorded.RecordedPart.{RecordedPart}
use Rattle.ktm_content.specs.Places.{CanBePut, LieOn}
use Rattle.ktm_world.specs.Changes.{bytes_in, changed}
use Rattle.ktm_world.specs.Durable.{Durable, Recorded, after_event, changes_in, event_applies}
use Rattle.ktm_world.specs.Logs.{Group}
use Rattle.ktm_world.specs.Tree.{Tree, bytes_of, bytes_or_none}
use Rattle.ktm_each.specs.Each.{EachOfDurable}
use Rattle.ktm_paged.specs.Meaning.{has_event_its_pages, meant_event, pages_of_event}

-- ---- what a log comes to

-- the state after an event that is recorded with pages
abbrev pub paged_after : Durable → Event → Durable
paged_after s event = after_event s (meant_event s.tree event)

-- the state after the events of a group
abbrev pub paged_after_all : Durable → Group → Durable
paged_after_all s events = fold paged_after s events

-- the state after the groups of a log
abbrev pub paged_stand : Durable → List Group → Durable
paged_stand base groups = fold paged_after_all base groups

-- what the events of a group mean, each in the state that those before it come to
abbrev pub meant_group : Durable → Group → Group
meant_group s [] = []
meant_group s (event ∷ events) = meant_event s.tree event ∷ meant_group (paged_after s event) events

-- what the groups of a log mean
abbrev pub meant_log : Durable → List Group → List Group
meant_log base [] = []
meant_log base (group ∷ groups) = meant_group base group ∷ meant_log (paged_after_all base group) groups

-- ---- changes unit by unit

-- contents that are put over these of their file can be put unit by unit, and a file that is cut becomes no longer
abbrev pub CanBeMadeOver : (ℕ → List ℕ) → Change → Type 0
CanBeMadeOver bytes (Put node offset contents) = CanBePut (bytes node) offset (bytes_in contents)
CanBeMadeOver bytes (Cut node size pages) = size ≤ length (bytes node)
CanBeMadeOver bytes _ = ⊤

-- the change can be made of the tree
abbrev pub CanBeMade : Tree → Change → Type 0
CanBeMade tree change = CanBeMadeOver (bytes_of tree) change

-- so can all of these, each behind those before it
abbrev pub CanAllBeMade : Tree → List Change → Type 0
CanAllBeMade tree [] = ⊤
CanAllBeMade tree (change ∷ changes) = CanBeMade tree change × CanAllBeMade (changed tree change) changes

-- what a plain call changes can be made, where an event is of one
abbrev pub IsPlainlyMade : Tree → Event → Type 0
IsPlainlyMade tree (Plain change) = CanBeMade tree change
IsPlainlyMade tree _ = ⊤

-- ---- bytes on pages

-- a row of pages has these bytes of a file on these pages, unit by unit, from this unit on, as far as the file goes
pub record HaveUnits (row pages : List ℕ) (first : ℕ) (bytes : List ℕ) : Type 0 where
  pub each : (n i : ℕ) → n < length pages → i < UNIT_BYTES → (first + n) * UNIT_BYTES + i < length bytes → slice_index row (slice_index pages n * UNIT_BYTES + i) ≡ slice_index bytes ((first + n) * UNIT_BYTES + i)

-- ---- contents that lie on pages

-- contents lie on some of the first so many pages
pub record LiesBelow (count : ℕ) (contents : List ℕ) : Type 0 where
  pub pages : List ℕ
  pub lie : LieOn pages contents
  pub below : All (λ page. page < count) pages

-- what a change puts lies so
abbrev pub PutLiesBelow : ℕ → Change → Type 0
PutLiesBelow count (Put node offset contents) = LiesBelow count (bytes_in contents)
PutLiesBelow count _ = ⊤

-- what a transaction puts that is not over lies so
abbrev pub RecordedLiesBelow : ℕ → Recorded → Type 0
RecordedLiesBelow count t = All (λ (part : RecordedPart). All (PutLiesBelow count) (changes_in part.part)) t.parts

-- all files lie so, and what transactions put that are not over
pub record LieBelow (count : ℕ) (s : Durable) : Type 0 where
  pub files : All (λ (node : Node). LiesBelow count (bytes_or_none node.content)) s.tree
  pub works : All (RecordedLiesBelow count) s.transactions

-- ---- places apart

-- a place is none, or its owner is this byte of this file
abbrev pub IsOwned : (ℕ → ℕ × ℕ) → ℕ → ℕ → ℕ → Type 0
IsOwned owner file index place = (place ≡ 0) ⊎ (owner place ≡ (file, index))

-- a place is none, or its owner is this byte of this file, and it is on one of the first so many pages
abbrev pub IsSound : (ℕ → ℕ × ℕ) → ℕ → ℕ → ℕ → ℕ → Type 0
IsSound owner count file index place = (place ≡ 0) ⊎ ((owner place ≡ (file, index)) × (place ≤ count * UNIT_BYTES))

-- each place is that of one byte of one file
abbrev pub IsApart : Durable → Type 0
IsApart s = (owner : ℕ → ℕ × ℕ) × EachOfDurable (IsOwned owner) s

-- the page that a place is on
abbrev pub page_at : ℕ → ℕ
page_at place = (place - 1) / UNIT_BYTES

-- the owners, where these pages have the units of a file from this one on
abbrev pub owners_with : (ℕ → ℕ × ℕ) → ℕ → ℕ → List ℕ → ℕ → ℕ × ℕ
owners_with owner file unit [] place = owner place
owners_with owner file unit (page ∷ pages) place = if page_at place == page then (file, unit * UNIT_BYTES + (place - 1) % UNIT_BYTES) else owners_with owner file (unit + 1) pages place

-- none of the pages is another one of them
abbrev pub Differ : List ℕ → Type 0
Differ [] = ⊤
Differ (page ∷ pages) = All (λ other. other ≢ page) pages × Differ pages

-- the owners of all places of the state are the same
abbrev pub AreOwnersKept : (ℕ → ℕ × ℕ) → (ℕ → ℕ × ℕ) → Durable → Type 0
AreOwnersKept old new s = EachOfDurable (λ file index place. (place ≡ 0) ⊎ (new place ≡ old place)) s

-- ---- events that apply

-- an event that is recorded with pages applies: it has its pages, of which there are so many, what it means applies, and each place is that of one byte then
pub record PagedApplies (count : ℕ) (s : Durable) (event : Event) : Type 0 where
  pub paged : has_event_its_pages s.tree event ≡ true
  pub below : All (λ page. page < count) (pages_of_event event)
  pub applies : event_applies s (meant_event s.tree event) ≡ true
  pub apart : IsApart (paged_after s event)

-- the events of a group apply, one after another
abbrev pub GroupApplies : ℕ → Durable → Group → Type 0
GroupApplies count s [] = ⊤
GroupApplies count s (event ∷ events) = PagedApplies count s event × GroupApplies count (paged_after s event) events

-- the groups of a log apply, one after another
abbrev pub LogApplies : ℕ → Durable → List Group → Type 0
LogApplies count base [] = ⊤
LogApplies count base (group ∷ groups) = GroupApplies count base group × LogApplies count (paged_after_all base group) groups
