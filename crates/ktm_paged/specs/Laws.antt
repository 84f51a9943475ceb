-- What is recorded with pages comes to what the model's events come to.
use Rattle.std.specs.Prelude.{◌≡◌, ◌≢◌, ℕ, ◌+◌, ◌*◌, ◌/◌, ◌^◌, ◌<◌, ◌≤◌, true, List, [], length, map, All}
use Rattle.std.specs.List.{list_all}
use Rattle.ktm_base.specs.declared.limits.TheConstants.{UNIT_BYTES}
use Rattle.ktm_world.specs.declared.change.Change.{Change}
use Rattle.ktm_world.specs.declared.change.Change.TheVariants.{Put, Cut}
use Rattle.ktm_world.specs.declared.change.Contents.TheVariants.{Whole, Paged}
use Rattle.ktm_world.specs.declared.event.Event.{Event}
use Rattle.ktm_content.specs.Places.{LieOn, byte_at, places_on}
use Rattle.ktm_world.specs.Changes.{node_of}
use Rattle.ktm_world.specs.Durable.{Durable, after_event, after_events, ends_in_bytes, event_applies, events_apply, log_applies, stand}
use Rattle.ktm_world.specs.Logs.{Group}
use Rattle.ktm_world.specs.Tree.{Tree, cut_to, numbers_rise, put_over}
use Rattle.txf_laws.specs.GoodState.{IsGoodState}
use Rattle.txf_laws.specs.Grammatical.{is_grammatical}
use Rattle.ktm_mapped.specs.Mapped.{mapped_durable}
use Rattle.ktm_replaced.specs.Replaced.{AreAlike, takes_no_pages}
use Rattle.ktm_each.specs.Each.{EachFrom, EachOfDurable, EachOfEvent}
use Rattle.ktm_paged.specs.InBytes.{AreInBytes, IsInBytes, SeeTheSame}
use Rattle.ktm_paged.specs.Meaning.{end_touched, first_unit, has_event_its_pages, has_its_pages, meant, meant_event, size_before}
use Rattle.ktm_paged.specs.Paged.{AreOwnersKept, CanAllBeMade, CanBeMade, Differ, GroupApplies, HaveUnits, IsOwned, LieBelow, LogApplies, PagedApplies, meant_group, meant_log, owners_with, page_at, paged_after, paged_after_all, paged_stand}

-- what a change means that has its pages takes none, is of the same file, and is made unit by unit; so are changes in the form in which a transaction records them
pub record MeantChanges : Type 0 where
  pub whole : (size : ℕ) (c : Change) → has_its_pages size c ≡ true → takes_no_pages (meant size c) ≡ true
  pub file : (size : ℕ) (c : Change) → node_of (meant size c) ≡ node_of c
  pub can : (tree : Tree) (c : Change) → has_its_pages (size_before tree c) c ≡ true → CanBeMade tree (meant (size_before tree c) c)
  pub all_can : (tree : Tree) (cs : List Change) → ends_in_bytes cs ≡ true → CanAllBeMade tree cs
  -- the grammar has what an event means that it has
  pub grammatical : (tree : Tree) (event : Event) → has_event_its_pages tree event ≡ true → is_grammatical event ≡ true → is_grammatical (meant_event tree event) ≡ true

-- whole units that are put into a file of so many bytes, from the first one on that is touched, are what is meant where the change is recorded with their pages, of which there are enough
pub record MeantUnits : Type 0 where
  -- bytes that are put; so it is of a part, whose files have no bytes before: contents from 0 on are meant by all their pages
  pub put : (size node offset len : ℕ) (contents pages : List ℕ) → LieOn pages contents → offset + len < 2 ^ 64 → first_unit size offset * UNIT_BYTES + length contents ≡ end_touched size (offset + len)
      → (has_its_pages size (Put node offset (Paged len pages)) ≡ true) × (meant size (Put node offset (Paged len pages)) ≡ Put node (first_unit size offset * UNIT_BYTES) (Whole contents))
  -- a file that becomes longer
  pub grown : (size node end : ℕ) (contents pages : List ℕ) → LieOn pages contents → size < end → size / UNIT_BYTES * UNIT_BYTES + length contents ≡ end
      → (has_its_pages size (Cut node end pages) ≡ true) × (meant size (Cut node end pages) ≡ Put node (size / UNIT_BYTES * UNIT_BYTES) (Whole contents))

-- what is recorded with pages is a plain call in bytes where the pages have, unit by unit, what that one makes of the file
pub record ChangesOfBytes (row : List ℕ) : Type 0 where
  pub put : (old : List ℕ) (node offset : ℕ) (bytes pages : List ℕ) → has_its_pages (length old) (Put node offset (Paged (length bytes) pages)) ≡ true
      → HaveUnits row pages (first_unit (length old) offset) (put_over (map (byte_at row) old) offset bytes)
      → AreAlike (byte_at row) old (meant (length old) (Put node offset (Paged (length bytes) pages))) (Put node offset (Whole bytes))
  -- a file that becomes longer is filled with zeros
  pub cut : (old : List ℕ) (node size : ℕ) (pages : List ℕ) → has_its_pages (length old) (Cut node size pages) ≡ true → HaveUnits row pages (length old / 4096) (cut_to (map (byte_at row) old) size)
      → AreAlike (byte_at row) old (meant (length old) (Cut node size pages)) (Cut node size [])

-- what groups and logs come to is what those come to that they mean, which apply
pub record MeantLogs (count : ℕ) : Type 0 where
  pub all : (s : Durable) (events : Group) → paged_after_all s events ≡ after_events s (meant_group s events)
  pub all_apply : (s : Durable) (events : Group) → GroupApplies count s events → events_apply s (meant_group s events) ≡ true
  pub log : (base : Durable) (groups : List Group) → paged_stand base groups ≡ stand base (meant_log base groups)
  pub log_apply : (base : Durable) (groups : List Group) → LogApplies count base groups → log_applies base (meant_log base groups) ≡ true

-- a good state stays good, of events as the grammar has them
pub record StatesGood (count : ℕ) : Type 0 where
  pub one : (s : Durable) (event : Event) → IsGoodState s → is_grammatical event ≡ true → PagedApplies count s event → IsGoodState (paged_after s event)
  pub all : (s : Durable) (events : Group) → IsGoodState s → list_all is_grammatical events ≡ true → GroupApplies count s events → IsGoodState (paged_after_all s events)
  pub log : (base : Durable) (groups : List Group) → IsGoodState base → list_all (list_all is_grammatical) groups ≡ true → LogApplies count base groups → IsGoodState (paged_stand base groups)

-- the contents of a good state go on to lie on the first so many pages
pub record StatesBelow (count : ℕ) : Type 0 where
  pub one : (s : Durable) (event : Event) → IsGoodState s → PagedApplies count s event → LieBelow count s → LieBelow count (paged_after s event)
  pub all : (s : Durable) (events : Group) → IsGoodState s → list_all is_grammatical events ≡ true → GroupApplies count s events → LieBelow count s → LieBelow count (paged_after_all s events)
  pub log : (base : Durable) (groups : List Group) → IsGoodState base → list_all (list_all is_grammatical) groups ≡ true → LogApplies count base groups → LieBelow count base → LieBelow count (paged_stand base groups)

-- a group is recorded with pages, and is another one in bytes: a good state comes to what that one makes of it with the byte at each place, and it applies
pub record GroupsInBytes (count : ℕ) (row : List ℕ) : Type 0 where
  pub one : (s : Durable) (recorded asked : Event) → numbers_rise s.tree ≡ true → IsInBytes row s recorded asked
      → mapped_durable (byte_at row) (paged_after s recorded) ≡ after_event (mapped_durable (byte_at row) s) asked
  pub one_applies : (s : Durable) (recorded asked : Event) → numbers_rise s.tree ≡ true → IsInBytes row s recorded asked
      → event_applies s (meant_event s.tree recorded) ≡ event_applies (mapped_durable (byte_at row) s) asked
  pub all : (s : Durable) (events asked : Group) → IsGoodState s → list_all is_grammatical events ≡ true → GroupApplies count s events → AreInBytes row s events asked
      → mapped_durable (byte_at row) (paged_after_all s events) ≡ after_events (mapped_durable (byte_at row) s) asked
  pub all_apply : (s : Durable) (events asked : Group) → IsGoodState s → list_all is_grammatical events ≡ true → GroupApplies count s events → AreInBytes row s events asked
      → events_apply (mapped_durable (byte_at row) s) asked ≡ true

-- a state is the same through two rows that have the same byte at each of its places
abbrev pub RowsSeen : Type 0
RowsSeen = (row other : List ℕ) (s : Durable) → SeeTheSame row other s → mapped_durable (byte_at row) s ≡ mapped_durable (byte_at other) s

-- each place goes on to be that of one byte of one file, where that is so of the places that are put, and the other places keep their owners
pub record StatesApart : Type 0 where
  pub one : (s : Durable) (event : Event) (old new : ℕ → ℕ × ℕ) → EachOfDurable (IsOwned old) s → AreOwnersKept old new s → EachOfEvent (IsOwned new) (meant_event s.tree event)
      → EachOfDurable (IsOwned new) (paged_after s event)
  -- contents that are put on pages, each of which stands once, have an owner, which is another one on these pages alone
  pub new : (owner : ℕ → ℕ × ℕ) (file unit : ℕ) (pages : List ℕ) (size : ℕ) → Differ pages → size ≤ length pages * UNIT_BYTES
      → EachFrom (IsOwned (owners_with owner file unit pages) file) (unit * UNIT_BYTES) (places_on pages size)
  pub others : (owner : ℕ → ℕ × ℕ) (file unit : ℕ) (pages : List ℕ) (place : ℕ) → All (λ page. page_at place ≢ page) pages → owners_with owner file unit pages place ≡ owner place

-- what is recorded with pages is no more than what the model records, with the place of each byte; seen through the bytes of the pages it is what was asked; and contents go on to lie on the pages that there are, apart
abbrev pub PagedLaw : Type 0
PagedLaw = MeantChanges × MeantUnits × ((row : List ℕ) → ChangesOfBytes row) × ((count : ℕ) → MeantLogs count × StatesGood count × StatesBelow count) × ((count : ℕ) (row : List ℕ) → GroupsInBytes count row) × RowsSeen × StatesApart
