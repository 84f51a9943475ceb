-- Which pages of a store memory holds and wants.
use Rattle.std.specs.Prelude.{◌≡◌, ℕ, ◌+◌, ◌*◌, ◌<◌, ◌≤◌, All, Bool, true, List, length, sum_by}
use Rattle.ktm_base.specs.declared.limits.TheConstants.{UNIT_BYTES}
use Rattle.ktm_content.specs.Contents.{units_of}
use Rattle.ktm_world.specs.declared.change.Change.{Change}
use Rattle.ktm_world.specs.declared.change.Change.TheVariants.{Put}
use Rattle.txf_laws.specs.Grammatical.{changes_of_event}
use Rattle.ktm_world.specs.Changes.{bytes_in}
use Rattle.ktm_each.specs.Each.{EachOfFiles, EachOfGroup}
use Rattle.ktm_store.specs.Marks.{free_ahead, is_held}
use Rattle.ktm_paged.specs.Meaning.{pages_in}
use Rattle.ktm_store.specs.Store.{IsHeldAt, IsStoredAt, StoreOf}
use Rattle.ktm_store.specs.Stored.{is_stored}
use Rattle.ktm_world.specs.FileUses.{units_used}
use Rattle.ktm_world.specs.Files.{FilesNow}
use Rattle.ktm_world.specs.Logs.{Group}

-- all places of the files are on the first so many pages
abbrev pub FilesLieBelow : ℕ → FilesNow → Type 0
FilesLieBelow count files = EachOfFiles (λ file index place. place ≤ count * UNIT_BYTES) files

-- so are those that events put
abbrev pub EventsLieBelow : ℕ → Group → Type 0
EventsLieBelow count events = EachOfGroup (λ file index place. place ≤ count * UNIT_BYTES) events

-- the pages of all places of the files are held
abbrev pub AreFilesHeld : {B : Type 0} → StoreOf B → FilesNow → Type 0
AreFilesHeld store files = EachOfFiles (λ file index place. IsHeldAt store.marks place) files

-- the pages that a change names, as it is recorded, are among the first so many
abbrev pub NamesBelow : ℕ → Change → Type 0
NamesBelow count change = All (λ page. page < count) (pages_in change)

-- how many pages a change names, as it is recorded
abbrev pub pages_named : Change → ℕ
pages_named change = length (pages_in change)

-- they are stored
abbrev pub NamesStored : List Bool → Change → Type 0
NamesStored stored change = All (λ page. is_stored stored page ≡ true) (pages_in change)

-- the pages of all places that events put are stored
abbrev pub AreEventsStored : List Bool → Group → Type 0
AreEventsStored stored events = EachOfGroup (λ file index place. IsStoredAt stored place) events

-- the pages of all places of the files are held and those that were held, and nothing else has changed; as many are free but for the units in use
pub record HoldsFiles (files : FilesNow) {B : Type 0} (old new : StoreOf B) : Type 0 where
  pub seen : new.seen ≡ old.seen
  pub stored : new.stored ≡ old.stored
  pub wanted : new.wanted ≡ old.wanted
  pub next : new.marks.next ≡ old.marks.next
  pub count : length new.marks.held ≡ length old.marks.held
  pub places : AreFilesHeld new files
  pub kept : (page : ℕ) → is_held old.marks.held page ≡ true → is_held new.marks.held page ≡ true
  pub free : free_ahead old.marks ≤ free_ahead new.marks + units_used files

-- how many units the bytes have that a change puts
abbrev pub units_of_change : Change → ℕ
units_of_change (Put node offset contents) = units_of (bytes_in contents)
units_of_change _ = 0

-- how many units the bytes have that events put
abbrev pub units_put : Group → ℕ
units_put events = sum_by (λ event. sum_by units_of_change (changes_of_event event)) events
