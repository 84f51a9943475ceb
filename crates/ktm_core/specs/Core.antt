-- The machine over the places of bytes, with the pages on which they are, and when its disk stands for it.
use Rattle.std.specs.Prelude.{◌≡◌, ◌⊎◌, ℕ, ◌+◌, ◌-◌, ◌*◌, ◌≤◌, ◌==◌, ◌&&◌, ◌||◌, nat_le, Bool, true, false, List, [], Option, IfSome}
use Rattle.ktm_base.specs.declared.limits.TheConstants.{UNIT_BYTES}
use Rattle.ktm_base.specs.Disk.{DiskState, DiskStatus, MayLeave}
use Rattle.ktm_debts.specs.Debts.{debts}
use Rattle.ktm_each.specs.Each.{EachOfDurable, EachOfFiles}
use Rattle.ktm_journal.specs.Image.{IsHeaded, JournalState, row_of}
use Rattle.ktm_memory.specs.Memory.{MemoryState, present_of}
use Rattle.ktm_memory.specs.Rules.{Follows}
use Rattle.ktm_page.specs.Row.{page_of}
use Rattle.ktm_paged.specs.InBytes.{SeeTheSame}
use Rattle.ktm_restart.specs.Logs.{JournalFor, PagedFor}
use Rattle.ktm_route.specs.declared.asked.Asked.{Asked}
use Rattle.ktm_route.specs.Route.{AskedPutsBy}
use Rattle.ktm_slots.specs.Owed.{owed_slots}
use Rattle.ktm_standing.specs.Standing.{IsStandingNow}
use Rattle.ktm_store.specs.Store.{IsStoredAt, StoreState}
use Rattle.ktm_store.specs.Stored.{is_stored}
use Rattle.ktm_world.specs.Durable.{Durable}
use Rattle.ktm_world.specs.Files.{FilesNow}
use Rattle.ktm_world.specs.Present.{Present}

-- what a machine is: what is so now, over the places of bytes, its journal, how many notifications it can send without memory, and its pages
pub record CoreState : Type 0 where
  pub now : Present
  pub journal : JournalState
  pub slots : ℕ
  pub store : StoreState

-- the machine that holds this
abbrev pub core_of : MemoryState → StoreState → CoreState
core_of m store = record { now = present_of m; journal = m.journal; slots = m.tm.slots; store = store }

-- how many bytes of the log are left, with the gate behind it
abbrev pub log_left : JournalState → ℕ
log_left j = j.log.area.len - j.log.end

-- ---- its disk

-- each page that is stored has on the disk the bytes that it has in memory
abbrev pub PagesAgree : ℕ → StoreState → DiskState → Type 0
PagesAgree units store s = (page : ℕ) → is_stored store.stored page ≡ true → page_of (row_of units s.seen) page ≡ page_of store.seen page

-- the pages of all places of the state are stored
abbrev pub ArePlacesStored : List Bool → Durable → Type 0
ArePlacesStored stored state = EachOfDurable (λ file index place. IsStoredAt stored place) state

-- the disk stands for a state over the places of bytes, its journal is this one, and it has the pages of all places of the state
pub record HoldsState (j : JournalState) (state : Durable) (store : StoreState) (s : DiskState) : Type 0 where
  pub journal : JournalFor j state s
  pub pages : PagesAgree j.units store s
  pub stored : ArePlacesStored store.stored state

-- the disk stands for what the machine recorded
abbrev pub HoldsPlaces : CoreState → DiskState → Type 0
HoldsPlaces c s = HoldsState c.journal c.now.recorded c.store s

-- an image comes to the state over the places of bytes, and has at each of its places the byte of this row
pub record LeftPlaces (row : List ℕ) (state : Durable) (image : List ℕ) : Type 0 where
  pub paged : PagedFor state image
  pub same : SeeTheSame (row_of state.units image) row state

-- each image that a loss of power may leave comes to one of two states, with the bytes of this row
abbrev pub LeavesEitherPlaces : List ℕ → Durable → Durable → DiskState → Type 0
LeavesEitherPlaces row a b s = (image : List ℕ) → MayLeave s image → LeftPlaces row a image ⊎ LeftPlaces row b image

-- ---- what is asked of it

-- is the place none, or is its owner this byte of this file, and is it on one of the first so many pages
abbrev pub is_sound : (ℕ → ℕ × ℕ) → ℕ → ℕ → ℕ → ℕ → Bool
is_sound owner count file index place = place == 0 || ((owner place).0 == file && (owner place).1 == index && nat_le place (count * UNIT_BYTES))

-- each place of the files is that of one byte of one file, on one of the first so many pages
abbrev pub AreSoundFiles : ℕ → FilesNow → Type 0
AreSoundFiles count files = (owner : ℕ → ℕ × ℕ) × EachOfFiles (Follows (is_sound owner count)) files

-- so it is, and the places that are put have the same owners
pub record IsSoundFor (count : ℕ) (x : Present) (asked : Asked) : Type 0 where
  pub owner : ℕ → ℕ × ℕ
  pub files : EachOfFiles (Follows (is_sound owner count)) x.files
  pub puts : AskedPutsBy x (is_sound owner count) asked

-- ---- when it is ready

-- while it is up, its disk is up too, is this machine's image, and nothing waits to be synced or written
pub record IsPowered (c : CoreState) (told : Option DiskState) (status : DiskStatus) : Type 0 where
  pub power : c.now.machine.is_up ≡ true → status.is_down ≡ false
  pub settled : c.now.machine.is_up ≡ true → status.pending ≡ 0
  pub image : c.now.machine.is_up ≡ true → IfSome told (λ s. IsHeaded c.journal.units c.journal.image c.journal.selector s.seen)
  pub wanted : c.now.machine.is_up ≡ true → c.store.wanted ≡ []

-- a machine that is up is ready for what is asked: its disk is as `IsPowered` says, and it keeps what it is to keep of what is so now
pub record IsReady (c : CoreState) (told : Option DiskState) (status : DiskStatus) : Type 0 where
  pub powered : IsPowered c told status
  pub standing : IsStandingNow c.now
  -- there is room for all notifications that may come to be sent without a call that makes room
  pub slots : owed_slots c.now ≤ c.slots
  -- the log has room for all that transactions under way may still record
  pub room : debts c.now + 1 ≤ log_left c.journal
