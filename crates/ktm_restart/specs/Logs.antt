-- The durable state for which an image stands: that of its snapshot, once its log is applied. It has the place of each byte, and the bytes at these places make it one of bytes.
use Rattle.std.specs.Prelude.{◌≡◌, ℕ, List}
use Rattle.std.specs.List.{AllByRecursion}
use Rattle.ktm_base.specs.Bytes.{AreBytes}
use Rattle.ktm_base.specs.Disk.{DiskState, IsSafe}
use Rattle.ktm_content.specs.Places.{byte_at}
use Rattle.ktm_journal.specs.Image.{IsImage, JournalAt, JournalState, page_count, row_of}
use Rattle.ktm_mapped.specs.Mapped.{mapped_durable}
use Rattle.ktm_paged.specs.Paged.{GroupApplies, IsApart, LieBelow, LogApplies, paged_stand}
use Rattle.ktm_snapshot.specs.StateGrammar.{IsStateOf}
use Rattle.txf_laws.specs.GoodState.{IsGoodState}
use Rattle.ktm_world.specs.EventGrammar.{IsGroupOf}
use Rattle.ktm_world.specs.Durable.{Durable}
use Rattle.ktm_world.specs.Logs.{Group}

-- ---- states over the places of bytes

-- all contents of the state lie on pages of its image, and each place is that of one byte of one file
pub record IsOnPages (state : Durable) : Type 0 where
  pub below : LieBelow (page_count state.units) state
  pub apart : IsApart state

-- the events of a group, as they are recorded, apply one after another to the state, on the pages of its image
abbrev pub AppliesTo : Durable → Group → Type 0
AppliesTo state group = GroupApplies (page_count state.units) state group

-- so do the groups of a log
abbrev pub AllApplyTo : Durable → List Group → Type 0
AllApplyTo state log = LogApplies (page_count state.units) state log

-- each group is spelled by some list of bytes
abbrev pub AreSpelled : List Group → Type 0
AreSpelled log = AllByRecursion (λ group. (bytes : List ℕ) × AreBytes bytes × IsGroupOf group bytes) log

-- a snapshot and the groups behind it come to this state: the snapshot is that of a good state on pages, to which the groups apply one after another
pub record ComeTo (state : Durable) (snapshot : List ℕ) (log : List Group) : Type 0 where
  pub first : Durable
  pub spelled : IsStateOf first snapshot
  pub good : IsGoodState first
  pub on_pages : IsOnPages first
  pub applies : AllApplyTo first log
  pub is : state ≡ paged_stand first log

-- the bytes are an image whose snapshot and log come to this state over the places of bytes
pub record PagedFor (state : Durable) (bytes : List ℕ) : Type 0 where
  pub snapshot : List ℕ
  pub log : List Group
  pub is : IsImage state.units state.image snapshot log bytes
  pub come : ComeTo state snapshot log

-- the journal is that of the disk, all of which is safe, and its snapshot and its groups come to this state over the places of bytes
pub record JournalFor (j : JournalState) (state : Durable) (s : DiskState) : Type 0 where
  pub units : state.units ≡ j.units
  pub image : state.image ≡ j.image
  pub snapshot : List ℕ
  pub log : List Group
  pub at : JournalAt j snapshot log s
  pub come : ComeTo state snapshot log

-- ---- states of bytes

-- the state of bytes: at each place stands the byte that the pages of the image have there
abbrev pub bytes_seen : List ℕ → Durable → Durable
bytes_seen bytes state = mapped_durable (byte_at (row_of state.units bytes)) state

-- the bytes stand for this durable state: their snapshot and their log come to it, with the bytes on their pages
pub record StandsFor (state : Durable) (bytes : List ℕ) : Type 0 where
  pub places : Durable
  pub paged : PagedFor places bytes
  pub is : state ≡ bytes_seen bytes places

-- the disk, all of which is safe, stands for this state
abbrev pub IsSafeFor : Durable → DiskState → Type 0
IsSafeFor state s = IsSafe s × StandsFor state s.seen
