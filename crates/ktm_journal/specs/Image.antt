-- The image of a journal on a disk: a header, behind it two halves of two areas, of which one holds a snapshot and the next a log, and behind them pages.
use Rattle.std.specs.Prelude.{◌≡◌, ◌⊎◌, ℕ, ◌+◌, ◌*◌, ◌^◌, ◌%◌, ◌≤◌, ◌==◌, if◌then◌else◌, List, [], ◌∷◌, ◌++◌, length, take, drop, slice_index, codes}
use Rattle.std.specs.Int.{from_le_bytes, w16, w32, w64}
use Rattle.ktm_base.specs.declared.limits.TheConstants.{LEAST_UNITS, MOST_UNITS, UNIT_BYTES}
use Rattle.ktm_base.specs.Disk.{DiskState, MayLeave}
use Rattle.ktm_log.specs.declared.area.Area.{Area}
use Rattle.ktm_log.specs.Log.{LogState, IsLog, Rests, area_bytes}
use Rattle.ktm_world.specs.Groups.{Group}
use Rattle.ktm_world.specs.EventGrammar.{IsGroupOf}
use Rattle.ktm_world.specs.Sizes.{area_len}
use Rattle.ktm_journal.specs.declared.half.Half.{Half}
use Rattle.ktm_journal.specs.declared.half.Half.TheVariants.{A, B}

-- the half that counts by this selector
abbrev pub half_of : ℕ → Half
half_of selector = if selector % 2 == 0 then A else B

-- where a half begins: A behind the header, B behind A
abbrev pub half_at : ℕ → Half → ℕ
half_at units A = 4096
half_at units B = 4096 + 2 * area_len units

-- the area of a half's snapshot
abbrev pub snapshot_area : ℕ → Half → Area
snapshot_area units half = record { at = half_at units half; len = area_len units }

-- the area of a half's log, behind that of its snapshot
abbrev pub log_area : ℕ → Half → Area
log_area units half = record { at = half_at units half + area_len units; len = area_len units }

-- how many pages an image has
abbrev pub page_count : ℕ → ℕ
page_count units = 2 * units + 64

-- where the pages begin, behind the header and the four areas
abbrev pub pages_at : ℕ → ℕ
pages_at units = 4096 + 4 * area_len units

-- the part of an image that its pages take
abbrev pub page_area : ℕ → Area
page_area units = record { at = pages_at units; len = UNIT_BYTES * page_count units }

-- the header, four areas, and the pages
abbrev pub image_len : ℕ → ℕ
image_len units = pages_at units + UNIT_BYTES * page_count units

-- the pages of an image, one behind another
abbrev pub row_of : ℕ → List ℕ → List ℕ
row_of units bytes = area_bytes (page_area units) bytes

-- the state of a new image: no event, no boot, the next node number 2, and four empty lists
unfoldable pub empty_snapshot : List ℕ
empty_snapshot =
    0 ∷ 0 ∷ 0 ∷ 0 ∷ 0 ∷ 0 ∷ 0 ∷ 0 ∷ 0 ∷ 0 ∷ 0 ∷ 0 ∷ 2 ∷ 0 ∷ 0 ∷ 0 ∷ 0 ∷ 0 ∷ 0 ∷ 0
    ∷ 0 ∷ 0 ∷ 0 ∷ 0 ∷ 0 ∷ 0 ∷ 0 ∷ 0 ∷ 0 ∷ 0 ∷ 0 ∷ 0 ∷ 0 ∷ 0 ∷ 0 ∷ 0 ∷ []

-- the bytes begin with the header of this image with this selector, and are long enough for its areas and its pages
pub record IsHeaded (units image selector : ℕ) (bytes : List ℕ) : Type 0 where
  pub least : LEAST_UNITS ≤ units
  pub most : units ≤ MOST_UNITS
  pub long : image_len units ≤ length bytes
  pub magic : take 8 bytes ≡ codes "KTMTXF01"
  pub layout : from_le_bytes w32 (take 4 (drop 8 bytes)) ≡ 3
  pub units_are : from_le_bytes w32 (take 4 (drop 12 bytes)) ≡ units
  pub number : from_le_bytes w16 (take 2 (drop 16 bytes)) ≡ image
  pub selector_is : slice_index bytes 2048 ≡ selector

-- the half's snapshot is this: its area begins with the length in eight bytes, least byte first and with the top bit set, and then has the snapshot
pub record HasSnapshot (units : ℕ) (half : Half) (snapshot bytes : List ℕ) : Type 0 where
  pub fits : 8 + length snapshot ≤ area_len units
  pub length_is : from_le_bytes w64 (take 8 (drop (snapshot_area units half).at bytes)) ≡ 2 ^ 63 + length snapshot
  pub is : take (length snapshot) (drop ((snapshot_area units half).at + 8) bytes) ≡ snapshot

-- before the log stand the header and, in the half that counts, this snapshot
pub record IsFormatted (units image selector : ℕ) (snapshot bytes : List ℕ) : Type 0 where
  pub headed : IsHeaded units image selector bytes
  pub has : HasSnapshot units (half_of selector) snapshot bytes

-- each payload is its group
abbrev pub HoldGroups : List Group → List (List ℕ) → Type 0
HoldGroups [] [] = Unit {0}
HoldGroups [] (p ∷ ps) = ⊥
HoldGroups (group ∷ log) [] = ⊥
HoldGroups (group ∷ log) (p ∷ ps) = IsGroupOf group p × HoldGroups log ps

-- the bytes are this image, and the half that counts has this snapshot and these groups
pub record IsImage (units image : ℕ) (snapshot : List ℕ) (log : List Group) (bytes : List ℕ) : Type 0 where
  pub selector : ℕ
  pub formatted : IsFormatted units image selector snapshot bytes
  pub payloads : List (List ℕ)
  pub groups : HoldGroups log payloads
  pub frames : IsLog payloads (area_bytes (log_area units (half_of selector)) bytes)

-- what is known of a journal: its image, which half counts, the log there, and how many events were ever recorded
pub record JournalState : Type 0 where
  pub units : ℕ
  pub image : ℕ
  pub selector : ℕ
  pub log : LogState
  pub events : ℕ

-- the journal is that of the disk, its snapshot and its groups are these, and all of it is safe
pub record JournalAt (j : JournalState) (snapshot : List ℕ) (log : List Group) (s : DiskState) : Type 0 where
  pub area : j.log.area ≡ log_area j.units (half_of j.selector)
  pub formatted : IsFormatted j.units j.image j.selector snapshot s.seen
  pub payloads : List (List ℕ)
  pub groups : HoldGroups log payloads
  pub rests : Rests j.log.area payloads j.log.end s

-- each image that a loss of power may leave has the snapshot and the groups, with this one more or without
abbrev pub LeavesGroupOrNot : JournalState → List ℕ → List Group → Group → DiskState → Type 0
LeavesGroupOrNot j snapshot log events s =
    (image : List ℕ) → MayLeave s image → IsImage j.units j.image snapshot log image ⊎ IsImage j.units j.image snapshot (log ++ events ∷ []) image
