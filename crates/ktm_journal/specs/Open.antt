-- What the opening of an image's journal leaves, by its answer.
use Rattle.std.specs.Prelude.{◌≡◌, ℕ, ◌+◌, ◌*◌, ◌<◌, ◌≤◌, true, List, Result, Ok, Err, Vec, vec_capacity, IfSome, IsSomeAnd}
use Rattle.ktm_base.specs.Disk.{IsSafe}
use Rattle.ktm_log.specs.Log.{IsBadLog, IsLog, area_bytes, end_of, payloads_in}
use Rattle.ktm_log.specs.OnDisk.{OnDisk, ReadsInto, WasRead}
use Rattle.ktm_log.specs.Scan.{IsTooShort}
use Rattle.ktm_world.specs.Groups.{Group}
use Rattle.ktm_journal.specs.declared.fault.LoadFault.{LoadFault}
use Rattle.ktm_journal.specs.declared.fault.LoadFault.TheVariants.{Down, Bad, NoMemory}
use Rattle.ktm_journal.specs.declared.header.Header.{Header}
use Rattle.ktm_journal.specs.Image.{IsImage, JournalAt, JournalState, half_of, log_area}

-- how many device calls read the log of an image of so many units at most
abbrev pub log_reads : ℕ → ℕ
log_reads units = 2 * units + 16

-- the journal is that of the image with this header, and the buffer has room for whatever its log has room for
pub record IsOfImage {Z : Type 0} (header : Header) (buffer : Vec ℕ Z) (journal : JournalState) : Type 0 where
  pub units : journal.units ≡ header.units
  pub image : journal.image ≡ header.image
  pub selector : journal.selector ≡ header.selector
  pub area : journal.log.area ≡ log_area header.units (half_of header.selector)
  pub inside : journal.log.end < journal.log.area.len
  pub room : journal.log.area.len ≤ vec_capacity buffer

-- the image with this header has this journal, whose payloads are in the buffer
pub record IsOpened {Z : Type 0} (header : Header) (old new : OnDisk (Vec ℕ Z)) (journal : JournalState) : Type 0 where
  pub of_image : IsOfImage header new.it journal
  pub end_is : journal.log.end ≡ end_of (payloads_in new.it.items)
  pub log : IfSome old.told (λ s. IsLog (payloads_in new.it.items) (area_bytes (log_area header.units (half_of header.selector)) s.seen))
  pub at : (snapshot : List ℕ) (log : List Group) → IsSomeAnd old.told (λ s. IsSafe s × IsImage header.units header.image snapshot log s.seen) → IsSomeAnd new.told (JournalAt journal snapshot log)
  pub read : WasRead (log_reads header.units) old new

-- the frame at this offset of the image is cut short, and the payloads before it are in the buffer
pub record EndsTorn {Z : Type 0} (header : Header) (old new : OnDisk (Vec ℕ Z)) (offset : ℕ) : Type 0 where
  pub at : offset ≡ (log_area header.units (half_of header.selector)).at + end_of (payloads_in new.it.items)
  pub log : IfSome old.told (λ s. IsBadLog (payloads_in new.it.items) (area_bytes (log_area header.units (half_of header.selector)) s.seen))
  pub read : WasRead (log_reads header.units) old new

-- what the opening of a journal leaves
abbrev pub OpenLeaves : {Z : Type 0} → Header → OnDisk (Vec ℕ Z) → OnDisk (Vec ℕ Z) → Result JournalState LoadFault → Type 0
OpenLeaves header old new (Ok journal) = IsOpened header old new journal
OpenLeaves header old new (Err (Bad offset)) = EndsTorn header old new offset
OpenLeaves header old new (Err Down) = ReadsInto (log_reads header.units) old new true
OpenLeaves header old new (Err NoMemory) = IsTooShort (log_area header.units (half_of header.selector)) old new
