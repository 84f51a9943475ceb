-- What the calls of an extent leave, on the row of pages and of the extent.
use Rattle.std.specs.Prelude.{◌≡◌, ◌⊎◌, ℕ, ◌*◌, ◌+◌, ◌<◌, min, true, false, List, Contains, Option}
use Rattle.ktm_base.specs.Disk.{DeviceCalls, DiskStatus}
use Rattle.ktm_base.specs.Told.{Goes}
use Rattle.ktm_page.specs.Row.{RowState, page_of}
use Rattle.ktm_extent.specs.declared.fault.ExtentFault.{ExtentFault}
use Rattle.ktm_extent.specs.declared.fault.ExtentFault.TheVariants.{Down, NoMemory}
use Rattle.ktm_extent.specs.Extent.{AreBelow, AreOut, ExtentState, Moves, contents}

-- nothing changed in the row but pages that were free, and a loss of power takes no more than before but of those
pub record OnlyFree (count : ℕ) (holders : ℕ → ℕ) (old new : RowState) : Type 0 where
  pub kept : (page : ℕ) → page < count → 0 < holders page → page_of new.seen page ≡ page_of old.seen page
  pub dirty : (page : ℕ) → Contains new.dirty page → (holders page ≡ 0) ⊎ Contains old.dirty page
  pub front : new.front ≡ old.front

-- at most so many device calls where so many units are written: one or two for each, and for the first and the last one those of a read
abbrev pub most_calls : ℕ → ℕ
most_calls units = 2 * units + 2 * min units 2

-- what a call makes of the bytes, where the row tells them
abbrev pub Makes : ℕ → (ℕ → ℕ) → ExtentState → (List ℕ → List ℕ) → ExtentState → Option RowState → Option RowState → Type 0
Makes count holders old f new before after = Goes (λ r s. OnlyFree count holders r s × (contents s.seen new ≡ f (contents r.seen old))) before after

-- units were written: so long is it now, and these are the bytes; its pages are pages of the space still, and each has a holder
pub record IsWritten (units count len : ℕ) (f : List ℕ → List ℕ) (old new : ExtentState) (held holds : ℕ → ℕ) (told tells : Option RowState) (before after : DiskStatus) : Type 0 where
  pub size : new.size ≡ len
  pub below : AreBelow count new
  pub out : AreOut holds new
  pub moves : Moves old new held holds
  pub makes : Makes count held old f new told tells
  pub calls : DeviceCalls (most_calls units) before after false

-- it is as it was, and so are the holders
pub record IsUnchanged (old new : ExtentState) (held holds : ℕ → ℕ) : Type 0 where
  pub extent : new ≡ old
  pub holders : (page : ℕ) → holds page ≡ held page

-- the bytes were not written: memory ran out, and nothing was; or the power went, and pages that were free may hold anything
abbrev pub NotWritten : ExtentFault → (units count : ℕ) (held : ℕ → ℕ) (told tells : Option RowState) (before after : DiskStatus) → Type 0
NotWritten NoMemory units count held told tells before after = (tells ≡ told) × (after ≡ before)
NotWritten Down units count held told tells before after = Goes (OnlyFree count held) told tells × DeviceCalls (most_calls units) before after true
