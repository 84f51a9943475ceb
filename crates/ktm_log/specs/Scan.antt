-- What the scan of a log leaves, by its answer.
use Rattle.std.specs.Prelude.{◌≡◌, ℕ, ◌+◌, ◌<◌, ◌≤◌, min, false, true, Result, Ok, Err, Vec, vec_capacity, IfSome, IsSomeAnd}
use Rattle.ktm_base.specs.Disk.{IsSafe}
use Rattle.ktm_log.specs.declared.area.Area.{Area}
use Rattle.ktm_log.specs.declared.fault.LogFault.{LogFault}
use Rattle.ktm_log.specs.declared.fault.LogFault.TheVariants.{Down, Bad, NoMemory}
use Rattle.ktm_log.specs.Load.{pieces}
use Rattle.ktm_log.specs.Log.{LogState, IsBadLog, IsLog, Rests, area_bytes, end_of, payloads_in}
use Rattle.ktm_log.specs.OnDisk.{OnDisk, ReadsInto, WasRead}

-- the area holds this log, whose payloads are in the buffer, and no piece behind its closed gate was read
pub record IsScanned {Z : Type 0} (area : Area) (old new : OnDisk (Vec ℕ Z)) (log : LogState) : Type 0 where
  pub area_is : log.area ≡ area
  pub end_is : log.end ≡ end_of (payloads_in new.it.items)
  pub inside : log.end < area.len
  pub room : area.len ≤ vec_capacity new.it
  pub bytes : IfSome old.told (λ s. IsLog (payloads_in new.it.items) (area_bytes area s.seen))
  pub rests : IsSomeAnd old.told IsSafe → IsSomeAnd new.told (Rests area (payloads_in new.it.items) log.end)
  pub read : WasRead (pieces (log.end + 1)) old new

-- the frame at this offset of the disk is cut short by the area's end, the payloads before it are in the buffer, and no piece behind
-- its length was read
pub record IsTornAt {Z : Type 0} (area : Area) (old new : OnDisk (Vec ℕ Z)) (offset : ℕ) : Type 0 where
  pub at : offset ≡ area.at + end_of (payloads_in new.it.items)
  pub inside : end_of (payloads_in new.it.items) < area.len
  pub bytes : IfSome old.told (λ s. IsBadLog (payloads_in new.it.items) (area_bytes area s.seen))
  pub read : WasRead (pieces (min area.len (end_of (payloads_in new.it.items) + 5))) old new

-- the buffer was shorter than the area, and there was no memory for more
pub record IsTooShort {Z : Type 0} (area : Area) (old new : OnDisk (Vec ℕ Z)) : Type 0 where
  pub short : vec_capacity old.it < area.len
  pub reads : ReadsInto 0 old new false

-- what a scan leaves
abbrev pub ScanLeaves : {Z : Type 0} → Area → OnDisk (Vec ℕ Z) → OnDisk (Vec ℕ Z) → Result LogState LogFault → Type 0
ScanLeaves area old new (Ok log) = IsScanned area old new log
ScanLeaves area old new (Err Down) = ReadsInto (pieces area.len) old new true
ScanLeaves area old new (Err (Bad offset)) = IsTornAt area old new offset
ScanLeaves area old new (Err NoMemory) = IsTooShort area old new
