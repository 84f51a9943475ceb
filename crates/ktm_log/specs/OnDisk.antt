-- What stands on a disk, together with the disk, and what device calls make of both.
use Rattle.std.specs.Prelude.{◌≡◌, ℕ, ◌≤◌, Bool, false, Option, Vec, vec_capacity}
use Rattle.ktm_base.specs.Disk.{DiskState, DiskStatus, DeviceCalls, OnlyReads}

-- a log, a journal or a buffer, what its disk tells, and the status of the disk
pub record OnDisk (T : Type 0) : Type 0 where
  pub it : T
  pub told : Option DiskState
  pub status : DiskStatus

-- this on a disk that tells so much and has this status
abbrev pub on : {T : Type 0} → T → Option DiskState → DiskStatus → OnDisk T
on it told status = record { it = it; told = told; status = status }

-- so many device calls at most were done, and nothing waits for a sync behind them
pub record AllSynced (most : ℕ) (old new : DiskStatus) : Type 0 where
  pub calls : DeviceCalls most old new false
  pub pending : new.pending ≡ 0
  pub up : new.is_down ≡ false

-- so many device calls at most read into a buffer, which lost no memory, and the last one was refused, or none was
pub record ReadsInto {Z : Type 0} (most : ℕ) (old new : OnDisk (Vec ℕ Z)) (refused : Bool) : Type 0 where
  pub kept : vec_capacity old.it ≤ vec_capacity new.it
  pub reads : OnlyReads most old.told new.told old.status new.status refused

-- so many device calls at most read into a buffer, which lost no memory, none was refused, and the disk is up
pub record WasRead {Z : Type 0} (most : ℕ) (old new : OnDisk (Vec ℕ Z)) : Type 0 where
  pub reads : ReadsInto most old new false
  pub up : new.status.is_down ≡ false
