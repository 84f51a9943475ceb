-- What calls do to the counts of a disk.
use Rattle.std.specs.Prelude.{ℕ, Bool, true, false, not, ◌&&◌, [], None, if◌then◌else◌}
use Rattle.ktm_base.specs.Count.{raised}
use Rattle.ktm_base.specs.Disk.{DiskStatus, counted_down}

-- with power, and nothing counted
abbrev pub status_at_start : DiskStatus
status_at_start = record { is_down = false; downs = 0; calls = 0; pending = 0; armed = None; plan = []; places = 0 }

-- a device call was counted; where it was refused for the first time the disk went down
abbrev pub after_call : DiskStatus → Bool → DiskStatus
after_call s refused = record s {
  is_down = refused;
  downs = if refused && not s.is_down then raised s.downs else s.downs;
  calls = raised s.calls;
  armed = counted_down s.is_down s.armed;
}

-- it goes down, which counts
abbrev pub fallen : DiskStatus → DiskStatus
fallen s = record s { is_down = true; downs = raised s.downs }

-- it has made so many writes since the last sync
abbrev pub with_pending : DiskStatus → ℕ → DiskStatus
with_pending s pending = record s { pending = pending }
