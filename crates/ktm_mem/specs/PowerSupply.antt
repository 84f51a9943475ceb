-- The counts of a disk in memory.
use Rattle.std.specs.Prelude.{ℕ, Bool, not, ◌&&◌, [], None, if◌then◌else◌}
use Rattle.ktm_base.specs.Count.{raised}
use Rattle.ktm_base.specs.Disk.{DiskStatus}
use Rattle.ktm_mem.specs.Schedule.{after_call}
use Rattle.ktm_mem.specs.declared.supply.Supply.{Supply}

-- the power and the counts, with so many writes since the last sync
abbrev pub status_with : Supply → ℕ → DiskStatus
status_with s pending = record {
  is_down = s.is_down;
  downs = s.downs;
  calls = s.schedule.calls;
  pending = pending;
  armed = None;
  plan = [];
  places = 0;
}

-- the power after a device call: the call is counted, and where it was refused for the first time the disk went down
abbrev pub supply_after : Supply → Bool → Supply
supply_after s refused = record {
  schedule = after_call s.schedule;
  is_down = refused;
  downs = if refused && not s.is_down then raised s.downs else s.downs;
}
