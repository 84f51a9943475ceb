-- What the calls on a disk's power do.
use Rattle.std.specs.Prelude.{◌≡◌, ℕ, ◌-◌, true, false, [], ◌∷◌, ◌++◌, Some, None, Result, Ok, Err}
use Rattle.ktm_base.specs.declared.fault.Down.{Down}
use Rattle.ktm_base.specs.declared.power.PowerCall.{PowerCall}
use Rattle.ktm_base.specs.declared.power.PowerCall.TheVariants.{Arm, Off, Power}
use Rattle.ktm_base.specs.Count.{Rose, raised}
use Rattle.ktm_base.specs.Disk.{DiskState, DiskStatus, MayLeave, IsSafe}

-- the plan with one entry more, which takes a place
abbrev pub planned : DiskStatus → PowerCall → DiskStatus
planned s call = record s { plan = s.plan ++ call ∷ []; places = s.places - 1 }

-- so many device calls pass, and the next one takes the disk down
abbrev pub after_arm : DiskStatus → ℕ → DiskStatus
after_arm s calls = record (planned s (Arm calls)) { armed = Some calls }

-- the disk is down, and no moment is set
abbrev pub after_off : DiskStatus → DiskStatus
after_off s = record (planned s Off) { is_down = true; downs = raised s.downs; armed = None }

-- the power is back, or it failed again
abbrev pub Powers : Result (Unit {0}) Down → DiskStatus → ℕ → DiskStatus → Type 0
Powers (Ok done) old pick new = new ≡ record (planned old (Power pick)) { is_down = false; pending = 0 }
Powers (Err down) old pick new = (new ≡ record (planned old (Power pick)) { is_down = true; downs = new.downs }) × Rose old.downs new.downs

-- the power is back: what may have been left is what is there, and all of it is safe
pub record Restored (old new : DiskState) : Type 0 where
  pub left : MayLeave old new.seen
  pub safe : IsSafe new

-- the power failed again: what may have been left is what is there, and the same is dirty
pub record NotRestored (old new : DiskState) : Type 0 where
  pub left : MayLeave old new.seen
  pub dirty : new.dirty ≡ old.dirty
  pub shortest : new.shortest ≡ old.shortest
  pub longest : new.longest ≡ old.longest
