-- A restart of a machine that is down, on a disk whose power is given back.
use Rattle.std.proofs.Common.{◌≡◌, ℕ, false, Option, Result, Ok, Err, sym, ◌∙◌, ap, subst, refl}
use Rattle.ktm_base.specs.declared.fault.NoMemory.{NoMemory}
use Rattle.ktm_base.specs.declared.refusal.Refusal.TheVariants.{ImageWorn, MachineDown}
use Rattle.ktm_base.specs.Count.{Rose}
use Rattle.ktm_base.specs.Disk.{DiskState, DiskStatus}
use Rattle.ktm_base.specs.Power.{NotRestored, Restored}
use Rattle.ktm_base.specs.Told.{Goes}
use Rattle.ktm_base.proofs.offered.Images.{safe_law}
use Rattle.ktm_base.proofs.offered.ToldSteps.{IsSomeAnd-map}
use Rattle.ktm_kernel.proofs.offered.Standing.{up_is}
use Rattle.ktm_kernel.specs.Answers.{IfUnwrittenBy, IsAsBefore, StartAgainLeaves}
use Rattle.ktm_kernel.specs.Stands.{FoundAt, HasFallen, KernelAt, KernelState, LeavesStates, PowerLaw, StandsBy, machine_on}
use Rattle.ktm_log.specs.OnDisk.{on}
use Rattle.ktm_restart.specs.Logs.{StandsFor}
use Rattle.ktm_world.specs.declared.reply.Reply.{Reply}
use Rattle.ktm_world.specs.declared.reply.Reply.TheVariants.{BadImage, Refused}
use Rattle.ktm_world.specs.Durable.{stand}
use Rattle.ktm_world.specs.Logs.{is_up}
use Rattle.ktm_world.specs.Transcript.{RestartDoes, interrupted}
use Rattle.ktm_world.specs.World.{World, interrupted_restart}
use Rattle.wattorju.specs.Restarts.{IsPoweredOnly, IsRestarted}

-- the world of a machine that is down is down
off_of : (k : KernelState) (told : Option DiskState) (w : World) → k.now.machine.is_up ≡ false → KernelAt k told w → is_up w.power ≡ false
off_of k told w off at = sym (up_is k told w at) ∙ off

-- a machine whose disk was found safe stands for the same world
found_stands : (k : KernelState) (told : Option DiskState) (w : World) → FoundAt k told w → KernelAt k told w
found_stands k told w (row, shows, at) = (row, shows, subst (λ up. StandsBy up (machine_on k row) told w) (sym at.off) fallen)
  where
    fallen : HasFallen (machine_on k row) told w
    fallen = record {
      off = at.down;
      recorded = at.recorded;
      standing = at.standing;
      disk = IsSomeAnd-map told _ (LeavesStates w) at.disk (λ s both image may.
          let (safe, held) = both in
          let (log, possible, stands) = held in
          (log, possible, subst (StandsFor (stand w.base log)) (sym ((safe_law s image safe).0 may)) stands));
    }

-- what a reply says of what was not written, said of something that follows from it
unwritten_with : (reply : Reply) (P Q : Type 0) → (P → Q) → IfUnwrittenBy reply P → IfUnwrittenBy reply Q
unwritten_with (BadImage offset) P Q follows is = follows is
unwritten_with (Refused ImageWorn) P Q follows is = follows is
unwritten_with reply P Q follows is = tt

-- the disk tells what it told, and went down as often
module _ (law : PowerLaw) (k : KernelState) (before was : Option DiskState) (a s : DiskStatus) (pick : ℕ) (off : k.now.machine.is_up ≡ false) (same : was ≡ before) (downs : s.downs ≡ a.downs) where
  -- the power failed again
  pub failed_again : (now : Option DiskState) (b : DiskStatus) → Goes NotRestored was now → Rose s.downs b.downs → IsRestarted pick (on k before a) (on k now b) (Ok (Refused MachineDown))
  failed_again now b goes rose = record {
    does = λ w at.
        let down = off_of k before w off at in (
          interrupted,
          interrupted_restart w,
          subst (λ b. RestartDoes b w interrupted (Refused MachineDown) (interrupted_restart w)) (sym down) (refl, refl),
          (law k before now w down at).1 (subst (λ told. Goes NotRestored told now) same goes),
        );
    no_memory = tt;
    cause = λ is. subst (λ d. Rose d b.downs) downs rose;
    is_up = off;
    unwritten = tt;
  }

  -- the power is back
  module _ (mid now : Option DiskState) (m b : DiskStatus) (n : KernelState) (goes : Goes Restored was mid) (kept : m.downs ≡ s.downs) where
    found_at : (w : World) → KernelAt k before w → FoundAt k mid w
    found_at w at = (law k before mid w (off_of k before w off at) at).0 (subst (λ told. Goes Restored told mid) same goes)

    powered_only : IsAsBefore (on k mid m) (on n now b) → IsPoweredOnly (on k before a) (on n now b)
    powered_only as_before = record {
      machine = as_before.machine;
      told = subst (λ told. Goes Restored before told) (sym as_before.told) (subst (λ told. Goes Restored told mid) same goes);
      up = as_before.up;
      pending = as_before.pending;
    }

    pub started : (answer : Result Reply NoMemory) → StartAgainLeaves (on k mid m) (on n now b) answer → IsRestarted pick (on k before a) (on n now b) answer
    started (Ok reply) leaves = record {
      does = λ w at. leaves.does pick w (found_at w at);
      no_memory = tt;
      cause = λ is. subst (λ d. Rose d b.downs) (kept ∙ downs) (leaves.cause is);
      is_up = leaves.up;
      unwritten = unwritten_with reply _ _ powered_only leaves.unwritten;
    }
    started (Err fault) leaves = record {
      does = tt;
      no_memory = λ w at. subst (λ (l : KernelState). KernelAt l now w) (sym leaves.machine) (subst (λ told. KernelAt k told w) (sym leaves.told) (found_stands k mid w (found_at w at)));
      cause = tt;
      is_up = ap (λ (l : KernelState). l.now.machine.is_up) leaves.machine ∙ off;
      unwritten = tt;
    }
