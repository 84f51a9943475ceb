-- Device calls that only read, counted more roughly.
use Rattle.std.proofs.Common.{ℕ, ◌≤◌, Bool, false, Vec, arith}
use Rattle.ktm_base.specs.Disk.{DiskStatus, DeviceCalls}
use Rattle.ktm_log.specs.OnDisk.{OnDisk, ReadsInto, WasRead}

pub calls_most : (m n : ℕ) (s t : DiskStatus) (refused : Bool) → m ≤ n → DeviceCalls m s t refused → DeviceCalls n s t refused
calls_most m n s t refused more calls = record {
  later = calls.later;
  counted = calls.counted;
  few = omega (arith, calls.few);
  cause = calls.cause;
  down = calls.down;
  plan = calls.plan;
  places = calls.places;
}

module _ {Z : Type 0} (m n : ℕ) (old new : OnDisk (Vec ℕ Z)) (more : m ≤ n) where
  pub reads_most : (refused : Bool) → ReadsInto m old new refused → ReadsInto n old new refused
  reads_most refused read = record {
    kept = read.kept;
    reads = record { same = read.reads.same; pending = read.reads.pending; calls = calls_most m n old.status new.status refused more read.reads.calls };
  }

  pub read_most : WasRead m old new → WasRead n old new
  read_most read = record { reads = reads_most false read.reads; up = read.up }
