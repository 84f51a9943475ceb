-- What an append to a log leaves, by its answer.
use Rattle.std.specs.Prelude.{◌≡◌, ℕ, ◌+◌, ◌<◌, ◌≤◌, true, List, [], ◌∷◌, ◌++◌, length, Result, Ok, Err, IsSomeAnd}
use Rattle.ktm_base.specs.Told.{Goes}
use Rattle.ktm_base.specs.Disk.{DeviceCalls}
use Rattle.ktm_log.specs.declared.fault.AppendFault.{AppendFault}
use Rattle.ktm_log.specs.declared.fault.AppendFault.TheVariants.{Down, Full}
use Rattle.ktm_log.specs.Log.{LogState, LeavesEither, Rests, SameElsewhere}
use Rattle.ktm_log.specs.OnDisk.{AllSynced, OnDisk}
use Rattle.ktm_log.specs.Settle.{IsBodyOf}

-- is there room for a frame with this body, and for the gate behind it
abbrev pub HasRoom : LogState → List ℕ → Type 0
HasRoom log body = log.end + length body + 1 ≤ log.area.len

-- the log has a frame with this body more, all of it is safe, and nothing was written but in its area
pub record Appends (body : List ℕ) (old new : OnDisk LogState) : Type 0 where
  pub room : HasRoom old.it body
  pub log : new.it ≡ record old.it { end = old.it.end + length body }
  pub frame : (ps : List (List ℕ)) (payload : List ℕ) → IsBodyOf payload body
      → IsSomeAnd old.told (Rests old.it.area ps old.it.end) → IsSomeAnd new.told (Rests old.it.area (ps ++ payload ∷ []) new.it.end)
  pub elsewhere : Goes (λ a b. SameElsewhere old.it.area a.seen b.seen) old.told new.told
  pub synced : AllSynced 4 old.status new.status

-- the disk went down: the frame may be there or not
pub record IsCutOff (body : List ℕ) (old new : OnDisk LogState) : Type 0 where
  pub room : HasRoom old.it body
  pub log : new.it ≡ old.it
  pub either : (ps : List (List ℕ)) (payload : List ℕ) → IsBodyOf payload body
      → IsSomeAnd old.told (Rests old.it.area ps old.it.end) → Goes (λ a b. LeavesEither old.it.area ps payload a.seen b) old.told new.told
  pub calls : DeviceCalls 4 old.status new.status true

-- there is no room for the frame and a gate behind it, and nothing was done
pub record IsFull (body : List ℕ) (old new : OnDisk LogState) : Type 0 where
  pub room : old.it.area.len < old.it.end + length body + 1
  pub same : new ≡ old

-- what an append leaves
abbrev pub AppendLeaves : List ℕ → OnDisk LogState → OnDisk LogState → Result (Unit {0}) AppendFault → Type 0
AppendLeaves body old new (Ok done) = Appends body old new
AppendLeaves body old new (Err Down) = IsCutOff body old new
AppendLeaves body old new (Err Full) = IsFull body old new
