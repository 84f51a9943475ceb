-- What the reading of a snapshot leaves, by its answer.
use Rattle.std.specs.Prelude.{◌≡◌, ℕ, ◌≤◌, true, Result, Ok, Err, Vec, vec_capacity, IfSome}
use Rattle.ktm_log.specs.OnDisk.{OnDisk, ReadsInto, WasRead}
use Rattle.ktm_log.specs.Scan.{IsTooShort}
use Rattle.ktm_journal.specs.declared.fault.LoadFault.{LoadFault}
use Rattle.ktm_journal.specs.declared.fault.LoadFault.TheVariants.{Down, Bad, NoMemory}
use Rattle.ktm_journal.specs.declared.header.Header.{Header}
use Rattle.ktm_journal.specs.Bad.{HasNoSnapshot}
use Rattle.ktm_journal.specs.Image.{HasSnapshot, half_of, snapshot_area}

-- the snapshot of the half that counts is in the buffer, which has room for whatever the area has room for
pub record IsSnapshotRead {Z : Type 0} (header : Header) (old new : OnDisk (Vec ℕ Z)) : Type 0 where
  pub snapshot : IfSome old.told (λ s. HasSnapshot header.units (half_of header.selector) new.it.items s.seen)
  pub room : (snapshot_area header.units (half_of header.selector)).len ≤ vec_capacity new.it
  pub read : WasRead 2 old new

-- in the area at this offset is no snapshot
pub record FindsNoSnapshot {Z : Type 0} (header : Header) (old new : OnDisk (Vec ℕ Z)) (offset : ℕ) : Type 0 where
  pub at : offset ≡ (snapshot_area header.units (half_of header.selector)).at
  pub none : IfSome old.told (λ s. HasNoSnapshot header.units (half_of header.selector) s.seen)
  pub read : WasRead 2 old new

-- what the reading of a snapshot leaves
abbrev pub SnapshotLeaves : {Z : Type 0} → Header → OnDisk (Vec ℕ Z) → OnDisk (Vec ℕ Z) → Result (Unit {0}) LoadFault → Type 0
SnapshotLeaves header old new (Ok done) = IsSnapshotRead header old new
SnapshotLeaves header old new (Err (Bad offset)) = FindsNoSnapshot header old new offset
SnapshotLeaves header old new (Err Down) = ReadsInto 2 old new true
SnapshotLeaves header old new (Err NoMemory) = IsTooShort (snapshot_area header.units (half_of header.selector)) old new
