-- What the calls of a disk do to the images that a loss of power may leave, as laws over every disk.
use Rattle.std.specs.Prelude.{◌≡◌, ◌↔◌, ℕ, ◌+◌, ◌≤◌, max, false, List, [], ◌∷◌, ◌++◌, length, Bool}
use Rattle.ktm_base.specs.Bytes.{written}
use Rattle.ktm_base.specs.Disk.{DiskState, DiskStatus, HasLengths, MayLeave, IsSafe, Wrote, WriteRefused, Synced, Grew, GrowthRefused, DeviceCalls}
use Rattle.ktm_base.specs.Power.{Restored, NotRestored}

-- of both states a loss of power may leave the same images
abbrev pub LeaveTheSame : DiskState → DiskState → Type 0
LeaveTheSame s t = (image : List ℕ) → MayLeave s image ↔ MayLeave t image

-- what a read sees is one of the images that a loss of power may leave
abbrev pub SeenLaw : Type 0
SeenLaw = (s : DiskState) → HasLengths s → MayLeave s s.seen

-- the state with one range more that is dirty, and the same bytes
abbrev pub with_dirty : DiskState → ℕ → ℕ → DiskState
with_dirty s at len = record s { dirty = s.dirty ++ (at, len) ∷ [] }

-- the state with a greater length asked for, and the same bytes
abbrev pub with_longest : DiskState → ℕ → DiskState
with_longest s len = record s { longest = max s.longest len }

-- after a write an image may be left exactly where it could be with the range dirty and its old bytes
abbrev pub WriteLaw : Type 0
WriteLaw = (s t : DiskState) (at : ℕ) (bytes : List ℕ) → at + length bytes ≤ length s.seen → Wrote at bytes s t → LeaveTheSame (with_dirty s at (length bytes)) t

-- after a write that was refused an image may be left exactly where it could be with the range dirty and its old bytes
abbrev pub WriteRefusedLaw : Type 0
WriteRefusedLaw = (s t : DiskState) (at len : ℕ) → WriteRefused at len s t → LeaveTheSame (with_dirty s at len) t

-- of what is safe exactly what a read sees may be left
abbrev pub SafeLaw : Type 0
SafeLaw = (s : DiskState) (image : List ℕ) → IsSafe s → MayLeave s image ↔ (image ≡ s.seen)

-- after a sync exactly what was seen before it may be left
abbrev pub SyncLaw : Type 0
SyncLaw = (s t : DiskState) (image : List ℕ) → Synced s t → MayLeave t image ↔ (image ≡ s.seen)

-- after a growth an image may be left exactly where it could be with the length asked for and the old bytes
abbrev pub GrowthLaw : Type 0
GrowthLaw = (s t : DiskState) (len : ℕ) → s.shortest ≤ length s.seen → Grew len s t → LeaveTheSame (with_longest s len) t

-- after a growth that was refused an image may be left exactly where it could be with the length asked for and the old bytes
abbrev pub GrowthRefusedLaw : Type 0
GrowthRefusedLaw = (s t : DiskState) (len : ℕ) → s.shortest ≤ length s.seen → GrowthRefused len s t → LeaveTheSame (with_longest s len) t

-- of two writes to one range the second alone is seen, and the range is dirty once
abbrev pub TwoWritesLaw : Type 0
TwoWritesLaw = (s t u : DiskState) (at : ℕ) (first second : List ℕ) → at + length first ≤ length s.seen → length first ≡ length second
    → Wrote at first s t → Wrote at second t u → (u.seen ≡ written s.seen at second) × LeaveTheSame (with_dirty s at (length second)) u

-- once the power was given back, or failed again, nothing may be left that could not be left before
abbrev pub PowerLaw : Type 0
PowerLaw = (s t : DiskState) (image : List ℕ) → MayLeave t image → (Restored s t → MayLeave s image) × (NotRestored s t → MayLeave s image)

-- device calls in a row, of which the first ones were not refused
abbrev pub CallsLaw : Type 0
CallsLaw = (a b c : DiskStatus) (first second : ℕ) (refused : Bool) → DeviceCalls first a b false → DeviceCalls second b c refused → DeviceCalls (first + second) a c refused
