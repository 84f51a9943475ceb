-- A disk: what a read sees, what a loss of power may leave, and what its calls do to both.
use Rattle.std.specs.Prelude.{◌≡◌, ◌⊎◌, ℕ, ◌+◌, ◌-◌, ◌<◌, ◌≤◌, ◌==◌, max, Bool, true, false, ◌||◌, List, [], ◌∷◌, ◌++◌, length, slice_index, Option, None, Some, IsTrue, if◌then◌else◌}
use Rattle.ktm_base.specs.declared.power.PowerCall.{PowerCall}
use Rattle.ktm_base.specs.Count.{Rose}
use Rattle.ktm_base.specs.Bytes.{written, covers, SameOutside, GrewTo, GrewTowards}

-- what a disk tells of its bytes
pub record DiskState : Type 0 where
  -- what a read sees
  pub seen : List ℕ
  -- offset and length of each write since the last sync, in order, refused ones included
  pub dirty : List (ℕ × ℕ)
  -- the length after the last sync; bytes from there on were added since, and are dirty too
  pub shortest : ℕ
  -- the greatest length asked for since the last sync
  pub longest : ℕ

-- what is so of each disk, whether it tells its bytes or not
pub record DiskStatus : Type 0 where
  pub is_down : Bool
  -- how often it went down
  pub downs : ℕ
  -- how many device calls there were, refused ones included
  pub calls : ℕ
  -- how many writes there were since the last sync, refused ones included
  pub pending : ℕ
  -- how many device calls pass before the next one takes the disk down, where that is set
  pub armed : Option ℕ
  -- what was asked of its power, in order, and how many entries more have a place
  pub plan : List PowerCall
  pub places : ℕ

-- what a loss of power may leave: any bytes in what is dirty, all others as a read sees them
pub record MayLeave (s : DiskState) (image : List ℕ) : Type 0 where
  pub no_shorter : s.shortest ≤ length image
  pub no_longer : length image ≤ s.longest
  pub others : (place : ℕ) → place < s.shortest → covers s.dirty place ≡ false → slice_index image place ≡ slice_index s.seen place

-- what a read sees is as long as one of the images that a loss of power may leave
pub record HasLengths (s : DiskState) : Type 0 where
  pub no_shorter : s.shortest ≤ length s.seen
  pub no_longer : length s.seen ≤ s.longest

-- nothing is dirty: a loss of power leaves what a read sees
pub record IsSafe (s : DiskState) : Type 0 where
  pub clean : s.dirty ≡ []
  pub shortest : s.shortest ≡ length s.seen
  pub longest : s.longest ≡ length s.seen

-- a range is dirty from now on, and the lengths stay
pub record Dirtied (at len : ℕ) (old new : DiskState) : Type 0 where
  pub dirty : new.dirty ≡ old.dirty ++ (at, len) ∷ []
  pub shortest : new.shortest ≡ old.shortest
  pub longest : new.longest ≡ old.longest

-- a write that was done
pub record Wrote (at : ℕ) (bytes : List ℕ) (old new : DiskState) : Type 0 where
  pub seen : new.seen ≡ written old.seen at bytes
  pub dirtied : Dirtied at (length bytes) old new

-- a write that took the disk down: its range may hold anything
pub record WriteRefused (at len : ℕ) (old new : DiskState) : Type 0 where
  pub seen : SameOutside ((at, len) ∷ []) old.seen new.seen
  pub dirtied : Dirtied at len old new

-- a sync that was done
pub record Synced (old new : DiskState) : Type 0 where
  pub seen : new.seen ≡ old.seen
  pub safe : IsSafe new

-- a length was asked for, and the ranges that were written stay
pub record Asked (len : ℕ) (old new : DiskState) : Type 0 where
  pub dirty : new.dirty ≡ old.dirty
  pub shortest : new.shortest ≡ old.shortest
  pub longest : new.longest ≡ max old.longest len

-- a growth that was done
pub record Grew (len : ℕ) (old new : DiskState) : Type 0 where
  pub seen : GrewTo len old.seen new.seen
  pub asked : Asked len old new

-- a growth that took the disk down
pub record GrowthRefused (len : ℕ) (old new : DiskState) : Type 0 where
  pub seen : GrewTowards len old.seen new.seen
  pub asked : Asked len old new

-- what at most so many device calls in a row do to the counts, where the last one was refused, or none was
pub record DeviceCalls (most : ℕ) (old new : DiskStatus) (refused : Bool) : Type 0 where
  -- the counts never fall
  pub later : old.downs ≤ new.downs
  pub counted : old.calls ≤ new.calls
  pub few : new.calls ≤ old.calls + most
  -- one is refused only where the disk was down or went down
  pub cause : IsTrue refused → IsTrue old.is_down ⊎ Rose old.downs new.downs
  -- the disk is down where it was down, or where one was refused
  pub down : new.is_down ≡ (old.is_down || refused)
  -- no device call makes a plan
  pub plan : new.plan ≡ old.plan
  pub places : new.places ≡ old.places

-- a device call of a disk that is up counts down to the moment that was set
abbrev pub counted_down : Bool → Option ℕ → Option ℕ
counted_down true armed = armed
counted_down false None = None
counted_down false (Some n) = if n == 0 then None else Some (n - 1)

-- at most so many device calls in a row that only read: what the disk tells is as it was, and so is what waits for a sync
pub record OnlyReads (most : ℕ) (before after : Option DiskState) (old new : DiskStatus) (refused : Bool) : Type 0 where
  pub same : after ≡ before
  pub pending : new.pending ≡ old.pending
  pub calls : DeviceCalls most old new refused

-- what one device call does to the counts
pub record DeviceCall (old new : DiskStatus) (refused : Bool) : Type 0 where
  pub counts : DeviceCalls 1 old new refused
  -- after it the disk is down exactly where it was refused; so a disk that is down refuses each call
  pub down : new.is_down ≡ refused
  -- at the moment that was set the call is refused
  pub falls : old.is_down ≡ false → old.armed ≡ Some 0 → IsTrue refused
  pub armed : new.armed ≡ counted_down old.is_down old.armed
  -- without power nothing changes but the count of calls
  pub frozen : IsTrue old.is_down → new ≡ record old { calls = new.calls }
