-- The part of an area that was read so far, and what it took to read it.
use Rattle.std.specs.Prelude.{◌≡◌, ℕ, ◌+◌, ◌-◌, ◌*◌, ◌/◌, ◌<◌, ◌≤◌, max, Bool, false, true, Option, None, Some, Result, Ok, Err, List, length, take, drop, Vec, vec_capacity, IfSome}
use Rattle.ktm_base.specs.declared.fault.Down.{Down as NoPower}
use Rattle.ktm_base.specs.Disk.{DiskState, DiskStatus, DeviceCalls}
use Rattle.ktm_log.specs.declared.fault.FrameFault.{FrameFault}
use Rattle.ktm_log.specs.declared.fault.FrameFault.TheVariants.{Down, Torn}
use Rattle.ktm_log.specs.declared.area.Area.{Area}
use Rattle.ktm_log.specs.Log.{area_bytes, first_payload, BeginsWith, IsFrame, IsClosed, IsTorn, end_of}
use Rattle.ktm_log.specs.OnDisk.{OnDisk}

-- how many pieces of 4,096 bytes so many bytes are in, the last one shorter
abbrev pub pieces : ℕ → ℕ
pieces len = (len + 4095) / 4096

-- up to where a frame at this offset has to be read: its gate, and where that is open the gate that follows too
abbrev pub frame_reach : ℕ → Option ℕ → ℕ
frame_reach at None = at + 1
frame_reach at (Some size) = at + size + 6

-- these are the first bytes of the area in an image
pub record IsRead (area : Area) (read image : List ℕ) : Type 0 where
  pub within : area.at + area.len ≤ length image
  pub is : read ≡ take (length read) (area_bytes area image)

-- what was read is the first bytes of the area, in whole pieces, from a disk that is up
pub record Holds (area : Area) (told : Option DiskState) (is_down : Bool) (read : List ℕ) : Type 0 where
  pub inside : length read ≤ area.len
  pub whole : length read < area.len → 4096 * (length read / 4096) ≡ length read
  pub up : 0 < length read → is_down ≡ false
  pub bytes : IfSome told (λ s. IsRead area read s.seen)

-- it grew from one length to another, by no more device calls than there are pieces between
pub record Loads (area : Area) (before after : ℕ) (old new : DiskStatus) (refused : Bool) : Type 0 where
  pub longer : before ≤ after
  pub inside : after ≤ area.len
  pub calls : DeviceCalls (pieces after - pieces before) old new refused
  pub pending : new.pending ≡ old.pending

-- the bytes went on behind what they were
pub record WentOn (old new : List ℕ) : Type 0 where
  pub front : take (length old) new ≡ old

-- in the bytes of the area the gate at this offset is closed, or it is open and has a payload of this length behind it
abbrev pub Finds : Area → List ℕ → ℕ → Option ℕ → Type 0
Finds area read at None = IsClosed (drop at read)
Finds area read at (Some size) = (at + size + 6 ≤ area.len) × ((payload : List ℕ) × (length payload ≡ size) × IsFrame payload (drop at read))

-- the bytes begin with frames that end here
pub record EndFrames (end : ℕ) (read : List ℕ) : Type 0 where
  pub payloads : List (List ℕ)
  pub begins : BeginsWith payloads read
  pub gate_at : end ≡ end_of payloads

-- the buffer has more of the area behind what it had, or as much, and the disk holds what it held
pub record ReadOn {Z : Type 0} (area : Area) (old new : OnDisk (Vec ℕ Z)) : Type 0 where
  pub same : new.told ≡ old.told
  pub room : vec_capacity old.it ≤ vec_capacity new.it
  pub front : WentOn old.it.items new.it.items
  pub holds : Holds area new.told new.status.is_down new.it.items
  pub loads : Loads area (length old.it.items) (length new.it.items) old.status new.status false

-- the disk went down, and holds what it held
pub record ReadRefused {Z : Type 0} (area : Area) (old new : OnDisk (Vec ℕ Z)) : Type 0 where
  pub same : new.told ≡ old.told
  pub room : vec_capacity old.it ≤ vec_capacity new.it
  pub loads : Loads area (length old.it.items) (length new.it.items) old.status new.status true

-- what reading on leaves
abbrev pub ReadLeaves : {Z : Type 0} → Area → OnDisk (Vec ℕ Z) → OnDisk (Vec ℕ Z) → Result (Unit {0}) NoPower → Type 0
ReadLeaves area old new (Ok done) = ReadOn area old new
ReadLeaves area old new (Err down) = ReadRefused area old new

-- it was read on, no further than this from the area's begin, and the disk is up
pub record ReadUpTo {Z : Type 0} (area : Area) (upto : ℕ) (old new : OnDisk (Vec ℕ Z)) : Type 0 where
  pub read : ReadOn area old new
  pub few : pieces (length new.it.items) ≤ max (pieces (length old.it.items)) (pieces upto)
  pub up : new.status.is_down ≡ false

-- the gate at this offset was found closed, or open with a payload of this length behind it
pub record FindsFrame {Z : Type 0} (area : Area) (at : ℕ) (old new : OnDisk (Vec ℕ Z)) (found : Option ℕ) : Type 0 where
  pub reads : ReadUpTo area (frame_reach at found) old new
  pub finds : Finds area new.it.items at found

-- the gate at this offset was found open, and its frame is cut short
pub record FindsTorn {Z : Type 0} (area : Area) (at : ℕ) (old new : OnDisk (Vec ℕ Z)) : Type 0 where
  pub reads : ReadUpTo area (at + 5) old new
  pub torn : IfSome new.told (λ s. IsTorn (drop at (area_bytes area s.seen)))
  pub none : first_payload (drop at new.it.items) ≡ None

-- what the search for a frame leaves
abbrev pub FrameLeaves : {Z : Type 0} → Area → ℕ → OnDisk (Vec ℕ Z) → OnDisk (Vec ℕ Z) → Result (Option ℕ) FrameFault → Type 0
FrameLeaves area at old new (Ok found) = FindsFrame area at old new found
FrameLeaves area at old new (Err Down) = ReadRefused area old new
FrameLeaves area at old new (Err Torn) = FindsTorn area at old new
