-- What a new image is made of.
use Rattle.std.specs.Prelude.{◌≡◌, ℕ, ◌*◌, ◌≤◌, List, [], ◌∷◌, length, take, drop, codes}
use Rattle.std.specs.Int.{from_le_bytes, w16, w32}
use Rattle.ktm_base.specs.Bytes.{SameOutside, written}
use Rattle.ktm_base.specs.Disk.{DiskState, IsSafe}
use Rattle.ktm_log.specs.Log.{IsLog, area_bytes}
use Rattle.ktm_world.specs.Sizes.{area_len}
use Rattle.ktm_journal.specs.declared.half.Half.{Half}
use Rattle.ktm_journal.specs.Image.{HasSnapshot, half_at, image_len, log_area}

-- whatever the disk tells now
abbrev pub Anything : DiskState → DiskState → Type 0
Anything old new = Unit {0}

-- the first bytes of an image
pub record IsHeader (units image : ℕ) (bytes : List ℕ) : Type 0 where
  pub long : length bytes ≡ 18
  pub magic : take 8 bytes ≡ codes "KTMTXF01"
  pub layout : from_le_bytes w32 (take 4 (drop 8 bytes)) ≡ 3
  pub units_are : from_le_bytes w32 (take 4 (drop 12 bytes)) ≡ units
  pub number : from_le_bytes w16 (take 2 (drop 16 bytes)) ≡ image

-- long enough for the image, and the half has this snapshot and no group
pub record IsLaid (units : ℕ) (half : Half) (snapshot bytes : List ℕ) : Type 0 where
  pub long : image_len units ≤ length bytes
  pub has : HasSnapshot units half snapshot bytes
  pub frames : IsLog [] (area_bytes (log_area units half) bytes)

-- the half was laid anew, nothing was written but there, and all is safe
pub record LaysHalf (units : ℕ) (half : Half) (snapshot : List ℕ) (old new : DiskState) : Type 0 where
  pub laid : IsLaid units half snapshot new.seen
  pub elsewhere : SameOutside ((half_at units half, 2 * area_len units) ∷ []) old.seen new.seen
  pub safe : IsSafe new

-- one thing was written and then another, and both are safe
pub record SettledBoth (first_at : ℕ) (first : List ℕ) (second_at : ℕ) (second : List ℕ) (old new : DiskState) : Type 0 where
  pub seen : new.seen ≡ written (written old.seen first_at first) second_at second
  pub safe : IsSafe new
