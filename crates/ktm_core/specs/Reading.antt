-- What is read of contents, of which some pages are in memory, and the others on the disk.
use Rattle.std.specs.Prelude.{◌≡◌, ℕ, ◌+◌, ◌-◌, ◌/◌, ◌==◌, min, Bool, true, false, List, length, take, drop, Option, Result, Ok, Err, IsSomeAnd, if◌then◌else◌}
use Rattle.ktm_base.specs.declared.limits.TheConstants.{UNIT_BYTES}
use Rattle.ktm_base.specs.Disk.{DiskState}
use Rattle.ktm_store.specs.Pool.{on_row}
use Rattle.ktm_store.specs.Store.{PoolState, bytes_at}
use Rattle.ktm_core.specs.declared.reading.ReadFault.{ReadFault}
use Rattle.ktm_core.specs.declared.reading.ReadFault.TheVariants.{Down, NoMemory}
use Rattle.ktm_core.specs.Core.{PagesAgree}

-- how many bytes are read of so many, from an offset on
abbrev pub many_read : ℕ → ℕ → ℕ → ℕ
many_read size offset most = min most (size - min offset size)

-- how many units they touch
abbrev pub units_read : ℕ → ℕ → ℕ → ℕ
units_read size offset most = if many_read size offset most == 0 then 0 else (min offset size + many_read size offset most - 1) / UNIT_BYTES + 1 - min offset size / UNIT_BYTES

-- the bytes of these places from an offset on
abbrev pub bytes_read : List ℕ → List ℕ → ℕ → ℕ → List ℕ
bytes_read row places offset most = take (many_read (length places) offset most) (drop (min offset (length places)) (bytes_at row places))

-- the disk tells, and each page that is stored has on it the bytes that it has in the row
abbrev pub Agrees : ℕ → PoolState → List ℕ → Option DiskState → Type 0
Agrees units pool row told = IsSomeAnd told (PagesAgree units (on_row pool row))

-- pages may have come into memory, or may be there no longer, and nothing else has changed
pub record OnlyLets (old new : PoolState) : Type 0 where
  pub count : length new.seen ≡ length old.seen
  pub marks : new.marks ≡ old.marks
  pub stored : new.stored ≡ old.stored
  pub wanted : new.wanted ≡ old.wanted

-- so many bytes are behind those that were there
pub record IsLonger (many : ℕ) (old new : List ℕ) : Type 0 where
  pub long : length new ≡ length old + many
  pub front : take (length old) new ≡ old

-- did the disk go down
abbrev pub read_went_down : Result (Unit {0}) ReadFault → Bool
read_went_down (Ok done) = false
read_went_down (Err Down) = true
read_went_down (Err NoMemory) = false

-- the fact, where it was out of memory
abbrev pub IfNoMemory : Result (Unit {0}) ReadFault → Type 0 → Type 0
IfNoMemory (Ok done) P = Unit {0}
IfNoMemory (Err Down) P = Unit {0}
IfNoMemory (Err NoMemory) P = P
