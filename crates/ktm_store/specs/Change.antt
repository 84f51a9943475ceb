-- What is put over contents: what each unit that changes holds, and how many frames these units take.
use Rattle.std.specs.Prelude.{◌≡◌, ℕ, ◌+◌, ◌-◌, ◌*◌, ◌/◌, ◌<◌, ◌≤◌, ◌^◌, ◌==◌, min, max, List, [], length, take, drop, if◌then◌else◌}
use Rattle.ktm_base.specs.declared.limits.TheConstants.{UNIT_BYTES}
use Rattle.ktm_store.specs.Frames.{filled}

-- bytes that are put over contents at an offset, the first unit that changes and the one behind the last, and what the contents have in front in the first and behind in the last
pub record ChangeState : Type 0 where
  pub first : ℕ
  pub behind : ℕ
  pub at : ℕ
  pub bytes : List ℕ
  pub head : List ℕ
  pub tail : List ℕ

-- the offset behind the bytes
abbrev pub end_of : ChangeState → ℕ
end_of change = change.at + length change.bytes

-- where the bytes begin in a unit
abbrev pub from_in : ChangeState → ℕ → ℕ
from_in change unit = min (change.at - unit * UNIT_BYTES) UNIT_BYTES

-- where they end there
abbrev pub to_in : ChangeState → ℕ → ℕ
to_in change unit = min (end_of change - unit * UNIT_BYTES) UNIT_BYTES

-- those of the bytes that are in a unit
abbrev pub bytes_in : ChangeState → ℕ → List ℕ
bytes_in change unit = take (to_in change unit - from_in change unit) (drop (unit * UNIT_BYTES - change.at) change.bytes)

-- what the contents have in front in a unit
abbrev pub head_in : ChangeState → ℕ → List ℕ
head_in change unit = if unit == change.first then change.head else []

-- what they have behind there
abbrev pub tail_in : ChangeState → ℕ → List ℕ
tail_in change unit = if unit + 1 == change.behind then change.tail else []

-- what a unit holds
abbrev pub unit_of : ChangeState → ℕ → List ℕ
unit_of change unit = filled (head_in change unit) (from_in change unit) (bytes_in change unit) (tail_in change unit)

-- how many frames the units from this one on take at most: those in a gap take none
abbrev pub frames_from : ChangeState → ℕ → ℕ
frames_from change unit = change.behind - max unit (change.at / UNIT_BYTES) + min (change.first + 1 - unit) (change.at / UNIT_BYTES - change.first)

-- the units are those from the first to the last one that the bytes, or what is in front of them, are in, and what the contents have is no more than there is room for
pub record IsSound (change : ChangeState) : Type 0 where
  pub begins : change.first * UNIT_BYTES ≤ change.at
  pub behind : change.behind ≡ (end_of change - 1) / UNIT_BYTES + 1
  pub some : change.first * UNIT_BYTES < end_of change
  pub ends : end_of change < 2 ^ 63
  pub head : length change.head ≤ from_in change change.first
  pub tail : length change.tail ≤ change.behind * UNIT_BYTES - end_of change
