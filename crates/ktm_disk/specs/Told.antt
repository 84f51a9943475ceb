-- What a disk over a block tells, from the block's contents and what was asked since the last sync.
use Rattle.std.specs.Prelude.{◌≡◌, ℕ, ◌≤◌, max, List, length, Option, None, Some}
use Rattle.ktm_base.specs.Disk.{DiskState}

-- the length after the last sync: where a growth was tried since, the one before it
abbrev pub length_at_sync : Option ℕ → ℕ → ℕ
length_at_sync None now = now
length_at_sync (Some from) now = from

-- the contents, the ranges written, the length before the first growth, and the greatest length asked for
abbrev pub state_of : List (ℕ × ℕ) → Option ℕ → ℕ → List ℕ → DiskState
state_of dirty grown_from asked seen = record {
  seen = seen;
  dirty = dirty;
  shortest = length_at_sync grown_from (length seen);
  longest = max (length_at_sync grown_from (length seen)) asked;
}

-- what a disk tells of its state, where the block tells its contents
abbrev pub told_of : List (ℕ × ℕ) → Option ℕ → ℕ → Option (List ℕ) → Option DiskState
told_of dirty grown_from asked None = None
told_of dirty grown_from asked (Some seen) = Some (state_of dirty grown_from asked seen)

-- the length lies between the one after the last sync and the greatest one asked for
abbrev pub IsLengthKnown : Option ℕ → ℕ → Option (List ℕ) → Type 0
IsLengthKnown grown_from asked contents =
    (seen : List ℕ) → contents ≡ Some seen → (length_at_sync grown_from (length seen) ≤ length seen) × (length seen ≤ max (length_at_sync grown_from (length seen)) asked)
