-- Counts of what went wrong and of what was asked, in 64 bits.
use Rattle.std.specs.Prelude.{ℕ, ◌+◌, ◌-◌, ◌^◌, ◌≤◌, min}

-- the count after one more, which stands still at its type's end
abbrev pub raised : ℕ → ℕ
raised count = min (count + 1) (2 ^ 64 - 1)

-- the count rose; one that stands at its type's end counts as having risen
abbrev pub Rose : ℕ → ℕ → Type 0
Rose before now = raised before ≤ now
