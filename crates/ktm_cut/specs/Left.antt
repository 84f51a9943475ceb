-- What is left of dirty bytes when the power comes back: a number chooses.
use Rattle.std.specs.Prelude.{ℕ, ◌+◌, ◌-◌, ◌/◌, ◌%◌, ◌==◌, min, nat_lt, List, [], ◌∷◌, length, replicate, if◌then◌else◌}
use Rattle.rand_core.specs.Steps.{fill_via_u32}
use Rattle.rand_core.specs.Pcg32Seed.{pcg32_seed}
use Rattle.rand_pcg.specs.Lcg.{Lcg}
use Rattle.rand_pcg.specs.Pcg.{pcg32, pcg32_of_seed}
use Rattle.ktm_base.specs.Bytes.{written}

-- n drawn bytes, four from each word, the low byte first; and the generator after them
unfoldable pub drawn : ℕ → Lcg → List ℕ × Lcg
drawn n g = fill_via_u32 pcg32 n g

-- drawn bytes from one place up to another
abbrev pub with_drawn : ℕ → ℕ → Lcg → List ℕ → List ℕ × Lcg
with_drawn from end g old = (written old from (drawn (end - from) g).0, (drawn (end - from) g).1)

-- zeros from one place up to another
abbrev pub with_zeros : ℕ → ℕ → List ℕ → List ℕ
with_zeros from end old = written old from (replicate (end - from) 0)

-- 0 chooses what was written, 1 zeros, 2 drawn bytes, 3 the first half as written and drawn bytes after it
unfoldable pub left_by : ℕ → ℕ → ℕ → Lcg → List ℕ → List ℕ × Lcg
left_by way from end g old =
    if way == 0 then (old, g)
    else if way == 1 then (with_zeros from end old, g)
    else if way == 2 then with_drawn from end g old
    else with_drawn (from + (end - from) / 2) end g old

-- a drawn word modulo 4 is the choice
unfoldable pub left_of_range : ℕ → ℕ → Lcg → List ℕ → List ℕ × Lcg
left_of_range from end g old = left_by ((pcg32 g).0 % 4) from end (pcg32 g).1 old

-- the ranges in order, each up to the end of the bytes
unfoldable pub left_of_ranges : List (ℕ × ℕ) → Lcg → List ℕ → List ℕ × Lcg
left_of_ranges [] g old = (old, g)
left_of_ranges (range ∷ ranges) g old =
    let left = left_of_range (min (length old) range.0) (min (length old) (range.0 + range.1)) g old in
    left_of_ranges ranges left.1 left.0

-- the bytes that were added, if any
abbrev pub left_of_added : ℕ → Lcg → List ℕ → List ℕ
left_of_added from g old = if nat_lt from (length old) then (left_of_range from (length old) g old).0 else old

-- of the ranges that were written, and then of the bytes that were added
unfoldable pub left_of : ℕ → List (ℕ × ℕ) → ℕ → List ℕ → List ℕ
left_of pick ranges from old =
    let left = left_of_ranges ranges (pcg32_of_seed (pcg32_seed 16 pick)) old in
    left_of_added from left.1 left.0
