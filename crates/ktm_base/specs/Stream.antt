-- What a read and a write of a stream do to bytes that are told, and when they may fail.
use Rattle.std.specs.Prelude.{◌≡◌, ℕ, ◌<◌, ◌≤◌, List, length, take, Option, Result, Ok, Err, IsErr}
use Rattle.std.specs.Io.KnownBytes.{Appends, Consumes, IsAtEnd, Keeps}
use Rattle.ktm_base.specs.declared.fault.Failed.{Failed}
use Rattle.ktm_base.specs.Count.{Rose}

-- a read of n bytes consumes them, none only at the end or where there is no room; a failed one consumes nothing
abbrev pub Reads : Option (List ℕ) → Option (List ℕ) → Result ℕ Failed → List ℕ → Type 0
Reads old new (Ok n) buffer = Consumes old new (take n buffer) × (n ≡ 0 → 0 < length buffer → IsAtEnd new)
Reads old new (Err failed) buffer = Keeps old new

-- a write of n bytes appends them; a failed one appends nothing
abbrev pub Writes : Option (List ℕ) → Option (List ℕ) → Result ℕ Failed → List ℕ → Type 0
Writes old new (Ok n) bytes = Appends old new (take n bytes)
Writes old new (Err failed) bytes = Keeps old new

-- the count of faults never falls, and a call fails only where it rose
pub record Faults {T : Type 0} (before now : ℕ) (result : Result T Failed) : Type 0 where
  pub later : before ≤ now
  pub cause : IsErr result → Rose before now

-- to take none of some bytes is a fault, though the call is answered
abbrev pub TakesSome : Result ℕ Failed → List ℕ → ℕ → ℕ → Type 0
TakesSome (Ok n) bytes before now = n ≡ 0 → 0 < length bytes → Rose before now
TakesSome (Err failed) bytes before now = Unit {0}
