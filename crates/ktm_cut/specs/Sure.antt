-- Which places of a block are in no doubt once the power is back.
use Rattle.std.specs.Prelude.{◌≡◌, ◌⊎◌, ℕ, ◌<◌, ◌≤◌, Bool, true, false, List, length}
use Rattle.ktm_base.specs.Bytes.{covers}
use Rattle.ktm_base.specs.Doubt.{NoneMore}

-- no place is doubted that was not, and none from one place up to another
pub record SureFrom (from end : ℕ) (old new : ℕ → Bool) : Type 0 where
  pub others : NoneMore old new
  pub range : (place : ℕ) → from ≤ place → place < end → new place ≡ false

-- no place is doubted that was not, and none below the end that a range covers
pub record SureIn (ranges : List (ℕ × ℕ)) (end : ℕ) (old new : ℕ → Bool) : Type 0 where
  pub others : NoneMore old new
  pub covered : (place : ℕ) → place < end → covers ranges place ≡ true → new place ≡ false

-- no byte is doubted that a range covers, or that stands at or behind the length after the last sync
abbrev pub IsDirtySure : List (ℕ × ℕ) → ℕ → (ℕ → Bool) → List ℕ → Type 0
IsDirtySure ranges shortest doubted bytes = (place : ℕ) → place < length bytes → (covers ranges place ≡ true) ⊎ (shortest ≤ place) → doubted place ≡ false
