-- Places of a block whose bytes may be lost though a later flush answers Ok.
use Rattle.std.specs.Prelude.{◌≡◌, ℕ, Bool, true, false, [], ◌∷◌, Result, OnOk}
use Rattle.ktm_base.specs.declared.fault.Failed.{Failed}
use Rattle.ktm_base.specs.Bytes.{covers}

-- no place is doubted that was not
abbrev pub NoneMore : (ℕ → Bool) → (ℕ → Bool) → Type 0
NoneMore old new = (place : ℕ) → old place ≡ false → new place ≡ false

-- a write to a range: the other places are doubted as they were, and once it was done none of the range is
pub record Rewrote {T : Type 0} (at len : ℕ) (old new : ℕ → Bool) (result : Result T Failed) : Type 0 where
  pub others : (place : ℕ) → covers ((at, len) ∷ []) place ≡ false → new place ≡ old place
  pub range : OnOk result ((place : ℕ) → covers ((at, len) ∷ []) place ≡ true → new place ≡ false)
