-- Forms of the grammar at a place of the bytes, and at their end.
use Rattle.std.specs.Prelude.{◌≡◌, ℕ, ◌≤◌, List, ◌++◌, length, Option, None, Some}
use Rattle.std.specs.List.{slice_range}
use Rattle.ktm_base.specs.Bytes.{AreBytes}

-- what stands between two places of the bytes is of this form
pub record Spans (Form : List ℕ → Type 0) (bytes : List ℕ) (at end : ℕ) : Type 0 where
  pub forward : at ≤ end
  pub within : end ≤ length bytes
  pub form : Form (slice_range bytes at end)

-- the thing that is read is spelled between the place and the one that is answered; none is read only where nothing of its kind is spelled from the place on
abbrev pub Reads : {X : Type 0} → (X → List ℕ → Type 0) → List ℕ → ℕ → Option (X × ℕ) → Type 0
Reads {X} Form bytes at None = (x : X) (end : ℕ) → Spans (Form x) bytes at end → ⊥
Reads Form bytes at (Some (x, end)) = Spans (Form x) bytes at end

-- some bytes of this form were added at the end
pub record Adds (Form : List ℕ → Type 0) (old new : List ℕ) : Type 0 where
  pub more : List ℕ
  pub is : new ≡ old ++ more
  pub form : Form more

-- no spelling begins another one: what stands at the front of some bytes is one thing at most, and its spelling ends at one place
abbrev pub Unambiguous : {X : Type 0} → (X → List ℕ → Type 0) → Type 0
Unambiguous {X} Form = (x y : X) (a b c d : List ℕ) → Form x a → Form y b → a ++ c ≡ b ++ d → (x ≡ y) × (a ≡ b)

-- a thing has one spelling in bytes at most
abbrev pub OneSpelling : {X : Type 0} → (X → List ℕ → Type 0) → Type 0
OneSpelling {X} Form = (x : X) (a b : List ℕ) → AreBytes a → AreBytes b → Form x a → Form x b → a ≡ b
