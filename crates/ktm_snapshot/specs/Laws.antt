-- What a durable state and its bytes say of each other.
use Rattle.std.specs.Prelude.{◌≡◌, ℕ, List, ◌++◌, length}
use Rattle.ktm_world.specs.Durable.{Durable}
use Rattle.ktm_snapshot.specs.Sizes.{state_size}
use Rattle.ktm_snapshot.specs.StateGrammar.{IsStateOf}

-- of images with these units and this number no state's spelling begins another one's: bytes are one state at most
abbrev pub OneStateAtMost : Type 0
OneStateAtMost = (s t : Durable) (a b c d : List ℕ) → s.units ≡ t.units → s.image ≡ t.image → IsStateOf s a → IsStateOf t b → a ++ c ≡ b ++ d → (s ≡ t) × (a ≡ b)

-- a state takes as many bytes as are counted for it
abbrev pub StateHasItsSize : Type 0
StateHasItsSize = (s : Durable) (bytes : List ℕ) → IsStateOf s bytes → length bytes ≡ state_size s
