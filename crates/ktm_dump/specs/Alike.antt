-- What the text of a state does not tell.
use Rattle.std.specs.Prelude.{◌≡◌, ℕ}
use Rattle.ktm_dump.specs.Text.{state_text}
use Rattle.ktm_mapped.specs.Mapped.{mapped_durable}
use Rattle.ktm_world.specs.Durable.{Durable}

-- with every byte of every content replaced by another one, the text of a state is the same
abbrev pub TextsAlike : Type 0
TextsAlike = (f : ℕ → ℕ) (s : Durable) → state_text (mapped_durable f s) ≡ state_text s
