-- The groups in which events are recorded.
use Rattle.std.specs.Prelude.{ℕ, ◌+◌, Bool, false, List, [], ◌∷◌, nat_lt}
use Rattle.ktm_world.specs.declared.event.Event.{Event}
use Rattle.ktm_world.specs.Sizes.{frame_size}

-- the events of one command
abbrev pub Group : Type 0
Group = List Event

-- with so many bytes left, the log has no room for the frame of these events and a gate behind it; no events need no frame
abbrev pub is_full : ℕ → List Event → Bool
is_full left [] = false
is_full left (event ∷ events) = nat_lt left (frame_size (event ∷ events) + 1)
