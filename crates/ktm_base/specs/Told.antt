-- What an object of the outside tells of its contents, if it tells them at all.
use Rattle.std.specs.Prelude.{Option, None, Some}

-- an object that tells goes on telling, one that does not never tells, and from the old contents to the new there is this step
abbrev pub Goes : {S : Type 0} → (S → S → Type 0) → Option S → Option S → Type 0
Goes step None None = Unit {0}
Goes step None (Some new) = ⊥
Goes step (Some old) None = ⊥
Goes step (Some old) (Some new) = step old new
