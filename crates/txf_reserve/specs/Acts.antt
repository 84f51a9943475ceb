-- What a change holds, as the model has it.
use Rattle.std.specs.Prelude.{ℕ, List, [], ◌∷◌, ◌++◌, Option, Some, None}
use Rattle.ktm_world.specs.Holds.{Place}
use Rattle.txf_opens.specs.Acts.{place_in}
use Rattle.txf_opens.specs.declared.act.Place.{Place as Spot}
use Rattle.txf_reserve.specs.declared.act.Held.{Held}

-- the number, if there is one
abbrev pub listed : Option ℕ → List ℕ
listed None = []
listed (Some n) = n ∷ []

-- the place, if there is one
abbrev pub listed_place : Option Spot → List Place
listed_place None = []
listed_place (Some p) = place_in p ∷ []

-- the names that a change holds
abbrev pub places_held : Held → List Place
places_held h = listed_place h.from ++ listed_place h.to
