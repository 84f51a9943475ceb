-- Pieces of a row.
use Rattle.std.specs.Prelude.{ℕ, List, [], ◌∷◌, take, drop}

-- pieces of these lengths, cut off the row one after another
abbrev pub pieces : List ℕ → List ℕ → List (List ℕ)
pieces [] row = []
pieces (n ∷ ns) row = take n row ∷ pieces ns (drop n row)
