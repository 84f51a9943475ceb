-- What stands before the first star or question mark of a pattern.
use Rattle.std.specs.Prelude.{ℕ, ◌==◌, ◌&&◌, ◌||◌, Bool, true, false, List, [], ◌∷◌, if◌then◌else◌}
use Rattle.ktm_base.specs.Names.{folded_byte, question_mark, star}

-- does the character of a pattern stand for more than one
abbrev pub is_wild : ℕ → Bool
is_wild c = c == star || c == question_mark

-- the characters of a pattern before its first star or question mark
unfoldable pub lead : List ℕ → List ℕ
lead [] = []
lead (p ∷ ps) = if is_wild p then [] else p ∷ lead ps

-- does the name begin with these characters, and end behind them where the pattern does
unfoldable pub reaches : List ℕ → List ℕ → Bool
reaches [] [] = true
reaches [] (c ∷ cs) = false
reaches (p ∷ ps) [] = is_wild p
reaches (p ∷ ps) (c ∷ cs) = if is_wild p then true else folded_byte p == folded_byte c && reaches ps cs
