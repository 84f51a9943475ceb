-- Reading by cutting at the backslashes. The laws in proofs/ say that it reads what `IsPath` and `IsPattern` spell; no public contract rests on this file.
use Rattle.std.specs.Prelude.{ℕ, ◌==◌, nat_le, List, [], ◌∷◌, length, Option, Some, None, option_and_then, if◌then◌else◌}
use Rattle.std.specs.List.{slice_split}
use Rattle.ktm_base.specs.declared.limits.TheConstants.{MOST_PARTS}
use Rattle.ktm_base.specs.Names.{backslash}

-- what follows the backslash at the front
unfoldable pub behind_backslash : List ℕ → Option (List ℕ)
behind_backslash [] = None
behind_backslash (c ∷ cs) = if c == backslash then Some cs else None

-- the parts of a text between its backslashes
abbrev pub cut : List ℕ → List (List ℕ)
cut text = slice_split (λ c. c == backslash) text

-- the parts of a text between its backslashes, where there are 32 at most
abbrev pub few_parts : List ℕ → Option (List (List ℕ))
few_parts text = if nat_le (length (cut text)) MOST_PARTS then Some (cut text) else None

-- the parts of a path or a pattern, whatever they hold
unfoldable pub parts_of : List ℕ → Option (List (List ℕ))
parts_of text = option_and_then few_parts (behind_backslash text)
