-- Matching from star to star. The laws in proofs/ say that it finds what `matches` says; no public contract rests on this file.
use Rattle.std.specs.Prelude.{◌≡◌, ℕ, ◌<◌, ◌≤◌, ◌==◌, Bool, true, false, List, [], ◌∷◌, length, Option, Some, None, if◌then◌else◌}
use Rattle.std.specs.List.{list_any}
use Rattle.ktm_base.specs.Names.{ends_of, matches, stands_for, star}
use Rattle.ktm_names.specs.declared.wildcard.Step.{Step}
use Rattle.ktm_names.specs.declared.wildcard.Step.TheVariants.{Whole, Star, Apart}

-- what is left of a pattern and a name behind the characters before the pattern's next star, where these stand for those of the name
unfoldable pub past_piece : List ℕ → List ℕ → Option (List ℕ × List ℕ)
past_piece [] name = Some ([], name)
past_piece (p ∷ ps) [] = if p == star then Some (p ∷ ps, []) else None
past_piece (p ∷ ps) (c ∷ cs) = if p == star then Some (p ∷ ps, c ∷ cs) else (if stands_for p c then past_piece ps cs else None)

-- does the pattern match some end of the name
abbrev pub matches_some_end : List ℕ → List ℕ → Bool
matches_some_end pattern name = list_any (matches pattern) (ends_of name)

-- up to a star: the rest behind it decides, also of what matches some end
pub record LeavesAt (pattern name rest left : List ℕ) : Type 0 where
  pub whole : matches pattern name ≡ matches_some_end rest left
  pub some_end : matches_some_end pattern name ≡ matches_some_end rest left
  pub shorter : length rest < length pattern
  pub no_longer : length left ≤ length name

-- what it means how a pattern and a name go together
abbrev pub Walks : Step → List ℕ → List ℕ → Type 0
Walks Whole pattern name = matches pattern name ≡ true
Walks (Star rest left) pattern name = LeavesAt pattern name rest.now left.now
Walks Apart pattern name = matches pattern name ≡ false
