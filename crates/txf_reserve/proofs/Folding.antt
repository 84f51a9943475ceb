-- Names that are folded have as many bytes.
use Rattle.std.proofs.Common.{ℕ, ◌≤◌, List, ◌∷◌, length, subst}
use Rattle.std.proofs.lemmas.List.{length-map}
use Rattle.std.proofs.lemmas.List.Elements.{All-head}
use Rattle.ktm_base.specs.declared.limits.TheConstants.{MOST_NAME_BYTES}
use Rattle.ktm_base.specs.Names.{folded_byte}
use Rattle.ktm_world.specs.Holds.{Place, place}
use Rattle.txf_opens.specs.Acts.{HaveShortNames}

-- the first of short names is short as it is written
pub short-first : (directory : ℕ) (name : List ℕ) (rest : List Place) → HaveShortNames (place directory name ∷ rest) → length name ≤ MOST_NAME_BYTES
short-first directory name rest short = subst (λ n. n ≤ MOST_NAME_BYTES) (length-map name folded_byte) (All-head (λ (p : Place). length p.name ≤ MOST_NAME_BYTES) (place directory name) rest short)
