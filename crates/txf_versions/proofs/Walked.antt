-- Older versions, one after another.
use Rattle.std.proofs.Common.{◌≡◌, ℕ, false, List, [], ◌∷◌, sum_by, refl, arith}
use Rattle.std.proofs.lemmas.List.Sums.{sum_by-cons}
use Rattle.std.specs.Ordering.{is_lt}
use Rattle.ktm_content.specs.Contents.{units_of}
use Rattle.ktm_links.specs.Mapped.{NamedItem, entries_from, name_cmp}
use Rattle.txf_versions.specs.VersionsState.{older_contents, older_units, version_units}
use Rattle.txf_versions.specs.declared.kept.Older.{Older}

not_below : (name : List ℕ) → is_lt (name_cmp name []) ≡ false
not_below [] = refl
not_below (byte ∷ bytes) = refl

-- no name is below that of no byte
pub all_entries : (es : List (NamedItem Older)) → entries_from es [] ≡ es
all_entries [] = refl
all_entries (e ∷ es) = rw (not_below e.name) refl

pub older-sum : (older : List Older) → sum_by units_of (older_contents older) ≡ older_units older
older-sum [] = refl
older-sum (v ∷ vs) = let rest = older-sum vs in rw (sum_by-cons units_of v.bytes (older_contents vs), sum_by-cons version_units v vs) (omega (arith, rest))
