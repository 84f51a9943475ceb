-- Pages that are kept in memory.
use Rattle.std.specs.Prelude.{◌≡◌, ℕ, ◌-◌, ◌==◌, not, List, ◌∷◌, filter, take, Contains, Option, IfSome}
use Rattle.ktm_page.specs.Row.{RowState, page_of}

-- the most pages that are kept
abbrev pub most_kept : ℕ
most_kept = 64

-- the pages that are kept, and the bytes of each, the one that was used last first
pub record CacheState : Type 0 where
  pub kept : List (ℕ × List ℕ)

-- is a page kept, with whatever bytes
abbrev pub Keeps : CacheState → ℕ → Type 0
Keeps cache page = (bytes : List ℕ) × Contains cache.kept (page, bytes)

-- each page that is kept is as the row has it, where the row tells
abbrev pub Agrees : CacheState → Option RowState → Type 0
Agrees cache told = IfSome told (λ r. (page : ℕ) (bytes : List ℕ) → Contains cache.kept (page, bytes) → page_of r.seen page ≡ bytes)

-- the others
abbrev pub without : ℕ → List (ℕ × List ℕ) → List (ℕ × List ℕ)
without page kept = filter (λ e. not (e.0 == page)) kept

-- a page was used: it is first, and of the others the one that was used longest ago goes where there are too many
abbrev pub used : ℕ → List ℕ → List (ℕ × List ℕ) → List (ℕ × List ℕ)
used page bytes kept = (page, bytes) ∷ take (most_kept - 1) (without page kept)
