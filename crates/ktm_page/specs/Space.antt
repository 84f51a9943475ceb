-- Which pages are out, each with its number of holders.
use Rattle.std.specs.Prelude.{◌≡◌, ◌≢◌, ℕ, zero, suc, ◌+◌, ◌<◌, ◌==◌, if◌then◌else◌}

-- how many of the pages below a number are free
abbrev pub free_below : (ℕ → ℕ) → ℕ → ℕ
free_below holders zero = 0
free_below holders (suc n) = (if holders n == 0 then 1 else 0) + free_below holders n

-- no page has more or fewer holders but this one
abbrev pub OthersStay : (ℕ → ℕ) → ℕ → (ℕ → ℕ) → Type 0
OthersStay old page new = (other : ℕ) → other ≢ page → new other ≡ old other

-- a page that was free was taken
pub record Took (count : ℕ) (old : ℕ → ℕ) (page : ℕ) (new : ℕ → ℕ) : Type 0 where
  pub within : page < count
  pub was_free : old page ≡ 0
  pub held : new page ≡ 1
  pub others : OthersStay old page new

-- a page has a holder more
pub record Shared (old : ℕ → ℕ) (page : ℕ) (new : ℕ → ℕ) : Type 0 where
  pub more : new page ≡ old page + 1
  pub others : OthersStay old page new

-- a page has a holder less
pub record Gave (old : ℕ → ℕ) (page : ℕ) (new : ℕ → ℕ) : Type 0 where
  pub fewer : new page + 1 ≡ old page
  pub others : OthersStay old page new
