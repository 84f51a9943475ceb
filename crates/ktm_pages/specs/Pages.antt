-- Which pages of an image are out.
use Rattle.std.specs.Prelude.{◌≡◌, ◌≢◌, ℕ, ◌+◌, ◌*◌, ◌<◌, ◌≤◌, ◌^◌, ◌==◌, List, length, count_by, slice_index}
use Rattle.ktm_page.specs.Space.{free_below}

-- how many pages an image of so many units has
abbrev pub pages_of : ℕ → ℕ
pages_of units = 2 * units + 64

-- how many places a page has in a list
abbrev pub places_of : List ℕ → ℕ → ℕ
places_of pages page = count_by (λ p. p == page) pages

-- what is known of the pages: how many holders each has
pub record PagesState : Type 0 where
  pub each : List ℕ

-- how many pages there are
abbrev pub count_of : PagesState → ℕ
count_of pages = length pages.each

-- how many holders a page has; one that is none has none
abbrev pub holders_of : PagesState → ℕ → ℕ
holders_of pages page = slice_index pages.each page

-- the pages on the stack are those without a holder, each once
pub record HasFree (each stack : List ℕ) : Type 0 where
  pub within : (k : ℕ) → k < length stack → slice_index stack k < length each
  pub unheld : (k : ℕ) → k < length stack → slice_index each (slice_index stack k) ≡ 0
  pub once : (j k : ℕ) → j < k → k < length stack → slice_index stack j ≢ slice_index stack k
  pub all : length stack ≡ free_below (slice_index each) (length each)

-- the pages on the stack are those without a holder, each once, with room for all pages, which a u32 numbers
pub record AreSound (each stack : List ℕ) (room : ℕ) : Type 0 where
  pub free : HasFree each stack
  pub fits : length each ≤ room
  pub few : length each < 2 ^ 32
