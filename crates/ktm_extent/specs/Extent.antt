-- Contents as a list of pages.
use Rattle.std.specs.Prelude.{◌≡◌, ℕ, ◌+◌, ◌-◌, ◌/◌, ◌<◌, ◌==◌, ◌≢◌, min, List, length, take, flat_map, count_by, AllPairs, Contains, if◌then◌else◌}
use Rattle.ktm_page.specs.Row.{page_of}
use Rattle.ktm_world.specs.Tree.{put_over}

-- how many bytes there are, and the page of each unit of them
pub record ExtentState : Type 0 where
  pub size : ℕ
  pub pages : List ℕ

-- there is a page for each unit, and each is another
pub record IsExtent (e : ExtentState) : Type 0 where
  pub units : length e.pages ≡ (e.size + 4095) / 4096
  pub different : AllPairs (λ (a b : ℕ). a ≢ b) e.pages

-- the bytes, in a row of pages that a read sees so
abbrev pub contents : List ℕ → ExtentState → List ℕ
contents seen e = take e.size (flat_map (page_of seen) e.pages)

-- bytes put over others, where there are any
abbrev pub overwritten : List ℕ → ℕ → List ℕ → List ℕ
overwritten old at bytes = if length bytes == 0 then old else put_over old at bytes

-- how many units a write of so many bytes at an offset touches, from the end of what is there or the offset on
abbrev pub touched : ℕ → ℕ → ℕ → ℕ
touched size at len = if len == 0 then 0 else (at + len - 1) / 4096 + 1 - min size at / 4096

-- its pages are below this number
abbrev pub AreBelow : ℕ → ExtentState → Type 0
AreBelow count e = (page : ℕ) → Contains e.pages page → page < count

-- each of its pages has a holder
abbrev pub AreOut : (ℕ → ℕ) → ExtentState → Type 0
AreOut holders e = (page : ℕ) → Contains e.pages page → 0 < holders page

-- how often a page stands in a list
abbrev pub uses_in : List ℕ → ℕ → ℕ
uses_in pages page = count_by (λ p. p == page) pages

-- how often it stands in an extent
abbrev pub uses : ExtentState → ℕ → ℕ
uses e page = uses_in e.pages page

-- each page has as many holders more or fewer as its places in the extent became more or fewer
abbrev pub Moves : ExtentState → ExtentState → (ℕ → ℕ) → (ℕ → ℕ) → Type 0
Moves old new before after = (page : ℕ) → after page + uses old page ≡ before page + uses new page
