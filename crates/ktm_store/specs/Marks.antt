-- Which pages are held, and from which one on a free one is sought.
use Rattle.std.specs.Prelude.{◌≡◌, ◌⊎◌, ℕ, ◌+◌, ◌<◌, ◌≤◌, ◌^◌, Bool, true, false, not, List, length, drop, set, replicate, slice_index_or, count_by, All, Contains}

-- which pages are held, and the page from which on a free one is sought
pub record MarksState : Type 0 where
  pub held : List Bool
  pub next : ℕ

-- is a page held; one that is none is not
abbrev pub is_held : List Bool → ℕ → Bool
is_held held page = slice_index_or held page false

-- how many pages are free from this one on
abbrev pub free_from : List Bool → ℕ → ℕ
free_from held page = count_by not (drop page held)

-- how many pages are free from the one on where a free one is sought
abbrev pub free_ahead : MarksState → ℕ
free_ahead marks = free_from marks.held marks.next

-- of so many pages none is held
pub record IsClear (count : ℕ) (marks : MarksState) : Type 0 where
  pub held : marks.held ≡ replicate count false
  pub next : marks.next ≡ 0
  pub free : free_ahead marks ≡ count

-- the first page that was free was taken
pub record Took (old : MarksState) (page : ℕ) (new : MarksState) : Type 0 where
  pub within : page < length old.held
  pub ahead : old.next ≤ page
  pub first : (other : ℕ) → old.next ≤ other → other < page → is_held old.held other ≡ true
  pub was_free : is_held old.held page ≡ false
  pub held : new.held ≡ set old.held page true
  pub next : new.next ≡ page + 1
  pub fewer : free_ahead new + 1 ≡ free_ahead old

-- these pages are held, and no others but those that were
pub record Holds (pages : List ℕ) (old new : MarksState) : Type 0 where
  pub count : length new.held ≡ length old.held
  pub next : new.next ≡ old.next
  pub these : All (λ page. is_held new.held page ≡ true) pages
  pub kept : (page : ℕ) → is_held old.held page ≡ true → is_held new.held page ≡ true
  pub only : (page : ℕ) → is_held new.held page ≡ true → (is_held old.held page ≡ true) ⊎ Contains pages page
  pub free : free_ahead old ≤ free_ahead new + length pages

-- a page's number is a u32, and a free one is sought among them
pub record AreSound (marks : MarksState) : Type 0 where
  pub few : length marks.held < 2 ^ 32
  pub within : marks.next ≤ length marks.held
