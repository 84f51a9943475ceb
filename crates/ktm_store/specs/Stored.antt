-- Which pages are stored, and which of them are still to be written.
use Rattle.std.specs.Prelude.{◌≡◌, ℕ, ◌≤◌, Bool, true, false, List, length, slice_index_or, count_by, All}

-- which pages are stored, which is to say on the disk as in memory or to be written, and those that are to be written
pub record StoredState : Type 0 where
  pub stored : List Bool
  pub wanted : List ℕ

-- is a page stored; one that is none is not
abbrev pub is_stored : List Bool → ℕ → Bool
is_stored stored page = slice_index_or stored page false

-- how many pages are stored
abbrev pub stored_count : List Bool → ℕ
stored_count stored = count_by (λ is. is) stored

-- the pages that are to be written are stored, and they are no more than those
pub record AreWanted (state : StoredState) : Type 0 where
  pub few : length state.wanted ≤ stored_count state.stored
  pub are : All (λ page. is_stored state.stored page ≡ true) state.wanted
