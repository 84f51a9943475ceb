-- A row of pages on a disk: what a read sees, and what a loss of power may take.
use Rattle.std.specs.Prelude.{◌≡◌, ◌⊎◌, ℕ, ◌+◌, ◌*◌, List, [], ◌∷◌, slice_range, Contains}
use Rattle.ktm_base.specs.declared.limits.TheConstants.{UNIT_BYTES}
use Rattle.ktm_base.specs.Bytes.{SameOutside, written}

-- what a row tells
pub record RowState : Type 0 where
  -- what a read sees of its pages, one behind another
  pub seen : List ℕ
  -- the pages of which a loss of power may leave anything
  pub dirty : List ℕ
  -- what stands on the disk in front of the pages, of which a loss of power leaves all
  pub front : List ℕ

-- the bytes of a page
abbrev pub page_of : List ℕ → ℕ → List ℕ
page_of seen page = slice_range seen (page * UNIT_BYTES) (page * UNIT_BYTES + UNIT_BYTES)

-- no page is dirty but this one and those that were
abbrev pub DirtiesOne : ℕ → List ℕ → List ℕ → Type 0
DirtiesOne page old new = (dirty : ℕ) → Contains new dirty → (dirty ≡ page) ⊎ Contains old dirty

-- a page was written
pub record WrotePage (page : ℕ) (bytes : List ℕ) (old new : RowState) : Type 0 where
  pub seen : new.seen ≡ written old.seen (page * UNIT_BYTES) bytes
  pub dirty : DirtiesOne page old.dirty new.dirty
  pub front : new.front ≡ old.front

-- the power went where it was written: the page may hold anything
pub record LostPage (page : ℕ) (old new : RowState) : Type 0 where
  pub seen : SameOutside ((page * UNIT_BYTES, UNIT_BYTES) ∷ []) old.seen new.seen
  pub dirty : DirtiesOne page old.dirty new.dirty
  pub front : new.front ≡ old.front
