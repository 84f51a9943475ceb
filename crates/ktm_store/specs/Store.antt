-- Pages, and contents that lie on them.
use Rattle.std.specs.Prelude.{◌≡◌, ◌≢◌, ◌⊎◌, ℕ, ◌+◌, ◌-◌, ◌*◌, ◌/◌, ◌<◌, ◌≤◌, min, max, Bool, true, false, List, length, map, slice_index, All, Contains, Option}
use Rattle.ktm_base.specs.declared.limits.TheConstants.{UNIT_BYTES}
use Rattle.ktm_page.specs.Row.{page_of}
use Rattle.ktm_content.specs.Contents.{put_over}
use Rattle.ktm_content.specs.Places.{CanBePut, LieOn, byte_at}
use Rattle.ktm_store.specs.Marks.{MarksState, free_ahead, is_held}
use Rattle.ktm_store.specs.Stored.{is_stored}

-- what is known of the bytes of all pages, which pages are held, which are stored, and which of these are still to be written
pub record StoreOf (Bytes : Type 0) : Type 0 where
  pub seen : Bytes
  pub marks : MarksState
  pub stored : List Bool
  pub wanted : List ℕ

-- the bytes of all pages are known, one behind another
abbrev pub StoreState : Type 0
StoreState = StoreOf (List ℕ)

-- those of the pages in memory are known, each whole
abbrev pub PoolState : Type 0
PoolState = StoreOf (List (Option (List ℕ)))

-- how many pages an image of so many units has
abbrev pub pages_of : ℕ → ℕ
pages_of units = 2 * units + 64

-- the bytes that a row of pages has at places
abbrev pub bytes_at : List ℕ → List ℕ → List ℕ
bytes_at seen places = map (byte_at seen) places

-- the page that a place is on
abbrev pub page_at : ℕ → ℕ
page_at place = (place - 1) / UNIT_BYTES

-- the page of a place is held
abbrev pub IsHeldAt : MarksState → ℕ → Type 0
IsHeldAt marks place = place ≢ 0 → is_held marks.held (page_at place) ≡ true

-- the page of a place is stored
abbrev pub IsStoredAt : List Bool → ℕ → Type 0
IsStoredAt stored place = place ≢ 0 → is_stored stored (page_at place) ≡ true

-- these places are on the first so many pages
abbrev pub AreBelow : ℕ → List ℕ → Type 0
AreBelow count places = All (λ place. place ≤ count * UNIT_BYTES) places

-- the pages of these places are held
abbrev pub AreHeld : List Bool → List ℕ → Type 0
AreHeld held places = All (λ place. place ≢ 0 → is_held held (page_at place) ≡ true) places

-- the pages of these places are free
abbrev pub AreFree : List Bool → List ℕ → Type 0
AreFree held places = All (λ place. is_held held (page_at place) ≡ false) places

-- the pages that were held are held still, and have the bytes that they had; of the others none that changed is stored
pub record KeepsHeld (old new : StoreState) : Type 0 where
  pub count : length new.marks.held ≡ length old.marks.held
  pub held : (page : ℕ) → is_held old.marks.held page ≡ true → is_held new.marks.held page ≡ true
  pub bytes : (page : ℕ) → is_held old.marks.held page ≡ true → page_of new.seen page ≡ page_of old.seen page
  pub stored : (page : ℕ) → is_held old.marks.held page ≡ true → is_stored new.stored page ≡ is_stored old.stored page
  pub as_were : (page : ℕ) → is_stored new.stored page ≡ true → (is_stored old.stored page ≡ true) × (page_of new.seen page ≡ page_of old.seen page)
  pub wanted : new.wanted ≡ old.wanted

-- some pages more are to be written, none of which was stored, and no other is stored that was not
pub record WantsMore {B : Type 0} (old new : StoreOf B) : Type 0 where
  pub seen : new.seen ≡ old.seen
  pub marks : new.marks ≡ old.marks
  pub stored : (page : ℕ) → is_stored old.stored page ≡ true → is_stored new.stored page ≡ true
  pub only : (page : ℕ) → is_stored new.stored page ≡ true → (is_stored old.stored page ≡ true) ⊎ Contains new.wanted page
  pub wanted : (page : ℕ) → Contains old.wanted page → Contains new.wanted page
  pub fresh : (page : ℕ) → Contains new.wanted page → Contains old.wanted page ⊎ (is_stored old.stored page ≡ false)

-- how many units are touched where contents of so many bytes change from an offset to an end
abbrev pub touched : ℕ → ℕ → ℕ → ℕ
touched size at end = (end - 1) / UNIT_BYTES + 1 - min size at / UNIT_BYTES

-- no page stands at two places of the list
abbrev pub AreDistinct : List ℕ → Type 0
AreDistinct pages = (i j : ℕ) → i < length pages → j < length pages → slice_index pages i ≡ slice_index pages j → i ≡ j

-- a part was made on so many pages that were free, each taken once: put over contents from this offset on, it has what `after` makes of their bytes
pub record Made (after : List ℕ → List ℕ) (units : ℕ) (places : List ℕ) (old new : StoreState) (start : ℕ) (part : List ℕ) : Type 0 where
  pub pages : List ℕ
  pub lie : LieOn pages part
  pub once : AreDistinct pages
  pub can : CanBePut places start part
  pub bytes : bytes_at new.seen (put_over places start part) ≡ after (bytes_at old.seen places)
  pub keeps : KeepsHeld old new
  pub were_free : AreFree old.marks.held part
  pub held : AreHeld new.marks.held part
  pub fewer : free_ahead new.marks + units ≡ free_ahead old.marks

-- the part begins with the first unit that is touched where contents of so many bytes change from an offset to an end, and ends with the last one, or with the contents
pub record IsTouched (size at end start : ℕ) (part : List ℕ) : Type 0 where
  pub first : start ≡ min size at / UNIT_BYTES * UNIT_BYTES
  pub last : start + length part ≡ min (max size end) (((end - 1) / UNIT_BYTES + 1) * UNIT_BYTES)
