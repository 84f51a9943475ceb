-- Frames of memory, and the pages whose bytes they have.
use Rattle.std.specs.Prelude.{◌≡◌, ◌≢◌, ◌⊎◌, ℕ, ◌*◌, ◌<◌, ◌≤◌, ◌^◌, Bool, true, List, ◌++◌, length, map, replicate, slice_index, slice_index_or, Option, Some, None}
use Rattle.std.specs.Option.{option_map}
use Rattle.ktm_base.specs.declared.limits.TheConstants.{UNIT_BYTES}
use Rattle.ktm_content.specs.Contents.{cut_to}
use Rattle.ktm_page.specs.Row.{page_of}
use Rattle.ktm_store.specs.Store.{AreDistinct}
use Rattle.ktm_store.specs.Stored.{is_stored}

-- ---- whose a frame is

-- the frame of each page that has one, how many frames there are, and how many of them are spare
pub record OwnersState : Type 0 where
  pub at : List (Option ℕ)
  pub count : ℕ
  pub spare : ℕ

-- the frame of a page, or the page of a frame, if it has one
abbrev pub at_in : List (Option ℕ) → ℕ → Option ℕ
at_in numbers n = slice_index_or numbers n None

-- a page has no frame but the blank one
abbrev pub HasNoOwn : List (Option ℕ) → ℕ → Type 0
HasNoOwn at page = (frame : ℕ) → at_in at page ≡ Some frame → frame ≡ 0

-- each page has a frame of its own, or the blank one, or none, and the spare frames are those of no page
pub record AreOwned (at owner : List (Option ℕ)) (spare : List ℕ) : Type 0 where
  pub some : 0 < length owner
  pub few : length owner ≤ 2 ^ 32
  pub blank : at_in owner 0 ≡ None
  pub within : (page frame : ℕ) → at_in at page ≡ Some frame → frame < length owner
  pub owned : (page frame : ℕ) → at_in at page ≡ Some frame → frame ≢ 0 → at_in owner frame ≡ Some page
  pub pages : (frame page : ℕ) → at_in owner frame ≡ Some page → page < length at
  pub free : (n : ℕ) → n < length spare → at_in owner (slice_index spare n) ≡ None
  pub own : (n : ℕ) → n < length spare → slice_index spare n ≢ 0
  pub there : (n : ℕ) → n < length spare → slice_index spare n < length owner
  pub once : AreDistinct spare

-- a page has still what it had, or it has it no longer, since it is stored
abbrev pub HasStill : {A : Type 0} → List Bool → List (Option A) → List (Option A) → ℕ → Type 0
HasStill stored old new page = (slice_index_or new page None ≡ slice_index_or old page None) ⊎ ((slice_index_or new page None ≡ None) × (is_stored stored page ≡ true))

-- some pages that are stored have given up their frames
pub record GaveUp (stored : List Bool) (old new : OwnersState) : Type 0 where
  pub pages : (page : ℕ) → HasStill stored old.at new.at page
  pub long : length new.at ≡ length old.at
  pub count : new.count ≡ old.count
  pub spare : old.spare ≤ new.spare
  pub none : new.spare ≡ old.spare → new.at ≡ old.at

-- ---- what is in a frame

-- the bytes of the pages in memory, and how many frames are spare
pub record FramesState : Type 0 where
  pub kept : List (Option (List ℕ))
  pub spare : ℕ

-- the bytes of a page that is blank
unfoldable pub zeros : List ℕ
zeros = replicate UNIT_BYTES 0

-- a page filled with bytes at its begin, others from an offset on, and some right behind these; what is between and behind is zero
abbrev pub filled : List ℕ → ℕ → List ℕ → List ℕ → List ℕ
filled head from bytes tail = cut_to (cut_to head from ++ bytes ++ tail) UNIT_BYTES

-- the bytes that the pages have in their frames
abbrev pub kept_in : List ℕ → List (Option ℕ) → List (Option (List ℕ))
kept_in bytes at = map (option_map (page_of bytes)) at

-- there are bytes for so many frames, of which the first is blank
pub record AreFrames (count : ℕ) (bytes : List ℕ) : Type 0 where
  pub some : 0 < count
  pub room : count * UNIT_BYTES ≤ length bytes
  pub blank : page_of bytes 0 ≡ zeros
