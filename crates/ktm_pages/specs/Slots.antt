-- The slots of a cache, each with the page that it has, if it has one; the slot that was used last is first.
use Rattle.std.specs.Prelude.{◌≡◌, ◌≢◌, ℕ, zero, suc, ◌-◌, ◌<◌, ◌==◌, Bool, false, List, [], ◌∷◌, length, slice_index_or, Option, None, Some, unwrap_or, if◌then◌else◌}
use Rattle.ktm_pages.specs.Cache.{most_kept}

-- the slots, and what each has
abbrev pub Slots : Type 0
Slots = List (ℕ × Option ℕ)

-- is it this page
abbrev pub is_page : ℕ → Option ℕ → Bool
is_page page None = false
is_page page (Some other) = other == page

-- the slot that has a page
abbrev pub slot_of : ℕ → Slots → Option ℕ
slot_of page [] = None
slot_of page (s ∷ slots) = if is_page page s.1 then Some s.0 else slot_of page slots

-- the slot that was used longest ago
abbrev pub last_slot : Slots → ℕ
last_slot slots = (slice_index_or slots (length slots - 1) (0, None)).0

-- the slot for a page: the one that has it, or else the one that was used longest ago
abbrev pub slot_for : ℕ → Slots → ℕ
slot_for page slots = unwrap_or (slot_of page slots) (last_slot slots)

-- a page in front, if there is one
abbrev pub with_page : Option ℕ → List ℕ → List (ℕ × List ℕ) → List (ℕ × List ℕ)
with_page None bytes rest = rest
with_page (Some page) bytes rest = (page, bytes) ∷ rest

-- the pages that the slots have, with the bytes of each slot
abbrev pub kept_in : List (List ℕ) → Slots → List (ℕ × List ℕ)
kept_in bytes [] = []
kept_in bytes (s ∷ slots) = with_page s.1 (slice_index_or bytes s.0 []) (kept_in bytes slots)

-- so many slots without a page
abbrev pub free_slots : ℕ → Slots
free_slots zero = []
free_slots (suc n) = (n, None) ∷ free_slots n

-- none has this number
abbrev pub IsAway : {X : Type 0} → ℕ → List (ℕ × X) → Type 0
IsAway number [] = Unit {0}
IsAway number (x ∷ xs) = (x.0 ≢ number) × IsAway number xs

-- no two have the same number
abbrev pub AreApart : {X : Type 0} → List (ℕ × X) → Type 0
AreApart [] = Unit {0}
AreApart (x ∷ xs) = IsAway x.0 xs × AreApart xs

-- each number is below this one
abbrev pub AreBelow : {X : Type 0} → ℕ → List (ℕ × X) → Type 0
AreBelow end [] = Unit {0}
AreBelow end (x ∷ xs) = (x.0 < end) × AreBelow end xs

-- none has a page
abbrev pub AreFree : Slots → Type 0
AreFree [] = Unit {0}
AreFree (s ∷ slots) = (s.1 ≡ None) × AreFree slots

-- where the first has no page, none has; else so it is with the others
abbrev pub packed_from : Option ℕ → Type 0 → Type 0 → Type 0
packed_from None free packed = free
packed_from (Some page) free packed = packed

-- those without a page are last
abbrev pub ArePacked : Slots → Type 0
ArePacked [] = Unit {0}
ArePacked (s ∷ slots) = packed_from s.1 (AreFree slots) (ArePacked slots)

-- each slot of the cache once, and no page twice
pub record AreSlots (bytes : List (List ℕ)) (slots : Slots) : Type 0 where
  pub apart : AreApart slots
  pub pages : AreApart (kept_in bytes slots)
  pub packed : ArePacked slots
  pub below : AreBelow most_kept slots
  pub all : length slots ≡ most_kept
  pub places : length bytes ≡ most_kept
