-- How the entries of a slab, each with its neighbours, stand for a list in order. No public clause cites this module.
use Rattle.std.specs.Prelude.{◌≡◌, ◌⊎◌, ℕ, zero, suc, ◌<◌, List, [], ◌∷◌, length, Option, Some, None}
use Rattle.slab.specs.Slab.{Slab, get, slab_len}
use Rattle.ktm_links.specs.declared.entry.Entry.{Entry}
use Rattle.ktm_links.specs.Items.{Item}

module _ {T : Type 0} where
  -- the place of the first value, or this where there is none
  abbrev pub first_place : List (Item T) → Option ℕ → Option ℕ
  first_place [] other = other
  first_place (x ∷ xs) other = Some x.key.place

  -- the place of the last value, or this where there is none
  abbrev pub last_place : List (Item T) → Option ℕ → Option ℕ
  last_place [] other = other
  last_place (x ∷ xs) other = last_place xs (Some x.key.place)

  -- the entry of a value between these places
  abbrev pub entry_of : Item T → Option ℕ → Option ℕ → Entry T
  entry_of x before after =
      record { generation = x.key.generation; value = x.value; before = before; after = after }

  -- the value of this entry, and then the rest
  abbrev pub from_entry : Option (Entry T) → ℕ → (Option ℕ → List (Item T)) → List (Item T)
  from_entry None place rest = []
  from_entry (Some e) place rest =
      record { key = record { place = place; generation = e.generation }; value = e.value } ∷ rest e.after

  -- the values from this place on, at most so many
  abbrev pub walk : Slab (Entry T) → ℕ → Option ℕ → List (Item T)
  walk s zero at = []
  walk s (suc n) None = []
  walk s (suc n) (Some place) = from_entry (get s place) place (λ after. walk s n after)

  -- these values stand one after another, between these two places
  abbrev pub Segment : Slab (Entry T) → Option ℕ → List (Item T) → Option ℕ → Type 0
  Segment s before [] after = Unit {0}
  Segment s before (x ∷ xs) after =
      (get s x.key.place ≡ Some (entry_of x before (first_place xs after)))
      × Segment s (Some x.key.place) xs after

  -- a value stands at the place
  abbrev pub HasPlace : ℕ → List (Item T) → Type 0
  HasPlace place [] = ⊥
  HasPlace place (x ∷ xs) = (x.key.place ≡ place) ⊎ HasPlace place xs

  -- no two values stand at one place
  abbrev pub HasDistinctPlaces : List (Item T) → Type 0
  HasDistinctPlaces [] = Unit {0}
  HasDistinctPlaces (x ∷ xs) = (HasPlace x.key.place xs → ⊥) × HasDistinctPlaces xs

  -- each key was given out before this generation
  abbrev pub IsBelow : ℕ → List (Item T) → Type 0
  IsBelow next [] = Unit {0}
  IsBelow next (x ∷ xs) = (x.key.generation < next) × IsBelow next xs

  -- the slab and the two ends stand for this list
  pub record IsLinked (s : Slab (Entry T)) (head tail : Option ℕ) (next : ℕ) (xs : List (Item T)) : Type 0 where
    pub segment : Segment s None xs None
    pub distinct : HasDistinctPlaces xs
    pub no_more : (place : ℕ) → (HasPlace place xs → ⊥) → get s place ≡ None
    pub head_is : head ≡ first_place xs None
    pub tail_is : tail ≡ last_place xs None
    pub count : length xs ≡ slab_len s
    pub below : IsBelow next xs
