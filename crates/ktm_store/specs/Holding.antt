-- Contents of which the pages come to be held.
use Rattle.std.specs.Prelude.{◌≡◌, ◌⊎◌, ℕ, ◌+◌, ◌≤◌, true, List, length, All, Contains}
use Rattle.ktm_store.specs.Marks.{free_ahead, is_held}
use Rattle.ktm_store.specs.Store.{AreBelow, AreHeld, StoreOf, page_at}

-- one of these contents has a place on the page
pub record HavePage (contents : List (List ℕ)) (page : ℕ) : Type 0 where
  pub places : List ℕ
  pub place : ℕ
  pub among : Contains contents places
  pub has : Contains places place
  pub on : page_at place ≡ page

-- all places of these contents are on pages that there are
abbrev pub AreAllBelow : {B : Type 0} → StoreOf B → List (List ℕ) → Type 0
AreAllBelow store contents = All (AreBelow (length store.marks.held)) contents

-- the pages of these contents are held, which are so many at most, and no others but those that were; nothing else changed
pub record HoldsContents (contents : List (List ℕ)) (pages : ℕ) {B : Type 0} (old new : StoreOf B) : Type 0 where
  pub seen : new.seen ≡ old.seen
  pub stored : new.stored ≡ old.stored
  pub wanted : new.wanted ≡ old.wanted
  pub count : length new.marks.held ≡ length old.marks.held
  pub next : new.marks.next ≡ old.marks.next
  pub held : All (AreHeld new.marks.held) contents
  pub kept : (page : ℕ) → is_held old.marks.held page ≡ true → is_held new.marks.held page ≡ true
  pub only : (page : ℕ) → is_held new.marks.held page ≡ true → (is_held old.marks.held page ≡ true) ⊎ HavePage contents page
  pub free : free_ahead old.marks ≤ free_ahead new.marks + pages
