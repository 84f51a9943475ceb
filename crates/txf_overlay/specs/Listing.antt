-- The places that a transaction holds, in their order, and the entries that it sees between them. No public clause cites this
-- module.
use Rattle.std.specs.Prelude.{◌≡◌, ℕ, ◌+◌, not, Bool, true, List, [], ◌∷◌, ◌++◌, length, filter, drop, Option, Some, None, IfNone, IfSome, is_some, option_to_list, if◌then◌else◌}
use Rattle.std.specs.List.{list_all}
use Rattle.std.specs.Option.{option_map}
use Rattle.std.specs.declared.cmp.Ordering.{Ordering}
use Rattle.std.specs.declared.cmp.Ordering.TheVariants.{Greater}
use Rattle.std.specs.Ordering.{is_eq, is_lt}
use Rattle.ktm_links.specs.Mapped.{name_cmp, Begins, IsNotBelow}
use Rattle.ktm_world.specs.Tree.{Tree}
use Rattle.txf_tree.specs.Children.{Shown, entries_in, entry_seen}
use Rattle.txf_tree.specs.Places.{child_name, entries_from, number_bytes}
use Rattle.txf_overlay.specs.declared.listing.SeatRef.{SeatRef}
use Rattle.txf_overlay.specs.declared.listing.Step.{Step}
use Rattle.txf_overlay.specs.OverlayState.{is_of_names, OverlayState, Seat, seen}
use Rattle.txf_overlay.specs.Views.{seat_at}

-- the first held place of the directory that is not below this one, and which node stands there now
pub record IsNextSeat (held : List Seat) (directory : ℕ) (from place : List ℕ) (node : Option ℕ) : Type 0 where
  pub there : seat_at held place ≡ Some node
  pub inside : Begins (number_bytes directory) place
  pub high : IsNotBelow place from
  pub first : (q : List ℕ) → IsNotBelow q from → is_some (seat_at held q) ≡ true → IsNotBelow q place

-- no place of the directory is held that is not below this one
abbrev pub IsNoSeat : List Seat → ℕ → List ℕ → Type 0
IsNoSeat held directory from = (q : List ℕ) → Begins (number_bytes directory) q → IsNotBelow q from → seat_at held q ≡ None

-- how the place of the first entry stands to this one
abbrev pub first_order : ℕ → List Shown → List ℕ → Ordering
first_order directory [] place = Greater
first_order directory (s ∷ ss) place = name_cmp (child_name directory s.name) place

-- the entries without the first, if it stands at the place
abbrev pub passed : Ordering → List Shown → List Shown
passed order entries = if is_eq order then drop 1 entries else entries

-- it changed names alone, and from some place on these are the entries of the tree, the next held place, and the entries that are seen
pub record IsReached (tree : Tree) (o : OverlayState) (directory : ℕ) (children : List Shown) (seat : Option SeatRef) (left : List Shown) : Type 0 where
  pub only : list_all is_of_names o.names ≡ true
  pub reached : List ℕ
  pub children_are : children ≡ entries_from directory reached (entries_in tree directory)
  pub left_are : left ≡ entries_from directory reached (entries_in (seen tree o) directory)
  pub held : IfSome seat (λ seat. IsNextSeat o.held directory reached seat.place.now seat.node)
  pub free : IfNone seat (IsNoSeat o.held directory reached)

-- the first of the entries that were left is told, if there was one, and the others are left
pub record IsStepped (tree : Tree) (o : OverlayState) (directory : ℕ) (children : List Shown) (step : Step) (left : List Shown) : Type 0 where
  pub rest : List Shown
  pub first : left ≡ option_to_list (option_map entry_seen step.entry) ++ rest
  pub none : IfNone step.entry (left ≡ [])
  pub reached : IsReached tree o directory children step.seat rest

-- is the seat at a place that is not below this one
abbrev pub is_left : List ℕ → Seat → Bool
is_left from s = not (is_lt (name_cmp s.place from))

-- how many seats are not below the next one
abbrev pub seats_left : List Seat → Option SeatRef → ℕ
seats_left held None = 0
seats_left held (Some s) = length (filter (is_left s.place.now) held)

-- how many entries of the tree and how many held places are left
abbrev pub steps_left : List Seat → List Shown → Option SeatRef → ℕ
steps_left held children seat = length children + seats_left held seat
