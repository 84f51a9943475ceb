-- When a call is refused for what others hold, or for an open file's share mode.
use Rattle.std.specs.Prelude.{ℕ, ◌==◌, ◌&&◌, ◌||◌, not, Bool, false, List, [], ◌∷◌, ◌++◌, map, Option, Some, None, is_some, is_none}
use Rattle.std.specs.List.{list_any, flat_map}
use Rattle.ktm_base.specs.declared.id.Id.{Id}
use Rattle.ktm_base.specs.declared.refusal.Refusal.{Refusal}
use Rattle.ktm_base.specs.declared.refusal.Refusal.TheVariants.{SharingViolation, TransactionalConflict}
use Rattle.ktm_world.specs.Conflicts.{opener, writes, written_by}
use Rattle.ktm_world.specs.Files.{OpenFile}
use Rattle.ktm_world.specs.Holds.{Act, Holds, file_overwritten, file_touched, is_in, meets}
use Rattle.ktm_world.specs.Outcome.{first_refusal}
use Rattle.ktm_world.specs.Transactions.{is_of}
use Rattle.txf_reserve.specs.ReserveState.{NumberHeld, PlaceHeld, ReserveState, holds_in}

-- what a transaction holds by its changes, and by the files that it has open for writing
abbrev pub holds_with : ReserveState → List OpenFile → Id → Holds
holds_with state opens id = let h = holds_in state id in record h { nodes = h.nodes ++ written_by opens id }

-- the transactions that hold numbers
abbrev pub number_holders : List NumberHeld → List Id
number_holders held = map (λ h. h.transaction) held

-- the transactions that hold names
abbrev pub place_holders : List PlaceHeld → List Id
place_holders held = map (λ h. h.transaction) held

-- the transactions that hold anything, or have a file open
abbrev pub holders : ReserveState → List OpenFile → List Id
holders state opens =
    number_holders state.nodes ++ place_holders state.places ++ number_holders state.uses ++ number_holders state.dropped ++ state.moves ++ flat_map opener opens

-- does the call meet what another transaction holds
abbrev pub meets_another : ReserveState → List OpenFile → Option Id → Act → Bool
meets_another state opens who act = list_any (λ id. not (is_of id who) && meets (holds_with state opens id) act) (holders state opens)

-- does another transaction hold the number
abbrev pub is_number_held : Option Id → List NumberHeld → ℕ → Bool
is_number_held who held n = list_any (λ h. h.number == n && not (is_of h.transaction who)) held

-- does a transaction open or change one of these files, which a plain handle may write
abbrev pub touches_plain : List OpenFile → Option Id → List ℕ → Bool
touches_plain opens None files = false
touches_plain opens (Some id) files = list_any (λ o. is_none o.transaction && writes o.access && is_in files o.node) opens

-- does a plain call write, empty or delete one of these files, which a transaction has open
abbrev pub overwrites_transacted : List OpenFile → Option Id → List ℕ → Bool
overwrites_transacted opens None files = list_any (λ o. is_some o.transaction && is_in files o.node) opens
overwrites_transacted opens (Some id) files = false

-- is a call refused for another transaction, or for plain handles
abbrev pub is_conflict : ReserveState → List OpenFile → Option Id → Act → Bool → Bool
is_conflict state opens who act outdated = meets_another state opens who act || outdated || touches_plain opens who (file_touched act) || overwrites_transacted opens who (file_overwritten act)

-- the refusal of a call that conflicts, or else violates a share mode
abbrev pub refusal_of : Bool → Bool → Option Refusal
refusal_of conflict violation = first_refusal ((conflict, TransactionalConflict) ∷ (violation, SharingViolation) ∷ [])
