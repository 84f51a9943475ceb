-- What of a call another transaction can meet, part by part. No public clause cites this module.
use Rattle.std.specs.Prelude.{◌≡◌, ℕ, ◌&&◌, ◌||◌, not, Bool, List, ◌++◌, Option}
use Rattle.std.specs.List.{list_any}
use Rattle.ktm_base.specs.declared.id.Id.{Id}
use Rattle.ktm_world.specs.Files.{OpenFile}
use Rattle.ktm_world.specs.Holds.{Act, Place, directories_of, directory_dropped, file_overwritten, file_touched, is_move_of_directory, nodes_changed, places_changed, same_place}
use Rattle.ktm_world.specs.Transactions.{is_of}
use Rattle.txf_opens.specs.OpensState.{is_other_writer}
use Rattle.txf_reserve.specs.declared.act.Parts.{Parts}
use Rattle.txf_reserve.specs.Acts.{listed, listed_place}
use Rattle.txf_reserve.specs.Checks.{is_number_held}
use Rattle.txf_reserve.specs.ReserveState.{PlaceHeld, ReserveState}

-- the parts of what a call does
pub record ArePartsOf (act : Act) (parts : Parts) : Type 0 where
  pub nodes : nodes_changed act ≡ listed parts.node
  pub places : places_changed act ≡ listed_place parts.from ++ listed_place parts.to
  pub dropped_is : directory_dropped act ≡ listed parts.dropped
  pub moves_is : is_move_of_directory act ≡ parts.moves
  pub touched_is : file_touched act ≡ listed parts.touched
  pub overwritten_is : file_overwritten act ≡ listed parts.overwritten

-- does another transaction hold the name
abbrev pub is_place_held : Option Id → List PlaceHeld → Place → Bool
is_place_held who held p = list_any (λ h. same_place p h.place && not (is_of h.transaction who)) held

-- is another transaction among these
abbrev pub is_other_among : Option Id → List Id → Bool
is_other_among who ids = list_any (λ i. not (is_of i who)) ids

-- does another transaction hold the file or directory by a change, or the file by having it open for writing
abbrev pub is_node_met : ReserveState → List OpenFile → Option Id → ℕ → Bool
is_node_met state opens who n = is_number_held who state.nodes n || list_any (is_other_writer who n) opens

-- does another transaction hold the name, or has it dropped the directory in which it is
abbrev pub is_place_met : ReserveState → Option Id → Place → Bool
is_place_met state who p = is_place_held who state.places p || is_number_held who state.dropped p.directory

-- does the call meet what another transaction holds
abbrev pub meets_parts : ReserveState → List OpenFile → Option Id → Parts → Bool
meets_parts state opens who parts =
    list_any (is_node_met state opens who) (listed parts.node)
    || list_any (is_place_met state who) (listed_place parts.from)
    || list_any (is_place_met state who) (listed_place parts.to)
    || list_any (is_number_held who state.uses) (listed parts.dropped)
    || (parts.moves && is_other_among who state.moves)

-- does a call that does this meet what another transaction holds
abbrev pub meets_by : ReserveState → List OpenFile → Option Id → Act → Bool
meets_by state opens who act =
    list_any (is_node_met state opens who) (nodes_changed act)
    || list_any (is_place_held who state.places) (places_changed act)
    || list_any (is_number_held who state.dropped) (directories_of (places_changed act))
    || list_any (is_number_held who state.uses) (directory_dropped act)
    || (is_move_of_directory act && is_other_among who state.moves)
