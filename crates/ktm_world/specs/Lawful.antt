-- What every world of a run is.
use Rattle.std.specs.Prelude.{◌≡◌, ℕ, ◌≤◌, ◌==◌, ◌&&◌, ◌||◌, not, Bool, true, false, List, [], ◌∷◌, length, map, filter, drop, Option, Some, None, is_some, is_none, All, if◌then◌else◌}
use Rattle.std.specs.List.{list_any, list_all, flat_map}
use Rattle.ktm_base.specs.declared.id.Id.{Id}
use Rattle.ktm_world.specs.declared.change.Change.{Change}
use Rattle.ktm_world.specs.declared.recorded.Stage.{Stage}
use Rattle.ktm_world.specs.declared.recorded.Superior.{Superior}
use Rattle.ktm_world.specs.declared.object.Phase.{Phase}
use Rattle.ktm_world.specs.declared.object.Transaction.{Transaction}
use Rattle.ktm_world.specs.declared.options.EnlistmentKind.{EnlistmentKind}
use Rattle.ktm_keyed.specs.Keyed.{value_at}
use Rattle.ktm_world.specs.Keys.{OwnSettings, own_settings}
use Rattle.ktm_world.specs.Logs.{is_up}
use Rattle.ktm_world.specs.Changes.{changes_apply, node_of, changes_bytes, is_drop}
use Rattle.ktm_world.specs.Committed.{Committed, Work, with_work}
use Rattle.ktm_world.specs.Conflicts.{holds_now, writes}
use Rattle.ktm_world.specs.Durable.{Recorded, changes_of, settings_of, log_applies, stand, is_ready}
use Rattle.ktm_world.specs.Enlistments.{Enlistment, is_durable_at, superior_of, takes_part}
use Rattle.ktm_world.specs.Files.{OpenFile, own_changes}
use Rattle.ktm_world.specs.Holds.{Holds, is_in, meet_in, is_place_in}
use Rattle.ktm_world.specs.Present.{Present}
use Rattle.ktm_world.specs.Transactions.{is_of, is_undecided}
use Rattle.ktm_world.specs.Tree.{IsWellFormed}
use Rattle.ktm_world.specs.Uses.{is_over_quota, is_over_disk}
use Rattle.ktm_world.specs.World.{World, OpenedAfter, committed, present, enlistment_back, by_rising_id}

-- ---- the works apply

-- do works apply, one after another
abbrev pub works_apply : Committed → List Work → Bool
works_apply c [] = true
works_apply c (work ∷ works) = changes_apply c.tree work.changes && works_apply (with_work c work) works

-- ---- nobody holds what another holds

-- is there a key that both set or unset
abbrev pub set_both : OwnSettings → OwnSettings → Bool
set_both a b = list_any (λ setting. is_some (value_at b setting.key)) a

-- two transactions hold no file, directory or name both, neither uses a directory that the other dropped, and not both may move directories
abbrev pub are_apart : Holds → Holds → Bool
are_apart a b = not (meet_in a.nodes b.nodes) && not (list_any (is_place_in b.places) a.places) && not (meet_in a.dropped b.uses) && not (a.moves && b.moves)

-- two transactions hold nothing of the files both, and set no key both
abbrev pub hold_apart : Present → Transaction → Transaction → Bool
hold_apart x t u = are_apart (holds_now x.files t.id) (holds_now x.files u.id) && not (set_both (own_settings x.keys.own t.id) (own_settings x.keys.own u.id))

-- the undecided transactions but this one
abbrev pub others_undecided : List Transaction → Option Id → List Transaction
others_undecided ts who = filter (λ t. is_undecided t && not (is_of t.id who)) ts

-- the undecided transactions
abbrev pub undecided : Present → List Transaction
undecided x = others_undecided x.transactions.items None

-- do no two undecided transactions hold the same
abbrev pub all_apart : Present → Bool
all_apart x = list_all (λ t. list_all (hold_apart x t) (others_undecided x.transactions.items (Some t.id))) (undecided x)

-- ---- a version that a transaction writes over stays the last one

-- does a work put or cut bytes of the file, or drop it
abbrev pub ends_version : Work → ℕ → Bool
ends_version work file = list_any (λ change. node_of change == file && (changes_bytes change || is_drop change)) work.changes

-- a transaction that changed a file, or may write it, has its first open of the file in the last version
abbrev pub is_fixed_last : World → OpenedAfter → Bool
is_fixed_last w o =
    not (is_in (holds_now (present w).files o.transaction).nodes o.file) || not (list_any (λ work. ends_version work o.file) (drop o.works w.works))

-- ---- plain writers are alone

-- does the transaction hold the file, or have it open
abbrev pub is_touched_by : Present → ℕ → Transaction → Bool
is_touched_by x file t =
    is_in (holds_now x.files t.id).nodes file || list_any (λ o. is_of t.id o.transaction && o.node == file) x.files.table.opens

-- a plain handle that may write has no undecided transaction on its file
abbrev pub is_alone : Present → OpenFile → Bool
is_alone x o = not (is_none o.transaction && writes o.access) || not (list_any (is_touched_by x o.node) (undecided x))

-- ---- what is recorded

-- what the log has of a transaction that is not over
pub record Summary : Type 0 where
  pub id : Id
  pub stage : Stage
  pub superior : Option Superior
  pub enlistments : List Enlistment
  pub changes : List Change
  pub settings : OwnSettings

-- its enlistments by rising Id, as they would be brought back
abbrev pub summary_of : Recorded → Summary
summary_of t = record {
  id = t.id;
  stage = t.stage;
  superior = t.superior;
  enlistments = by_rising_id (flat_map (enlistment_back t.id) t.parts);
  changes = changes_of t;
  settings = settings_of t;
}

-- how far a recorded transaction is in the log, if it stands there
abbrev pub stage_in : Phase → Option Stage
stage_in Phase.Held = Some Stage.Held
stage_in Phase.InDoubt = Some Stage.Held
stage_in Phase.Committing = Some Stage.Decided
stage_in Phase.Aborting = None
stage_in Phase.Ended = None
stage_in _ = Some Stage.Ready

-- an enlistment as a restart would bring it back
abbrev pub brought_back : Enlistment → Enlistment
brought_back e = record {
  id = e.id;
  manager = e.manager;
  transaction = e.transaction;
  kind = EnlistmentKind.Plain;
  owes = None;
  is_read_only = false;
  is_prepared = true;
  is_finished = false;
  is_recovered = false;
  information = e.information;
}

-- the enlistments of a transaction whose readiness is recorded, and that have not finished
abbrev pub recorded_enlistments : Present → Id → List Enlistment
recorded_enlistments x id =
    by_rising_id (map brought_back (filter (λ e. takes_part id e && is_durable_at x.managers e.manager && e.is_prepared && not e.is_finished) x.transactions.enlistments))

-- a superior as it is recorded
abbrev pub superior_now : Option Enlistment → Option Superior
superior_now None = None
superior_now (Some e) = Some (record { enlistment = e.id; manager = e.manager; information = e.information })

-- is the stage Held
abbrev pub is_held_stage : Stage → Bool
is_held_stage Stage.Held = true
is_held_stage _ = false

-- what the log has to have of a transaction at this stage: its recorded enlistments, its superior once it was held, and what it changes
-- and sets while it is
abbrev pub summary_now : Present → Transaction → Stage → Summary
summary_now x t stage = record {
  id = t.id;
  stage = stage;
  superior = if is_ready stage then None else superior_now (superior_of x.transactions.enlistments t.id);
  enlistments = recorded_enlistments x t.id;
  changes = if is_held_stage stage then own_changes x.files.table.own t.id else [];
  settings = if is_held_stage stage then own_settings x.keys.own t.id else [];
}

-- a decided transaction stands in the log only while an enlistment of it has not finished
abbrev pub stays : Summary → Bool
stays s = elim s.stage as (λ _. Bool) [ Stage.Decided ↦ not (length s.enlistments == 0) | _ ↦ true ]

-- what the log has to have of a transaction at its stage, if it stands in the log at all
abbrev pub summary_in : Present → Transaction → Option Stage → List Summary
summary_in x t None = []
summary_in x t (Some stage) = filter stays (summary_now x t stage ∷ [])

-- what the log has to have of the transactions now
abbrev pub summaries_now : Present → List Summary
summaries_now x = flat_map (λ t. if t.is_recorded then summary_in x t (stage_in t.phase) else []) x.transactions.items

-- the durable resource managers
abbrev pub durable_managers : Present → List Id
durable_managers x = map (λ m. m.id) (filter (λ m. m.is_durable) x.managers)

-- what was recorded, beside the rest of what is so now
pub record Agrees (x : Present) : Type 0 where
  -- the committed files and keys, and the durable resource managers
  pub tree : x.recorded.tree ≡ x.files.tree
  pub keys : x.recorded.keys ≡ x.keys.store
  pub managers : x.recorded.managers ≡ durable_managers x
  -- of each transaction that is not over what the log has to have of it
  pub transactions : map summary_of x.recorded.transactions ≡ summaries_now x
  -- node numbers were drawn at least as far as they were recorded
  pub next_node : x.recorded.next_node ≤ x.files.table.next_node

-- the log applies, comes to what was recorded, and this agrees with what is so now
pub record StandsForLog (w : World) : Type 0 where
  pub applies : log_applies w.base w.log ≡ true
  pub comes_to : stand w.base w.log ≡ w.recorded
  pub agrees : Agrees (present w)

-- ---- all of it

-- the world is lawful: what was committed and changed applies, no two transactions hold the same, the limits hold, and the log stands
-- for what is so now
pub record IsLawful (w : World) : Type 0 where
  -- what was committed at the restart is well formed, and the works apply in order
  pub works : IsWellFormed w.start.tree × (works_apply w.start w.works ≡ true)
  -- the changes of each undecided transaction apply in order to what is committed
  pub own : All (λ o. changes_apply (committed w).tree o.changes ≡ true) w.table.own
  -- no two undecided transactions hold the same
  pub apart : all_apart (present w) ≡ true
  -- a file that a transaction changed or may write has not changed since its first open there
  pub fixed : All (λ o. is_fixed_last w o ≡ true) w.first_opens
  -- no file has both a plain handle that may write and an undecided transaction on it
  pub writers : All (λ o. is_alone (present w) o ≡ true) w.table.opens
  -- the limits hold
  pub limits : (is_over_quota (present w) ≡ false) × (is_over_disk (present w) ≡ false)
  -- while the machine is up, its log applies and comes to what was recorded, which agrees with what is so now
  pub stands : is_up w.power ≡ true → StandsForLog w
