-- The durable state, and what the events of a log make of it.
use Rattle.std.specs.Prelude.{ℕ, ◌+◌, ◌-◌, ◌^◌, ◌==◌, ◌&&◌, ◌||◌, not, Bool, true, false, List, [], ◌∷◌, ◌++◌, length, map, filter, find, fold, sum_by, count_by, nat_lt, nat_le, Option, Some, None, is_some, is_none, if◌then◌else◌}
use Rattle.std.specs.List.{list_any, list_all, flat_map}
use Rattle.ktm_base.specs.declared.limits.TheConstants.{MOST_LIVE, MOST_INFORMATION_BYTES}
use Rattle.ktm_base.specs.declared.id.Id.{Id}
use Rattle.ktm_world.specs.declared.change.Change.{Change}
use Rattle.ktm_world.specs.declared.change.Change.TheVariants.{Make, Put, Cut, Move, Drop}
use Rattle.ktm_world.specs.declared.recorded.Node.{Node}
use Rattle.ktm_world.specs.declared.recorded.RecordedPart.{RecordedPart}
use Rattle.ktm_world.specs.declared.recorded.Stage.{Stage}
use Rattle.ktm_world.specs.declared.recorded.Superior.{Superior}
use Rattle.ktm_world.specs.declared.event.DonePart.{DonePart}
use Rattle.ktm_world.specs.declared.event.Event.{Event}
use Rattle.ktm_world.specs.declared.event.Event.TheVariants.{Boot, MadeRm, Plain, Ready, Single, Held, Decide, Undo, Done}
use Rattle.ktm_world.specs.declared.event.Part.{Part}
use Rattle.ktm_world.specs.declared.event.Part.TheVariants.{Enlistment, Changes, Settings}
use Rattle.ktm_world.specs.Keys.{are_good_settings, Store, OwnSettings, stored_all}
use Rattle.ktm_keyed.specs.Keyed.{value_at}
use Rattle.ktm_world.specs.Transactions.{same_id}
use Rattle.ktm_world.specs.Changes.{changed, changed_all, changes_apply, node_of, changes_bytes, is_make, next_after, nodes_made, has_made, has_changes}
use Rattle.ktm_world.specs.Committed.{written_files}
use Rattle.ktm_world.specs.Holds.{Holds, holds_by, Act, place, opens, deletes, moves_file, makes, drops_directory, moves_directory, meets}
use Rattle.ktm_world.specs.Tree.{Tree, node_at, bytes_or_none, bytes_of, units_of}

-- a transaction that is not over
pub record Recorded : Type 0 where
  pub id : Id
  pub stage : Stage
  pub superior : Option Superior
  pub parts : List RecordedPart

-- the durable state: what the events of an image's log come to, and all that outlives a loss of power
pub record Durable : Type 0 where
  -- of the image's header; no event changes them
  pub units : ℕ
  pub image : ℕ
  -- how many events were ever recorded, and how many boots there were
  pub events : ℕ
  pub boots : ℕ
  -- the number of the next node
  pub next_node : ℕ
  -- the committed files and keys
  pub tree : Tree
  pub keys : Store
  -- the durable resource managers, and the transactions that are not over, by rising Id
  pub managers : List Id
  pub transactions : List Recorded

-- the state of an image that was just formatted
abbrev pub empty_state : ℕ → ℕ → Durable
empty_state units image = record { units = units; image = image; events = 0; boots = 0; next_node = 2; tree = []; keys = []; managers = []; transactions = [] }

-- ---- transactions that are not over

-- are parts of it ready, and is it neither held nor decided
abbrev pub is_ready : Stage → Bool
is_ready Stage.Ready = true
is_ready _ = false

-- does it wait for its superior
abbrev pub is_held : Stage → Bool
is_held Stage.Held = true
is_held _ = false

-- is it decided that it commits
abbrev pub is_decided : Stage → Bool
is_decided Stage.Decided = true
is_decided _ = false

-- the changes of a part, which only the files' has
abbrev pub changes_in : Part → List Change
changes_in (Changes changes) = changes
changes_in _ = []

-- the settings of a part, which only the keys' has
abbrev pub settings_in : Part → OwnSettings
settings_in (Settings settings) = settings
settings_in _ = []

-- the enlistment of a part, which only an enlistment's has
abbrev pub enlistments_in : Part → List Id
enlistments_in (Enlistment enlistment manager information) = enlistment ∷ []
enlistments_in _ = []

-- what a transaction changes by its parts; none is left once it is decided
abbrev pub changes_of : Recorded → List Change
changes_of t = flat_map (λ p. changes_in p.part) t.parts

-- what a transaction sets by its parts; none is left once it is decided
abbrev pub settings_of : Recorded → OwnSettings
settings_of t = flat_map (λ p. settings_in p.part) t.parts

-- the enlistment of a superior, if there is one
abbrev pub superior_ids : Option Superior → List Id
superior_ids None = []
superior_ids (Some s) = s.enlistment ∷ []

-- its enlistments, the superior's included
abbrev pub enlistments_of : Recorded → List Id
enlistments_of t = superior_ids t.superior ++ flat_map (λ p. enlistments_in p.part) t.parts

-- the transaction with this Id
abbrev pub recorded_at : List Recorded → Id → Option Recorded
recorded_at ts id = find (λ t. same_id t.id id) ts

-- does the first Id come before the second: by its boot, and then by its number
abbrev pub is_before : Id → Id → Bool
is_before a b = nat_lt a.boot b.boot || (a.boot == b.boot && nat_lt a.number b.number)

-- an Id at its place among rising ones
abbrev pub with_manager : List Id → Id → List Id
with_manager [] id = id ∷ []
with_manager (a ∷ ids) id = if is_before id a then id ∷ a ∷ ids else a ∷ with_manager ids id

-- a transaction at its place by rising Id, in place of the one with its Id
abbrev pub with_recorded : List Recorded → Recorded → List Recorded
with_recorded [] t = t ∷ []
with_recorded (a ∷ ts) t = if same_id a.id t.id then t ∷ ts else (if is_before t.id a.id then t ∷ a ∷ ts else a ∷ with_recorded ts t)

-- the transactions but the one with this Id
abbrev pub without_recorded : List Recorded → Id → List Recorded
without_recorded ts id = filter (λ t. not (same_id t.id id)) ts

-- the transaction, or a new one that is ready
abbrev pub recorded_or_new : List Recorded → Id → Recorded
recorded_or_new [] id = record { id = id; stage = Stage.Ready; superior = None; parts = [] }
recorded_or_new (t ∷ ts) id = if same_id t.id id then t else recorded_or_new ts id

-- ---- what an event makes of the state

-- the next node number, once changes have made their nodes
abbrev pub next_after_all : ℕ → List Change → ℕ
next_after_all next changes = fold next_after next changes

-- changes and settings are committed
abbrev pub with_committed : Durable → List Change → OwnSettings → Durable
with_committed s changes settings = record s { tree = changed_all s.tree changes; keys = stored_all s.keys settings; next_node = next_after_all s.next_node changes }

-- a list that was committed is not kept
abbrev pub emptied : Part → Part
emptied (Enlistment enlistment manager information) = Enlistment enlistment manager information
emptied (Changes changes) = Changes []
emptied (Settings settings) = Settings []

-- a recorded part, of which a list that was committed is not kept
abbrev pub emptied_part : RecordedPart → RecordedPart
emptied_part p = record p { part = emptied p.part }

-- a transaction stays while it has a part that is not done
abbrev pub while_not_done : List Recorded → Recorded → List Recorded
while_not_done ts t = if list_any (λ p. not p.is_done) t.parts then with_recorded ts t else without_recorded ts t.id

-- a transaction commits what it changes and sets, and stays as a decided one while a part of it is not done
abbrev pub decide_recorded : Durable → Option Recorded → Durable
decide_recorded s None = s
decide_recorded s (Some t) = record (with_committed s (changes_of t) (settings_of t)) {
  transactions = while_not_done s.transactions (record t { stage = Stage.Decided; parts = map emptied_part t.parts });
}

-- is the part that of this participant
abbrev pub is_part_of : DonePart → Part → Bool
is_part_of (DonePart.Enlistment id) (Enlistment enlistment manager information) = same_id id enlistment
is_part_of DonePart.Files (Changes changes) = true
is_part_of DonePart.Keys (Settings settings) = true
is_part_of _ _ = false

-- is the participant an enlistment
abbrev pub is_of_enlistment : DonePart → Bool
is_of_enlistment (DonePart.Enlistment id) = true
is_of_enlistment _ = false

-- an enlistment that is done is taken out, and another part is marked
abbrev pub parts_done : DonePart → List RecordedPart → List RecordedPart
parts_done done parts =
    if is_of_enlistment done then filter (λ p. not (is_part_of done p.part)) parts else map (λ (p : RecordedPart). record p { is_done = p.is_done || is_part_of done p.part }) parts

-- a participant of a transaction is done, and the transaction stays while a part of it is not done
abbrev pub finish_recorded : Durable → DonePart → Option Recorded → Durable
finish_recorded s done None = s
finish_recorded s done (Some t) = record s { transactions = while_not_done s.transactions (record t { parts = parts_done done t.parts }) }

-- a transaction has one part more that is ready
abbrev pub with_part : Durable → Id → Part → Durable
with_part s id part = record s {
  transactions = with_recorded s.transactions (let t = recorded_or_new s.transactions id in record t { parts = t.parts ++ record { is_done = false; part = part } ∷ [] });
  next_node = next_after_all s.next_node (changes_in part);
}

-- a transaction waits for this superior from now on
abbrev pub hold_recorded : Durable → Id → Superior → Durable
hold_recorded s id superior = record s { transactions = with_recorded s.transactions (let t = recorded_or_new s.transactions id in record t { stage = Stage.Held; superior = Some superior }) }

-- what an event makes of the state, beside counting it
abbrev pub fact_of : Durable → Event → Durable
fact_of s (Boot boot) = record s { boots = boot; transactions = filter (λ t. not (is_ready t.stage)) s.transactions }
fact_of s (MadeRm manager) = record s { managers = with_manager s.managers manager }
fact_of s (Plain change) = with_committed s (change ∷ []) []
fact_of s (Ready transaction part) = with_part s transaction part
fact_of s (Single transaction part) = with_committed s (changes_in part) (settings_in part)
fact_of s (Held transaction enlistment manager information) = hold_recorded s transaction (record { enlistment = enlistment; manager = manager; information = information })
fact_of s (Decide transaction) = decide_recorded s (recorded_at s.transactions transaction)
fact_of s (Undo transaction) = record s { transactions = without_recorded s.transactions transaction }
fact_of s (Done transaction done) = finish_recorded s done (recorded_at s.transactions transaction)

-- the state after an event, which is counted too
abbrev pub after_event : Durable → Event → Durable
after_event s event = record (fact_of s event) { events = s.events + 1 }

-- the state after events, one after another
abbrev pub after_events : Durable → List Event → Durable
after_events s events = fold after_event s events

-- the state after the groups of a log
abbrev pub stand : Durable → List (List Event) → Durable
stand base log = fold after_events base log

-- ---- when an event applies

-- what a change does to files and names, as a call that makes it
abbrev pub act_of_node : Tree → Option Node → Change → List Act
act_of_node tree None change = []
act_of_node tree (Some node) (Put number offset contents) = opens number true ∷ []
act_of_node tree (Some node) (Cut number size pages) = opens number true ∷ []
act_of_node tree (Some node) (Move number parent name) =
    (if is_some node.content then moves_file number (place node.parent node.name) (place parent name) else moves_directory number (place node.parent node.name) (place parent name)) ∷ []
act_of_node tree (Some node) (Drop number) =
    (if is_some node.content then deletes number (place node.parent node.name) else drops_directory number (place node.parent node.name)) ∷ []
act_of_node tree (Some node) (Make number parent kind name) = []

-- what a change of the tree does, as calls: nothing, where its node is not there
abbrev pub acts_of : Tree → Change → List Act
acts_of tree (Make number parent kind name) = makes (place parent name) ∷ []
acts_of tree change = act_of_node tree (node_at tree (node_of change)) change

-- what changes do, each on the tree that it finds
abbrev pub acts_of_all : Tree → List Change → List Act
acts_of_all tree [] = []
acts_of_all tree (change ∷ changes) = acts_of tree change ++ acts_of_all (changed tree change) changes

-- what a waiting transaction holds of the files
abbrev pub holds_in : Durable → Recorded → Holds
holds_in s t = holds_by s.tree (changes_of t) []

-- the waiting transactions but this one
abbrev pub others_waiting : Durable → Option Id → List Recorded
others_waiting s None = filter (λ t. not (is_decided t.stage)) s.transactions
others_waiting s (Some id) = filter (λ t. not (is_decided t.stage) && not (same_id t.id id)) s.transactions

-- does the change make no node that the tree has
abbrev pub is_new_in : Tree → Change → Bool
is_new_in tree change = not (is_make change) || is_none (node_at tree (node_of change))

-- changes that apply, meet no hold of another transaction, and make no node that is in the tree or is made in another one's waiting work
abbrev pub recorded_changes_apply : Durable → Option Id → List Change → Bool
recorded_changes_apply s who changes =
    list_all (λ t. not (list_any (meets (holds_in s t)) (acts_of_all s.tree changes)) && not (list_any (λ change. is_make change && has_made (changes_of t) (node_of change)) changes)) (others_waiting s who)
    && changes_apply s.tree changes && list_all (is_new_in s.tree) changes

-- settings that meet no hold of another transaction
abbrev pub settings_apply : Durable → Option Id → OwnSettings → Bool
settings_apply s who settings =
    list_all (λ t. not (list_any (λ setting. is_some (value_at (settings_of t) setting.key)) settings)) (others_waiting s who)

-- is the file the one that was just cut
abbrev pub was_cut : Option ℕ → ℕ → Bool
was_cut None node = false
was_cut (Some cut) node = cut == node

-- by rising number, for each file one cut to nothing, and at most one put at 0 behind it
abbrev pub are_final_bytes : ℕ → Option ℕ → List Change → Bool
are_final_bytes least cut [] = true
are_final_bytes least cut (Cut node size pages ∷ changes) = nat_le least node && size == 0 && are_final_bytes (node + 1) (Some node) changes
are_final_bytes least cut (Put node offset contents ∷ changes) = was_cut cut node && offset == 0 && are_final_bytes least None changes
are_final_bytes least cut (_ ∷ changes) = false

-- what was made, moved and dropped comes first, and then the bytes
abbrev pub ends_in_bytes : List Change → Bool
ends_in_bytes [] = true
ends_in_bytes (change ∷ changes) = if changes_bytes change then are_final_bytes 0 None (change ∷ changes) else ends_in_bytes changes

-- do the changes put or cut bytes of the file
abbrev pub gives_bytes : List Change → ℕ → Bool
gives_bytes changes file = list_any (λ change. changes_bytes change && node_of change == file) changes

-- the files that were made and left
abbrev pub made_files : List Change → List ℕ
made_files changes = written_files (filter (λ change. not (changes_bytes change)) changes)

-- changes as a transaction records them: some at least, its bytes last, and the bytes of each file that it made and left
abbrev pub are_recorded_changes : List Change → Bool
are_recorded_changes changes = has_changes changes && ends_in_bytes changes && list_all (gives_bytes changes) (made_files changes)

-- is there a durable resource manager with this Id
abbrev pub is_manager : Durable → Id → Bool
is_manager s id = list_any (λ other. same_id other id) s.managers

-- an enlistment of the present boot that no transaction of the state has, of a resource manager that is there
abbrev pub is_new_enlistment : Durable → Id → Id → List ℕ → Bool
is_new_enlistment s enlistment manager information =
    enlistment.boot == s.boots && not (list_any (λ t. list_any (λ other. same_id other enlistment) (enlistments_of t)) s.transactions)
    && is_manager s manager && nat_le (length information) MOST_INFORMATION_BYTES

-- has the transaction the files' part
abbrev pub has_changes_part : Recorded → Bool
has_changes_part t = list_any (λ p. is_part_of DonePart.Files p.part) t.parts

-- has the transaction the keys' part
abbrev pub has_settings_part : Recorded → Bool
has_settings_part t = list_any (λ p. is_part_of DonePart.Keys p.part) t.parts

-- does a part apply: an enlistment is new; changes and settings are the transaction's first ones, have the form in which they are
-- recorded, apply, and meet no hold of another transaction
abbrev pub part_applies : Durable → Id → Part → Bool
part_applies s id (Enlistment enlistment manager information) = is_new_enlistment s enlistment manager information
part_applies s id (Changes changes) = not (has_changes_part (recorded_or_new s.transactions id)) && are_recorded_changes changes && recorded_changes_apply s (Some id) changes
part_applies s id (Settings settings) = not (has_settings_part (recorded_or_new s.transactions id)) && are_good_settings settings && settings_apply s (Some id) settings

-- the part of a transaction that has this one alone: no enlistment's
abbrev pub is_sole : Part → Bool
is_sole (Enlistment enlistment manager information) = false
is_sole _ = true

-- is there a transaction with this Id that passes the test
abbrev pub stage_passes : Durable → Id → (Recorded → Bool) → Bool
stage_passes s id test = list_any (λ t. same_id t.id id && test t) s.transactions

-- has the transaction a part
abbrev pub has_part : Recorded → Bool
has_part t = list_any (λ p. true) t.parts

-- is the transaction of the present boot, and new or ready
abbrev pub may_get_ready : Durable → Id → Bool
may_get_ready s id = id.boot == s.boots && is_ready (recorded_or_new s.transactions id).stage

-- is the transaction decided, and the part of this participant not done
abbrev pub has_undone : DonePart → Recorded → Bool
has_undone done t = is_decided t.stage && list_any (λ p. is_part_of done p.part && not p.is_done) t.parts

-- does an event apply, but for the limits
abbrev pub fact_applies : Durable → Event → Bool
fact_applies s (Boot boot) = boot == s.boots + 1 && nat_lt boot (2 ^ 32 - 1)
fact_applies s (MadeRm manager) = manager.boot == s.boots && not (is_manager s manager)
fact_applies s (Plain change) = recorded_changes_apply s None (change ∷ [])
fact_applies s (Ready transaction part) = may_get_ready s transaction && part_applies s transaction part
fact_applies s (Single transaction part) =
    transaction.boot == s.boots && is_none (recorded_at s.transactions transaction) && is_sole part && part_applies s transaction part
fact_applies s (Held transaction enlistment manager information) = may_get_ready s transaction && is_new_enlistment s enlistment manager information
fact_applies s (Decide transaction) = stage_passes s transaction (λ t. is_held t.stage || (is_ready t.stage && has_part t))
fact_applies s (Undo transaction) = stage_passes s transaction (λ t. not (is_decided t.stage))
fact_applies s (Done transaction done) = stage_passes s transaction (has_undone done)

-- ---- the limits

-- the transactions that are not decided
abbrev pub waiting : Durable → List Recorded
waiting s = filter (λ t. not (is_decided t.stage)) s.transactions

-- the units that the files with a transaction's bytes would have once it committed
abbrev pub units_waiting : Durable → Recorded → ℕ
units_waiting s t = sum_by (λ file. units_of (bytes_of (changed_all s.tree (changes_of t)) file)) (written_files (changes_of t))

-- the units in use: of the committed files, and of those that waiting transactions write
abbrev pub units_in_use : Durable → ℕ
units_in_use s = sum_by (λ node. units_of (bytes_or_none node.content)) s.tree + sum_by (units_waiting s) (waiting s)

-- the nodes in use: the root, the committed ones, and those that waiting transactions make
abbrev pub nodes_in_use : Durable → ℕ
nodes_in_use s = 1 + length s.tree + sum_by (λ t. nodes_made (changes_of t)) (waiting s)

-- the keys in use: the committed ones, and those that waiting transactions set
abbrev pub keys_in_use : Durable → ℕ
keys_in_use s = length s.keys + sum_by (λ t. count_by (λ setting. is_some setting.value) (settings_of t)) (waiting s)

-- the changes that wait: what waiting transactions make, move and drop, and the keys that they unset
abbrev pub changes_in_wait : Durable → ℕ
changes_in_wait s = sum_by (λ t. count_by (λ change. not (changes_bytes change)) (changes_of t) + count_by (λ setting. is_none setting.value) (settings_of t)) (waiting s)

-- the enlistments of the transactions that are not over
abbrev pub enlistments_in_use : Durable → ℕ
enlistments_in_use s = sum_by (λ t. length (enlistments_of t)) s.transactions

-- the units, nodes, keys and changes that wait are within the units of the image; and there are no more than 64 transactions,
-- enlistments and resource managers
unfoldable pub is_within_limits : Durable → Bool
is_within_limits s =
    nat_le (units_in_use s) s.units && nat_le (nodes_in_use s) s.units && nat_le (keys_in_use s) s.units && nat_le (changes_in_wait s) s.units
    && nat_le (length s.transactions) MOST_LIVE && nat_le (enlistments_in_use s) MOST_LIVE && nat_le (length s.managers) MOST_LIVE

-- is the state worn: the count of its boots, or that of its events, is so near its end that no machine starts from it
abbrev pub is_worn : Durable → Bool
is_worn s = nat_le (2 ^ 32 - 2) s.boots || nat_le (2 ^ 62) s.events

-- does an event apply: the limits hold then, and there are fewer than 2^63 events
abbrev pub event_applies : Durable → Event → Bool
event_applies s event = fact_applies s event && is_within_limits (fact_of s event) && nat_lt (s.events + 1) (2 ^ 63)

-- do the events apply, one after another
abbrev pub events_apply : Durable → List Event → Bool
events_apply s [] = true
events_apply s (event ∷ events) = event_applies s event && events_apply (after_event s event) events

-- do the groups of a log apply, one after another
abbrev pub log_applies : Durable → List (List Event) → Bool
log_applies base [] = true
log_applies base (group ∷ groups) = events_apply base group && log_applies (after_events base group) groups
