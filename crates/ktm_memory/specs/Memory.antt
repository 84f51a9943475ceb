-- What the machine holds in memory, what that is of what is so now, and how a settlement changes that.
use Rattle.std.specs.Prelude.{◌≡◌, ℕ, ◌+◌, ◌≤◌, ◌||◌, not, if◌then◌else◌, Bool, true, false, List, [], filter, length, map, Option, Some, None, is_some, IfSome, count_by}
use Rattle.ktm_base.specs.declared.limits.TheConstants.{MOST_UNITS, MOST_LIVE}
use Rattle.ktm_base.specs.declared.id.Label.{Label}
use Rattle.ktm_base.specs.declared.id.Pid.{Pid}
use Rattle.ktm_base.specs.declared.id.Id.{Id}
use Rattle.ktm_standing.specs.Courses.{LeadsOn}
use Rattle.ktm_course.specs.Moved.{is_commit}
use Rattle.ktm_world.specs.declared.step.Step.{Step}
use Rattle.std.specs.List.{list_any}
use Rattle.ktm_event.specs.Kept.{EventsState}
use Rattle.ktm_journal.specs.Image.{JournalState}
use Rattle.ktm_world.specs.Sizes.{area_len, frame_size, log_size}
use Rattle.txf_laws.specs.Elements.{each_pair}
use Rattle.ktm_object.specs.Table.{HandleTable}
use Rattle.txf_laws.specs.GoodState.{IsGoodState}
use Rattle.ktm_tm.specs.Courses.{caller_of}
use Rattle.ktm_tm.specs.TmState.{TmState}
use Rattle.ktm_trace.specs.Contents.{expanded}
use Rattle.ktm_trace.specs.Recordings.{steps_room}
use Rattle.ktm_trace.specs.declared.room.TheConstants.{MOST_NOTED}
use Rattle.ktm_trace.specs.Few.{AreFew}
use Rattle.ktm_trace.specs.Traces.{Traced, traces_of}
use Rattle.ktm_world.specs.declared.event.Event.{Event}
use Rattle.ktm_world.specs.declared.object.Handle.{Handle}
use Rattle.ktm_world.specs.declared.object.Transaction.{Transaction}
use Rattle.ktm_world.specs.Durable.{Durable, is_before}
use Rattle.ktm_world.specs.Enlistments.{Manager, manager_at}
use Rattle.ktm_world.specs.Outcome.{Outcome, apply}
use Rattle.ktm_world.specs.Phases.{Course as Going}
use Rattle.ktm_world.specs.Steps.{run}
use Rattle.txf_laws.specs.Reservations.{files_committed}
use Rattle.ktm_world.specs.FileOutcome.{FileOutcome, files_after}
use Rattle.ktm_world.specs.Files.{FilesNow, OpenFile}
use Rattle.ktm_world.specs.Handles.{object_at}
use Rattle.ktm_world.specs.Keys.{KeysNow, own_settings, stored_all, without_own}
use Rattle.ktm_world.specs.Logs.{as_groups}
use Rattle.ktm_world.specs.Present.{Present, Transactions}
use Rattle.ktm_world.specs.TransactionCalls.{course_of, no_enlistment_left, no_manager_left, no_transaction_left}
use Rattle.ktm_world.specs.Transactions.{is_live, is_undecided, transaction_at}
use Rattle.txf_laws.specs.FileEffects.{forgotten, IsPlain, LeavesOwn, CanBeCounted}
use Rattle.txf_tree.specs.UnitChanges.{CanBeMade}
use Rattle.txf_volume.specs.Commit.{MayCommit}
use Rattle.txf_volume.specs.Held.{FilesHeld, files_of}
use Rattle.txf_volume.specs.Plain.{IsReady}
use Rattle.ktm_memory.specs.declared.settlement.Settlement.{Settlement}
use Rattle.ktm_memory.specs.declared.settlement.Settlement.TheVariants.{Nothing, Begin, Change, Course, Handles, Pass, MakeManager, Recover, Take, Enlist, Inform}
use Rattle.ktm_memory.specs.declared.settlement.Labels.{Labels}
use Rattle.ktm_memory.specs.declared.settlement.Labels.TheVariants.{Bind, Duplicate, Unbind, UnbindAll}

-- what each layer shows
pub record MemoryState : Type 0 where
  pub is_up : Bool
  pub journal : JournalState
  pub handles : HandleTable
  pub tm : TmState
  -- of the transactions that the log has, what is to be seen nowhere else
  pub trace : List Traced
  pub files : FilesHeld
  -- the number of the next node, by what was recorded
  pub next_node : ℕ
  pub keys : KeysNow

-- what memory holds, but for the room that each layer has
pub record LayersNow : Type 0 where
  pub is_up : Bool
  pub journal : JournalState
  pub handles : List Handle
  pub boot : ℕ
  pub transactions : Transactions
  pub managers : List Manager
  pub traces : List Traced
  pub files : FilesNow
  pub next_node : ℕ
  pub keys : KeysNow

-- what the layers hold
abbrev pub held : MemoryState → LayersNow
held m = record {
  is_up = m.is_up;
  journal = m.journal;
  handles = m.handles.handles;
  boot = m.tm.boot;
  transactions = m.tm.now;
  managers = m.tm.managers;
  traces = m.trace;
  files = files_of m.files;
  next_node = m.next_node;
  keys = m.keys;
}

-- the Ids of the durable resource managers
abbrev pub durable_ids : List Manager → List Id
durable_ids managers = map (λ m. m.id) (filter (λ m. m.is_durable) managers)

-- what was recorded, by what the layers hold: files, keys and resource managers are as they stand now, and so is what transactions that the
-- log has change and set
abbrev pub recorded_of : LayersNow → Durable
recorded_of h = record {
  units = h.journal.units;
  image = h.journal.image;
  events = h.journal.events;
  boots = h.boot;
  next_node = h.next_node;
  tree = h.files.tree;
  keys = h.keys.store;
  managers = durable_ids h.managers;
  transactions = map (expanded h.transactions.enlistments h.files.table.own h.keys.own) h.traces;
}

-- what is so now, by what the layers hold of it
abbrev pub now_of : LayersNow → Present
now_of h = record {
  machine = record { is_up = h.is_up };
  recorded = recorded_of h;
  transactions = h.transactions;
  managers = h.managers;
  files = h.files;
  keys = h.keys;
  handles = h.handles;
}

-- what is so now, by what memory holds
abbrev pub present_of : MemoryState → Present
present_of m = now_of (held m)

-- memory shows what is so, but for how many events were recorded; what was recorded of files, keys, resource managers and the work of
-- transactions is not looked at, since it is as it stands now
pub record Shows (m : MemoryState) (x : Present) : Type 0 where
  pub is_up : m.is_up ≡ x.machine.is_up
  pub boot : m.tm.boot ≡ x.recorded.boots
  pub transactions : m.tm.now ≡ x.transactions
  pub managers : m.tm.managers ≡ x.managers
  pub traces : m.trace ≡ traces_of x.recorded
  pub files : files_of m.files ≡ x.files
  pub next_node : m.next_node ≡ x.recorded.next_node
  pub keys : m.keys ≡ x.keys
  pub handles : m.handles.handles ≡ x.handles

-- memory has the room for what an outcome tells, on whatever it shows
abbrev pub TellsWithin : MemoryState → (Present → Outcome) → Type 0
TellsWithin m outcome = (x : Present) → Shows m x → length (outcome x).sent ≤ m.tm.slots

-- memory shows what the outcome makes of whatever it showed for which this is so, with no less room for notifications but for those that are sent
pub record SettlesWhere (old : MemoryState) (may : Present → Type 0) (outcome : Present → Outcome) (new : MemoryState) : Type 0 where
  pub shows : (x : Present) → Shows old x → may x → Shows new (apply x (outcome x))
  pub slots : (x : Present) → Shows old x → old.tm.slots ≤ new.tm.slots + length (outcome x).sent

-- memory shows what the outcome makes of whatever it showed, with no less room for notifications but for those that are sent
abbrev pub Settles : MemoryState → (Present → Outcome) → MemoryState → Type 0
Settles old outcome new = SettlesWhere old (λ x. Unit {0}) outcome new

-- memory shows what the outcome makes of what it showed where what was recorded is good, with no less room but for what is sent
abbrev pub SettlesGood : MemoryState → (Present → Outcome) → MemoryState → Type 0
SettlesGood old outcome new = SettlesWhere old (λ x. IsGoodState x.recorded) outcome new

-- the journal with a group more, where there are events
abbrev pub appended : JournalState → List Event → JournalState
appended j events = record j { events = j.events + length events; log = record j.log { end = j.log.end + log_size (as_groups events) } }

-- what memory holds, its journal with a group more, where there are events
abbrev pub logged : LayersNow → List Event → LayersNow
logged h events = record h { journal = appended h.journal events }

-- the files can be changed, unit by unit, and opened as a plain call comes to
pub record CanMakePlain (files : FilesNow) (o : FileOutcome) : Type 0 where
  pub plain : IsPlain files o
  pub units : IfSome o.change (CanBeMade files.tree)
  pub left : LeavesOwn files (files_after files None o)
  pub counted : CanBeCounted (files_after files None o)

-- all but the files and the keys is as it was
pub record KeepsRest (old new : MemoryState) : Type 0 where
  pub is_up : new.is_up ≡ old.is_up
  pub journal : new.journal ≡ old.journal
  pub handles : new.handles ≡ old.handles
  pub tm : new.tm ≡ old.tm
  pub trace : new.trace ≡ old.trace
  pub next_node : new.next_node ≡ old.next_node

-- is it known how the transaction ends, if there is one with this Id
abbrev pub is_known : Transactions → Id → Bool
is_known now id = elim (transaction_at now.items id) [ None ↦ true | Some t ↦ not (is_undecided t) ]

-- what a transaction changed and set is committed, or it is known how it ends and this is forgotten, or it is kept
pub record IsReleased (id : Id) (commits is_known : Bool) (old new : MemoryState) : Type 0 where
  pub files : files_of new.files ≡ (if commits then files_committed (files_of old.files) id else (if is_known then forgotten (files_of old.files) id else files_of old.files))
  pub store : new.keys.store ≡ (if commits then stored_all old.keys.store (own_settings old.keys.own id) else old.keys.store)
  pub own : new.keys.own ≡ (if commits || is_known then without_own old.keys.own id else old.keys.own)
  pub rest : KeepsRest old new

-- where a transaction has come to by steps, where this enlistment calls, if one does
abbrev pub course_then : Present → Transaction → Option Id → List Step → Going
course_then x t caller steps = run steps (course_of x t (caller_of x.transactions.enlistments caller))

-- the transaction is there and has not ended, its steps lead it on, what memory keeps of the log is few enough for what they add to it, and what they commit
-- can be committed
pub record CanGoOn (m : MemoryState) (t : Transaction) (caller : Option Id) (steps : List Step) : Type 0 where
  pub there : transaction_at m.tm.now.items t.id ≡ Some t
  pub live : is_live t ≡ true
  pub leads : (x : Present) → Shows m x → LeadsOn x t (caller_of x.transactions.enlistments caller) steps
  pub few : 1 ≤ steps_room steps → AreFew m.trace
  pub noted : steps_room steps ≤ MOST_NOTED
  pub commits : list_any is_commit steps ≡ true → MayCommit (files_of m.files) t.id

-- a label that is to be bound to a file that is opened is free, and there is room for it
abbrev pub MayBind : MemoryState → Pid → Option Label → Option OpenFile → Type 0
MayBind m process (Some label) (Some file) = (1 ≤ m.handles.spare) × (object_at m.handles.handles process label ≡ None)
MayBind m process label opened = Unit {0}

-- the labels can be bound as they are to be
abbrev pub MayHandle : MemoryState → Pid → Labels → Type 0
MayHandle m process (Bind label object) = (1 ≤ m.handles.spare) × (object_at m.handles.handles process label ≡ None)
MayHandle m process (Duplicate label from source) =
    (1 ≤ m.handles.spare) × (object_at m.handles.handles process label ≡ None) × (is_some (object_at m.handles.handles from source) ≡ true)
MayHandle m process (Unbind label) = Unit {0}
MayHandle m process UnbindAll = Unit {0}

-- memory has the room that the settlement takes, but for what it tells, and it can be made
abbrev pub MaySettle : MemoryState → Settlement → Type 0
MaySettle m Nothing = Unit {0}
MaySettle m (Begin process label timeout) =
    (1 ≤ m.tm.room) × (1 ≤ m.handles.spare) × (no_transaction_left m.tm.now ≡ false) × (object_at m.handles.handles process label ≡ None)
MaySettle m (Change process label plan ready) = CanMakePlain (files_of m.files) plan × IsReady m.files plan ready × MayBind m process label plan.opened
MaySettle m (Course t caller steps) = CanGoOn m t caller steps.items
MaySettle m (Handles process labels) = MayHandle m process labels
MaySettle m (Pass ms) = (each_pair (λ (t u : Transaction). is_before t.id u.id) m.tm.now.items ≡ true) × (count_by is_live m.tm.now.items ≤ MOST_LIVE)
MaySettle m (MakeManager process label durability) =
    (1 ≤ m.tm.manager_room) × (1 ≤ m.handles.spare) × (no_manager_left m.tm.managers m.tm.now ≡ false) × (object_at m.handles.handles process label ≡ None)
MaySettle m (Recover manager) = is_some (manager_at m.tm.managers manager) ≡ true
MaySettle m (Take manager) = is_some (manager_at m.tm.managers manager) ≡ true
MaySettle m (Enlist process label manager transaction kind) =
    (1 ≤ m.tm.enlistment_room) × (1 ≤ m.handles.spare) × (no_enlistment_left m.tm.now ≡ false) × (object_at m.handles.handles process label ≡ None)
    × (is_some (manager_at m.tm.managers manager) ≡ true) × (is_some (transaction_at m.tm.now.items transaction) ≡ true)
MaySettle m (Inform enlistment information) = Unit {0}

-- the list has room for each group that fits an empty log, in an image of a size that there is
pub record IsRoomy (j : JournalState) (events : EventsState) : Type 0 where
  pub most : j.units ≤ MOST_UNITS
  pub room : area_len j.units ≤ events.room + frame_size []
