-- The machine with its whole history, and how it relates to what is so now.
use Rattle.std.specs.Prelude.{ℕ, ◌+◌, ◌==◌, ◌&&◌, ◌||◌, not, Bool, true, false, List, [], ◌∷◌, ◌++◌, length, map, filter, take, drop, Option, Some, None, if◌then◌else◌}
use Rattle.std.specs.List.{flat_map, list_any}
use Rattle.ktm_base.specs.declared.id.Id.{Id}
use Rattle.ktm_base.specs.declared.id.Pid.{Pid}
use Rattle.ktm_base.specs.declared.refusal.Refusal.TheVariants.{MachineDown}
use Rattle.ktm_world.specs.declared.command.Command.{Command}
use Rattle.ktm_world.specs.declared.recorded.RecordedPart.{RecordedPart}
use Rattle.ktm_world.specs.declared.recorded.Superior.{Superior}
use Rattle.ktm_world.specs.declared.event.DonePart.{DonePart}
use Rattle.ktm_world.specs.declared.event.Event.{Event}
use Rattle.ktm_world.specs.declared.event.Event.TheVariants.{Boot, Done}
use Rattle.ktm_world.specs.declared.event.Part.{Part}
use Rattle.ktm_world.specs.declared.object.Handle.{Handle}
use Rattle.ktm_world.specs.declared.object.Phase.{Phase}
use Rattle.ktm_world.specs.declared.object.Transaction.{Transaction}
use Rattle.ktm_world.specs.declared.object.TransactionOutcome.{TransactionOutcome}
use Rattle.ktm_world.specs.declared.options.EnlistmentKind.{EnlistmentKind}
use Rattle.ktm_world.specs.Keys.{Own}
use Rattle.ktm_world.specs.Outcome.{first_refusal, Outcome, is_forgotten, refuse_or}
use Rattle.ktm_world.specs.Logs.{Group, Power, up, down, is_up, as_groups, kept_after, prefixes_from, possible_by}
use Rattle.ktm_world.specs.Committed.{Committed, Work, committed_with}
use Rattle.ktm_world.specs.Decide.{decide}
use Rattle.ktm_world.specs.Durable.{Durable, Recorded, is_held, is_decided, has_undone, changes_of, settings_of, is_before, is_worn, after_events, stand}
use Rattle.ktm_world.specs.Enlistments.{Enlistment, Manager, Note, Sent, notes_for, taken_count}
use Rattle.ktm_world.specs.Files.{FileTable, FirstOpen, OwnChanges, Opening, first_open, files_with}
use Rattle.ktm_world.specs.Present.{Present, Transactions}
use Rattle.ktm_world.specs.TransactionCalls.{tick}

-- a resource manager with all notifications that were ever sent to it: those that were taken, and those that wait
pub record ManagerPast : Type 0 where
  pub id : Id
  pub is_durable : Bool
  pub taken : List Note
  pub queue : List Note

-- a transaction's first open of a file, and how many works were committed before it
pub record OpenedAfter : Type 0 where
  pub transaction : Id
  pub file : ℕ
  pub works : ℕ

-- the machine with its whole history: its log since the run began, and its works since the restart
pub record World : Type 0 where
  -- the durable state of the image that the run began with
  pub base : Durable
  -- what was recorded since, a group for each command that recorded anything
  pub log : List Group
  -- how many groups no loss of power takes
  pub kept : ℕ
  -- what was committed at the last restart, and what was committed since
  pub start : Committed
  pub works : List Work
  -- what was recorded so far comes to
  pub recorded : Durable
  pub managers : List ManagerPast
  pub first_opens : List OpenedAfter
  -- what has none: the transactions, what they changed and set, the open files and the handles
  pub transactions : Transactions
  pub table : FileTable
  pub own : List Own
  pub handles : List Handle
  -- whether the machine is up, and else which logs may be on its disk
  pub power : Power

-- what was committed once so many works were
abbrev pub at_work : World → ℕ → Committed
at_work w n = committed_with w.start (take n w.works)

-- what is committed now
abbrev pub committed : World → Committed
committed w = committed_with w.start w.works

-- ---- what is so now

-- a resource manager as it is now, without what it has taken
abbrev pub manager_now : ManagerPast → Manager
manager_now m = record { id = m.id; is_durable = m.is_durable; queue = m.queue }

-- a first open as it is now, with the version that it fixed
abbrev pub first_open_now : World → OpenedAfter → FirstOpen
first_open_now w o = first_open (at_work w o.works) (record { transaction = o.transaction; file = o.file })

-- what is so now, which is computed from the history
abbrev pub present : World → Present
present w = record {
  machine = record { is_up = is_up w.power };
  recorded = w.recorded;
  transactions = w.transactions;
  managers = map manager_now w.managers;
  files = files_with (committed w) (map (first_open_now w) w.first_opens) w.table;
  keys = record { store = (committed w).store; own = w.own };
  handles = w.handles;
}

-- ---- what an outcome makes of the history

-- a manager has taken one notification more, and others were sent
abbrev pub served_past : Option Id → List Sent → ManagerPast → ManagerPast
served_past took sent m = record m {
  taken = m.taken ++ take (taken_count m.id took) m.queue;
  queue = drop (taken_count m.id took) m.queue ++ notes_for m.id sent;
}

-- a resource manager that was just made
abbrev pub made_past : Manager → ManagerPast
made_past m = record { id = m.id; is_durable = m.is_durable; taken = []; queue = m.queue }

-- a first open, after the works so far
abbrev pub opened_after : World → Opening → OpenedAfter
opened_after w o = record { transaction = o.transaction; file = o.file; works = length w.works }

-- the logs that may be found on the disk
abbrev pub possible_logs : World → List (List Group)
possible_logs w = possible_by w.power w.kept w.log

-- the world after an outcome, which goes into the history
abbrev pub extend : World → Outcome → World
extend w o = record w {
  log = w.log ++ as_groups o.events;
  kept = kept_after w.kept w.log o.events;
  recorded = after_events w.recorded o.events;
  works = w.works ++ o.works;
  managers = map (served_past o.took o.sent) (w.managers ++ map made_past o.made);
  first_opens = filter (λ f. not (is_forgotten o.forgotten f.transaction)) (w.first_opens ++ map (opened_after w) o.openings);
  transactions = o.transactions;
  table = o.table;
  own = o.own;
  handles = o.handles;
}

-- the world after a command
abbrev pub after : World → Pid → Command → World
after w process command = extend w (decide (present w) process command)

-- what the passing of time does
abbrev pub decide_tick : Present → ℕ → Outcome
decide_tick x ms = refuse_or x (first_refusal ((not x.machine.is_up, MachineDown) ∷ [])) (tick x ms)

-- ---- losses of power

-- the power went during a call: its group may have been recorded
abbrev pub interrupted_by : World → Outcome → World
interrupted_by w o = record w { power = down (prefixes_from w.kept (w.log ++ as_groups o.events)) }

-- the power went while nothing was recorded
abbrev pub crashed : World → World
crashed w = record w { power = down (possible_logs w) }

-- ---- restarts

-- the event that this participant is done, where it is to be recorded
abbrev pub done_if : Bool → Id → DonePart → List Event
done_if true id done = Done id done ∷ []
done_if false id done = []

-- a transaction that commits has its files and its keys done
abbrev pub own_events : Recorded → List Event
own_events t = done_if (has_undone DonePart.Files t) t.id DonePart.Files ++ done_if (has_undone DonePart.Keys t) t.id DonePart.Keys

-- what a restart records by itself
abbrev pub own_group : Durable → Group
own_group s = Boot (s.boots + 1) ∷ flat_map own_events s.transactions

-- does the log come to a state that is worn
abbrev pub is_worn_log : World → List Group → Bool
is_worn_log w log = is_worn (stand w.base log)

-- the log with the group of a restart that found it
abbrev pub with_own : World → List Group → List Group
with_own w log = log ++ own_group (stand w.base log) ∷ []

-- the power went during a restart: of each log that may have been found, and is not worn, the group of the restart may have been recorded
abbrev pub interrupted_restart : World → World
interrupted_restart w = record w { power = down (possible_logs w ++ map (with_own w) (filter (λ l. not (is_worn_log w l)) (possible_logs w))) }

-- a restart found this log, and it was worn: the machine stays down
abbrev pub found_worn : World → List Group → World
found_worn w log = record w { power = down (log ∷ []) }

-- ---- the world that starts from a durable state

-- a part of an enlistment, as it is brought back: prepared, and not recovered
abbrev pub enlistment_back : Id → RecordedPart → List Enlistment
enlistment_back id p = elim p.part as (λ _. List Enlistment) [
  | Part.Enlistment enlistment manager information ↦
      record {
        id = enlistment;
        manager = manager;
        transaction = id;
        kind = EnlistmentKind.Plain;
        owes = None;
        is_read_only = false;
        is_prepared = true;
        is_finished = false;
        is_recovered = false;
        information = information;
      }
      ∷ []
  | _ ↦ []
]

-- a superior, as it is brought back: not recovered
abbrev pub superior_back : Id → Option Superior → List Enlistment
superior_back id None = []
superior_back id (Some s) =
    record {
      id = s.enlistment;
      manager = s.manager;
      transaction = id;
      kind = EnlistmentKind.Superior;
      owes = None;
      is_read_only = false;
      is_prepared = false;
      is_finished = false;
      is_recovered = false;
      information = s.information;
    }
    ∷ []

-- the enlistments of a transaction that are brought back
abbrev pub enlistments_back : Recorded → List Enlistment
enlistments_back t = superior_back t.id t.superior ++ flat_map (enlistment_back t.id) t.parts

-- an enlistment at its place by rising Id
abbrev pub with_enlistment : List Enlistment → Enlistment → List Enlistment
with_enlistment [] e = e ∷ []
with_enlistment (a ∷ es) e = if is_before e.id a.id then e ∷ a ∷ es else a ∷ with_enlistment es e

-- enlistments by rising Id
abbrev pub by_rising_id : List Enlistment → List Enlistment
by_rising_id [] = []
by_rising_id (e ∷ es) = with_enlistment (by_rising_id es) e

-- is the part an enlistment's
abbrev pub is_enlistment_part : RecordedPart → Bool
is_enlistment_part p = elim p.part as (λ _. Bool) [ Part.Enlistment enlistment manager information ↦ true | _ ↦ false ]

-- it waits for its superior, or it commits and has enlistments that have not finished
abbrev pub is_brought_back : Recorded → Bool
is_brought_back t = is_held t.stage || (is_decided t.stage && list_any is_enlistment_part t.parts)

-- a transaction that waits is in doubt, and one that is decided commits
abbrev pub transaction_back : Recorded → Transaction
transaction_back t = record {
  id = t.id;
  timeout = 0;
  created = 0;
  phase = if is_held t.stage then Phase.InDoubt else Phase.Committing;
  outcome = if is_held t.stage then TransactionOutcome.Undetermined else TransactionOutcome.Committed;
  is_recorded = true;
}

-- the transactions that are brought back
abbrev pub back : Durable → List Recorded
back s = filter is_brought_back s.transactions

-- the transactions that wait for their superior
abbrev pub in_doubt : Durable → List Recorded
in_doubt s = filter (λ t. is_held t.stage) s.transactions

-- has the transaction changed anything
abbrev pub has_own_changes : OwnChanges → Bool
has_own_changes o = not (length o.changes == 0)

-- has the transaction set anything
abbrev pub has_own_settings : Own → Bool
has_own_settings o = not (length o.settings == 0)

-- the world of a durable state, before the restart has recorded anything
abbrev pub reboot : Durable → List Group → World
reboot base log = let s = stand base log in record {
  base = base;
  log = log;
  kept = length log;
  start = record { tree = s.tree; versions = []; store = s.keys };
  works = [];
  recorded = s;
  managers = map (λ id. record { id = id; is_durable = true; taken = []; queue = [] }) s.managers;
  first_opens = [];
  transactions = record {
    clock = 0;
    last_transaction = 0;
    last_manager = 0;
    last_enlistment = 0;
    items = map transaction_back (back s);
    enlistments = by_rising_id (flat_map enlistments_back (back s));
  };
  table = record {
    own = filter has_own_changes (map (λ t. record { transaction = t.id; changes = changes_of t }) (in_doubt s));
    opens = [];
    last_open = 0;
    next_node = s.next_node;
  };
  own = filter has_own_settings (map (λ t. record { transaction = t.id; settings = settings_of t }) (in_doubt s));
  handles = [];
  power = up;
}

-- the world that starts from a log, once the restart has recorded its own group
abbrev pub opened : Durable → List Group → World
opened base log = let own = own_group (stand base log) in record (reboot base log) {
  log = log ++ own ∷ [];
  kept = length log + 1;
  recorded = after_events (stand base log) own;
}
