-- What a command does, as data, and what it makes of what is so now.
use Rattle.std.specs.Prelude.{not, Bool, List, [], ◌∷◌, ◌++◌, map, filter, drop, Option, Some, None, if◌then◌else◌}
use Rattle.std.specs.List.{list_any}
use Rattle.ktm_base.specs.declared.id.Id.{Id}
use Rattle.ktm_base.specs.declared.refusal.Refusal.{Refusal}
use Rattle.ktm_world.specs.declared.event.Event.{Event}
use Rattle.ktm_world.specs.declared.object.Handle.{Handle}
use Rattle.ktm_world.specs.declared.reply.Reply.{Reply}
use Rattle.ktm_world.specs.declared.reply.Reply.TheVariants.{Refused}
use Rattle.ktm_world.specs.Keys.{Own}
use Rattle.ktm_world.specs.Transactions.{same_id}
use Rattle.ktm_world.specs.Committed.{Committed, Work, committed_with}
use Rattle.ktm_world.specs.Durable.{after_events}
use Rattle.ktm_world.specs.Enlistments.{Manager, Sent, notes_for, taken_count}
use Rattle.ktm_world.specs.Files.{FileTable, FirstOpen, Opening, committed_files, first_open, files_with}
use Rattle.ktm_world.specs.Present.{Present, Transactions}

-- what a command does
pub record Outcome : Type 0 where
  pub reply : Reply
  -- recorded together, before the command is answered
  pub events : List Event
  -- committed, in order
  pub works : List Work
  -- notifications, in the order in which they are sent
  pub sent : List Sent
  -- the resource manager whose first notification is taken
  pub took : Option Id
  -- resource managers that are made
  pub made : List Manager
  -- first opens that are made, of the versions before its works, and transactions whose first opens end
  pub openings : List Opening
  pub forgotten : List Id
  -- the parts that have no history, as they are then
  pub transactions : Transactions
  pub table : FileTable
  pub own : List Own
  pub handles : List Handle

-- nothing changes
abbrev pub only_reply : Present → Reply → Outcome
only_reply x reply = record {
  reply = reply;
  events = [];
  works = [];
  sent = [];
  took = None;
  made = [];
  openings = [];
  forgotten = [];
  transactions = x.transactions;
  table = x.files.table;
  own = x.keys.own;
  handles = x.handles;
}

-- ---- what an outcome makes of what is so now

-- what is committed now
abbrev pub committed_now : Present → Committed
committed_now x = committed_files x.files x.keys.store

-- a manager's notifications, without the one that is taken and with those that are sent
abbrev pub served : Option Id → List Sent → Manager → Manager
served took sent m = record m { queue = drop (taken_count m.id took) m.queue ++ notes_for m.id sent }

-- is the transaction one whose first opens end
abbrev pub is_forgotten : List Id → Id → Bool
is_forgotten ids id = list_any (λ other. same_id id other) ids

-- the first opens after an outcome: with those that it makes, and without those of transactions that it ends
abbrev pub first_opens_after : Present → Outcome → List FirstOpen
first_opens_after x o = filter (λ f. not (is_forgotten o.forgotten f.transaction)) (x.files.first_opens ++ map (first_open (committed_now x)) o.openings)

-- what is so after an outcome
abbrev pub apply : Present → Outcome → Present
apply x o = record {
  machine = x.machine;
  recorded = after_events x.recorded o.events;
  transactions = o.transactions;
  managers = map (served o.took o.sent) (x.managers ++ o.made);
  files = files_with (committed_with (committed_now x) o.works) (first_opens_after x o) o.table;
  keys = record { store = (committed_with (committed_now x) o.works).store; own = o.own };
  handles = o.handles;
}

-- one outcome, and then that of a second command on what is so then; the first one answers
abbrev pub joined : Outcome → Outcome → Outcome
joined a b = record {
  reply = a.reply;
  events = a.events ++ b.events;
  works = a.works ++ b.works;
  sent = a.sent ++ b.sent;
  took = a.took;
  made = a.made ++ b.made;
  openings = a.openings ++ b.openings;
  forgotten = a.forgotten ++ b.forgotten;
  transactions = b.transactions;
  table = b.table;
  own = b.own;
  handles = b.handles;
}

-- one outcome, and then what a second command does on what is so then; the first one answers
abbrev pub and_then : Present → Outcome → (Present → Outcome) → Outcome
and_then x o next = joined o (next (apply x o))

-- ---- refusals

-- the first test that holds
abbrev pub first_refusal : List (Bool × Refusal) → Option Refusal
first_refusal [] = None
first_refusal (test ∷ tests) = if test.0 then Some test.1 else first_refusal tests

-- the refusal, or else the effect
abbrev pub refuse_or : Present → Option Refusal → Outcome → Outcome
refuse_or x (Some refusal) effect = only_reply x (Refused refusal)
refuse_or x None effect = effect
