-- What outcomes make of what is so now.
use Rattle.std.specs.Prelude.{◌≡◌, ℕ, ◌+◌, ◌&&◌, not, List, [], ◌∷◌, filter, length, Option, Some, None}
use Rattle.ktm_base.specs.declared.id.Id.{Id}
use Rattle.ktm_base.specs.declared.id.Label.{Label}
use Rattle.ktm_base.specs.declared.id.Pid.{Pid}
use Rattle.ktm_world.specs.declared.change.Change.{Change}
use Rattle.ktm_world.specs.declared.event.Event.{Event}
use Rattle.ktm_world.specs.declared.event.Event.TheVariants.{Undo}
use Rattle.ktm_world.specs.declared.object.Handle.{Handle}
use Rattle.ktm_world.specs.declared.object.Object.TheVariants.{File as FileObject}
use Rattle.ktm_world.specs.declared.object.Transaction.{Transaction}
use Rattle.ktm_world.specs.declared.reply.Reply.TheVariants.{Done}
use Rattle.ktm_world.specs.Changes.{changed_all}
use Rattle.ktm_world.specs.Decide.{events_of}
use Rattle.ktm_world.specs.Durable.{Durable, next_after_all}
use Rattle.ktm_world.specs.FileOutcome.{FileOutcome, files_after}
use Rattle.ktm_world.specs.Files.{FirstOpen, OpenFile, own_changes}
use Rattle.ktm_world.specs.Keys.{OwnSettings, own_settings, stored_all}
use Rattle.ktm_world.specs.Labels.{with_handle}
use Rattle.ktm_world.specs.Outcome.{Outcome, apply, is_forgotten}
use Rattle.ktm_world.specs.Present.{Present}
use Rattle.ktm_world.specs.Phases.{event_if}
use Rattle.ktm_world.specs.TransactionCalls.{aborted_by, is_due}

-- ---- what records, commits and sends nothing

-- an outcome records, commits, sends, opens, makes and takes nothing
pub record IsSilent (o : Outcome) : Type 0 where
  pub records : o.events ≡ []
  pub commits : o.works ≡ []
  pub sends : o.sent ≡ []
  pub opens : o.openings ≡ []
  pub makes : o.made ≡ []
  pub takes : o.took ≡ None

-- the first opens but those of these transactions
abbrev pub opens_left : List Id → List FirstOpen → List FirstOpen
opens_left forgotten opens = filter (λ f. not (is_forgotten forgotten f.transaction)) opens

-- what is so with the transactions, open files, own settings and handles of an outcome, and without the first opens that it ends
abbrev pub with_parts : Present → Outcome → Present
with_parts x o = record x {
  transactions = o.transactions;
  files = record x.files { first_opens = opens_left o.forgotten x.files.first_opens; table = o.table };
  keys = record x.keys { own = o.own };
  handles = o.handles;
}

-- a second outcome, joined to a first, opens, makes and takes nothing
pub record IsLater (o : Outcome) : Type 0 where
  pub opens : o.openings ≡ []
  pub makes : o.made ≡ []
  pub takes : o.took ≡ None

-- what is so once a transaction has rolled back, by which no enlistment asked for it
abbrev pub rolled_back : Present → Transaction → Present
rolled_back x t = apply x (aborted_by x t None Done)

-- ---- what is recorded

-- what is recorded of a transaction at this time: that it rolls back, where its timeout is reached and the log has something of it
abbrev pub undo_of : ℕ → Transaction → List Event
undo_of clock t = event_if (is_due clock t && t.is_recorded) (Undo t.id)

-- what was recorded, with changes and settings that were committed; how many events there are is left as it is
abbrev pub recorded_by : Durable → List Change → OwnSettings → Durable
recorded_by s changes settings = record s { tree = changed_all s.tree changes; keys = stored_all s.keys settings; next_node = next_after_all s.next_node changes }

-- what is so with events more in the log
abbrev pub with_group : Present → List Event → Present
with_group x events = record x { recorded = record x.recorded { events = x.recorded.events + length events } }

-- ---- calls on files

-- what a call on files commits: the change of a plain one
abbrev pub plain_changes : Option Id → Option Change → List Change
plain_changes None (Some change) = change ∷ []
plain_changes _ _ = []

-- what is so once a call on files has come to this, but for the group in the log: a plain change is committed, and one of a transaction is its own
abbrev pub with_files_made : Present → Option Id → FileOutcome → Present
with_files_made x who o = record x { recorded = recorded_by x.recorded (plain_changes who o.change) []; files = files_after x.files who o }

-- the handles once a label is bound to the file that is opened, if one is
abbrev pub handles_with : List Handle → Pid → Label → Option OpenFile → List Handle
handles_with handles process label None = handles
handles_with handles process label (Some file) = with_handle handles process label (FileObject file.number)

-- what is so then, with a plain change in the log
abbrev pub with_files : Present → Option Id → FileOutcome → Present
with_files x who o = with_group (with_files_made x who o) (events_of who o.change)

-- what is so then where a label is bound to the file that is opened
abbrev pub with_opened : Present → Pid → Label → Option Id → FileOutcome → Present
with_opened x process label who o = record (with_files x who o) { handles = handles_with x.handles process label o.opened }

-- ---- what a transaction has to commit

-- what a transaction changed of the files
abbrev pub changes_of : Present → Transaction → List Change
changes_of x t = own_changes x.files.table.own t.id

-- what it set of the keys
abbrev pub settings_of : Present → Transaction → OwnSettings
settings_of x t = own_settings x.keys.own t.id
