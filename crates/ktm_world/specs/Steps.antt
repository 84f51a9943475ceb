-- What is seen of a course, and what carrying out steps makes of it.
use Rattle.std.specs.Prelude.{ℕ, ◌&&◌, ◌||◌, not, Bool, true, false, List, [], ◌∷◌, ◌++◌, count_by, Option, Some, None, is_some}
use Rattle.ktm_base.specs.declared.id.Id.{Id}
use Rattle.ktm_world.specs.declared.change.Change.{Change}
use Rattle.ktm_world.specs.declared.event.DonePart.{DonePart}
use Rattle.ktm_world.specs.declared.event.Event.{Event}
use Rattle.ktm_world.specs.declared.event.Part.{Part}
use Rattle.ktm_world.specs.declared.input.PhaseInput.{PhaseInput}
use Rattle.ktm_world.specs.declared.input.Seen.{Seen}
use Rattle.ktm_world.specs.declared.input.Share.{Share}
use Rattle.ktm_world.specs.declared.step.Answered.{Answered}
use Rattle.ktm_world.specs.declared.step.Answered.TheVariants.{PrePrepared, Prepared, ReadOnly, Finished, Recovered}
use Rattle.ktm_world.specs.declared.step.Fact.{Fact}
use Rattle.ktm_world.specs.declared.step.Step.{Step}
use Rattle.ktm_world.specs.declared.step.Who.{Who}
use Rattle.ktm_world.specs.Changes.{has_changes}
use Rattle.ktm_world.specs.Enlistments.{Enlistment, Manager, allows_one_phase, asks_pre_prepare, is_durable_at, is_given, id_of, is_superior, takes_part}
use Rattle.ktm_world.specs.Transactions.{same_id}
use Rattle.ktm_world.specs.Keys.{OwnSettings}
use Rattle.ktm_world.specs.Phases.{Course, in_phase, decided, recording, telling, owing, unchanged, superior, has_settings, event_if, work_of, ended, ended_if_finished, changing_one, enlistment_part}
use Rattle.ktm_world.specs.Rows.{row}

-- ---- what counts of a course

-- how many enlistments that take part pass the test
abbrev pub counted : Course → (Enlistment → Bool) → ℕ
counted c test = count_by (λ e. takes_part c.transaction.id e && test e) c.enlistments

-- what counts of a course
abbrev pub seen : Course → Seen
seen c = record {
  phase = c.transaction.phase;
  has_superior = is_some (superior c);
  enlistments = counted c (λ e. true);
  asking = counted c asks_pre_prepare;
  in_one_phase = counted c allows_one_phase;
  owing = counted c (λ e. is_some e.owes);
  has_files = has_changes c.changes;
  has_keys = has_settings c.settings;
}

-- what an enlistment that takes part counts for
abbrev pub share_of : Enlistment → Share
share_of e = record { asks = asks_pre_prepare e; allows_one_phase = allows_one_phase e; owes = is_some e.owes }

-- ---- enlistments

-- is it one of those, of this transaction, where this enlistment calls
abbrev pub is_one_of : Id → Option Id → Who → Enlistment → Bool
is_one_of own caller Who.Parts e = takes_part own e
is_one_of own caller Who.Asking e = takes_part own e && asks_pre_prepare e
is_one_of own caller Who.Prepared e = takes_part own e && e.is_prepared && e.is_recovered
is_one_of own caller Who.Recovered e = takes_part own e && e.is_recovered
is_one_of own caller Who.Superior e = same_id e.transaction own && is_superior e
is_one_of own caller Who.OtherSuperior e = same_id e.transaction own && is_superior e && not (is_given caller e)
is_one_of own caller Who.Caller e = is_given caller e

-- is it one of those on this course
abbrev pub is_meant : Who → Course → Enlistment → Bool
is_meant who c e = is_one_of c.transaction.id (id_of c.caller) who e

-- what becomes of an enlistment that has answered so
abbrev pub answered : Answered → Enlistment → Enlistment
answered PrePrepared e = record e { owes = None }
answered Prepared e = record e { owes = None; is_prepared = true }
answered ReadOnly e = record e { owes = None; is_read_only = true }
answered Finished e = record e { owes = None; is_finished = true }
answered Recovered e = record e { is_recovered = true }

-- an enlistment by what never changes of it on the way
abbrev pub lasting : Enlistment → Enlistment
lasting e = record e { owes = None; is_read_only = false; is_prepared = false; is_finished = false; is_recovered = false }

-- an enlistment, where there is one, by what never changes of it on the way
abbrev pub lasting_of : Option Enlistment → Option Enlistment
lasting_of None = None
lasting_of (Some e) = Some (lasting e)

-- ---- what is recorded

-- what is read of a course when it is recorded; steps change nothing of it but whether the log has a Ready or a Held
pub record Basis : Type 0 where
  pub id : Id
  pub is_recorded : Bool
  pub changes : List Change
  pub settings : OwnSettings
  pub managers : List Manager
  pub superior : Option Enlistment
  pub caller : Option Enlistment

-- the basis of what a course records
abbrev pub basis : Course → Basis
basis c = record { id = c.transaction.id; is_recorded = c.transaction.is_recorded; changes = c.changes; settings = c.settings; managers = c.managers; superior = lasting_of (superior c); caller = c.caller }

-- the event of the one that calls, where its resource manager is durable
abbrev pub event_of_caller : Option Enlistment → List Manager → (Enlistment → Event) → List Event
event_of_caller None ms event = []
event_of_caller (Some e) ms event = event_if (is_durable_at ms e.manager) (event e)

-- the event of the superior, where there is one
abbrev pub held_event : Id → Option Enlistment → List Event
held_event id None = []
held_event id (Some e) = Event.Held id e.id e.manager e.information ∷ []

-- the events by which this is recorded
abbrev pub events_of : Fact → Basis → List Event
events_of Fact.ReadyFiles b = event_if (has_changes b.changes) (Event.Ready b.id (Part.Changes b.changes))
events_of Fact.ReadyKeys b = event_if (has_settings b.settings) (Event.Ready b.id (Part.Settings b.settings))
events_of Fact.Ready b = event_of_caller b.caller b.managers (λ e. Event.Ready b.id (enlistment_part e))
events_of Fact.Held b = held_event b.id b.superior
events_of Fact.Decide b = event_if b.is_recorded (Event.Decide b.id)
events_of Fact.Undo b = event_if b.is_recorded (Event.Undo b.id)
events_of Fact.DoneFiles b = event_if (has_changes b.changes) (Event.Done b.id DonePart.Files)
events_of Fact.DoneKeys b = event_if (has_settings b.settings) (Event.Done b.id DonePart.Keys)
events_of Fact.Done b = event_of_caller b.caller b.managers (λ e. Event.Done b.id (DonePart.Enlistment e.id))
events_of Fact.SingleFiles b = Event.Single b.id (Part.Changes b.changes) ∷ []
events_of Fact.SingleKeys b = Event.Single b.id (Part.Settings b.settings) ∷ []

-- is there such an enlistment, and is its resource manager durable
abbrev pub is_of_durable : List Manager → Option Enlistment → Bool
is_of_durable ms None = false
is_of_durable ms (Some e) = is_durable_at ms e.manager

-- has the log a Ready or a Held once this is recorded
abbrev pub is_recorded_by : Fact → Basis → Bool
is_recorded_by Fact.ReadyFiles b = b.is_recorded || has_changes b.changes
is_recorded_by Fact.ReadyKeys b = b.is_recorded || has_settings b.settings
is_recorded_by Fact.Ready b = is_of_durable b.managers b.caller || b.is_recorded
is_recorded_by Fact.Held b = is_some b.superior || b.is_recorded
is_recorded_by _ b = b.is_recorded

-- the events of steps, which are known before anything is carried out
abbrev pub events_ahead : List Step → Basis → List Event
events_ahead [] b = []
events_ahead (Step.Record fact ∷ steps) b = events_of fact b ++ events_ahead steps (record b { is_recorded = is_recorded_by fact b })
events_ahead (_ ∷ steps) b = events_ahead steps b

-- ---- steps

-- the enlistment, if there is one, is changed
abbrev pub changing : Course → Option Enlistment → (Enlistment → Enlistment) → Course
changing c None f = c
changing c (Some e) f = changing_one c e.id f

-- what is so after a step
abbrev pub carried : Step → Course → Course
carried (Step.Record fact) c = record (recording c (events_of fact (basis c))) { transaction = record c.transaction { is_recorded = is_recorded_by fact (basis c) } }
carried Step.Commit c = record c { works = c.works ++ work_of c }
carried (Step.Tell who kind) c = telling c (is_meant who c) kind unchanged
carried (Step.Ask who kind owed) c = telling c (is_meant who c) kind (owing owed)
carried (Step.Change answer) c = changing c c.caller (answered answer)
carried (Step.Enter phase) c = in_phase c phase
carried (Step.Decide outcome) c = decided c outcome
carried (Step.End outcome) c = ended c outcome
carried (Step.EndWhereFinished outcome) c = ended_if_finished c outcome

-- what is so after steps, one after another
abbrev pub run : List Step → Course → Course
run [] c = c
run (step ∷ steps) c = run steps (carried step c)

-- where a transaction has come to by the row of what comes to it
unfoldable pub led : PhaseInput → Course → Course
led input c = run (row (seen c) input) c
