-- A command that was decided: its reply, its events, and what is left to do in memory once they are recorded.
use Rattle.std.specs.Prelude.{◌≡◌, ◌≢◌, List, [], ◌∷◌, cond, Option, Some}
use Rattle.ktm_base.specs.declared.id.Id.{Id}
use Rattle.ktm_base.specs.declared.id.Label.{Label}
use Rattle.ktm_base.specs.declared.id.Pid.{Pid}
use Rattle.ktm_base.specs.declared.refusal.Refusal.{Refusal}
use Rattle.ktm_event.specs.Kept.{EventsState, Holds}
use Rattle.ktm_paged.specs.Recorded.{IsRecordOf}
use Rattle.ktm_world.specs.declared.event.Event.{Event}
use Rattle.ktm_world.specs.declared.options.Durability.{Durability}
use Rattle.ktm_world.specs.declared.object.Object.TheVariants.{File as FileObject}
use Rattle.ktm_world.specs.declared.reply.Reply.{Reply}
use Rattle.ktm_world.specs.declared.reply.Reply.TheVariants.{Done, Refused}
use Rattle.ktm_world.specs.Decide.{events_of}
use Rattle.ktm_world.specs.Durable.{Durable}
use Rattle.ktm_world.specs.FileOutcome.{FileOutcome}
use Rattle.ktm_world.specs.Logs.{Group}
use Rattle.ktm_world.specs.Outcome.{Outcome, apply}
use Rattle.ktm_world.specs.TransactionCalls.{is_durable}
use Rattle.ktm_memory.specs.declared.settlement.Settlement.{Settlement}
use Rattle.ktm_memory.specs.declared.settlement.Settlement.TheVariants.{Nothing, Handles}
use Rattle.ktm_memory.specs.declared.settlement.Labels.TheVariants.{Bind}
use Rattle.txf_opens.specs.declared.file.OpenFile.{OpenFile}
use Rattle.ktm_memory.specs.Memory.{LayersNow, MemoryState, MaySettle, held, now_of, present_of, recorded_of}
use Rattle.ktm_memory.specs.Rules.{PutsAlone}
use Rattle.ktm_memory.specs.Settled.{left_to_do}

-- the list holds what is recorded of these events, in this state
pub record HoldsRecordOf (s : Durable) (state : EventsState) (events : Group) : Type 0 where
  pub raw : Group
  pub holds : Holds state raw
  pub is : IsRecordOf s raw events

-- the reply is that of the outcome, and what is recorded means its events; what is left to do once they are recorded comes to what the outcome makes of what was so;
-- until then nothing that is recorded has changed in memory
pub record Decides (old : LayersNow) (o : Outcome) (reply : Reply) (then : Settlement) (events : EventsState) (new : MemoryState) : Type 0 where
  pub says : reply ≡ o.reply
  pub records : HoldsRecordOf (recorded_of old) events o.events
  pub journal : new.journal ≡ old.journal
  -- what is left to do has these events, tells this, and comes to what the outcome comes to
  pub group : (left_to_do (present_of new) then).events ≡ o.events
  pub tells : (left_to_do (present_of new) then).sent ≡ o.sent
  pub comes_to : apply (present_of new) (left_to_do (present_of new) then) ≡ apply (now_of old) o
  pub may : MaySettle new then
  -- no contents are recorded but those that are left to be put
  pub puts : PutsAlone (present_of new) then
  pub waits : o.events ≢ [] → held new ≡ old
  -- what records something is not refused
  pub answers : o.events ≢ [] → (refusal : Refusal) → reply ≢ Refused refusal

-- it is done, and records nothing
pub record IsDone (o : Outcome) : Type 0 where
  pub replies : o.reply ≡ Done
  pub records : o.events ≡ []

-- a plain call that changes or opens something is done
abbrev pub CanAnswer : Option Id → FileOutcome → Type 0
CanAnswer who o = events_of who o.change ≢ [] → (refusal : Refusal) → o.reply ≢ Refused refusal

-- what is left to do where a file was opened: its label is bound to it
abbrev pub bind_opened : Pid → Option Label → Option OpenFile → Settlement
bind_opened process (Some label) (Some file) = Handles process (Bind label (FileObject file.number))
bind_opened process label opened = Nothing

-- what is recorded where a resource manager is made: that it is, where it outlives a restart
abbrev pub manager_events : Id → Durability → List Event
manager_events id durability = cond (is_durable durability) (Event.MadeRm id ∷ []) []
