-- What a transaction records by its steps.
use Rattle.std.specs.Prelude.{◌≡◌, Bool, List, [], ◌∷◌, Option, Some, None}
use Rattle.ktm_base.specs.declared.id.Id.{Id}
use Rattle.ktm_course.specs.declared.parts.Enlisted.{Enlisted}
use Rattle.ktm_course.specs.declared.parts.Entry.{Entry}
use Rattle.ktm_course.specs.declared.parts.Entry.TheVariants.{Work, Held, Decide, Undo, Done}
use Rattle.ktm_course.specs.declared.parts.Parts.{Parts}
use Rattle.ktm_event.specs.Work.{FinalFile, IsRecordableWork, changes_of, part_of, work_event}
use Rattle.ktm_world.specs.declared.event.Event.{Event}
use Rattle.ktm_world.specs.declared.step.Step.{Step}
use Rattle.ktm_world.specs.declared.step.Step.TheVariants.{Record}
use Rattle.ktm_world.specs.Enlistments.{Enlistment, Manager, is_durable_at}
use Rattle.ktm_world.specs.Steps.{Basis, is_recorded_by}

-- this is recorded of the enlistment
pub record IsEnlisted (e : Enlistment) (enlisted : Enlisted) : Type 0 where
  pub id : e.id ≡ enlisted.enlistment
  pub manager : e.manager ≡ enlisted.manager
  pub information : e.information ≡ enlisted.information.now

-- the enlistment that calls, of a resource manager that is durable or not, or none
abbrev pub IsCaller : List Manager → Option Enlistment → Option Enlisted → Type 0
IsCaller ms None None = Unit {0}
IsCaller ms (Some e) (Some enlisted) = IsEnlisted e enlisted × (is_durable_at ms e.manager ≡ enlisted.is_durable)
IsCaller ms _ _ = ⊥

-- the superior, or none
abbrev pub IsSuperior : Option Enlistment → Option Enlisted → Type 0
IsSuperior None None = Unit {0}
IsSuperior (Some e) (Some enlisted) = IsEnlisted e enlisted
IsSuperior _ _ = ⊥

-- from this a transaction with such parts, whose files are these, records, of which the log has a Ready or a Held, or has none
pub record IsBasis {F : Type 0} (files_of : F → List FinalFile) (b : Basis) (transaction : Id) (is_recorded : Bool) (parts : Parts F) : Type 0 where
  pub id : b.id ≡ transaction
  pub recorded : b.is_recorded ≡ is_recorded
  pub changes : b.changes ≡ changes_of parts.names.now (files_of parts.files.now)
  pub settings : b.settings ≡ parts.settings.now
  pub caller : IsCaller b.managers b.caller parts.caller
  pub superior : IsSuperior b.superior parts.superior

-- has the log a Ready or a Held of it, once its steps are recorded
abbrev pub recorded_after : List Step → Basis → Bool
recorded_after [] b = b.is_recorded
recorded_after (Record fact ∷ steps) b = recorded_after steps (record b { is_recorded = is_recorded_by fact b })
recorded_after (_ ∷ steps) b = recorded_after steps b

-- the event of an entry
abbrev pub entry_event : {F : Type 0} → (F → List FinalFile) → Id → Entry F → Event
entry_event files_of id (Work stage work) = work_event stage id (part_of files_of work)
entry_event files_of id (Held enlistment manager information) = Event.Held id enlistment manager information.now
entry_event files_of id Decide = Event.Decide id
entry_event files_of id Undo = Event.Undo id
entry_event files_of id (Done done) = Event.Done id done

-- the changes of names in an entry put no contents but such as stand on pages
abbrev pub IsRecordableEntry : {F : Type 0} → Entry F → Type 0
IsRecordableEntry (Work stage work) = IsRecordableWork work
IsRecordableEntry _ = Unit {0}

-- the events of an entry, if there is one
abbrev pub entries : {F : Type 0} → (F → List FinalFile) → Id → Option (Entry F) → List Event
entries files_of id None = []
entries files_of id (Some entry) = entry_event files_of id entry ∷ []
