-- What the steps of a transaction record, by what memory shows of it.
use Rattle.std.proofs.Common.{◌≡◌, ◌++◌, List, [], Option, Some, None, refl, sym, ◌∙◌, ap, subst}
use Rattle.ktm_course.specs.OnPages.{AreRecordedEvents, RecordedLaw}
use Rattle.ktm_event.specs.OnPages.{AreEach, IsRecordedChange}
use Rattle.ktm_course.specs.Recorded.{IsBasis, IsCaller, IsSuperior}
use Rattle.ktm_course.specs.declared.parts.Enlisted.{Enlisted}
use Rattle.ktm_course.specs.declared.parts.Parts.{Parts}
use Rattle.ktm_event.specs.Work.{FinalFile, changes_of as recorded_changes}
use Rattle.ktm_paged.specs.Recorded.{IsRecordOf}
use Rattle.ktm_paged.proofs.offered.Recording.{course-recorded}
use Rattle.ktm_steps.specs.Laws.{EventsAheadLaw}
use Rattle.ktm_world.specs.declared.event.Event.{Event}
use Rattle.ktm_world.specs.declared.step.Step.{Step}
use Rattle.ktm_world.specs.Durable.{Durable}
use Rattle.ktm_world.specs.Enlistments.{Enlistment, superior_of}
use Rattle.ktm_world.specs.Phases.{Course}
use Rattle.ktm_world.specs.Steps.{Basis, basis, events_ahead, lasting_of, run}
use Rattle.ktm_memory.proofs.WorkRecords.{AllMean}

-- a superior is recorded by what never changes of it
lasting-superior : (e : Option Enlistment) (o : Option Enlisted) → IsSuperior e o → IsSuperior (lasting_of e) o
lasting-superior None None is = tt
lasting-superior (Some e) (Some o) is = record { id = is.id; manager = is.manager; information = is.information }
lasting-superior None (Some o) is = absurd is
lasting-superior (Some e) None is = absurd is

module _ {F : Type 0} (files_of : F → List FinalFile) where
  -- the parts are those of the course, but for the changes of the files
  pub record AreParts (c : Course) (parts : Parts F) : Type 0 where
    pub settings : c.settings ≡ parts.settings.now
    pub caller : IsCaller c.managers c.caller parts.caller
    pub superior : IsSuperior (superior_of c.enlistments c.transaction.id) parts.superior

  -- from some basis of the parts the steps record what the course does, with pages
  pub record AreKnown (s : Durable) (c : Course) (parts : Parts F) (steps : List Step) : Type 0 where
    pub from : Basis
    pub is : IsBasis files_of from c.transaction.id c.transaction.is_recorded parts
    pub events : AreRecordedEvents (run steps c).events (events_ahead steps from)
    pub record_of : IsRecordOf s (events_ahead steps from) (run steps c).events

  -- steps record what the course does, where the files are those that it changed, with their pages
  pub known : EventsAheadLaw → RecordedLaw → (s : Durable) (c : Course) (parts : Parts F) (steps : List Step) → c.events ≡ [] → AreParts c parts
      → AreEach IsRecordedChange c.changes (recorded_changes parts.names.now (files_of parts.files.now)) → AllMean c.changes (recorded_changes parts.names.now (files_of parts.files.now)) → AreKnown s c parts steps
  known ahead law s c parts steps none are each mean =
      let raw = recorded_changes parts.names.now (files_of parts.files.now) in
      let same : (run steps c).events ≡ events_ahead steps (basis c) = ahead steps c ∙ ap (λ (es : List Event). es ++ events_ahead steps (basis c)) none in
      record {
        from = record (basis c) { changes = raw };
        is = record {
          id = refl;
          recorded = refl;
          changes = refl;
          settings = are.settings;
          caller = are.caller;
          superior = lasting-superior (superior_of c.enlistments c.transaction.id) parts.superior are.superior;
        };
        events = subst (λ (es : List Event). AreRecordedEvents es (events_ahead steps (record (basis c) { changes = raw }))) (sym same) (law.events steps (basis c) raw each);
        record_of = subst (IsRecordOf s (events_ahead steps (record (basis c) { changes = raw }))) (sym same) (course-recorded s steps (basis c) raw mean.means mean.paged mean.some);
      }
