use Rattle.std.proofs.Common.{◌≡◌, ℕ, ◌≤◌, All, filter, List, [], sum_by, refl, sym, ap, subst, ◌∙◌}
use Rattle.ktm_course.proofs.offered.Bases.{same_events}
use Rattle.ktm_event.specs.OnPages.{AreEach, IsRecordedChange}
use Rattle.ktm_course.specs.Recorded.{IsBasis}
use Rattle.ktm_course.specs.declared.parts.Parts.{Parts}
use Rattle.ktm_event.specs.Spelling.{IsRecordableChange, IsSpellableEvent}
use Rattle.ktm_event.specs.Work.{FinalFile, changes_of as recorded_changes}
use Rattle.ktm_tm.specs.Courses.{caller_of}
use Rattle.ktm_world.specs.Sizes.{event_size}
use Rattle.ktm_world.specs.declared.change.Change.{Change}
use Rattle.ktm_world.specs.declared.event.Event.{Event}
use Rattle.ktm_world.specs.Files.{own_changes}
use Rattle.ktm_world.specs.Keys.{own_settings}
use Rattle.ktm_world.specs.Phases.{Course}
use Rattle.ktm_world.specs.Present.{Present}
use Rattle.ktm_world.specs.Steps.{Basis, events_ahead}
use Rattle.ktm_world.specs.TransactionCalls.{course_of}
use Rattle.txf_overlay.specs.OverlayState.{is_of_names}
use Rattle.txf_volume.specs.Held.{files_of}
use Rattle.txf_volume.specs.Shown.{shown}
use Rattle.ktm_memory.specs.Memory.{MemoryState, present_of}
use Rattle.ktm_memory.proofs.CourseRecords.{AreKnown, AreParts, known}
use Rattle.ktm_memory.proofs.WorkRecords.{AllMean, IsFinal, all-mean, names-recordable, recorded-final}
use Rattle.ktm_memory.proofs.memory.Memory.record_course.Goals as goal
use Rattle.ktm_memory.proofs.memory.Memory.record_course.Goals.{After-superior}

-- once it is known who takes part
module _ (c : After-superior) where
  abbrev x : Present
  x = present_of c.args.self.now

  abbrev course : Course
  course = course_of x c.args.t.now (caller_of x.transactions.enlistments c.args.caller)

  abbrev parts : Parts (List FinalFile)
  parts = record { names = c.names.result; files = record { ref_ptr = (c.files-1.given, 0); now = c.written-files.result }; settings = c.own_settings.result; caller = c.calling.result; superior = c.superior.result }

  are : AreParts shown course parts
  are = record {
    settings = sym (c.own_settings.ensures ∙ ap (λ (m : MemoryState). own_settings m.keys.own c.args.t.now.id) c.self.view_is);
    caller = c.calling.ensures;
    superior = c.superior.ensures;
  }

  -- what the transaction changed
  abbrev own : List Change
  own = own_changes (files_of c.args.self.now.files).table.own c.args.t.now.id

  same : (m : MemoryState) → m ≡ c.args.self.now → own_changes (files_of m.files).table.own c.args.t.now.id ≡ own
  same m is = ap (λ (m : MemoryState). own_changes (files_of m.files).table.own c.args.t.now.id) is

  names : c.names.result.now ≡ filter is_of_names own
  names = c.names.ensures ∙ ap (filter is_of_names) (same _ c.self.view_is)

  -- as it is recorded
  each : AreEach IsRecordedChange own (recorded_changes c.names.result.now (shown c.written-files.result))
  each = subst (λ (ns : List Change). AreEach IsRecordedChange own (recorded_changes ns (shown c.written-files.result))) (sym names)
      (subst (λ (cs : List Change). AreEach IsRecordedChange cs (recorded_changes (filter is_of_names cs) (shown c.written-files.result))) (same _ c.self.view_is) c.written-files.ensures)

  mean : AllMean own (recorded_changes c.names.result.now (shown c.written-files.result))
  mean = all-mean own _ each (subst (λ (ns : List Change). All IsFinal (recorded_changes ns (shown c.written-files.result))) (sym names) (recorded-final own (shown c.written-files.result))) c.requires.own

  pub are_known : AreKnown shown x.recorded course parts c.args.steps.now
  are_known = known shown c.law_of_events_ahead.ensures c.law_of_pages.ensures x.recorded course parts c.args.steps.now refl are each mean

  -- from each basis of the parts the steps record the same
  pub of_course : (b : Basis) → IsBasis shown b c.args.t.now.id c.args.t.now.is_recorded parts → events_ahead c.args.steps.now b ≡ events_ahead c.args.steps.now are_known.from
  of_course b is = same_events c.args.t.now.id parts c.args.steps.now c.args.t.now.is_recorded b are_known.from is are_known.is

pub record-requires-clause-recordable : goal.record-requires-clause-recordable
record-requires-clause-recordable c =
    let d = (goal.at.record-requires-clause-recordable c).After-superior in
    subst (All IsRecordableChange) (sym (names d)) (names-recordable (own d))

pub record-requires-clause-spelled : goal.record-requires-clause-spelled
record-requires-clause-spelled c = λ b is.
    let d = (goal.at.record-requires-clause-spelled c).After-superior in
    let k = are_known d in
    subst (All IsSpellableEvent) (sym (of_course d b is)) (c.law_of_pages.ensures.spellable _ (events_ahead c.args.steps.now k.from) k.events c.requires.spelled)

pub record-requires-clause-fits : goal.record-requires-clause-fits
record-requires-clause-fits c = λ b is.
    let d = (goal.at.record-requires-clause-fits c).After-superior in
    let k = are_known d in
    subst (λ (es : List Event). sum_by event_size es ≤ c.args.events.now.spare) (sym (of_course d b is))
    (subst (λ (n : ℕ). n ≤ c.args.events.now.spare) (sym (c.law_of_pages.ensures.sizes _ (events_ahead c.args.steps.now k.from) k.events)) c.requires.fits)

pub returns-clause-records : goal.returns-clause-records
returns-clause-records c =
    let k = are_known (goal.at.returns-clause-records c).After-superior in
    record { raw = events_ahead c.args.steps.now k.from; holds = c.record.ensures.adds k.from [] k.is c.requires.empty; is = k.record_of }
