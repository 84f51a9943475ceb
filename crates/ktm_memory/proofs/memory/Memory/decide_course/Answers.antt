use Rattle.std.proofs.Common.{ℕ, ◌≤◌, All, List, length, sum_by, sym, ap, subst, arith}
use Rattle.ktm_event.specs.Spelling.{IsSpellableEvent}
use Rattle.ktm_tm.specs.Courses.{caller_of}
use Rattle.ktm_trace.proofs.offered.Rooms.{steps_room-less}
use Rattle.ktm_trace.specs.Contents.{KeptLaw}
use Rattle.ktm_trace.specs.Few.{AreFew}
use Rattle.ktm_trace.specs.Recordings.{steps_room}
use Rattle.ktm_trace.specs.declared.room.TheConstants.{MOST_NOTED}
use Rattle.ktm_world.specs.Sizes.{event_size}
use Rattle.ktm_world.specs.declared.step.Step.{Step}
use Rattle.ktm_world.specs.TransactionCalls.{course_of}
use Rattle.ktm_memory.specs.Decided.{HoldsRecordOf}
use Rattle.ktm_memory.specs.Memory.{MemoryState, course_then, present_of}
use Rattle.ktm_memory.specs.Rules.{Follows}
use Rattle.ktm_memory.proofs.offered.Following.{course-each}
use Rattle.ktm_memory.proofs.offered.Standing.{own_spelled}
use Rattle.ktm_memory.proofs.CourseDecided.{IsSeenIn, course_decided, course_is_spelled, course_size, few_traces, shows_present}
use Rattle.ktm_memory.proofs.memory.Memory.decide_course.Goals as goal
use Rattle.ktm_memory.proofs.memory.Memory.decide_course.Goals.{After-as_slice}

module _ (c : After-as_slice) where
  abbrev m : MemoryState
  m = c.args.self.now

  abbrev kept : KeptLaw
  kept = c.law_of_kept.ensures

  sees : IsSeenIn m c.args.t c.seen-seen.result
  sees = λ x e shows. c.seen-seen.ensures x e shows

  few : AreFew m.trace
  few = few_traces kept c.law_of_few.ensures m (c.law_of_kept-2.ensures (present_of m) c.requires.standing).good

  -- the steps of a row are few
  noted : steps_room c.step-steps.result.items ≤ MOST_NOTED
  noted = let less = steps_room-less c.step-steps.result.items in let fits = c.as_slice.ensures.fits in omega (arith, less, fits, ap (λ (ss : List Step). length ss) c.as_slice.ensures.value)

pub record_course-requires-clause-spelled : goal.record_course-requires-clause-spelled
record_course-requires-clause-spelled c =
    let d = (goal.at.record_course-requires-clause-spelled c).After-as_slice in
    subst (λ (ss : List Step). All IsSpellableEvent (course_then (present_of (m d)) d.args.t d.args.caller ss).events) (sym d.as_slice.ensures.value)
    (course_is_spelled (kept d) (m d) d.args.t d.args.caller d.args.input d.step-steps.result d.seen-seen.result (sees d) d.step-steps.ensures.row d.requires.ready)

pub record_course-requires-clause-fits : goal.record_course-requires-clause-fits
record_course-requires-clause-fits c =
    let d = (goal.at.record_course-requires-clause-fits c).After-as_slice in
    let same = course_size (kept d) (m d) d.args.t d.args.caller d.args.input d.step-steps.result d.seen-seen.result (sees d) d.step-steps.ensures.row in
    subst (λ (ss : List Step). sum_by event_size (course_then (present_of (m d)) d.args.t d.args.caller ss).events ≤ d.args.events.now.spare) (sym d.as_slice.ensures.value)
    (subst (λ (n : ℕ). n ≤ d.args.events.now.spare) (sym same) d.requires.fits)

pub returns-clause-decided : goal.returns-clause-decided
returns-clause-decided c =
    let d = (goal.at.returns-clause-decided c).After-as_slice in
    λ process.
    course_decided (kept d) (m d) d.args.t d.args.caller d.args.input d.step-steps.result d.seen-seen.result (sees d) d.step-steps.ensures.row d.law_of_events_ahead.ensures c.reply_to.result c.record_course.new.events
    (let e = caller_of (m d).tm.now.enlistments d.args.caller in c.reply_to.ensures (course_of (present_of (m d)) d.args.t e) (sees d (present_of (m d)) e (shows_present (kept d) (m d))))
    (subst (λ (ss : List Step). HoldsRecordOf (present_of (m d)).recorded c.record_course.new.events (course_then (present_of (m d)) d.args.t d.args.caller ss).events) d.as_slice.ensures.value c.record_course.ensures.records)
    d.requires.ready (few d) (noted d)

pub record_course-requires-clause-own : goal.record_course-requires-clause-own
record_course-requires-clause-own c = (own_spelled (present_of c.args.self.now) c.requires.standing c.args.t.id).each

pub returns-clause-rules : goal.returns-clause-rules
returns-clause-rules c = λ rule none each puts. (course-each (Follows rule) c.law_of_events_ahead.ensures (present_of c.args.self.now) c.args.t c.args.caller c.args.input each, each)
