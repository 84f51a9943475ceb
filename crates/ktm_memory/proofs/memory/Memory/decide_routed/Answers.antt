use Rattle.std.proofs.Common.{◌≤◌, List, [], Some, Result, Ok, Err, IfOk, sum_by, refl, sym, ap, subst, arith}
use Rattle.ktm_each.specs.Each.{EachOfGroup}
use Rattle.ktm_memory.proofs.RulesRouted.{manager_rules, quiet_rules}
use Rattle.ktm_memory.specs.Rules.{Follows}
use Rattle.txf_volume.specs.Held.{files_of}
use Rattle.std.proofs.lemmas.Result.{IfOk-weaker}
use Rattle.ktm_event.specs.Kept.{EventsState, Holds}
use Rattle.ktm_records.proofs.offered.AgreementOfCourses.{arrival}
use Rattle.ktm_tm.specs.Courses.{caller_of}
use Rattle.ktm_world.specs.Sizes.{event_size}
use Rattle.ktm_world.specs.declared.event.Event.{Event}
use Rattle.ktm_world.specs.Enlistments.{enlistment_at, manager_at}
use Rattle.ktm_memory.specs.Memory.{held, present_of}
use Rattle.ktm_memory.specs.Routed.{course_to, outcome_of, reply_to}
use Rattle.ktm_memory.specs.declared.routed.Routed.TheVariants.{Course, Create, Files, Handles, Inform, Information, MakeManager, Take, Tell}
use Rattle.ktm_world.specs.TransactionCalls.{get_transaction_information}
use Rattle.ktm_memory.proofs.Decides.{information_is}
use Rattle.ktm_memory.proofs.offered.Granted.{course_none, create_none, files_none, inform_none, information_none, labels_none, manager_none, none_wanted, note_none, recovery_wanted, refuse_none, told_none}
use Rattle.ktm_memory.proofs.ObjectsDecided.{inform_decided}
use Rattle.ktm_memory.proofs.offered.Decided.{only_decided}
use Rattle.ktm_memory.proofs.offered.Takes.{from_not}
use Rattle.ktm_memory.proofs.memory.Memory.decide_routed.Goals as goal

-- what holds of each value holds of the one that there is
ok_all : {T E : Type 0} (Q : T → Type 0) → ((t : T) → Q t) → (r : Result T E) → IfOk r Q
ok_all Q f (Ok t) = f t
ok_all Q f (Err e) = tt

-- what holds of a value with each empty list holds with this one
with_list : {T E : Type 0} (Q : EventsState → T → Type 0) (events : EventsState) → Holds events [] → (r : Result T E) → IfOk r (λ t. (es : EventsState) → Holds es [] → Q es t) → IfOk r (Q events)
with_list Q events empty r all = IfOk-weaker r (λ t. (es : EventsState) → Holds es [] → Q es t) (Q events) (λ t so. so events empty) all

-- and so it does with each process and each empty list
with_process : {T P E : Type 0} (Q : EventsState → P → T → Type 0) (events : EventsState) (process : P) → Holds events [] → (r : Result T E) → IfOk r (λ t. (p : P) (es : EventsState) → Holds es [] → Q es p t) → IfOk r (Q events process)
with_process {P = P} Q events process empty r all = IfOk-weaker r (λ t. (p : P) (es : EventsState) → Holds es [] → Q es p t) (Q events process) (λ t so. so process events empty) all

pub returns-in-Create-clause-ok : goal.returns-in-Create-clause-ok
returns-in-Create-clause-ok c = rw c.in-Create.is (with_list _ c.args.events.now c.requires.empty c.decide_create.result c.decide_create.ensures.ok)

pub returns-in-Course-clause-ok : goal.returns-in-Course-clause-ok
returns-in-Course-clause-ok c = rw c.in-Course.is (c.decide_course.ensures.decided c.args.process)

pub returns-in-Information-clause-ok : goal.returns-in-Information-clause-ok
returns-in-Information-clause-ok c =
    let x = present_of c.args.self.now in
    rw (c.in-Information.is, c.requires.nothing)
    (only_decided c.args.self.now (get_transaction_information x (Some c.in-Information.t)) _ c.args.events.now
    (information_is x c.in-Information.t _ c.information.ensures) c.requires.empty)

pub returns-in-Recover-clause-ok : goal.returns-in-Recover-clause-ok
returns-in-Recover-clause-ok c = rw c.in-Recover.is (with_process _ c.args.events.now c.args.process c.requires.empty c.decide_recovery.result c.decide_recovery.ensures.ok)

pub returns-in-Take-clause-ok : goal.returns-in-Take-clause-ok
returns-in-Take-clause-ok c = rw c.in-Take.is (c.decide_note.ensures c.args.process c.args.events.now c.requires.empty)

pub returns-in-Enlist-clause-ok : goal.returns-in-Enlist-clause-ok
returns-in-Enlist-clause-ok c = rw c.in-Enlist.is (with_list _ c.args.events.now c.requires.empty c.decide_enlistment.result c.decide_enlistment.ensures.ok)

pub returns-in-Inform-clause-ok : goal.returns-in-Inform-clause-ok
returns-in-Inform-clause-ok c = rw c.in-Inform.is (inform_decided c.args.self.now c.in-Inform.enlistment c.in-Inform.information c.args.events.now c.requires.empty)

pub returns-in-Tell-clause-ok : goal.returns-in-Tell-clause-ok
returns-in-Tell-clause-ok c = rw (c.in-Tell.is, c.requires.nothing) (with_process _ c.args.events.now c.args.process c.requires.empty c.decide_told.result c.decide_told.ensures)

pub returns-in-Handles-clause-ok : goal.returns-in-Handles-clause-ok
returns-in-Handles-clause-ok c = rw c.in-Handles.is (with_list _ c.args.events.now c.requires.empty c.decide_labels.result c.decide_labels.ensures.ok)

pub returns-in-Keys-clause-ok : goal.returns-in-Keys-clause-ok
returns-in-Keys-clause-ok c = rw (c.in-Keys.is, c.requires.nothing) (with_list _ c.args.events.now c.requires.empty c.decide_keys.result c.decide_keys.ensures.ok)

pub returns-in-Create-clause-enough : goal.returns-in-Create-clause-enough
returns-in-Create-clause-enough c = rw c.in-Create.is c.decide_create.ensures.enough

pub returns-in-Handles-clause-enough : goal.returns-in-Handles-clause-enough
returns-in-Handles-clause-enough c = rw c.in-Handles.is c.decide_labels.ensures.enough

pub returns-in-Files-clause-enough : goal.returns-in-Files-clause-enough
returns-in-Files-clause-enough c = rw c.in-Files.is c.decide_files.ensures.enough

pub returns-in-Keys-clause-enough : goal.returns-in-Keys-clause-enough
returns-in-Keys-clause-enough c = rw c.in-Keys.is (λ none. c.decide_keys.ensures.enough (from_not _ none))

pub returns-in-Create-clause-slots : goal.returns-in-Create-clause-slots
returns-in-Create-clause-slots c = rw c.in-Create.is (ok_all _ (λ d. none_wanted (present_of c.args.self.now) (outcome_of (present_of c.args.self.now) c.args.process (Create c.in-Create.label c.in-Create.timeout)) _ _ (refuse_none (present_of c.args.self.now) _ _ (create_none (present_of c.args.self.now) c.args.process c.in-Create.label c.in-Create.timeout)) c.decide_create.ensures.slots) c.decide_create.result)

pub returns-in-Course-clause-slots : goal.returns-in-Course-clause-slots
returns-in-Course-clause-slots c = rw c.in-Course.is (none_wanted (present_of c.args.self.now) (outcome_of (present_of c.args.self.now) c.args.process (Course c.in-Course.transaction c.in-Course.caller c.in-Course.input)) _ _ (course_none (present_of c.args.self.now) c.in-Course.transaction (caller_of c.args.self.now.tm.now.enlistments c.in-Course.caller) c.in-Course.input _) (omega arith))

pub returns-in-Information-clause-slots : goal.returns-in-Information-clause-slots
returns-in-Information-clause-slots c = rw c.in-Information.is (none_wanted (present_of c.args.self.now) (outcome_of (present_of c.args.self.now) c.args.process (Information c.in-Information.t)) _ _ (information_none (present_of c.args.self.now) _) (omega arith))

pub returns-in-MakeManager-clause-slots : goal.returns-in-MakeManager-clause-slots
returns-in-MakeManager-clause-slots c = rw c.in-MakeManager.is (ok_all _ (λ d. none_wanted (present_of c.args.self.now) (outcome_of (present_of c.args.self.now) c.args.process (MakeManager c.in-MakeManager.label c.in-MakeManager.durability)) _ _ (refuse_none (present_of c.args.self.now) _ _ (manager_none (present_of c.args.self.now) c.args.process c.in-MakeManager.label c.in-MakeManager.durability)) c.decide_manager.ensures.slots) c.decide_manager.result)

pub returns-in-Recover-clause-slots : goal.returns-in-Recover-clause-slots
returns-in-Recover-clause-slots c = rw c.in-Recover.is (IfOk-weaker c.decide_recovery.result _ _ (λ d more. recovery_wanted (present_of c.args.self.now) c.in-Recover.manager _ _ more) c.decide_recovery.ensures.slots)

pub returns-in-Take-clause-slots : goal.returns-in-Take-clause-slots
returns-in-Take-clause-slots c = rw c.in-Take.is (none_wanted (present_of c.args.self.now) (outcome_of (present_of c.args.self.now) c.args.process (Take c.in-Take.manager)) _ _ (refuse_none (present_of c.args.self.now) _ _ (note_none (present_of c.args.self.now) (manager_at c.args.self.now.tm.managers c.in-Take.manager))) (omega arith))

pub returns-in-Enlist-clause-slots : goal.returns-in-Enlist-clause-slots
returns-in-Enlist-clause-slots c = rw c.in-Enlist.is c.decide_enlistment.ensures.slots

pub returns-in-Inform-clause-slots : goal.returns-in-Inform-clause-slots
returns-in-Inform-clause-slots c = rw c.in-Inform.is (none_wanted (present_of c.args.self.now) (outcome_of (present_of c.args.self.now) c.args.process (Inform c.in-Inform.enlistment c.in-Inform.information)) _ _ (inform_none (present_of c.args.self.now) (enlistment_at c.args.self.now.tm.now.enlistments c.in-Inform.enlistment) c.in-Inform.information) (omega arith))

pub returns-in-Tell-clause-slots : goal.returns-in-Tell-clause-slots
returns-in-Tell-clause-slots c = rw c.in-Tell.is (ok_all _ (λ d. none_wanted (present_of c.args.self.now) (outcome_of (present_of c.args.self.now) c.args.process (Tell c.in-Tell.enlistment)) _ _ (told_none (present_of c.args.self.now) (enlistment_at c.args.self.now.tm.now.enlistments c.in-Tell.enlistment)) (omega arith)) c.decide_told.result)

pub returns-in-Handles-clause-slots : goal.returns-in-Handles-clause-slots
returns-in-Handles-clause-slots c = rw c.in-Handles.is (ok_all _ (λ d. none_wanted (present_of c.args.self.now) (outcome_of (present_of c.args.self.now) c.args.process (Handles c.in-Handles.labels)) _ _ (refuse_none (present_of c.args.self.now) _ _ (labels_none (present_of c.args.self.now) c.args.process c.in-Handles.labels)) c.decide_labels.ensures.slots) c.decide_labels.result)

pub returns-in-Files-clause-slots : goal.returns-in-Files-clause-slots
returns-in-Files-clause-slots c = rw c.in-Files.is (ok_all _ (λ d. none_wanted (present_of c.args.self.now) (outcome_of (present_of c.args.self.now) c.args.process (Files c.in-Files.who c.in-Files.label c.in-Files.call)) _ _ (files_none (present_of c.args.self.now) c.args.process c.in-Files.who c.in-Files.label _) c.decide_files.ensures.slots) c.decide_files.result)

pub decide_course-requires-clause-fits : goal.decide_course-requires-clause-fits
decide_course-requires-clause-fits c =
    let x = present_of c.args.self.now in
    let d = course_to x c.in-Course.transaction c.in-Course.caller c.in-Course.input in
    subst (λ (es : List Event). sum_by event_size es ≤ c.args.events.now.spare) (arrival x d (reply_to c.in-Course.input d)).events (rw c.in-Course.is at c.requires.fits)

-- ---- rules

pub returns-in-Create-clause-rules : goal.returns-in-Create-clause-rules
returns-in-Create-clause-rules c = rw c.in-Create.is (IfOk-weaker c.decide_create.result _ _ (λ d so. quiet_rules _ (held c.args.self.now) _ _ _ c.args.events.now c.decide_create.new.self (so c.args.events.now c.requires.empty) c.requires.empty (ap files_of c.decide_create.ensures.files)) c.decide_create.ensures.ok)

pub returns-in-Course-clause-rules : goal.returns-in-Course-clause-rules
returns-in-Course-clause-rules c =
    let x = present_of c.args.self.now in
    let d = course_to x c.in-Course.transaction c.in-Course.caller c.in-Course.input in
    rw c.in-Course.is (λ rule none each puts. let all = c.decide_course.ensures.rules rule none each tt in (subst (EachOfGroup (Follows rule)) (sym (arrival x d (reply_to c.in-Course.input d)).events) all.0, all.1))

pub returns-in-Information-clause-rules : goal.returns-in-Information-clause-rules
returns-in-Information-clause-rules c =
    let x = present_of c.args.self.now in
    rw c.in-Information.is (quiet_rules _ (held c.args.self.now) _ _ _ c.args.events.now c.args.self.now
    (only_decided c.args.self.now (get_transaction_information x (Some c.in-Information.t)) _ c.args.events.now
    (information_is x c.in-Information.t _ c.information.ensures) c.requires.empty) c.requires.empty refl)

pub returns-in-MakeManager-clause-rules : goal.returns-in-MakeManager-clause-rules
returns-in-MakeManager-clause-rules c = rw c.in-MakeManager.is (ok_all _ (λ d. manager_rules _ (held c.args.self.now) c.args.process c.in-MakeManager.label c.in-MakeManager.durability _ c.decide_manager.new.self (ap files_of c.decide_manager.ensures.files)) c.decide_manager.result)

pub returns-in-Recover-clause-rules : goal.returns-in-Recover-clause-rules
returns-in-Recover-clause-rules c = rw c.in-Recover.is (IfOk-weaker c.decide_recovery.result _ _ (λ d so. quiet_rules _ (held c.args.self.now) _ _ _ c.args.events.now c.decide_recovery.new.self (so c.args.process c.args.events.now c.requires.empty) c.requires.empty (ap files_of c.decide_recovery.ensures.files)) c.decide_recovery.ensures.ok)

pub returns-in-Take-clause-rules : goal.returns-in-Take-clause-rules
returns-in-Take-clause-rules c = rw c.in-Take.is (quiet_rules _ (held c.args.self.now) _ _ _ c.args.events.now c.args.self.now (c.decide_note.ensures c.args.process c.args.events.now c.requires.empty) c.requires.empty refl)

pub returns-in-Enlist-clause-rules : goal.returns-in-Enlist-clause-rules
returns-in-Enlist-clause-rules c = rw c.in-Enlist.is (IfOk-weaker c.decide_enlistment.result _ _ (λ d so. quiet_rules _ (held c.args.self.now) _ _ _ c.args.events.now c.decide_enlistment.new.self (so c.args.events.now c.requires.empty) c.requires.empty (ap files_of c.decide_enlistment.ensures.files)) c.decide_enlistment.ensures.ok)

pub returns-in-Inform-clause-rules : goal.returns-in-Inform-clause-rules
returns-in-Inform-clause-rules c = rw c.in-Inform.is (quiet_rules _ (held c.args.self.now) _ _ _ c.args.events.now c.args.self.now (inform_decided c.args.self.now c.in-Inform.enlistment c.in-Inform.information c.args.events.now c.requires.empty) c.requires.empty refl)

pub returns-in-Tell-clause-rules : goal.returns-in-Tell-clause-rules
returns-in-Tell-clause-rules c = rw c.in-Tell.is (IfOk-weaker c.decide_told.result _ _ (λ d so. quiet_rules _ (held c.args.self.now) _ _ _ c.args.events.now c.args.self.now (so c.args.process c.args.events.now c.requires.empty) c.requires.empty refl) c.decide_told.ensures)

pub returns-in-Handles-clause-rules : goal.returns-in-Handles-clause-rules
returns-in-Handles-clause-rules c = rw c.in-Handles.is (IfOk-weaker c.decide_labels.result _ _ (λ d so. quiet_rules _ (held c.args.self.now) _ _ _ c.args.events.now c.decide_labels.new.self (so c.args.events.now c.requires.empty) c.requires.empty (ap files_of c.decide_labels.ensures.files)) c.decide_labels.ensures.ok)

pub returns-in-Keys-clause-rules : goal.returns-in-Keys-clause-rules
returns-in-Keys-clause-rules c = rw c.in-Keys.is (IfOk-weaker c.decide_keys.result _ _ (λ d so. quiet_rules _ (held c.args.self.now) _ _ _ c.args.events.now c.decide_keys.new.self (so c.args.events.now c.requires.empty) c.requires.empty (ap files_of c.decide_keys.ensures.files)) c.decide_keys.ensures.ok)

pub returns-in-Files-clause-rules : goal.returns-in-Files-clause-rules
returns-in-Files-clause-rules c = rw c.in-Files.is c.decide_files.ensures.rules
