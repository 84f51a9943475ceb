use Rattle.std.proofs.Common.{◌≡◌, ℕ, ◌≤◌, Bool, List, Option, Some, Result, Ok, Err, sum_by, ap, sym, subst, ◌∙◌}
use Rattle.std.specs.Prelude.{IfOk, IfSome}
use Rattle.std.proofs.lemmas.Result.{IfOk-weaker}
use Rattle.ktm_base.specs.declared.id.Id.{Id}
use Rattle.ktm_base.specs.declared.id.Label.{Label}
use Rattle.ktm_base.specs.declared.id.Pid.{Pid}
use Rattle.ktm_each.proofs.offered.Files.{files_after-each}
use Rattle.ktm_each.specs.Each.{EachOfChange, EachOfFiles, EachOfGroup}
use Rattle.ktm_standing.specs.Files.{MayMake}
use Rattle.ktm_world.specs.Sizes.{event_size}
use Rattle.ktm_world.specs.declared.event.Event.{Event}
use Rattle.ktm_world.specs.Decide.{events_of}
use Rattle.ktm_world.specs.FileOutcome.{FileOutcome, files_after}
use Rattle.ktm_world.specs.Files.{bytes_seen}
use Rattle.ktm_world.specs.Present.{Present}
use Rattle.ktm_world.specs.Uses.{file_room}
use Rattle.txf_calls.specs.Calls.{file_outcome}
use Rattle.txf_calls.specs.declared.call.FileCall.{FileCall}
use Rattle.txf_tree.specs.UnitChanges.{CanBeMadeOver}
use Rattle.ktm_world.specs.Outcome.{only_reply}
use Rattle.txf_laws.specs.FileEffects.{IsOrderly}
use Rattle.txf_volume.specs.Held.{files_of}
use Rattle.ktm_world.specs.declared.reply.Reply.{Reply}
use Rattle.ktm_memory.specs.Decided.{CanAnswer, Decides}
use Rattle.ktm_memory.specs.Memory.{held, present_of}
use Rattle.ktm_memory.specs.Opening.{files_outcome}
use Rattle.ktm_memory.specs.Routed.{IsReadyCall}
use Rattle.ktm_memory.specs.Rules.{CallPutsBy, Follows, KeepsRules}
use Rattle.ktm_memory.specs.Units.{CanBeRecordedIf}
use Rattle.ktm_memory.proofs.FilesFollow.{outcome_can, outcome_puts, outcome_records, puts_event}
use Rattle.ktm_memory.proofs.offered.Decided.{only_decided}
use Rattle.ktm_memory.proofs.offered.Opening.{events_in}
use Rattle.ktm_memory.proofs.FilesDecided.{may_make, planned, quiet_outcome}
use Rattle.ktm_memory.proofs.offered.Takes.{gave_up, only_answers, quick_decision}
use Rattle.ktm_memory.proofs.memory.Memory.decide_files.Goals as goal

-- what a call records follows the rule that what it puts follows
call_events : (rule : ℕ → ℕ → ℕ → Bool) (x : Present) (process : Pid) (who : Option Id) (label : Option Label) (call : FileCall) → CallPutsBy rule call
    → EachOfGroup (Follows rule) (files_outcome x process who label (file_outcome x.files (file_room x) who call)).events
call_events rule x process who label call puts =
    let o = file_outcome x.files (file_room x) who call in
    subst (EachOfGroup (Follows rule)) (sym (events_in x process who label o)) (puts_event rule who o.change (outcome_puts rule x.files (file_room x) who call puts))

-- what holds of each value holds of the one that there is
ok_all : {T E : Type 0} (Q : T → Type 0) → ((t : T) → Q t) → (r : Result T E) → IfOk r Q
ok_all Q f (Ok t) = f t
ok_all Q f (Err e) = tt

pub decide-requires-clause-orderly : goal.decide-requires-clause-orderly
decide-requires-clause-orderly c =
    subst (λ m. IsOrderly (files_of m.files)) (sym c.self.view_is) (c.law_of_files.ensures.orderly (present_of c.args.self.now) c.requires.standing)

pub returns-then-changes_nothing-clause-ok : goal.returns-then-changes_nothing-clause-ok
returns-then-changes_nothing-clause-ok c =
    let x = present_of c.args.self.now in
    let plan = planned (held c.args.self.now) _ _ c.args.who c.args.call c.in_ok-plan.plan c.in_ok-plan.ensures.plan c.file_room-room.ensures (ap (λ m. files_of m.files) c.self.view_is) in
    let quiet = quiet_outcome x c.args.process c.args.who c.args.label c.in_ok-plan.plan (sym c.changes_nothing.ensures ∙ c.if-changes_nothing.true) in
    let reply = ap (λ (p : FileOutcome). p.reply) c.plan.view_is in
    rw c.requires.nothing
    (only_decided c.args.self.now _ c.plan.inside.reply c.args.events.now
    (ap (files_outcome x c.args.process c.args.who c.args.label) (sym plan) ∙ quiet ∙ ap (only_reply x) (sym reply)) c.requires.empty)

pub decide_plain-requires-clause-may : goal.decide_plain-requires-clause-may
decide_plain-requires-clause-may c =
    let x = present_of c.args.self.now in
    let plan = planned (held c.args.self.now) _ _ c.args.who c.args.call c.in_ok-plan.plan c.in_ok-plan.ensures.plan c.file_room-room.ensures (ap (λ m. files_of m.files) c.self.view_is) in
    subst (λ who. MayMake x who c.in_ok-plan.plan) c.in-None.is
    (may_make x c.args.process c.args.who c.args.label c.args.call c.args.extent c.in_ok-plan.plan c.requires.ready plan (sym c.changes_nothing.ensures ∙ c.if-changes_nothing.false)).0

pub decide_plain-requires-clause-units : goal.decide_plain-requires-clause-units
decide_plain-requires-clause-units c =
    let x = present_of c.args.self.now in
    let plan = planned (held c.args.self.now) _ _ c.args.who c.args.call c.in_ok-plan.plan c.in_ok-plan.ensures.plan c.file_room-room.ensures (ap (λ m. files_of m.files) c.self.view_is) in
    subst (λ who. IfSome c.in_ok-plan.plan.change (CanBeMadeOver (bytes_seen x.files who))) c.in-None.is
    (subst (λ (p : FileOutcome). IfSome p.change (CanBeMadeOver (bytes_seen x.files c.args.who))) (sym plan) (outcome_can x c.args.process c.args.who c.args.label c.args.call c.args.extent c.requires.ready))

pub decide_plain-requires-clause-can : goal.decide_plain-requires-clause-can
decide_plain-requires-clause-can c =
    let x = present_of c.args.self.now in
    let plan = planned (held c.args.self.now) _ _ c.args.who c.args.call c.in_ok-plan.plan c.in_ok-plan.ensures.plan c.file_room-room.ensures (ap (λ m. files_of m.files) c.self.view_is) in
    subst (λ (p : FileOutcome). CanBeRecordedIf x.files.tree p.change c.args.extent) (sym (plan ∙ ap (λ (who : Option Id). file_outcome x.files (file_room x) who c.args.call) c.in-None.is))
    (outcome_records x c.args.process c.args.label c.args.call c.args.extent (subst (λ (who : Option Id). IsReadyCall x c.args.process who c.args.label c.args.call c.args.extent) c.in-None.is c.requires.ready))

pub decide_own-requires-clause-units : goal.decide_own-requires-clause-units
decide_own-requires-clause-units c =
    let x = present_of c.args.self.now in
    let plan = planned (held c.args.self.now) _ _ c.args.who c.args.call c.in_ok-plan.plan c.in_ok-plan.ensures.plan c.file_room-room.ensures (ap (λ m. files_of m.files) c.self.view_is) in
    subst (λ who. IfSome c.in_ok-plan.plan.change (CanBeMadeOver (bytes_seen x.files who))) c.in-Some.is
    (subst (λ (p : FileOutcome). IfSome p.change (CanBeMadeOver (bytes_seen x.files c.args.who))) (sym plan) (outcome_can x c.args.process c.args.who c.args.label c.args.call c.args.extent c.requires.ready))

pub returns-then-changes_nothing-clause-rules : goal.returns-then-changes_nothing-clause-rules
returns-then-changes_nothing-clause-rules c = λ rule none each puts.
    let x = present_of c.args.self.now in
    (call_events rule x c.args.process c.args.who c.args.label c.args.call puts, each)

pub returns-in-Some-clause-rules : goal.returns-in-Some-clause-rules
returns-in-Some-clause-rules c =
    let x = present_of c.args.self.now in
    let plan = planned (held c.args.self.now) _ _ c.args.who c.args.call c.in_ok-plan.plan c.in_ok-plan.ensures.plan c.file_room-room.ensures (ap (λ m. files_of m.files) c.self.view_is) in
    IfOk-weaker c.decide_own.result (λ d. files_of c.decide_own.new.self.files ≡ files_after (files_of c.args.self.now.files) (Some c.in-Some.id) c.in_ok-plan.plan) _
    (λ (reply : Reply) so rule none each puts. (
      call_events rule x c.args.process c.args.who c.args.label c.args.call puts,
      subst (EachOfFiles (Follows rule)) (sym so)
          (files_after-each (Follows rule) none (files_of c.args.self.now.files) (Some c.in-Some.id) c.in_ok-plan.plan each
          (subst (λ (p : FileOutcome). IfSome p.change (EachOfChange (Follows rule))) (sym plan) (outcome_puts rule x.files (file_room x) c.args.who c.args.call puts))),
    ))
    c.decide_own.ensures.files

pub returns-in-None-clause-rules : goal.returns-in-None-clause-rules
returns-in-None-clause-rules c =
    let x = present_of c.args.self.now in
    ok_all (λ (reply : Reply). KeepsRules (λ rule. CallPutsBy rule c.args.call) (files_of c.args.self.now.files) (files_outcome x c.args.process c.args.who c.args.label (file_outcome x.files (file_room x) c.args.who c.args.call)).events (files_of c.decide_plain.new.self.files))
    (λ reply rule none each puts. (call_events rule x c.args.process c.args.who c.args.label c.args.call puts, subst (EachOfFiles (Follows rule)) (sym c.decide_plain.ensures.files) each)) c.decide_plain.result

pub decide_plain-requires-clause-answers : goal.decide_plain-requires-clause-answers
decide_plain-requires-clause-answers c =
    let x = present_of c.args.self.now in
    let plan = planned (held c.args.self.now) _ _ c.args.who c.args.call c.in_ok-plan.plan c.in_ok-plan.ensures.plan c.file_room-room.ensures (ap (λ m. files_of m.files) c.self.view_is) in
    subst (λ who. CanAnswer who c.in_ok-plan.plan) c.in-None.is
    (may_make x c.args.process c.args.who c.args.label c.args.call c.args.extent c.in_ok-plan.plan c.requires.ready plan (sym c.changes_nothing.ensures ∙ c.if-changes_nothing.false)).1

pub decide_plain-requires-clause-fits : goal.decide_plain-requires-clause-fits
decide_plain-requires-clause-fits c =
    let x = present_of c.args.self.now in
    let plan = planned (held c.args.self.now) _ _ c.args.who c.args.call c.in_ok-plan.plan c.in_ok-plan.ensures.plan c.file_room-room.ensures (ap (λ m. files_of m.files) c.self.view_is) in
    let are =
    ap (λ (o : FileOutcome). (files_outcome x c.args.process c.args.who c.args.label o).events) (sym plan) ∙ events_in x c.args.process c.args.who c.args.label c.in_ok-plan.plan
    ∙ ap (λ (who : Option Id). events_of who c.in_ok-plan.plan.change) c.in-None.is in
    subst (λ (es : List Event). sum_by event_size es ≤ c.args.events.now.spare) are c.requires.fits

pub returns-in-Some-clause-ok : goal.returns-in-Some-clause-ok
returns-in-Some-clause-ok c =
    let x = present_of c.args.self.now in
    let plan = planned (held c.args.self.now) _ _ c.args.who c.args.call c.in_ok-plan.plan c.in_ok-plan.ensures.plan c.file_room-room.ensures (ap (λ m. files_of m.files) c.self.view_is) in
    IfOk-weaker c.decide_own.result _ _
    (λ (reply : Reply) so.
    subst (λ o. Decides (held c.args.self.now) (files_outcome x c.args.process c.args.who c.args.label o) reply c.decide_own.new.settlement c.args.events.now c.decide_own.new.self) plan
    (subst (λ who. Decides (held c.args.self.now) (files_outcome x c.args.process who c.args.label c.in_ok-plan.plan) reply c.decide_own.new.settlement c.args.events.now c.decide_own.new.self) (sym c.in-Some.is)
    (so c.args.events.now c.requires.empty)))
    c.decide_own.ensures.ok

pub returns-in_err-plan-clause-enough : goal.returns-in_err-plan-clause-enough
returns-in_err-plan-clause-enough c = λ none. gave_up (c.in_err-plan.ensures.enough (quick_decision (present_of c.args.self.now) c.args.who c.args.call none))

pub returns-in-Some-clause-enough : goal.returns-in-Some-clause-enough
returns-in-Some-clause-enough c = λ none.
    let x = present_of c.args.self.now in
    let plan = planned (held c.args.self.now) _ _ c.args.who c.args.call c.in_ok-plan.plan c.in_ok-plan.ensures.plan c.file_room-room.ensures (ap (λ m. files_of m.files) c.self.view_is) in
    absurd (only_answers x c.args.who c.args.call none c.in_ok-plan.plan plan (sym c.changes_nothing.ensures ∙ c.if-changes_nothing.false))

pub returns-in-None-clause-enough : goal.returns-in-None-clause-enough
returns-in-None-clause-enough c = λ none.
    let x = present_of c.args.self.now in
    let plan = planned (held c.args.self.now) _ _ c.args.who c.args.call c.in_ok-plan.plan c.in_ok-plan.ensures.plan c.file_room-room.ensures (ap (λ m. files_of m.files) c.self.view_is) in
    absurd (only_answers x c.args.who c.args.call none c.in_ok-plan.plan plan (sym c.changes_nothing.ensures ∙ c.if-changes_nothing.false))
