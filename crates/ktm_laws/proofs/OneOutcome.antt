-- No transcript tells a transaction two outcomes: what is told is so in the world then, and stays so; once the machine is down each log that may be
-- found says it, and after a restart the transaction is there with the same outcome, or is of an older boot and never there again.
use Rattle.std.specs.Prelude.{if◌then◌else◌, bytes_eq, find, Contains}
use Rattle.std.proofs.Common.{◌≡◌, ℕ, zero, suc, ◌+◌, ◌<◌, ◌≤◌, ◌&&◌, ◌||◌, not, Bool, true, false, List, [], ◌∷◌, ◌++◌, length, nat_le, Option, None, Some, option_and_then, refl, sym, ◌∙◌, ap, subst, inl, inr, ◌⊎◌, arith}
use Rattle.std.proofs.lemmas.Bool.{cases_Bool, and_from, and_parts, or_cases, or_left, or_right, le-leb, leb-true, not-true, not_from_false, true≢false}
use Rattle.std.proofs.lemmas.Option.{none-some, same_Some}
use Rattle.std.specs.List.{AllByRecursion, list_any, list_all, flat_map}
use Rattle.ktm_base.specs.declared.id.Id.{Id}
use Rattle.ktm_base.specs.declared.id.Label.{Label}
use Rattle.ktm_base.specs.declared.id.ObjectKind.{ObjectKind}
use Rattle.ktm_base.specs.declared.id.Pid.{Pid}
use Rattle.ktm_base.specs.declared.notify.Notify.{Notify}
use Rattle.ktm_base.specs.declared.refusal.Refusal.TheVariants.{BadLine, MachineDown}
use Rattle.ktm_base.specs.Guid.{guid_of}
use Rattle.ktm_world.specs.declared.command.Command.{Command}
use Rattle.ktm_world.specs.declared.command.Line.{Line}
use Rattle.ktm_world.specs.declared.command.Line.TheVariants.{Tick, Cut, Crash, Restart, Process}
use Rattle.ktm_world.specs.declared.event.DonePart.{DonePart}
use Rattle.ktm_world.specs.declared.event.Event.{Event}
use Rattle.ktm_world.specs.declared.event.Event.TheVariants.{Boot, Done as DoneEvent}
use Rattle.ktm_world.specs.declared.object.Phase.{Phase}
use Rattle.ktm_world.specs.declared.object.Phase.TheVariants.{Committing, Aborting, Ended}
use Rattle.ktm_world.specs.declared.object.Transaction.{Transaction}
use Rattle.ktm_world.specs.declared.object.TransactionOutcome.{TransactionOutcome}
use Rattle.ktm_world.specs.declared.recorded.Stage.{Stage}
use Rattle.ktm_world.specs.declared.reply.Reply.{Reply}
use Rattle.ktm_world.specs.declared.reply.Reply.TheVariants.{Refused, Done, Notification}
use Rattle.ktm_world.specs.Decide.{decide, command_tests, command_effect, refusal_of}
use Rattle.ktm_world.specs.Durable.{Durable, Recorded, is_ready, is_held, is_decided, recorded_at, with_recorded, without_recorded, parts_done, finish_recorded, is_before, after_event, after_events, has_undone, stand}
use Rattle.ktm_world.specs.Enlistments.{Enlistment}
use Rattle.ktm_world.specs.Lawful.{Summary, summary_of, summary_now, summary_in, stage_in, stays}
use Rattle.ktm_world.specs.Laws.{RefusalLaw}
use Rattle.ktm_world.specs.Logs.{Group, Power, up, down, is_up, possible_by}
use Rattle.ktm_world.specs.OneOutcome.{Telling, HasOneOutcome, told_by, told_outcome, told_of_named, telling_of, tells, line_tells, goes, tellings, crash_goes, restart_goes, named_by, transaction_label, transaction_of_enlistment}
use Rattle.ktm_world.specs.Outcome.{Outcome, refuse_or, first_refusal}
use Rattle.ktm_world.specs.Present.{Present}
use Rattle.ktm_world.specs.Transactions.{same_id, is_undecided, is_committed}
use Rattle.ktm_world.specs.Transcript.{Step, answered, interrupted, found, worn, Does, CallDoes, IsAnswered, CrashDoes, StartDoes, RestartDoes, Transcript}
use Rattle.ktm_world.specs.World.{World, present, extend, decide_tick, possible_logs, with_own, done_if, own_events, own_group, is_brought_back, transaction_back, back, opened, interrupted_by, crashed}
use Rattle.ktm_world.proofs.offered.Durables.{after_events-image, stand-append}
use Rattle.txf_laws.specs.Elements.{IsIn}
use Rattle.ktm_courses.specs.Outcomes.{OutcomesStay, OutcomesLaw}
use Rattle.ktm_laws.specs.Running.{HasEventsLeft, IsRunning, LastsFor, LawfulWorldsLaw, OneOutcomeLaw}
use Rattle.ktm_courses.specs.SoundCourse.{is_counted, is_outcome_of}
use Rattle.ktm_courses.specs.SoundCourses.{CoursesLaw}
use Rattle.ktm_records.proofs.offered.Agreement.{summaries}
use Rattle.ktm_laws.proofs.offered.LogCounts.{lasts-behind, left-from}
use Rattle.txf_laws.proofs.offered.Diamonds.{IsIn-map}
use Rattle.txf_laws.proofs.offered.Elements.{IsIn-filter, IsIn-unflat, list_all-at, list_all-from, list_any-at, list_any-from}
use Rattle.ktm_laws.proofs.offered.PossibleLogs.{contains-passes, left-with, left-all, left-restart}
use Rattle.ktm_laws.proofs.Notes.{IsHonest, known, honest-decided, honest-ticked}
use Rattle.txf_laws.proofs.offered.Lists.{IsIn-unmap}
use Rattle.ktm_courses.proofs.offered.NewObjects.{counted-parts}
use Rattle.ktm_courses.proofs.offered.Moves.{same-by_id}
use Rattle.ktm_laws.proofs.Replies.{HasOutcome, named_id, enlisted_in, is_note, Replies, decided-replies}
use Rattle.ktm_courses.proofs.offered.SoundRestarts.{booted}
use Rattle.txf_laws.proofs.offered.Tables.{same_id-equal, same_id-from, recorded_at-found}
use Rattle.ktm_steps.proofs.offered.Ways.{if_cases}

-- ---- what a durable state says of an outcome that was told

-- does the state not deny that the transaction came to this outcome: it is of a boot that there was, and if it is there it is decided that it commits
abbrev may_tell : Id → Bool → Durable → Bool
may_tell id k s = nat_le id.boot s.boots && list_all (λ (r : Recorded). not (same_id r.id id) || (k && is_decided r.stage)) s.transactions

-- does a log not deny that the transaction came to this outcome
abbrev may_tell_log : World → Id → Bool → List Group → Bool
may_tell_log w id k log = may_tell id k (stand w.base log)

-- a record of the transaction, if there is one
told-of : (id : Id) (k : Bool) (s : Durable) → may_tell id k s ≡ true → (r : Recorded) → IsIn r s.transactions → r.id ≡ id → (k ≡ true) × (is_decided r.stage ≡ true)
told-of id k s may r there is = elim (or_cases (not (same_id r.id id)) (k && is_decided r.stage)
    (list_all-at (λ (r : Recorded). not (same_id r.id id) || (k && is_decided r.stage)) s.transactions (and_parts (nat_le id.boot s.boots) _ may).1 r there)) [
      | inl other ↦ absurd (true≢false (sym (same_id-from r.id id is) ∙ not-true _ other))
      | inr both ↦ and_parts k (is_decided r.stage) both
    ]

may-from : (id : Id) (k : Bool) (s : Durable) → id.boot ≤ s.boots → ((r : Recorded) → IsIn r s.transactions → r.id ≡ id → (k ≡ true) × (is_decided r.stage ≡ true)) → may_tell id k s ≡ true
may-from id k s boots each = and_from _ _ (le-leb _ _ boots) (list_all-from (λ (r : Recorded). not (same_id r.id id) || (k && is_decided r.stage)) s.transactions (λ r there. elim (cases_Bool (same_id r.id id)) [
  | inr other ↦ or_left _ _ (not_from_false _ other)
  | inl same ↦ let is = each r there (same_id-equal r.id id same) in or_right _ _ (and_from _ _ is.0 is.1)
]))

-- ---- what a restart records

-- each transaction was there before, at the same stage
record StagesCome (s t : Durable) : Type 0 where
  each : (r : Recorded) → IsIn r t.transactions → (q : Recorded) × IsIn q s.transactions × (q.id ≡ r.id) × (q.stage ≡ r.stage)

stages-then : (s t u : Durable) → StagesCome s t → StagesCome t u → StagesCome s u
stages-then s t u first second = record {
  each = λ r there.
      let q = second.each r there in
      let p = first.each q.0 q.1 in
      (p.0, p.1, p.2 ∙ q.2, p.3 ∙ q.3);
}

IsIn-with : (ts : List Recorded) (t r : Recorded) → IsIn r (with_recorded ts t) → (t ≡ r) ⊎ IsIn r ts
IsIn-with [] t r (inl is) = inl is
IsIn-with [] t r (inr none) = absurd none
IsIn-with (a ∷ ts) t r there = elim (cases_Bool (same_id a.id t.id)) [
  | inl same ↦ let there' : IsIn r (t ∷ ts) = rw same at there in elim there' [ inl is ↦ inl is | inr old ↦ inr (inr old) ]
  | inr other ↦ elim (cases_Bool (is_before t.id a.id)) [
    | inl before ↦ let there' : IsIn r (t ∷ a ∷ ts) = rw (other, before) at there in elim there' [ inl is ↦ inl is | inr old ↦ inr old ]
    | inr behind ↦
        let there' : IsIn r (a ∷ with_recorded ts t) = rw (other, behind) at there in
        elim there' [ inl is ↦ inr (inl is) | inr later ↦ elim (IsIn-with ts t r later) [ inl is ↦ inl is | inr old ↦ inr (inr old) ] ]
  ]
]

stages-done : (s : Durable) (id : Id) (done : DonePart) → StagesCome s (after_event s (DoneEvent id done))
stages-done s id done = go (recorded_at s.transactions id) refl
  where
    go : (o : Option Recorded) → recorded_at s.transactions id ≡ o → StagesCome s (record (finish_recorded s done o) { events = s.events + 1 })
    go None none = record { each = λ r there. (r, there, refl, refl) }
    go (Some t) is_there =
        let at = recorded_at-found s.transactions id t is_there in
        let u : Recorded = record t { parts = parts_done done t.parts } in
        record {
          each = λ r there. if_cases (λ ts. IsIn r ts → (q : Recorded) × IsIn q s.transactions × (q.id ≡ r.id) × (q.stage ≡ r.stage)) (list_any (λ p. not p.is_done) u.parts) (with_recorded s.transactions u) (without_recorded s.transactions u.id)
              (λ some in_them. elim (IsIn-with s.transactions u r in_them) [
                | inl is ↦ (t, at.0, ap (λ (q : Recorded). q.id) is, ap (λ (q : Recorded). q.stage) is)
                | inr old ↦ (r, old, refl, refl)
              ])
              (λ none in_them. (r, (IsIn-filter (λ (q : Recorded). not (same_id q.id u.id)) s.transactions r in_them).0, refl, refl))
              there;
        }

-- is the event that a participant is done
abbrev is_done_event : Event → Bool
is_done_event (DoneEvent transaction done) = true
is_done_event _ = false

stages-event : (s : Durable) (event : Event) → is_done_event event ≡ true → StagesCome s (after_event s event)
stages-event s (DoneEvent transaction done) is = stages-done s transaction done
stages-event s _ is = absurd (true≢false (sym is))

stages-all : (events : List Event) (s : Durable) → ((event : Event) → IsIn event events → is_done_event event ≡ true) → StagesCome s (after_events s events)
stages-all [] s all = record { each = λ r there. (r, there, refl, refl) }
stages-all (event ∷ events) s all = stages-then s (after_event s event) (after_events (after_event s event) events) (stages-event s event (all event (inl refl))) (stages-all events (after_event s event) (λ e there. all e (inr there)))

stages-own : (s : Durable) → StagesCome s (after_events s (own_group s))
stages-own s = stages-then s (after_event s (Boot (s.boots + 1))) (after_events s (own_group s))
    (record { each = λ r there. (r, (IsIn-filter (λ (t : Recorded). not (is_ready t.stage)) s.transactions r there).0, refl, refl) })
    (stages-all (flat_map own_events s.transactions) (after_event s (Boot (s.boots + 1))) (λ event there. let from = IsIn-unflat own_events s.transactions event there in one from.0 event from.2))
  where
    go : (t : Recorded) (a b : Bool) (event : Event) → IsIn event (done_if a t.id DonePart.Files ++ done_if b t.id DonePart.Keys) → is_done_event event ≡ true
    go t true true event (inl is) = ap is_done_event (sym is)
    go t true true event (inr (inl is)) = ap is_done_event (sym is)
    go t true true event (inr (inr none)) = absurd none
    go t true false event (inl is) = ap is_done_event (sym is)
    go t true false event (inr none) = absurd none
    go t false true event (inl is) = ap is_done_event (sym is)
    go t false true event (inr none) = absurd none
    go t false false event none = absurd none

    one : (t : Recorded) (event : Event) → IsIn event (own_events t) → is_done_event event ≡ true
    one t event there = go t (has_undone DonePart.Files t) (has_undone DonePart.Keys t) event there

may-own : (id : Id) (k : Bool) (s : Durable) → may_tell id k s ≡ true → may_tell id k (after_events s (own_group s)) ≡ true
may-own id k s may =
    let boots = leb-true _ _ (and_parts (nat_le id.boot s.boots) _ may).0 in
    let more = (booted s).0 in
    may-from id k (after_events s (own_group s)) (omega (arith, boots, more)) (λ r there is.
    let q = (stages-own s).each r there in
    let was = told-of id k s may q.0 q.1 (q.2 ∙ is) in
    (was.0, ap is_decided (sym q.3) ∙ was.1))

-- ---- what was told before

-- the transaction is there with the outcome that was told, or it is not there, and of an older boot
abbrev IsNow : World → Id → Bool → Type 0
IsNow w id k = HasOutcome w.transactions.items id k ⊎ (((t : Transaction) → IsIn t w.transactions.items → t.id ≡ id → ⊥) × (id.boot < w.recorded.boots))

-- what was told is so on a machine that is up; of one that is down each log that may be found does not deny it
abbrev PastBy : Power → World → Id → Bool → Type 0
PastBy up w id k = IsNow w id k
PastBy (down may) w id k = list_all (may_tell_log w id k) may ≡ true

abbrev Past : World → Id → Bool → Type 0
Past w id k = PastBy w.power w id k

-- a transaction has one outcome
one-outcome : (w : World) → IsRunning w → (id : Id) (j k : Bool) → HasOutcome w.transactions.items id j → HasOutcome w.transactions.items id k → j ≡ k
one-outcome w run id j k first second =
    let same : first.transaction ≡ second.transaction = same-by_id (λ (t : Transaction). t.id) w.transactions.items run.now.sound.course.transactions.rise first.transaction second.transaction first.there second.there (first.is ∙ sym second.is) in
    same_Some j k (sym first.outcome ∙ ap (λ (t : Transaction). told_outcome t.outcome) same ∙ second.outcome)

-- where the outcome is known the log has the transaction only as one that is decided to commit
decided-only : (t : Transaction) (k : Bool) (stage : Stage) → is_outcome_of t.phase t ≡ true → told_outcome t.outcome ≡ Some k → stage_in t.phase ≡ Some stage → (k ≡ true) × (is_decided stage ≡ true)
decided-only t k stage fits tells at = go t.phase fits at
  where
    undecided : is_undecided t ≡ true → told_outcome t.outcome ≡ None
    undecided = one t.outcome
      where
        one : (outcome : TransactionOutcome) → is_undecided (record t { outcome = outcome }) ≡ true → told_outcome outcome ≡ None
        one TransactionOutcome.Undetermined is = refl
        one TransactionOutcome.Committed is = absurd (true≢false (sym is))
        one TransactionOutcome.Aborted is = absurd (true≢false (sym is))

    committed : is_committed t ≡ true → told_outcome t.outcome ≡ Some true
    committed = one t.outcome
      where
        one : (outcome : TransactionOutcome) → is_committed (record t { outcome = outcome }) ≡ true → told_outcome outcome ≡ Some true
        one TransactionOutcome.Committed is = refl
        one TransactionOutcome.Undetermined is = absurd (true≢false (sym is))
        one TransactionOutcome.Aborted is = absurd (true≢false (sym is))

    go : (phase : Phase) → is_outcome_of phase t ≡ true → stage_in phase ≡ Some stage → (k ≡ true) × (is_decided stage ≡ true)
    go Committing fits at = (same_Some k true (sym tells ∙ committed fits), ap is_decided (sym (same_Some Stage.Decided stage at)))
    go Aborting fits at = absurd (none-some stage at)
    go Ended fits at = absurd (none-some stage at)
    go _ fits at = absurd (none-some k (sym (undecided fits) ∙ tells))

-- what the log has to have of a transaction is of this one, at the stage of its phase
its-summary : (x : Present) (t : Transaction) (s : Summary) → IsIn s (summaries x t) → (s.id ≡ t.id) × (stage_in t.phase ≡ Some s.stage)
its-summary x t s there = go t.is_recorded (stage_in t.phase) there
  where
    one : (b : Bool) (stage : Stage) → IsIn s (if b then summary_now x t stage ∷ [] else []) → (s.id ≡ t.id) × (Some stage ≡ Some s.stage)
    one true stage (inl same) = (ap (λ (s : Summary). s.id) (sym same), ap (λ (s : Summary). Some s.stage) same)
    one true stage (inr none) = absurd none
    one false stage none = absurd none

    go : (b : Bool) (o : Option Stage) → IsIn s (if b then summary_in x t o else []) → (s.id ≡ t.id) × (o ≡ Some s.stage)
    go false o none = absurd none
    go true None none = absurd none
    go true (Some stage) there' = one (stays (summary_now x t stage)) stage there'

-- what was recorded does not deny it
now-told : (w : World) → IsRunning w → (id : Id) (k : Bool) → IsNow w id k → may_tell id k w.recorded ≡ true
now-told w run id k now = may-from id k w.recorded (boots now) (λ r there is.
    let in_now = subst (IsIn (summary_of r)) run.now.agrees.transactions (IsIn-map summary_of r w.recorded.transactions there) in
    let t = IsIn-unflat (summaries (present w)) w.transactions.items (summary_of r) in_now in
    let its = its-summary (present w) t.0 (summary_of r) t.2 in
    recorded r t.0 t.1 (sym its.0 ∙ is) its.1 now)
  where
    boots : IsNow w id k → id.boot ≤ w.recorded.boots
    boots (inl out) =
        let counted = counted-parts w.recorded.boots w.transactions.last_transaction out.transaction.id
        (list_all-at (λ (t : Transaction). is_counted w.recorded.boots w.transactions.last_transaction t.id) w.transactions.items run.now.sound.course.transactions.counted out.transaction out.there) in
        subst (λ (i : Id). i.boot ≤ w.recorded.boots) out.is (leb-true _ _ counted.1)
    boots (inr (absent, older)) = omega (arith, older)

    recorded : (r : Recorded) (t : Transaction) → IsIn t w.transactions.items → t.id ≡ id → stage_in t.phase ≡ Some r.stage → IsNow w id k → (k ≡ true) × (is_decided r.stage ≡ true)
    recorded r t there is at (inr (absent, older)) = absurd (absent t there is)
    recorded r t there is at (inl out) =
        let same : out.transaction ≡ t = same-by_id (λ (t : Transaction). t.id) w.transactions.items run.now.sound.course.transactions.rise out.transaction t out.there there (out.is ∙ sym is) in
        decided-only t k r.stage (list_all-at (λ (t : Transaction). is_outcome_of t.phase t) w.transactions.items run.now.sound.course.transactions.outcomes t there)
        (ap (λ (t : Transaction). told_outcome t.outcome) (sym same) ∙ out.outcome) at

-- the log does not deny an outcome that was told
now-log : (w : World) → IsRunning w → (id : Id) (k : Bool) → IsNow w id k → may_tell_log w id k w.log ≡ true
now-log w run id k now = subst (λ s. may_tell id k s ≡ true) (sym run.comes_to) (now-told w run id k now)

-- ---- restarts

decided-held : (stage : Stage) → is_decided stage ≡ true → is_held stage ≡ false
decided-held Stage.Decided is = refl
decided-held Stage.Ready is = absurd (true≢false (sym is))
decided-held Stage.Held is = absurd (true≢false (sym is))

opened-now : (w : World) (log : List Group) (id : Id) (k : Bool) → may_tell id k (stand w.base log) ≡ true → IsNow (opened w.base log) id k
opened-now w log id k may = let s = stand w.base log in elim (cases_Bool (list_any (λ (t : Transaction). same_id t.id id) (opened w.base log).transactions.items)) [
  | inl some ↦
      let t = list_any-at (λ (t : Transaction). same_id t.id id) (opened w.base log).transactions.items some in
      let r = IsIn-unmap transaction_back t.0 (back s) t.1 in
      let at = IsIn-filter is_brought_back s.transactions r.0 r.2 in
      let is : r.0.id ≡ id = ap (λ (t : Transaction). t.id) r.1 ∙ same_id-equal t.0.id id t.2 in
      let was = told-of id k s may r.0 at.0 is in
      inl (record {
        transaction = t.0;
        there = t.1;
        is = same_id-equal t.0.id id t.2;
        outcome = ap (λ (t : Transaction). told_outcome t.outcome) (sym r.1)
            ∙ ap (λ b. told_outcome (if b then TransactionOutcome.Undetermined else TransactionOutcome.Committed)) (decided-held r.0.stage was.1) ∙ ap Some (sym was.0);
      })
  | inr none ↦
      let boots = leb-true _ _ (and_parts (nat_le id.boot s.boots) _ may).0 in
      let more = (booted s).0 in
      inr (λ t there is. true≢false (sym (list_any-from (λ (t : Transaction). same_id t.id id) (opened w.base log).transactions.items t there (same_id-from t.id id is)) ∙ none), omega (arith, boots, more))
]

-- ---- what a line leaves

-- what was told before stays so
record GoesOn (w new : World) : Type 0 where
  run : IsRunning new
  past : (id : Id) (k : Bool) → Past w id k → Past new id k

goes-same : (w new : World) → new ≡ w → IsRunning w → GoesOn w new
goes-same w new same run = subst (GoesOn w) (sym same) (record { run = run; past = λ id k past. past })

-- what is told is so in a machine that is up
record TellsNow (w : World) (a : Telling) : Type 0 where
  on : w.power ≡ up
  so : HasOutcome w.transactions.items a.transaction a.has_committed

past-now : (w : World) (id : Id) (k : Bool) → w.power ≡ up → Past w id k → IsNow w id k
past-now w id k on past = subst (λ p. PastBy p w id k) on past

now-past : (w : World) (id : Id) (k : Bool) → w.power ≡ up → IsNow w id k → Past w id k
now-past w id k on now = subst (λ p. PastBy p w id k) (sym on) now

-- what the laws say of the outcome of a command, or of the passing of time
record IsOutcome (w : World) (o : Outcome) : Type 0 where
  run : IsRunning (extend w o)
  cut : IsRunning (interrupted_by w o)
  honest : IsHonest (present w) o
  stay : OutcomesStay w.transactions.items o.transactions.items

now-extend : (w : World) (o : Outcome) → IsOutcome w o → (id : Id) (k : Bool) → IsNow w id k → IsNow (extend w o) id k
now-extend w o outcome id k (inl out) =
    let t = outcome.stay.each out.transaction out.there in
    inl (record { transaction = t.0; there = t.1; is = t.2 ∙ out.is; outcome = ap told_outcome (t.3 (known out.transaction k out.outcome)) ∙ out.outcome })
now-extend w o outcome id k (inr (absent, older)) =
    let same = outcome.honest.boots in
    inr (
      λ t there is. elim (outcome.honest.comes.each t there) [
        | inl (u, was, one) ↦ absent u was (one ∙ is)
        | inr boot ↦ let of = ap (λ (i : Id). i.boot) is in omega (arith, of, boot, older)
      ],
      omega (arith, same, older),
    )

-- the logs that may be found of a machine that was up
now-possible : (w : World) → IsRunning w → w.power ≡ up → (id : Id) (k : Bool) → IsNow w id k → list_all (may_tell_log w id k) (possible_logs w) ≡ true
now-possible w run on id k now = subst (λ p. list_all (may_tell_log w id k) (possible_by p w.kept w.log) ≡ true) (sym on) (left-all (may_tell_log w id k) w.log w.kept run.kept (now-log w run id k now))

goes-extend : (w : World) (o : Outcome) → w.power ≡ up → IsRunning w → IsOutcome w o → GoesOn w (extend w o)
goes-extend w o on run outcome = record { run = outcome.run; past = λ id k past. now-past (extend w o) id k on (now-extend w o outcome id k (past-now w id k on past)) }

goes-interrupted : (w : World) (o : Outcome) → w.power ≡ up → IsRunning w → IsOutcome w o → GoesOn w (interrupted_by w o)
goes-interrupted w o on run outcome = record {
  run = outcome.cut;
  past = λ id k past.
      let now = past-now w id k on past in
      left-with (may_tell_log w id k) w.log w.kept o.events run.kept (now-log w run id k now) (now-log (extend w o) outcome.run id k (now-extend w o outcome id k now));
}

-- ---- what a reply tells

true-of : (ts : List Transaction) (named : Option Id) (told : Option Bool) → ((id : Id) (k : Bool) → named ≡ Some id → told ≡ Some k → HasOutcome ts id k)
    → AllByRecursion (λ (a : Telling). HasOutcome ts a.transaction a.has_committed) (telling_of named told)
true-of ts None told so = tt
true-of ts (Some id) None so = tt
true-of ts (Some id) (Some k) so = (so id k refl refl, tt)

tells-true : (w : World) (process : Pid) (command : Command) (ts : List Transaction) (reply : Reply)
    → ((id : Id) (k : Bool) → named_by w process (transaction_label command) ≡ Some id → told_of_named reply ≡ Some k → HasOutcome ts id k)
    → ((kind : Notify) (guid : List ℕ) (id : Id) (k : Bool) → reply ≡ Notification kind (Some guid) → told_by kind ≡ Some k → transaction_of_enlistment w guid ≡ Some id → HasOutcome ts id k)
    → AllByRecursion (λ (a : Telling). HasOutcome ts a.transaction a.has_committed) (tells w process command reply)
tells-true w process command ts (Notification kind (Some guid)) named noted = true-of ts (transaction_of_enlistment w guid) (told_by kind) (λ id k is tells. noted kind guid id k refl tells is)
tells-true w process command ts (Notification kind None) named noted = true-of ts (named_by w process (transaction_label command)) None (λ id k is tells. named id k is tells)
tells-true w process command ts reply named noted = true-of ts (named_by w process (transaction_label command)) (told_of_named reply) named

-- a reply that is no notification and says nothing of the transaction that is named
tells-none : (w : World) (process : Pid) (command : Command) (reply : Reply) → told_of_named reply ≡ None → is_note reply ≡ false → tells w process command reply ≡ []
tells-none w process command (Notification kind enlistment) none plain = absurd (true≢false plain)
tells-none w process command reply none plain = ap (telling_of (named_by w process (transaction_label command))) none ∙ nothing (named_by w process (transaction_label command))
  where
    nothing : (id : Option Id) → telling_of id None ≡ []
    nothing None = refl
    nothing (Some id) = refl

named-same : (w : World) (process : Pid) (label : Option Label) → named_by w process label ≡ named_id (present w) process label
named-same w process None = refl
named-same w process (Some label) = refl

-- the number of the image is never another one
stand-image : (log : List Group) (base : Durable) → (stand base log).image ≡ base.image
stand-image [] base = refl
stand-image (group ∷ log) base = stand-image log (after_events base group) ∙ after_events-image base group

enlisted-same : (w : World) → IsRunning w → (guid : List ℕ) → transaction_of_enlistment w guid ≡ enlisted_in (present w) guid
enlisted-same w run guid =
    ap (λ image. option_and_then (λ (e : Enlistment). Some e.transaction) (find (λ (e : Enlistment). bytes_eq (guid_of ObjectKind.Enlistment image e.id) guid) w.transactions.enlistments))
    (sym (stand-image w.log w.base) ∙ ap (λ (s : Durable). s.image) run.comes_to)

-- ---- lines

-- a line leads to the world that its step says; what it tells is so there, and what was told before stays so
record LineTells (w : World) (line : Option Line) (step : Step) (reply : Reply) (new : World) : Type 0 where
  next : new ≡ goes w line step
  run : IsRunning new
  truly : AllByRecursion (λ a. TellsNow new a) (line_tells w line reply)
  past : (id : Id) (k : Bool) → Past w id k → Past new id k

told-nothing : (w : World) (line : Option Line) (step : Step) (reply : Reply) (new : World) → new ≡ goes w line step → line_tells w line reply ≡ [] → GoesOn w new → LineTells w line step reply new
told-nothing w line step reply new next none on = record { next = next; run = on.run; truly = subst (AllByRecursion (λ a. TellsNow new a)) (sym none) tt; past = on.past }

answered-same : (w : World) (says : Reply) (step : Step) (reply : Reply) (new : World) → IsAnswered w says step reply new → new ≡ w
answered-same w says answered reply new (is_said, is) = is
answered-same w says interrupted reply new none = absurd none
answered-same w says (found log) reply new none = absurd none
answered-same w says (worn log) reply new none = absurd none

is-up : (w : World) → is_up w.power ≡ true → w.power ≡ up
is-up w = go w.power
  where
    go : (power : Power) → is_up power ≡ true → power ≡ up
    go up on = refl
    go (down may) on = absurd (true≢false (sym on))

-- ---- tellings that agree

-- two that tell of one transaction tell the same
abbrev Agree : Telling → Telling → Type 0
Agree a b = a.transaction ≡ b.transaction → a.has_committed ≡ b.has_committed

-- each agrees with all behind it
abbrev AllAgree : List Telling → Type 0
AllAgree [] = Unit {0}
AllAgree (a ∷ told) = AllByRecursion (Agree a) told × AllAgree told

all-append : {X : Type 0} (P : X → Type 0) (xs ys : List X) → AllByRecursion P xs → AllByRecursion P ys → AllByRecursion P (xs ++ ys)
all-append P [] ys first second = second
all-append P (x ∷ xs) ys first second = (first.0, all-append P xs ys first.1 second)

-- what is told now agrees with what was told before
now-agrees : (w : World) (a : Telling) → IsRunning w → Past w a.transaction a.has_committed → (told : List Telling) → AllByRecursion (λ b. TellsNow w b) told → AllByRecursion (Agree a) told
now-agrees w a run past [] truly = tt
now-agrees w a run past (b ∷ told) truly = (λ same. agrees same (past-now w a.transaction a.has_committed truly.0.on past) truly.0.so, now-agrees w a run past told truly.1)
  where
    agrees : a.transaction ≡ b.transaction → IsNow w a.transaction a.has_committed → HasOutcome w.transactions.items b.transaction b.has_committed → a.has_committed ≡ b.has_committed
    agrees same (inl out) so = one-outcome w run b.transaction a.has_committed b.has_committed (subst (λ id. HasOutcome w.transactions.items id a.has_committed) same out) so
    agrees same (inr (absent, older)) so = absurd (absent so.transaction so.there (so.is ∙ sym same))

-- what a line tells agrees, and agrees with what is told behind it
agree-append : (w : World) → IsRunning w → (first rest : List Telling) → AllByRecursion (λ a. TellsNow w a) first → AllByRecursion (λ a. AllByRecursion (Agree a) rest) first → AllAgree rest → AllAgree (first ++ rest)
agree-append w run [] rest truly behind agree = agree
agree-append w run (a ∷ first) rest truly behind agree =
    (all-append (Agree a) first rest (now-agrees w a run (now-past w a.transaction a.has_committed truly.0.on (inl truly.0.so)) first truly.1) behind.0, agree-append w run first rest truly.1 behind.1 agree)

-- one of several that all agree with a telling agrees with it
agrees-with : (a b : Telling) (told : List Telling) → AllByRecursion (Agree a) told → Contains told b → Agree a b
agrees-with a b [] all (k, within, is) = absurd (omega arith)
agrees-with a b (c ∷ told) all (zero, within, is) = subst (Agree a) is all.0
agrees-with a b (c ∷ told) all (suc k, within, is) = agrees-with a b told all.1 (k, omega arith, is)

all-one : (told : List Telling) → AllAgree told → HasOneOutcome told
all-one [] all a b (k, within, is) other same = absurd (omega arith)
all-one (c ∷ told) all a b (zero, within, is) (zero, inside, at) same = ap (λ (t : Telling). t.has_committed) (sym is ∙ at)
all-one (c ∷ told) all a b (zero, within, is) (suc k, inside, at) same = subst (λ (t : Telling). Agree t b) is (agrees-with c b told all.0 (k, omega arith, at)) same
all-one (c ∷ told) all a b (suc k, within, is) (zero, inside, at) same = sym (subst (λ (t : Telling). Agree t a) at (agrees-with c a told all.0 (k, omega arith, is)) (sym same))
all-one (c ∷ told) all a b (suc k, within, is) (suc m, inside, at) same = all-one told all.1 a b (k, omega arith, is) (m, omega arith, at) same

module _ (refusals : RefusalLaw) (courses : CoursesLaw) (outcomes : OutcomesLaw) (worlds : LawfulWorldsLaw) where
  command-outcome : (w : World) (process : Pid) (command : Command) → HasEventsLeft (present w) → IsRunning w → IsOutcome w (decide (present w) process command)
  command-outcome w process command left run = record {
    run = worlds.commands w process command left run;
    cut = worlds.interrupted_commands w process command left run;
    honest = honest-decided (present w) run.now.sound.course process command;
    stay = outcomes.commands (present w) process command run.now.sound.course;
  }

  tick-outcome : (w : World) (ms : ℕ) → HasEventsLeft (present w) → IsRunning w → IsOutcome w (decide_tick (present w) ms)
  tick-outcome w ms left run = record {
    run = worlds.ticks w ms left run;
    cut = worlds.interrupted_ticks w ms left run;
    honest = honest-ticked (present w) run.now.sound.course ms;
    stay = outcomes.ticks (present w) ms run.now.sound.course;
  }

  -- ---- calls

  tells-up : (w : World) (process : Pid) (command : Command) → w.power ≡ up → IsRunning w
      → let o = decide (present w) process command in AllByRecursion (λ a. TellsNow (extend w o) a) (tells w process command o.reply)
  tells-up w process command on run =
      all (tells w process command (decide (present w) process command).reply)
      (tells-true w process command (decide (present w) process command).transactions.items (decide (present w) process command).reply
      (λ id k is tells. replies.told id k (sym (named-same w process (transaction_label command)) ∙ is) tells)
      (λ kind guid id k is tells at. replies.noted kind guid id k is tells (sym (enlisted-same w run guid) ∙ at)))
    where
      replies : Replies (present w) (named_id (present w) process (transaction_label command)) (decide (present w) process command)
      replies = decided-replies courses (present w) run.now.sound.course run.notes process command

      all : (told : List Telling) → AllByRecursion (λ (a : Telling). HasOutcome (decide (present w) process command).transactions.items a.transaction a.has_committed) told
          → AllByRecursion (λ a. TellsNow (extend w (decide (present w) process command)) a) told
      all [] each = tt
      all (a ∷ told) each = (record { on = on; so = each.0 }, all told each.1)

  call-up : (w : World) (process : Pid) (command : Command) → w.power ≡ up → HasEventsLeft (present w) → IsRunning w
      → let o = decide (present w) process command in LineTells w (Some (Process process command)) answered o.reply (extend w o)
  call-up w process command on left run =
      let next = goes-extend w (decide (present w) process command) on run (command-outcome w process command left run) in
      record { next = refl; run = next.run; truly = tells-up w process command on run; past = next.past }

  -- a machine that is down refuses every command
  down-refuses : (w : World) (process : Pid) (command : Command) → is_up w.power ≡ false → refusal_of (present w) process command ≡ Some MachineDown
  down-refuses w process command off = ap (λ on. if not on then Some MachineDown else first_refusal (command_tests (present w) process command)) off

  down-replies : (w : World) (process : Pid) (command : Command) → is_up w.power ≡ false → (decide (present w) process command).reply ≡ Refused MachineDown
  down-replies w process command off = ap (λ r. (refuse_or (present w) r (command_effect (present w) process command)).reply) (down-refuses w process command off)

  call-tells : (w : World) (process : Pid) (command : Command) (step : Step) (reply : Reply) (new : World) → HasEventsLeft (present w) → IsRunning w → CallDoes w (decide (present w) process command) step reply new → LineTells w (Some (Process process command)) step reply new
  call-tells w process command answered reply new left run (says, becomes) = go w.power refl
    where
      go : (power : Power) → w.power ≡ power → LineTells w (Some (Process process command)) answered reply new
      go up on =
          let o = decide (present w) process command in
          subst (λ (r : Reply). LineTells w (Some (Process process command)) answered r new) (sym says)
          (subst (LineTells w (Some (Process process command)) answered o.reply) (sym becomes) (call-up w process command on left run))
      go (down may) off =
          let is_off : is_up w.power ≡ false = ap is_up off in
          told-nothing w (Some (Process process command)) answered reply new becomes
          (ap (tells w process command) (says ∙ down-replies w process command is_off) ∙ tells-none w process command (Refused MachineDown) refl refl)
          (goes-same w new (becomes ∙ refusals.0 w process command MachineDown (down-refuses w process command is_off)) run)
  call-tells w process command interrupted reply new left run (on, says, becomes) =
      told-nothing w (Some (Process process command)) interrupted reply new becomes (ap (tells w process command) says ∙ tells-none w process command (Refused MachineDown) refl refl)
      (subst (GoesOn w) (sym becomes) (goes-interrupted w (decide (present w) process command) (is-up w on) run (command-outcome w process command left run)))
  call-tells w process command (found log) reply new left run never = absurd never
  call-tells w process command (worn log) reply new left run never = absurd never

  -- the passing of time
  tick-goes : (w : World) (ms : ℕ) (step : Step) (reply : Reply) (new : World) → HasEventsLeft (present w) → IsRunning w → CallDoes w (decide_tick (present w) ms) step reply new → (new ≡ goes w (Some (Tick ms)) step) × GoesOn w new
  tick-goes w ms answered reply new left run (says, becomes) = (becomes, go w.power refl)
    where
      go : (power : Power) → w.power ≡ power → GoesOn w new
      go up on = subst (GoesOn w) (sym becomes) (goes-extend w (decide_tick (present w) ms) on run (tick-outcome w ms left run))
      go (down may) off = goes-same w new (becomes ∙ refusals.1 w ms (ap is_up off)) run
  tick-goes w ms interrupted reply new left run (on, says, becomes) = (becomes, subst (GoesOn w) (sym becomes) (goes-interrupted w (decide_tick (present w) ms) (is-up w on) run (tick-outcome w ms left run)))
  tick-goes w ms (found log) reply new left run never = absurd never
  tick-goes w ms (worn log) reply new left run never = absurd never

  -- ---- losses of power and restarts

  crash-goes : (w : World) → IsRunning w → GoesOn w (crashed w)
  crash-goes w run = record { run = worlds.crashes w run; past = λ id k past. go id k w.power refl past }
    where
      go : (id : Id) (k : Bool) (power : Power) → w.power ≡ power → Past w id k → list_all (may_tell_log w id k) (possible_logs w) ≡ true
      go id k up on past = now-possible w run on id k (past-now w id k on past)
      go id k (down may) off past = subst (λ p. list_all (may_tell_log w id k) (possible_by p w.kept w.log) ≡ true) (sym off) (subst (λ p. PastBy p w id k) off past)

  crash-tells : (on : Bool) (w : World) (step : Step) (reply : Reply) (new : World) → IsRunning w → CrashDoes on w step reply new → (new ≡ crash_goes on w) × GoesOn w new
  crash-tells true w answered reply new run (says, becomes) = (becomes, subst (GoesOn w) (sym becomes) (crash-goes w run))
  crash-tells true w interrupted reply new run never = absurd never
  crash-tells true w (found log) reply new run never = absurd never
  crash-tells true w (worn log) reply new run never = absurd never
  crash-tells false w step reply new run does = let same = answered-same w (Refused MachineDown) step reply new does in (same, goes-same w new same run)

  -- of a machine that is down each possible log does not deny what was told
  past-logs : (w : World) → is_up w.power ≡ false → (id : Id) (k : Bool) → Past w id k → list_all (may_tell_log w id k) (possible_logs w) ≡ true
  past-logs w off id k past = go w.power refl
    where
      go : (power : Power) → w.power ≡ power → list_all (may_tell_log w id k) (possible_logs w) ≡ true
      go up on = absurd (true≢false (sym (ap is_up on) ∙ off))
      go (down may) is = subst (λ p. list_all (may_tell_log w id k) (possible_by p w.kept w.log) ≡ true) (sym is) (subst (λ p. PastBy p w id k) is past)

  may-restart : (w : World) (id : Id) (k : Bool) (l : List Group) → may_tell_log w id k l ≡ true → may_tell_log w id k (with_own w l) ≡ true
  may-restart w id k l may = subst (λ s. may_tell id k s ≡ true) (sym (stand-append w.base l (own_group (stand w.base l) ∷ []))) (may-own id k (stand w.base l) may)

  start-goes : (w : World) (step : Step) (reply : Reply) (new : World) → is_up w.power ≡ false → IsRunning w → StartDoes w step reply new → (new ≡ restart_goes w step) × GoesOn w new
  start-goes w answered reply new off run never = absurd never
  start-goes w interrupted reply new off run (says, becomes) = (
    becomes,
    subst (GoesOn w) (sym becomes) (record {
      run = worlds.interrupted_restarts w run;
      past = λ id k past. left-restart (may_tell_log w id k) w (λ l fresh may. may-restart w id k l may) (possible_logs w) (past-logs w off id k past);
    }),
  )
  start-goes w (found log) reply new off run (finds, says, becomes) = (
    becomes,
    subst (GoesOn w) (sym becomes) (record {
      run = worlds.restarts w log finds run;
      past = λ id k past. opened-now w log id k (contains-passes (may_tell_log w id k) (possible_logs w) log (past-logs w off id k past) finds.possible);
    }),
  )
  start-goes w (worn log) reply new off run (finds, says, becomes) = (
    becomes,
    subst (GoesOn w) (sym becomes) (record {
      run = worlds.worn_restarts w log finds run;
      past = λ id k past. and_from _ _ (contains-passes (may_tell_log w id k) (possible_logs w) log (past-logs w off id k past) finds.possible) refl;
    }),
  )

  restart-goes : (on : Bool) (w : World) (step : Step) (reply : Reply) (new : World) → is_up w.power ≡ on → IsRunning w → RestartDoes on w step reply new → (new ≡ restart_goes w step) × GoesOn w new
  restart-goes true w answered reply new is run (says, becomes) = (becomes, goes-same w new becomes run)
  restart-goes true w interrupted reply new is run never = absurd never
  restart-goes true w (found log) reply new is run never = absurd never
  restart-goes true w (worn log) reply new is run never = absurd never
  restart-goes false w step reply new off run does = start-goes w step reply new off run does

  -- ---- every line

  line-tells : (w : World) (line : Option Line) (step : Step) (reply : Reply) (new : World) → HasEventsLeft (present w) → IsRunning w → Does w line step reply new → LineTells w line step reply new
  line-tells w (Some (Process process command)) step reply new left run does = call-tells w process command step reply new left run does
  line-tells w (Some (Tick ms)) step reply new left run does = let next = tick-goes w ms step reply new left run does in told-nothing w (Some (Tick ms)) step reply new next.0 refl next.1
  line-tells w (Some (Cut calls)) step reply new left run does = let same = answered-same w Done step reply new does in told-nothing w (Some (Cut calls)) step reply new same refl (goes-same w new same run)
  line-tells w (Some Crash) step reply new left run does = let next = crash-tells (is_up w.power) w step reply new run does in told-nothing w (Some Crash) step reply new next.0 refl next.1
  line-tells w (Some (Restart pick)) step reply new left run does = let next = restart-goes (is_up w.power) w step reply new refl run does in told-nothing w (Some (Restart pick)) step reply new next.0 refl next.1
  line-tells w None step reply new left run does = let same = answered-same w (Refused BadLine) step reply new does in told-nothing w None step reply new same refl (goes-same w new same run)

  -- ---- whole transcripts

  -- what a transcript tells of a transaction agrees with what was told of it before
  past-told : (w : World) (lines : List (Option Line)) (steps : List Step) (replies : List Reply) (new : World) (a : Telling) → IsRunning w → LastsFor (length lines) w → Transcript w lines steps replies new
      → Past w a.transaction a.has_committed → AllByRecursion (Agree a) (tellings w lines steps replies)
  past-told w [] [] [] new a run lasts does past = tt
  past-told w [] [] (reply ∷ replies) new a run lasts never past = absurd never
  past-told w [] (step ∷ steps) replies new a run lasts never past = absurd never
  past-told w (line ∷ lines) [] replies new a run lasts never past = absurd never
  past-told w (line ∷ lines) (step ∷ steps) [] new a run lasts never past = absurd never
  past-told w (line ∷ lines) (step ∷ steps) (reply ∷ replies) new a run lasts (mid, does, more) past =
      let all = lasts-behind w line lines lasts in
      let first = line-tells w line step reply mid (left-from w (length lines) all) run does in
      let still = first.past a.transaction a.has_committed past in
      let rest = past-told mid lines steps replies new a first.run (worlds.lasts w line step reply mid (length lines) does run all) more still in
      all-append (Agree a) (line_tells w line reply) (tellings (goes w line step) lines steps replies) (now-agrees mid a first.run still (line_tells w line reply) first.truly)
      (subst (λ (v : World). AllByRecursion (Agree a) (tellings v lines steps replies)) first.next rest)

  each-told : (w : World) (lines : List (Option Line)) (steps : List Step) (replies : List Reply) (new : World) → IsRunning w → LastsFor (length lines) w → Transcript w lines steps replies new
      → (told : List Telling) → AllByRecursion (λ a. TellsNow w a) told → AllByRecursion (λ a. AllByRecursion (Agree a) (tellings w lines steps replies)) told
  each-told w lines steps replies new run lasts does [] all = tt
  each-told w lines steps replies new run lasts does (a ∷ told) all =
      (past-told w lines steps replies new a run lasts does (now-past w a.transaction a.has_committed all.0.on (inl all.0.so)), each-told w lines steps replies new run lasts does told all.1)

  all-agree : (w : World) (lines : List (Option Line)) (steps : List Step) (replies : List Reply) (new : World) → IsRunning w → LastsFor (length lines) w → Transcript w lines steps replies new → AllAgree (tellings w lines steps replies)
  all-agree w [] [] [] new run lasts does = tt
  all-agree w [] [] (reply ∷ replies) new run lasts never = absurd never
  all-agree w [] (step ∷ steps) replies new run lasts never = absurd never
  all-agree w (line ∷ lines) [] replies new run lasts never = absurd never
  all-agree w (line ∷ lines) (step ∷ steps) [] new run lasts never = absurd never
  all-agree w (line ∷ lines) (step ∷ steps) (reply ∷ replies) new run lasts (mid, does, more) =
      let all = lasts-behind w line lines lasts in
      let first = line-tells w line step reply mid (left-from w (length lines) all) run does in
      let rest = worlds.lasts w line step reply mid (length lines) does run all in
      subst (λ (v : World). AllAgree (line_tells w line reply ++ tellings v lines steps replies)) first.next
      (agree-append mid first.run (line_tells w line reply) (tellings mid lines steps replies) first.truly
      (each-told mid lines steps replies new first.run rest more (line_tells w line reply) first.truly) (all-agree mid lines steps replies new first.run rest more))

  pub one_outcome_law : OneOutcomeLaw
  one_outcome_law w lines steps replies new run lasts does = all-one (tellings w lines steps replies) (all-agree w lines steps replies new run lasts does)
