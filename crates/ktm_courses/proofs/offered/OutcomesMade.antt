-- What an outcome makes of a machine, as far as the soundness of courses reads it.
use Rattle.std.proofs.Common.{◌≡◌, ◌&&◌, ◌||◌, not, true, false, List, [], ◌∷◌, ◌++◌, map, filter, drop, Option, Some, None, refl, sym, ◌∙◌, ap, subst, inl, inr, append_assoc, ℕ, Bool}
use Rattle.std.proofs.lemmas.Bool.{cases_Bool, or_left, not_from_false, true≢false, and_from, not-true}
use Rattle.std.proofs.lemmas.List.{append-nil}
use Rattle.txf_laws.specs.GoodState.{is_of_object}
use Rattle.txf_laws.specs.Grammatical.{names_objects}
use Rattle.ktm_courses.proofs.offered.NewObjects.{counted-parts}
use Rattle.std.specs.List.{list_all}
use Rattle.ktm_base.specs.declared.id.Id.{Id}
use Rattle.ktm_world.specs.declared.event.Event.{Event}
use Rattle.ktm_world.specs.declared.event.Event.TheVariants.{Boot, MadeRm, Plain, Ready, Single, Held, Decide, Undo, Done}
use Rattle.ktm_world.specs.declared.event.DonePart.{DonePart}
use Rattle.ktm_world.specs.declared.object.Transaction.{Transaction}
use Rattle.ktm_world.specs.declared.object.Phase.{Phase}
use Rattle.ktm_world.specs.declared.object.Phase.TheVariants.{SinglePhase}
use Rattle.ktm_world.specs.declared.input.PhaseInput.{PhaseInput}
use Rattle.ktm_world.specs.declared.reply.Reply.{Reply}
use Rattle.ktm_world.specs.Durable.{Durable, Recorded, after_event, after_events, decide_recorded, finish_recorded, recorded_at}
use Rattle.ktm_world.specs.Enlistments.{Manager, Sent, notes_for, taken_count, Enlistment}
use Rattle.ktm_world.specs.Files.{FileTable, OwnChanges, own_changes, without_transaction}
use Rattle.ktm_world.specs.Keys.{Own, own_settings, without_own}
use Rattle.ktm_world.specs.OneOutcome.{told_outcome}
use Rattle.ktm_world.specs.Outcome.{Outcome, only_reply, served, apply, joined}
use Rattle.ktm_world.specs.Phases.{Course, has_settings, is_single_phase}
use Rattle.ktm_world.specs.Present.{Present}
use Rattle.ktm_world.specs.Steps.{led, basis}
use Rattle.ktm_world.specs.TransactionCalls.{course_of, arrived}
use Rattle.ktm_steps.specs.Outcomes.{MayCome}
use Rattle.ktm_steps.proofs.offered.Recorded.{bare-facts, is_bare, passes-led}
use Rattle.ktm_world.specs.Transactions.{same_id, is_undecided}
use Rattle.ktm_world.proofs.offered.Durables.{after_events-append}
use Rattle.ktm_world.specs.Changes.{has_changes}
use Rattle.txf_laws.specs.Elements.{IsIn}
use Rattle.ktm_courses.specs.SoundCourse.{IsSoundCourse, is_note_of, is_outcome_of, is_alone_in_one_phase, is_counted, has_manager}
use Rattle.ktm_courses.specs.Outcomes.{OutcomesStay}
use Rattle.ktm_courses.proofs.offered.Outcomes.{stay-refl, stay-changed, stays-known}
use Rattle.txf_laws.proofs.offered.Elements.{list_all-at, list_all-from, list_any-at}
use Rattle.txf_laws.proofs.offered.Tables.{same_id-equal, same_id-sym}
use Rattle.ktm_courses.proofs.offered.Moves.{is_boot, NoBoots, NoBoots-none, of-superior}
use Rattle.ktm_courses.proofs.offered.Endings.{Arrives}
use Rattle.ktm_courses.proofs.offered.Views.{sound-alike, sound-served}
use Rattle.ktm_courses.proofs.offered.Arrivals.{with_course, changed_to, IsIn-changed, sound-course, notes-course}
use Rattle.ktm_steps.proofs.offered.Ways.{if_cases}

-- ---- events that are no boots

decided-kept : (s : Durable) (t : Option Recorded) → ((decide_recorded s t).boots ≡ s.boots) × ((decide_recorded s t).image ≡ s.image)
decided-kept s None = (refl, refl)
decided-kept s (Some t) = (refl, refl)

finished-kept : (s : Durable) (done : DonePart) (t : Option Recorded) → ((finish_recorded s done t).boots ≡ s.boots) × ((finish_recorded s done t).image ≡ s.image)
finished-kept s done None = (refl, refl)
finished-kept s done (Some t) = (refl, refl)

pub event-kept : (s : Durable) (event : Event) → is_boot event ≡ false → ((after_event s event).boots ≡ s.boots) × ((after_event s event).image ≡ s.image)
event-kept s (Boot boot) other = absurd (true≢false other)
event-kept s (Decide transaction) other = decided-kept s (recorded_at s.transactions transaction)
event-kept s (Done transaction done) other = finished-kept s done (recorded_at s.transactions transaction)
event-kept s (MadeRm manager) other = (refl, refl)
event-kept s (Plain change) other = (refl, refl)
event-kept s (Ready transaction part) other = (refl, refl)
event-kept s (Single transaction part) other = (refl, refl)
event-kept s (Held transaction enlistment manager information) other = (refl, refl)
event-kept s (Undo transaction) other = (refl, refl)

pub events-kept : (events : List Event) (s : Durable) → NoBoots events → ((after_events s events).boots ≡ s.boots) × ((after_events s events).image ≡ s.image)
events-kept [] s none = (refl, refl)
events-kept (event ∷ events) s none =
    let first = event-kept s event (none.none event (inl refl)) in
    let rest = events-kept events (after_event s event) (record { none = λ other there. none.none other (inr there) }) in
    (rest.0 ∙ first.0, rest.1 ∙ first.1)

-- ---- an outcome

-- a machine once an outcome has come, before notifications are taken and sent
abbrev pub settled : Present → Outcome → Present
settled x o = record x { transactions = o.transactions; files = record x.files { table = o.table }; keys = record x.keys { own = o.own }; handles = o.handles }

-- an outcome by which nothing is unsound
pub record IsSoundOutcome (x : Present) (o : Outcome) : Type 0 where
  pub settled : IsSoundCourse (settled x o)
  pub events : NoBoots o.events
  pub made : o.made ≡ []
  pub notes : (s : Sent) → IsIn s o.sent → is_note_of (o.transactions).enlistments s.manager s.note ≡ true
  pub outcomes : OutcomesStay (x.transactions).items (o.transactions).items
  pub objects : list_all names_objects o.events ≡ true

pub sound-apply : (x : Present) (o : Outcome) → IsSoundOutcome x o → IsSoundCourse (apply x o)
sound-apply x o sound =
    let kept = events-kept o.events x.recorded sound.events in
    sound-alike (record (settled x o) { managers = map (served o.took o.sent) x.managers }) (apply x o) (record {
      boots = sym kept.0;
      image = sym kept.1;
      transactions = refl;
      managers = ap (map (served o.took o.sent)) (sym (append-nil x.managers) ∙ ap (λ ms. x.managers ++ ms) (sym sound.made));
      handles = refl;
      own = refl;
      settings = refl;
    }) (sound-served (settled x o) o.took o.sent sound.settled sound.notes)

-- a machine is sound after the outcome, and the outcomes of its transactions are what they were
pub record Keeps (x : Present) (o : Outcome) : Type 0 where
  pub sound : IsSoundCourse (apply x o)
  pub outcomes : OutcomesStay (x.transactions).items (o.transactions).items
  pub objects : list_all names_objects o.events ≡ true

pub keeps-from : (x : Present) (o : Outcome) → IsSoundOutcome x o → Keeps x o
keeps-from x o sound = record { sound = sound-apply x o sound; outcomes = sound.outcomes; objects = sound.objects }

pub sound-only_reply : (x : Present) (reply : Reply) → IsSoundCourse x → IsSoundOutcome x (only_reply x reply)
sound-only_reply x reply sound = record { settled = sound; events = NoBoots-none; made = refl; notes = λ s there. absurd there; outcomes = stay-refl (x.transactions).items; objects = refl }

-- ---- own changes and settings

pub sound-own : (x : Present) (table : FileTable) (own : List Own) → IsSoundCourse x
    → ((t : Transaction) → IsIn t (x.transactions).items → is_single_phase t.phase ≡ true → (own_changes table.own t.id ≡ own_changes ((x.files).table).own t.id) × (own_settings own t.id ≡ own_settings (x.keys).own t.id))
    → IsSoundCourse (record x { files = record x.files { table = table }; keys = record x.keys { own = own } })
sound-own x table own sound same = record {
  numbers = sound.numbers;
  transactions = sound.transactions;
  enlistments = sound.enlistments;
  managers = sound.managers;
  handles = sound.handles;
  phases = sound.phases;
  alone = list_all-from (is_alone_in_one_phase table.own own) (x.transactions).items (λ t there. elim (cases_Bool (is_single_phase t.phase)) [
    | inr several ↦ or_left _ _ (not_from_false _ several)
    | inl one ↦ (λ i. not (is_single_phase t.phase) || (not (has_changes ((same t there one).0 i)) && not (has_settings ((same t there one).1 i)))) ∙ list_all-at (is_alone_in_one_phase ((x.files).table).own (x.keys).own) (x.transactions).items sound.alone t there
  ]);
}

-- those of another transaction stay
pub own_changes-without : (own : List OwnChanges) (id other : Id) → same_id other id ≡ false → own_changes (filter (λ o. not (same_id o.transaction id)) own) other ≡ own_changes own other
own_changes-without [] id other differs = refl
own_changes-without (o ∷ os) id other differs = elim (cases_Bool (same_id o.transaction id)) [
  | inl same ↦
      let elsewhere : same_id o.transaction other ≡ false = subst (λ k. same_id k other ≡ false) (sym (same_id-equal o.transaction id same)) (same_id-sym other id differs) in
      rw (same, elsewhere) (own_changes-without os id other differs)
  | inr far ↦ elim (cases_Bool (same_id o.transaction other)) [
    | inl here ↦ rw (far, here) refl
    | inr away ↦ rw (far, away) (own_changes-without os id other differs)
  ]
]

pub own_settings-without : (own : List Own) (id other : Id) → same_id other id ≡ false → own_settings (without_own own id) other ≡ own_settings own other
own_settings-without [] id other differs = refl
own_settings-without (o ∷ os) id other differs = elim (cases_Bool (same_id o.transaction id)) [
  | inl same ↦
      let elsewhere : same_id o.transaction other ≡ false = subst (λ k. same_id k other ≡ false) (sym (same_id-equal o.transaction id same)) (same_id-sym other id differs) in
      rw (same, elsewhere) refl
  | inr far ↦ elim (cases_Bool (same_id o.transaction other)) [
    | inl here ↦ rw (far, here) refl
    | inr away ↦ rw (far, away) (own_settings-without os id other differs)
  ]
]

-- ---- a course has arrived

undecided-one : (phase : Phase) (t : Transaction) → is_single_phase phase ≡ true → is_outcome_of phase t ≡ true → is_undecided t ≡ true
undecided-one SinglePhase t one is = is
undecided-one _ t one is = absurd (true≢false (sym one))

-- what was drawn can be the Id of an object
object-counted : (boot last : ℕ) (id : Id) → is_counted boot last id ≡ true → is_of_object id ≡ true
object-counted boot last id is = let parts = counted-parts boot last id is in and_from _ _ (and_from _ _ parts.0 parts.2) parts.3

-- no row records a boot
pub led-no_boots : (input : PhaseInput) (c : Course) → c.events ≡ [] → NoBoots (led input c).events
led-no_boots input c none = record { none = λ event there. not-true _ (list_all-at no_boot (led input c).events (passes-led no_boot input c none (bare-facts (λ e. no_boot e ≡ true) (basis c) bare (refl, refl) (refl, refl))) event there) }
  where
    no_boot : Event → Bool
    no_boot event = not (is_boot event)

    bare : (event : Event) → is_bare event ≡ true → no_boot event ≡ true
    bare (Boot boot) is = absurd (true≢false (sym is))
    bare _ is = refl

module _ (x : Present) (t : Transaction) (caller : Option Enlistment) (sound : IsSoundCourse x) (there : IsIn t (x.transactions).items) (calls : (e : Enlistment) → caller ≡ Some e → IsIn e (x.transactions).enlistments) where
  abbrev es : List Enlistment
  es = (x.transactions).enlistments

  object-itself : is_of_object t.id ≡ true
  object-itself = object-counted _ _ t.id (list_all-at (λ (t : Transaction). is_counted (x.recorded).boots (x.transactions).last_transaction t.id) (x.transactions).items sound.transactions.counted t there)

  object-enlistment : (e : Enlistment) → IsIn e es → is_of_object e.id ≡ true
  object-enlistment e in_es = object-counted _ _ e.id (list_all-at (λ (e : Enlistment). is_counted (x.recorded).boots (x.transactions).last_enlistment e.id) es sound.enlistments.counted e in_es)

  object-manager : (e : Enlistment) → IsIn e es → is_of_object e.manager ≡ true
  object-manager e in_es =
      let m = list_any-at (λ (m : Manager). same_id m.id e.manager) x.managers (list_all-at (λ (e : Enlistment). has_manager x.managers e.manager) es sound.enlistments.managers_there e in_es) in
      subst (λ id. is_of_object id ≡ true) (same_id-equal (m.0).id e.manager m.2)
      (object-counted _ _ (m.0).id (list_all-at (λ (m : Manager). is_counted (x.recorded).boots (x.transactions).last_manager m.id) x.managers sound.managers.counted m.0 m.1))

  names-own : list_all is_of_object (t.id ∷ []) ≡ true
  names-own = and_from _ _ object-itself refl

  names-enlistment : (e : Enlistment) → IsIn e es → list_all is_of_object (t.id ∷ e.id ∷ e.manager ∷ []) ≡ true
  names-enlistment e in_es = and_from _ _ object-itself (and_from _ _ (object-enlistment e in_es) (and_from _ _ (object-manager e in_es) refl))

  -- what a call records names objects
  objects-led : (input : PhaseInput) → list_all names_objects (led input (course_of x t caller)).events ≡ true
  objects-led input = passes-led names_objects input (course_of x t caller) refl record {
    ready_files = names-own;
    ready_keys = names-own;
    ready = λ e is. names-enlistment e (calls e is);
    held = of-superior (λ e. list_all is_of_object (t.id ∷ e.id ∷ e.manager ∷ []) ≡ true) es t.id (λ e in_es is. names-enlistment e in_es);
    decide = names-own;
    undo = names-own;
    done_files = names-own;
    done_keys = names-own;
    done = λ e is. and_from _ _ object-itself (and_from _ _ (object-enlistment e (calls e is)) refl);
    single_files = names-own;
    single_keys = names-own;
  }

pub sound-arrived : (x : Present) (t : Transaction) (caller : Option Enlistment) (input : PhaseInput) (reply : Reply) → IsSoundCourse x → IsIn t (x.transactions).items
    → ((e : Enlistment) → caller ≡ Some e → IsIn e (x.transactions).enlistments) → let d = led input (course_of x t caller) in Arrives (x.recorded).boots (course_of x t caller) d
    → MayCome (told_outcome t.outcome) t.phase input → IsSoundOutcome x (arrived x d reply)
sound-arrived x t caller input reply sound there calls arrives may =
    if_cases (λ o. IsSoundOutcome x o) (is_undecided d.transaction) on_its_way _
    (λ undecided. record { settled = went; events = no_boots; made = refl; notes = notes; outcomes = outcomes; objects = objects })
    (λ decided. record {
      settled = sound-own (with_course x d) (without_transaction (x.files).table (d.transaction).id) (without_own (x.keys).own (d.transaction).id) went (λ v is one.
          elim (IsIn-changed (x.transactions).items d.transaction v sound.transactions.rise is) [
            | inl e ↦ absurd (true≢false (sym (undecided-one v.phase v one (list_all-at (λ (v : Transaction). is_outcome_of v.phase v) (changed_to (x.transactions).items d.transaction) went.transactions.outcomes v is)) ∙ ap is_undecided e ∙ decided))
            | inr old ↦ (own_changes-without ((x.files).table).own (d.transaction).id v.id old.1, own_settings-without (x.keys).own (d.transaction).id v.id old.1)
          ]);
      events = no_boots;
      made = refl;
      notes = notes;
      outcomes = outcomes;
      objects = objects;
    })
  where
    d : Course
    d = led input (course_of x t caller)

    on_its_way : Outcome
    on_its_way = record (only_reply x reply) {
      events = d.events;
      works = d.works;
      sent = d.sent;
      transactions = (with_course x d).transactions;
    }

    went : IsSoundCourse (with_course x d)
    went = sound-course x sound t there caller d arrives

    no_boots : NoBoots d.events
    no_boots = led-no_boots input (course_of x t caller) refl

    objects : list_all names_objects d.events ≡ true
    objects = objects-led x t caller sound there calls input

    outcomes : OutcomesStay (x.transactions).items (changed_to (x.transactions).items d.transaction)
    outcomes = stay-changed (x.transactions).items t d.transaction sound.transactions.rise there (arrives.moved).stays.id (stays-known input (course_of x t caller) refl may)

    notes : (s : Sent) → IsIn s d.sent → is_note_of d.enlistments s.manager s.note ≡ true
    notes = notes-course x sound t there caller d arrives

-- ---- one outcome and then another

-- nothing is taken, and no resource manager is made
pub record IsQuiet (o : Outcome) : Type 0 where
  pub took : o.took ≡ None
  pub made : o.made ≡ []

notes_for-append : (id : Id) (a b : List Sent) → notes_for id (a ++ b) ≡ notes_for id a ++ notes_for id b
notes_for-append id [] b = refl
notes_for-append id (s ∷ a) b = elim (cases_Bool (same_id s.manager id)) [
  | inl same ↦ rw same (ap (λ notes. s.note ∷ notes) (notes_for-append id a b))
  | inr other ↦ rw other (notes_for-append id a b)
]

pub served-then : (took : Option Id) (a b : List Sent) (ms : List Manager) → map (served None b) (map (served took a) ms) ≡ map (served took (a ++ b)) ms
served-then took a b [] = refl
served-then took a b (m ∷ ms) = λ i.
    record m { queue = (append_assoc (drop (taken_count m.id took) m.queue) (notes_for m.id a) (notes_for m.id b) ∙ ap (λ notes. drop (taken_count m.id took) m.queue ++ notes) (sym (notes_for-append m.id a b))) i }
    ∷ served-then took a b ms i

pub sound-joined : (x : Present) (a b : Outcome) → IsQuiet b → IsSoundCourse (apply (apply x a) b) → IsSoundCourse (apply x (joined a b))
sound-joined x a b quiet sound = sound-alike (apply (apply x a) b) (apply x (joined a b)) (record {
  boots = ap (λ (s : Durable). s.boots) (sym (after_events-append x.recorded a.events b.events));
  image = ap (λ (s : Durable). s.image) (sym (after_events-append x.recorded a.events b.events));
  transactions = refl;
  managers = (λ i. map (served (quiet.took i) b.sent) (map (served a.took a.sent) (x.managers ++ a.made) ++ quiet.made i))
      ∙ ap (map (served None b.sent)) (append-nil (map (served a.took a.sent) (x.managers ++ a.made)))
      ∙ served-then a.took a.sent b.sent (x.managers ++ a.made)
      ∙ ap (map (served a.took (a.sent ++ b.sent))) (ap (λ ms. x.managers ++ ms) (sym (append-nil a.made) ∙ ap (λ ms. a.made ++ ms) (sym quiet.made)));
  handles = refl;
  own = refl;
  settings = refl;
}) sound

pub quiet-only_reply : (x : Present) (reply : Reply) → IsQuiet (only_reply x reply)
quiet-only_reply x reply = record { took = refl; made = refl }

pub quiet-arrived : (x : Present) (d : Course) (reply : Reply) → IsQuiet (arrived x d reply)
quiet-arrived x d reply = if_cases (λ o. IsQuiet o) (is_undecided d.transaction) _ _ (λ is. record { took = refl; made = refl }) (λ is. record { took = refl; made = refl })

pub quiet-joined : (a b : Outcome) → IsQuiet a → IsQuiet b → IsQuiet (joined a b)
quiet-joined a b first second = record { took = first.took; made = ap (λ ms. ms ++ b.made) first.made ∙ second.made }
