-- The calls that make and bind objects, and those on handles: what each comes to is sound.
use Rattle.std.proofs.Common.{◌≡◌, ℕ, ◌+◌, ◌≤◌, ◌==◌, ◌&&◌, not, true, false, List, [], ◌∷◌, length, nat_lt, Option, Some, None, is_some, refl, sym, ◌∙◌, subst, inl, inr}
use Rattle.std.proofs.lemmas.Bool.{cases_Bool, and_from, and_cases, or_parts, or_left, or_right, ltb-false, true≢false, not_from_false}
use Rattle.std.proofs.lemmas.Option.{none-some, same_Some}
use Rattle.ktm_base.specs.declared.limits.TheConstants.{MOST_NUMBER, MOST_INFORMATION_BYTES}
use Rattle.txf_laws.specs.Grammatical.{names_objects}
use Rattle.std.proofs.lemmas.List.Folds.{list_all-append}
use Rattle.std.specs.List.{list_all}
use Rattle.ktm_base.specs.declared.id.Label.{Label}
use Rattle.ktm_base.specs.declared.id.Pid.{Pid}
use Rattle.ktm_base.specs.declared.id.ObjectKind.{ObjectKind}
use Rattle.ktm_world.specs.declared.event.Event.TheVariants.{MadeRm}
use Rattle.ktm_world.specs.declared.input.PhaseInput.{PhaseInput}
use Rattle.ktm_world.specs.declared.object.Handle.{Handle}
use Rattle.ktm_world.specs.declared.object.Object.{Object}
use Rattle.ktm_world.specs.declared.object.Object.TheVariants.{Transaction as TransactionObject, Manager as ManagerObject, Enlistment as EnlistmentObject}
use Rattle.ktm_world.specs.declared.object.Transaction.{Transaction}
use Rattle.ktm_world.specs.declared.options.Durability.{Durability}
use Rattle.ktm_world.specs.declared.options.EnlistmentKind.{EnlistmentKind}
use Rattle.ktm_world.specs.declared.reply.Reply.{Reply}
use Rattle.ktm_world.specs.declared.reply.Reply.TheVariants.{Done, Guid}
use Rattle.ktm_world.specs.Enlistments.{Enlistment, Manager, is_superior}
use Rattle.ktm_world.specs.Handles.{object_at}
use Rattle.ktm_world.specs.HandleCalls.{is_handle, without_handle, closed_file, close_handle, exit, bind_to, duplicate_handle, duplicate_handle_tests}
use Rattle.ktm_world.specs.Labels.{binding, is_bound}
use Rattle.ktm_world.specs.Outcome.{Outcome, only_reply, apply, and_then}
use Rattle.ktm_world.specs.Present.{Present}
use Rattle.ktm_world.specs.TransactionCalls.{course_of, guid_in, create_transaction, create_transaction_tests, transaction_with, open_to_transaction, open_transaction, open_transaction_tests, is_durable, create_resource_manager, create_resource_manager_tests, manager_with, open_to_manager, open_resource_manager, open_resource_manager_tests, is_superior_kind, create_enlistment, create_enlistment_tests, enlistment_with, open_to_enlistment, open_enlistment, open_enlistment_tests, tick, keep_information, set_information_tests}
use Rattle.ktm_world.specs.Transactions.{same_id}
use Rattle.ktm_world.specs.Steps.{led}
use Rattle.txf_laws.specs.Elements.{IsIn}
use Rattle.ktm_courses.specs.SoundCourse.{IsSoundCourse, have_labels_apart, is_there}
use Rattle.txf_laws.proofs.offered.Elements.{IsIn-filter, list_all-at, list_any-from, each_pair-filter, not-not}
use Rattle.txf_laws.proofs.offered.Tables.{same_id-from}
use Rattle.ktm_courses.proofs.offered.Moves.{find-found, NoBoots, NoBoots-none, NoBoots-one}
use Rattle.ktm_courses.proofs.offered.Views.{sound-alike, sound-served}
use Rattle.ktm_courses.specs.Outcomes.{OutcomesStay}
use Rattle.ktm_courses.proofs.offered.Outcomes.{stay-refl, stay-then, stay-push}
use Rattle.ktm_courses.proofs.offered.OutcomesMade.{Keeps, settled, IsSoundOutcome, events-kept, sound-apply, sound-only_reply, sound-own, sound-joined, IsQuiet, quiet-only_reply, quiet-arrived, quiet-joined}
use Rattle.ktm_courses.proofs.offered.NewObjects.{list_any-last, next_id, sound-handles, sound-bound, counted-parts, counted-next}
use Rattle.ktm_courses.proofs.offered.Beginnings.{with_transaction, sound-with_transaction, with_manager, sound-with_manager, new_enlistment, with_new_enlistment, sound-with_enlistment, sound-clock, sound-with_information}
use Rattle.ktm_courses.proofs.offered.Calls.{Passes, passed, active-phase, sound-aborted_by}
use Rattle.ktm_courses.proofs.offered.HandlesAndTime.{Closes, close_handle-so, exit-so, tick-so}
use Rattle.ktm_steps.proofs.offered.Ways.{if_cases}

-- ---- labels

pub sound-binding : (x : Present) (process : Pid) (label : Label) (object : Object) (o : Outcome) → IsSoundOutcome x o → is_some (object_at o.handles process label) ≡ false → is_there (settled x o) object ≡ true
    → IsSoundOutcome x (binding process label object o)
sound-binding x process label object o sound free there = record {
  settled = sound-bound (settled x o) process label object sound.settled free there;
  events = sound.events;
  made = sound.made;
  notes = sound.notes;
  outcomes = sound.outcomes;
  objects = sound.objects;
}

-- a label is bound to what is there
sound-bound_only : (x : Present) (process : Pid) (label : Label) (object : Object) (reply : Reply) → IsSoundCourse x → is_bound x process label ≡ false → is_there x object ≡ true → IsSoundOutcome x (binding process label object (only_reply x reply))
sound-bound_only x process label object reply sound free there = sound-binding x process label object (only_reply x reply) (sound-only_reply x reply sound) free there

-- ---- objects are made

number-fits : (last : ℕ) → nat_lt MOST_NUMBER (last + 1) ≡ false → last + 1 ≤ MOST_NUMBER
number-fits last few = ltb-false MOST_NUMBER (last + 1) few

pub sound-create_transaction : (x : Present) (process : Pid) (label : Label) (timeout : ℕ) → IsSoundCourse x → Passes (create_transaction_tests x process label) → IsSoundOutcome x (create_transaction x process label timeout)
unfolding create_transaction create_transaction_tests
sound-create_transaction x process label timeout sound passes =
    let free = passed passes in
    let quota = passed free.1 in
    let few = or_parts _ _ (or_parts _ _ quota.0).1 in
    let id = next_id (x.recorded).boots (x.transactions).last_transaction in
    sound-binding x process label (TransactionObject id) (record (only_reply x (Guid (guid_in x ObjectKind.Transaction id))) { transactions = (with_transaction x timeout).transactions })
    (record { settled = sound-with_transaction x timeout sound (number-fits (x.transactions).last_transaction few.1); events = NoBoots-none; made = refl; outcomes = stay-push (x.transactions).items _; objects = refl; notes = λ s none. absurd none })
    free.0
    (list_any-last (λ (t : Transaction). same_id t.id id) (x.transactions).items _ (same_id-from id id refl))

pub sound-open_transaction : (x : Present) (process : Pid) (label : Label) (guid : List ℕ) → IsSoundCourse x → Passes (open_transaction_tests x process label guid) → IsSoundOutcome x (open_transaction x process label guid)
unfolding open_transaction open_transaction_tests
sound-open_transaction x process label guid sound passes = go (transaction_with x guid) refl
  where
    go : (o : Option Transaction) → transaction_with x guid ≡ o → IsSoundOutcome x (open_to_transaction x process label o)
    go None is = sound-only_reply x Done sound
    go (Some t) is = sound-bound_only x process label (TransactionObject t.id) Done sound (passed passes).0
        (list_any-from (λ (u : Transaction). same_id u.id t.id) (x.transactions).items t (find-found _ (x.transactions).items t is).0 (same_id-from t.id t.id refl))

pub sound-create_manager : (x : Present) (process : Pid) (label : Label) (durability : Durability) → IsSoundCourse x → Passes (create_resource_manager_tests x process label) → Keeps x (create_resource_manager x process label durability)
unfolding create_resource_manager create_resource_manager_tests
sound-create_manager x process label durability sound passes =
    let free = passed passes in
    let quota = passed free.1 in
    let few = or_parts _ _ (or_parts _ _ quota.0).1 in
    let id = next_id (x.recorded).boots (x.transactions).last_manager in
    let durable = is_durable durability in
    let events = if_cases (λ events. NoBoots events) durable (MadeRm id ∷ []) [] (λ is. NoBoots-one (MadeRm id) refl) (λ is. NoBoots-none) in
    let kept = events-kept _ x.recorded events in
    let fits = number-fits (x.transactions).last_manager few.1 in
    let made = sound-with_manager x durable sound fits in
    let drawn = counted-parts (x.recorded).boots ((x.transactions).last_manager + 1) id (counted-next (x.recorded).boots (x.transactions).last_manager sound.numbers.booted fits) in
    let named : list_all names_objects (MadeRm id ∷ []) ≡ true = and_from _ _ (and_from _ _ (and_from _ _ (and_from _ _ drawn.0 drawn.2) drawn.3) refl) refl in
    let bound = sound-bound (with_manager x durable) process label (ManagerObject id) made free.0 (list_any-last (λ (m : Manager). same_id m.id id) x.managers _ (same_id-from id id refl)) in
    record {
      sound = sound-alike _ (apply x (create_resource_manager x process label durability)) (record { boots = sym kept.0; image = sym kept.1; transactions = refl; managers = refl; handles = refl; own = refl; settings = refl })
          (sound-served _ None [] bound (λ s none. absurd none));
      outcomes = stay-refl (x.transactions).items;
      objects = if_cases (λ events. list_all names_objects events ≡ true) durable (MadeRm id ∷ []) [] (λ is. named) (λ is. refl);
    }

pub sound-open_manager : (x : Present) (process : Pid) (label : Label) (guid : List ℕ) → IsSoundCourse x → Passes (open_resource_manager_tests x process label guid) → IsSoundOutcome x (open_resource_manager x process label guid)
unfolding open_resource_manager open_resource_manager_tests
sound-open_manager x process label guid sound passes = go (manager_with x guid) refl
  where
    go : (o : Option Manager) → manager_with x guid ≡ o → IsSoundOutcome x (open_to_manager x process label o)
    go None is = sound-only_reply x Done sound
    go (Some m) is = sound-bound_only x process label (ManagerObject m.id) Done sound (passed passes).0
        (list_any-from (λ (n : Manager). same_id n.id m.id) x.managers m (find-found _ x.managers m is).0 (same_id-from m.id m.id refl))

superior-kind : (x : Present) (m : Manager) (t : Transaction) (kind : EnlistmentKind) → is_superior (new_enlistment x m t kind) ≡ is_superior_kind kind
superior-kind x m t EnlistmentKind.Superior = refl
superior-kind x m t _ = refl

pub sound-create_enlistment : (x : Present) (process : Pid) (label : Label) (m : Option Manager) (t : Option Transaction) (kind : EnlistmentKind) → IsSoundCourse x
    → ((n : Manager) → m ≡ Some n → IsIn n x.managers) → ((u : Transaction) → t ≡ Some u → IsIn u (x.transactions).items)
    → Passes (create_enlistment_tests x process label m t kind) → IsSoundOutcome x (create_enlistment x process label m t kind)
unfolding create_enlistment create_enlistment_tests
sound-create_enlistment x process label None t kind sound manager transaction passes = sound-only_reply x Done sound
sound-create_enlistment x process label (Some m) None kind sound manager transaction passes = sound-only_reply x Done sound
sound-create_enlistment x process label (Some m) (Some t) kind sound manager transaction passes =
    let there = passed passes in
    let here = passed there.1 in let committed = passed here.1 in let aborted = passed committed.1 in let active = passed aborted.1 in
    let bound = passed active.1 in let single = passed bound.1 in let quota = passed single.1 in
    let free = or_parts _ _ bound.0 in
    let few = or_parts _ _ (or_parts _ _ quota.0).1 in
    let id = next_id (x.recorded).boots (x.transactions).last_enlistment in
    sound-binding x process label (EnlistmentObject id) (record (only_reply x (Guid (guid_in x ObjectKind.Enlistment id))) { transactions = (with_new_enlistment x m t kind).transactions })
    (record {
      settled = sound-with_enlistment x m t kind sound (number-fits (x.transactions).last_enlistment few.1) (manager m refl) (transaction t refl) (active-phase t (not-not _ active.0))
          (elim (cases_Bool (is_superior_kind kind)) [
            | inr ordinary ↦ or_left _ _ (not_from_false _ (superior-kind x m t kind ∙ ordinary))
            | inl superior ↦ or_right _ _ (list_any-from (λ (n : Manager). same_id n.id m.id && n.is_durable) x.managers m (manager m refl)
                (and_from _ _ (same_id-from m.id m.id refl) (elim (and_cases _ _ free.1) [ inl other ↦ absurd (true≢false (sym superior ∙ other)) | inr durable ↦ not-not m.is_durable durable ])))
          ])
          (λ superior. elim (and_cases _ _ single.0) [ inl other ↦ absurd (true≢false (sym superior ∙ superior-kind x m t kind ∙ other)) | inr alone ↦ alone ]);
      events = NoBoots-none;
      made = refl;
      outcomes = stay-refl (x.transactions).items;
      objects = refl;
      notes = λ s none. absurd none;
    })
    free.0
    (list_any-last (λ (e : Enlistment). same_id e.id id) (x.transactions).enlistments _ (same_id-from id id refl))

pub sound-open_enlistment : (x : Present) (process : Pid) (label : Label) (m : Option Manager) (guid : List ℕ) → IsSoundCourse x → Passes (open_enlistment_tests x process label m guid) → IsSoundOutcome x (open_enlistment x process label m guid)
unfolding open_enlistment open_enlistment_tests
sound-open_enlistment x process label None guid sound passes = sound-only_reply x Done sound
sound-open_enlistment x process label (Some m) guid sound passes = go (enlistment_with x (Some m) guid) refl
  where
    go : (o : Option Enlistment) → enlistment_with x (Some m) guid ≡ o → IsSoundOutcome x (open_to_enlistment x process label o)
    go None is = sound-only_reply x Done sound
    go (Some e) is = sound-bound_only x process label (EnlistmentObject e.id) Done sound (passed (passed passes).1).0
        (list_any-from (λ (f : Enlistment). same_id f.id e.id) (x.transactions).enlistments e (find-found _ (x.transactions).enlistments e is).0 (same_id-from e.id e.id refl))

object_at-found : (hs : List Handle) (process : Pid) (label : Label) (object : Object) → object_at hs process label ≡ Some object → (h : Handle) × IsIn h hs × (h.object ≡ object)
object_at-found [] process label object is = absurd (none-some object is)
object_at-found (h ∷ hs) process label object is = elim (cases_Bool ((h.process.0 == process.0) && (h.label.0 == label.0))) [
  | inl same ↦ (h, inl refl, same_Some h.object object (rw same at is))
  | inr other ↦ let rest = object_at-found hs process label object (rw other at is) in (rest.0, inr rest.1, rest.2)
]

pub sound-duplicate : (x : Present) (process : Pid) (label : Label) (from : Pid) (source : Label) → IsSoundCourse x → Passes (duplicate_handle_tests x process label from source) → IsSoundOutcome x (duplicate_handle x process label from source)
unfolding duplicate_handle duplicate_handle_tests
sound-duplicate x process label from source sound passes = go (object_at x.handles from source) refl
  where
    go : (o : Option Object) → object_at x.handles from source ≡ o → IsSoundOutcome x (bind_to x process label o)
    go None is = sound-only_reply x Done sound
    go (Some object) is =
        let h = object_at-found x.handles from source object is in
        sound-bound_only x process label object Done sound (passed (passed (passed passes).1).1).0
        (subst (λ object. is_there x object ≡ true) h.2 (list_all-at (λ (h : Handle). is_there x h.object) x.handles sound.handles.objects_there h.0 h.1))

-- ---- recovery information

pub sound-keep_information : (x : Present) (o : Option Enlistment) (information : List ℕ) → IsSoundCourse x → Passes (set_information_tests x o information) → IsSoundOutcome x (keep_information x o information)
sound-keep_information x None information sound passes = sound-only_reply x Done sound
sound-keep_information x (Some e) information sound passes = record {
  settled = sound-with_information x e.id information sound (ltb-false MOST_INFORMATION_BYTES (length information) (passed (passed (passed passes).1).1).0);
  events = NoBoots-none;
  made = refl;
  outcomes = stay-refl (x.transactions).items;
  objects = refl;
  notes = λ s none. absurd none;
}

-- ---- the last handle, and the end of a process

-- an outcome that is sound, and takes and makes nothing
pub record IsSoundly (x : Present) (o : Outcome) : Type 0 where
  sound : IsSoundOutcome x o
  quiet : IsQuiet o

soundly-reply : (x : Present) (reply : Reply) → IsSoundCourse x → IsSoundly x (only_reply x reply)
soundly-reply x reply sound = record { sound = sound-only_reply x reply sound; quiet = quiet-only_reply x reply }

-- a sound machine after an outcome that takes and makes nothing, and with the outcomes that were known
pub record StaysSound (x : Present) (o : Outcome) : Type 0 where
  pub sound : IsSoundCourse (apply x o)
  pub quiet : IsQuiet o
  pub outcomes : OutcomesStay (x.transactions).items (o.transactions).items
  pub objects : list_all names_objects o.events ≡ true

pub stays-sound : (x : Present) (o : Outcome) → IsSoundly x o → StaysSound x o
stays-sound x o soundly = record { sound = sound-apply x o soundly.sound; quiet = soundly.quiet; outcomes = (soundly.sound).outcomes; objects = (soundly.sound).objects }

keeps-of : (x : Present) (o : Outcome) → StaysSound x o → Keeps x o
keeps-of x o stays = record { sound = stays.sound; outcomes = stays.outcomes; objects = stays.objects }

pub stays-then : (x : Present) (a : Outcome) (next : Present → Outcome) → StaysSound x a → (IsSoundCourse (apply x a) → StaysSound (apply x a) (next (apply x a))) → StaysSound x (and_then x a next)
stays-then x a next first second = let rest = second first.sound in record { sound = sound-joined x a (next (apply x a)) rest.quiet rest.sound; quiet = quiet-joined a (next (apply x a)) first.quiet rest.quiet; outcomes = stay-then (x.transactions).items (a.transactions).items ((next (apply x a)).transactions).items first.outcomes rest.outcomes; objects = list_all-append names_objects a.events (next (apply x a)).events ∙ and_from _ _ first.objects rest.objects }

-- a label is unbound
pub stays-unbound : (x : Present) (process : Pid) (label : Label) → IsSoundCourse x → StaysSound x (record (only_reply x Done) { handles = without_handle x.handles process label })
stays-unbound x process label sound = stays-sound x _ (record {
  sound = record {
    settled = sound-handles x (without_handle x.handles process label) sound (each_pair-filter have_labels_apart (λ h. not (is_handle process label h)) x.handles sound.handles.labels_differ)
        (λ h there. list_all-at (λ (h : Handle). is_there x h.object) x.handles sound.handles.objects_there h (IsIn-filter (λ h. not (is_handle process label h)) x.handles h there).0);
    events = NoBoots-none;
    made = refl;
    outcomes = stay-refl (x.transactions).items;
    objects = refl;
    notes = λ s none. absurd none;
  };
  quiet = record { took = refl; made = refl };
})

-- a machine stays sound where handles are closed, and as time passes
pub stays-closing : Closes IsSoundCourse StaysSound
stays-closing = record {
  rolls = record {
    reply = λ x sound. stays-sound x (only_reply x Done) (soundly-reply x Done sound);
    rolls = λ x t sound there can. stays-sound x _ record { sound = sound-aborted_by x sound t there None Done (λ e is. absurd (none-some e is)) can; quiet = quiet-arrived x (led PhaseInput.Rollback (course_of x t None)) Done };
    goes_on = stays-then;
  };
  unbinds = stays-unbound;
  ends = λ x number sound. stays-sound x _ (record {
    sound = record { settled = sound-own x (closed_file (x.files).table number) (x.keys).own sound (λ t there one. (refl, refl)); events = NoBoots-none; made = refl; outcomes = stay-refl (x.transactions).items; objects = refl; notes = λ s none. absurd none };
    quiet = record { took = refl; made = refl };
  });
}

pub sound-close_handle : (x : Present) (process : Pid) (label : Label) → IsSoundCourse x → Keeps x (close_handle x process label)
sound-close_handle x process label sound = keeps-of x (close_handle x process label) (close_handle-so _ _ stays-closing x process label sound)

pub sound-exit : (x : Present) (process : Pid) → IsSoundCourse x → Keeps x (exit x process)
sound-exit x process sound = keeps-of x (exit x process) (exit-so _ _ stays-closing x process sound)

pub sound-tick : (x : Present) (ms : ℕ) → IsSoundCourse x → Keeps x (tick x ms)
sound-tick x ms sound = let stays = tick-so _ _ stays-closing.rolls x ms (sound-clock x ms sound) in record { sound = stays.sound; outcomes = stays.outcomes; objects = stays.objects }
