-- New transactions, resource managers and enlistments leave a machine sound, and so do recovery information and the passing of time.
use Rattle.std.specs.Prelude.{if◌then◌else◌}
use Rattle.std.proofs.Common.{◌≡◌, ℕ, ◌+◌, ◌≤◌, ◌==◌, ◌&&◌, ◌||◌, not, Bool, true, false, List, [], ◌∷◌, ◌++◌, length, map, filter, count_by, nat_lt, nat_le, Option, Some, None, is_some, is_none, refl, sym, ◌∙◌, ap, subst, arith, inl, inr}
use Rattle.std.proofs.lemmas.Bool.{cases_Bool, and_parts, and_from, and_left, or_left, or_right, eq-eqb, ltb-true, le-leb, leb-true, true≢false, not_from_false, false_from_ne_true}
use Rattle.std.proofs.lemmas.List.Sums.{length-filter}
use Rattle.std.specs.List.{list_any, list_all}
use Rattle.ktm_base.specs.declared.limits.TheConstants.{MOST_NUMBER, MOST_INFORMATION_BYTES}
use Rattle.ktm_base.specs.declared.id.Id.{Id}
use Rattle.ktm_world.specs.declared.object.Handle.{Handle}
use Rattle.ktm_world.specs.declared.object.Object.{Object}
use Rattle.ktm_world.specs.declared.object.Object.TheVariants.{Transaction as TransactionObject, Manager as ManagerObject, Enlistment as EnlistmentObject, File as FileObject}
use Rattle.ktm_world.specs.declared.object.Phase.{Phase}
use Rattle.ktm_world.specs.declared.object.Phase.TheVariants.{Active, Requested, PrePreparing, PrePrepared, Preparing, SinglePhase, Held, InDoubt, Committing, Aborting, Ended}
use Rattle.ktm_world.specs.declared.object.Transaction.{Transaction}
use Rattle.ktm_world.specs.declared.options.EnlistmentKind.{EnlistmentKind}
use Rattle.ktm_world.specs.Durable.{is_before}
use Rattle.ktm_world.specs.Enlistments.{Enlistment, Manager, Note, is_superior, takes_part, is_unfinished, superior_of, is_durable_at}
use Rattle.ktm_world.specs.Present.{Present}
use Rattle.ktm_world.specs.Transactions.{same_id}
use Rattle.txf_laws.specs.Elements.{IsIn, each_pair}
use Rattle.ktm_courses.specs.SoundCourse.{IsSoundCourse, is_counted, is_made_with_it, has_transaction, has_manager, has_enlistment_of, is_last_recover, is_note_of, are_not_both_superiors, is_superior_durable, is_unrecovered_well, is_outcome_of, is_of_its_boot, is_superior_as, has_superior_as_asked, is_enlistment_as, are_enlistments_as_asked, is_awaited_as, is_awaited, is_recorded_as, is_recorded_as_asked, is_alone_in_one_phase, is_there}
use Rattle.txf_laws.proofs.offered.Lists.{IsIn-unmap}
use Rattle.txf_laws.proofs.offered.Elements.{list_all-at, list_all-from, list_any-at, list_any-from}
use Rattle.txf_laws.proofs.offered.Tables.{same_id-equal, same_id-from, same_id-sym}
use Rattle.ktm_courses.proofs.offered.Views.{recorded-durable, list_any-map, list_all-map, each_pair-map}
use Rattle.ktm_courses.proofs.offered.Moves.{same-by_id}
use Rattle.ktm_courses.proofs.offered.Endings.{superior-found}
use Rattle.ktm_courses.proofs.offered.NewObjects.{list_all-push, list_any-push, list_any-silent, filter-silent, superior-silent, each_pair-push, next_id, counted-before, counted-more, counted-next, next-other}
use Rattle.ktm_world.specs.TransactionCalls.{later}
use Rattle.ktm_world.specs.declared.object.TransactionOutcome.TheVariants.{Undetermined}
use Rattle.ktm_world.specs.Enlistments.{has_id, with_enlistments}
use Rattle.ktm_steps.proofs.offered.Ways.{if_cases}

-- ---- a transaction

-- the one that begins
abbrev pub new_transaction : Present → ℕ → Transaction
new_transaction x timeout =
    record { id = next_id (x.recorded).boots (x.transactions).last_transaction; timeout = timeout; created = (x.transactions).clock; phase = Active; outcome = Undetermined; is_recorded = false }

-- the transactions with it
abbrev pub with_transaction : Present → ℕ → Present
with_transaction x timeout = record x { transactions = record x.transactions { last_transaction = (x.transactions).last_transaction + 1; items = (x.transactions).items ++ new_transaction x timeout ∷ [] } }

module _ (x : Present) (timeout : ℕ) (sound : IsSoundCourse x) (fits : (x.transactions).last_transaction + 1 ≤ MOST_NUMBER) where
  abbrev ts : List Transaction
  ts = (x.transactions).items

  abbrev es : List Enlistment
  es = (x.transactions).enlistments

  abbrev t : Transaction
  t = new_transaction x timeout

  abbrev y : Present
  y = with_transaction x timeout

  pushed : (test : Transaction → Bool) → list_all test ts ≡ true → test t ≡ true → list_all test (ts ++ t ∷ []) ≡ true
  pushed test old new = list_all-push test ts t old new

  has-pushed : (id : Id) → has_transaction ts id ≡ true → has_transaction (ts ++ t ∷ []) id ≡ true
  has-pushed id there = list_any-push (λ (t : Transaction). same_id t.id id) ts t there

  object-pushed : (object : Object) → is_there x object ≡ true → is_there y object ≡ true
  object-pushed (TransactionObject id) is = has-pushed id is
  object-pushed (ManagerObject id) is = is
  object-pushed (EnlistmentObject id) is = is
  object-pushed (FileObject number) is = is

  -- no enlistment is one of it
  no-enlistment : (e : Enlistment) → IsIn e es → same_id e.transaction t.id ≡ false
  no-enlistment e there =
      let some = list_any-at (λ (t : Transaction). same_id t.id e.transaction) ts (list_all-at (λ (e : Enlistment). has_transaction ts e.transaction) es sound.enlistments.transactions_there e there) in
      subst (λ id. same_id id t.id ≡ false) (same_id-equal (some.0).id e.transaction some.2)
      (next-other (x.recorded).boots (x.transactions).last_transaction (some.0).id (list_all-at (λ (t : Transaction). is_counted (x.recorded).boots (x.transactions).last_transaction t.id) ts sound.transactions.counted some.0 some.1))

  pub sound-with_transaction : IsSoundCourse (with_transaction x timeout)
  sound-with_transaction = record {
    numbers = sound.numbers;
    transactions = record {
      rise = each_pair-push (λ (t u : Transaction). is_before t.id u.id) ts t sound.transactions.rise (λ u there. counted-before (x.recorded).boots (x.transactions).last_transaction u.id
          (list_all-at (λ (t : Transaction). is_counted (x.recorded).boots (x.transactions).last_transaction t.id) ts sound.transactions.counted u there));
      counted = pushed (λ t. is_counted (x.recorded).boots ((x.transactions).last_transaction + 1) t.id)
          (list_all-from (λ (t : Transaction). is_counted (x.recorded).boots ((x.transactions).last_transaction + 1) t.id) ts (λ u there. counted-more (x.recorded).boots (x.transactions).last_transaction u.id
          (list_all-at (λ (t : Transaction). is_counted (x.recorded).boots (x.transactions).last_transaction t.id) ts sound.transactions.counted u there)))
          (counted-next (x.recorded).boots (x.transactions).last_transaction sound.numbers.booted fits);
      boots = pushed (is_of_its_boot (x.recorded).boots) sound.transactions.boots (rw (not-less (x.recorded).boots) refl);
      outcomes = pushed (λ t. is_outcome_of t.phase t) sound.transactions.outcomes refl;
      begun = pushed (λ t. nat_le t.created (x.transactions).clock) sound.transactions.begun (le-leb (x.transactions).clock (x.transactions).clock (omega arith));
    };
    enlistments = record {
      rise = sound.enlistments.rise;
      counted = sound.enlistments.counted;
      made = sound.enlistments.made;
      transactions_there = list_all-from (λ (e : Enlistment). has_transaction (ts ++ t ∷ []) e.transaction) es
          (λ e there. has-pushed e.transaction (list_all-at (λ (e : Enlistment). has_transaction ts e.transaction) es sound.enlistments.transactions_there e there));
      managers_there = sound.enlistments.managers_there;
      superiors_durable = sound.enlistments.superiors_durable;
      superiors_differ = sound.enlistments.superiors_differ;
      unrecovered = sound.enlistments.unrecovered;
      information_fits = sound.enlistments.information_fits;
    };
    managers = sound.managers;
    handles = record {
      labels_differ = sound.handles.labels_differ;
      objects_there = list_all-from (λ (h : Handle). is_there y h.object) x.handles (λ h there. object-pushed h.object (list_all-at (λ (h : Handle). is_there x h.object) x.handles sound.handles.objects_there h there));
    };
    phases = record {
      superiors = pushed (has_superior_as_asked es) sound.phases.superiors refl;
      enlistments = pushed (are_enlistments_as_asked es) sound.phases.enlistments
          (list_all-from (λ (e : Enlistment). not (same_id e.transaction t.id) || is_enlistment_as Active e) es (λ e there. or_left _ _ (not_from_false _ (no-enlistment e there))));
      awaited = pushed (is_awaited es) sound.phases.awaited refl;
      recorded = pushed (is_recorded_as_asked x.managers es) sound.phases.recorded refl;
    };
    alone = pushed (is_alone_in_one_phase ((x.files).table).own (x.keys).own) sound.alone refl;
  }
    where
      not-less : (n : ℕ) → nat_lt n n ≡ false
      not-less n = false_from_ne_true _ (λ less. let l = ltb-true n n less in omega arith)

-- ---- a resource manager

-- the resource managers with one more
abbrev pub with_manager : Present → Bool → Present
with_manager x durable = record x {
  transactions = record x.transactions { last_manager = (x.transactions).last_manager + 1 };
  managers = x.managers ++ record { id = next_id (x.recorded).boots (x.transactions).last_manager; is_durable = durable; queue = [] } ∷ [];
}

module _ (x : Present) (durable : Bool) (sound : IsSoundCourse x) (fits : (x.transactions).last_manager + 1 ≤ MOST_NUMBER) where
  abbrev es-m : List Enlistment
  es-m = (x.transactions).enlistments

  abbrev m : Manager
  m = record { id = next_id (x.recorded).boots (x.transactions).last_manager; is_durable = durable; queue = [] }

  abbrev ms : List Manager
  ms = x.managers ++ m ∷ []

  counted-manager : (n : Manager) → IsIn n x.managers → is_counted (x.recorded).boots (x.transactions).last_manager n.id ≡ true
  counted-manager n there = list_all-at (λ (m : Manager). is_counted (x.recorded).boots (x.transactions).last_manager m.id) x.managers sound.managers.counted n there

  -- it is not that of any enlistment
  durable-same : (e : Enlistment) → IsIn e es-m → is_durable_at ms e.manager ≡ is_durable_at x.managers e.manager
  durable-same e there =
      let some = list_any-at (λ (m : Manager). same_id m.id e.manager) x.managers (list_all-at (λ (e : Enlistment). has_manager x.managers e.manager) es-m sound.enlistments.managers_there e there) in
      list_any-silent (λ (n : Manager). same_id n.id e.manager && n.is_durable) x.managers m (and_left _ _
      (subst (λ id. same_id m.id id ≡ false) (same_id-equal (some.0).id e.manager some.2) (same_id-sym (some.0).id m.id (next-other (x.recorded).boots (x.transactions).last_manager (some.0).id (counted-manager some.0 some.1)))))

  has-manager : (id : Id) → has_manager x.managers id ≡ true → has_manager ms id ≡ true
  has-manager id there = list_any-push (λ (m : Manager). same_id m.id id) x.managers m there

  object-manager : (object : Object) → is_there x object ≡ true → is_there (with_manager x durable) object ≡ true
  object-manager (TransactionObject id) is = is
  object-manager (ManagerObject id) is = has-manager id is
  object-manager (EnlistmentObject id) is = is
  object-manager (FileObject number) is = is

  pub sound-with_manager : IsSoundCourse (with_manager x durable)
  sound-with_manager = record {
    numbers = sound.numbers;
    transactions = sound.transactions;
    enlistments = record {
      rise = sound.enlistments.rise;
      counted = sound.enlistments.counted;
      made = sound.enlistments.made;
      transactions_there = sound.enlistments.transactions_there;
      managers_there = list_all-from (λ (e : Enlistment). has_manager ms e.manager) es-m (λ e there. has-manager e.manager (list_all-at (λ (e : Enlistment). has_manager x.managers e.manager) es-m sound.enlistments.managers_there e there));
      superiors_durable = list_all-from (is_superior_durable ms) es-m (λ e there. ap (λ b. not (is_superior e) || b) (durable-same e there) ∙ list_all-at (is_superior_durable x.managers) es-m sound.enlistments.superiors_durable e there);
      superiors_differ = sound.enlistments.superiors_differ;
      unrecovered = list_all-from (is_unrecovered_well (x.recorded).boots ms) es-m (λ e there.
          ap (λ b. e.is_recovered || (nat_lt (e.id).boot (x.recorded).boots && b && not e.is_read_only && not e.is_finished && is_none e.owes && (is_superior e || e.is_prepared))) (durable-same e there)
          ∙ list_all-at (is_unrecovered_well (x.recorded).boots x.managers) es-m sound.enlistments.unrecovered e there);
      information_fits = sound.enlistments.information_fits;
    };
    managers = record {
      rise = each_pair-push (λ (m n : Manager). is_before m.id n.id) x.managers m sound.managers.rise (λ n there. counted-before (x.recorded).boots (x.transactions).last_manager n.id (counted-manager n there));
      counted = list_all-push (λ (n : Manager). is_counted (x.recorded).boots ((x.transactions).last_manager + 1) n.id) x.managers m
          (list_all-from (λ (n : Manager). is_counted (x.recorded).boots ((x.transactions).last_manager + 1) n.id) x.managers (λ n there. counted-more (x.recorded).boots (x.transactions).last_manager n.id (counted-manager n there)))
          (counted-next (x.recorded).boots (x.transactions).last_manager sound.numbers.booted fits);
      notes_there = list_all-push (λ (n : Manager). list_all (is_note_of es-m n.id) n.queue) x.managers m sound.managers.notes_there refl;
    };
    handles = record {
      labels_differ = sound.handles.labels_differ;
      objects_there = list_all-from (λ (h : Handle). is_there (with_manager x durable) h.object) x.handles (λ h there. object-manager h.object (list_all-at (λ (h : Handle). is_there x h.object) x.handles sound.handles.objects_there h there));
    };
    phases = record {
      superiors = sound.phases.superiors;
      enlistments = sound.phases.enlistments;
      awaited = sound.phases.awaited;
      recorded = list_all-from (is_recorded_as_asked ms es-m) (x.transactions).items (λ t there. recorded-durable x.managers ms es-m durable-same t.phase t.id t.is_recorded
          ∙ list_all-at (is_recorded_as_asked x.managers es-m) (x.transactions).items sound.phases.recorded t there);
    };
    alone = sound.alone;
  }

-- ---- an enlistment

-- the one that is made
abbrev pub new_enlistment : Present → Manager → Transaction → EnlistmentKind → Enlistment
new_enlistment x m t kind = record {
  id = next_id (x.recorded).boots (x.transactions).last_enlistment;
  manager = m.id;
  transaction = t.id;
  kind = kind;
  owes = None;
  is_read_only = false;
  is_prepared = false;
  is_finished = false;
  is_recovered = true;
  information = [];
}

-- the enlistments with it
abbrev pub with_new_enlistment : Present → Manager → Transaction → EnlistmentKind → Present
with_new_enlistment x m t kind = record x { transactions = record x.transactions { last_enlistment = (x.transactions).last_enlistment + 1; enlistments = (x.transactions).enlistments ++ new_enlistment x m t kind ∷ [] } }

module _ (x : Present) (m : Manager) (t : Transaction) (kind : EnlistmentKind) (sound : IsSoundCourse x) (fits : (x.transactions).last_enlistment + 1 ≤ MOST_NUMBER)
    (manager : IsIn m x.managers) (transaction : IsIn t (x.transactions).items) (active : t.phase ≡ Active)
    (durable : is_superior_durable x.managers (new_enlistment x m t kind) ≡ true) (alone : is_superior (new_enlistment x m t kind) ≡ true → is_some (superior_of (x.transactions).enlistments t.id) ≡ false) where
  abbrev es-e : List Enlistment
  es-e = (x.transactions).enlistments

  abbrev ts-e : List Transaction
  ts-e = (x.transactions).items

  abbrev e : Enlistment
  e = new_enlistment x m t kind

  abbrev z : Present
  z = with_new_enlistment x m t kind

  counted-enlistment : (f : Enlistment) → IsIn f es-e → is_counted (x.recorded).boots (x.transactions).last_enlistment f.id ≡ true
  counted-enlistment f there = list_all-at (λ (e : Enlistment). is_counted (x.recorded).boots (x.transactions).last_enlistment e.id) es-e sound.enlistments.counted f there

  object-enlistment : (object : Object) → is_there x object ≡ true → is_there z object ≡ true
  object-enlistment (TransactionObject id) is = is
  object-enlistment (ManagerObject id) is = is
  object-enlistment (EnlistmentObject id) is = list_any-push (λ (e : Enlistment). same_id e.id id) es-e e is
  object-enlistment (FileObject number) is = is

  note-enlistment : (manager : Id) (note : Note) → is_note_of es-e manager note ≡ true → is_note_of (es-e ++ e ∷ []) manager note ≡ true
  note-enlistment manager note is = go note.enlistment is
    where
      go : (o : Option Id) → is_note_of es-e manager (record note { enlistment = o }) ≡ true → is_note_of (es-e ++ e ∷ []) manager (record note { enlistment = o }) ≡ true
      go None is = is
      go (Some id) is =
          let both = and_parts (not (is_last_recover note.kind)) (has_enlistment_of es-e manager id) is in
          and_from _ _ both.0 (list_any-push (λ (e : Enlistment). same_id e.id id && same_id e.manager manager) es-e e both.1)

  -- either it is of the transaction, which is active, or it is not
  each-transaction : (test test' : Transaction → Bool) → list_all test ts-e ≡ true → ((v : Transaction) → v.phase ≡ Active → v.id ≡ t.id → test v ≡ true → test' v ≡ true)
      → ((v : Transaction) → same_id e.transaction v.id ≡ false → test v ≡ true → test' v ≡ true) → list_all test' ts-e ≡ true
  each-transaction test test' all its others = list_all-from test' ts-e (λ v there. elim (cases_Bool (same_id t.id v.id)) [
    | inl same ↦
        let is = same_id-equal t.id v.id same in
        its v (ap (λ (w : Transaction). w.phase) (sym (same-by_id (λ (u : Transaction). u.id) ts-e sound.transactions.rise t v transaction there is)) ∙ active) (sym is) (list_all-at test ts-e all v there)
    | inr other ↦ others v other (list_all-at test ts-e all v there)
  ])

  no-part-of : (id : Id) (test : Bool) → same_id e.transaction id ≡ false → (takes_part id e && test) ≡ false
  no-part-of id test other = and_left _ _ (and_left _ _ (and_left _ _ other))

  awaited-new : (phase : Phase) (id : Id) → same_id e.transaction id ≡ false → is_awaited_as phase (es-e ++ e ∷ []) id ≡ is_awaited_as phase es-e id
  awaited-new PrePreparing id other = list_any-silent (λ e. takes_part id e && is_some e.owes) es-e e (no-part-of id false other)
  awaited-new Preparing id other = list_any-silent (λ e. takes_part id e && is_some e.owes) es-e e (no-part-of id false other)
  awaited-new SinglePhase id other = ap (λ n. n == 1) (sym (length-filter (takes_part id) (es-e ++ e ∷ [])) ∙ ap length (filter-silent (takes_part id) es-e e (and_left _ _ (and_left _ _ other))) ∙ length-filter (takes_part id) es-e)
  awaited-new Committing id other = list_any-silent (is_unfinished id) es-e e (no-part-of id true other)
  awaited-new Aborting id other = list_any-silent (is_unfinished id) es-e e (no-part-of id true other)
  awaited-new _ id other = refl

  recorded-new : (phase : Phase) (id : Id) (r : Bool) → same_id e.transaction id ≡ false → is_recorded_as phase x.managers (es-e ++ e ∷ []) id r ≡ is_recorded_as phase x.managers es-e id r
  recorded-new Preparing id r other = ap (λ b. if b then r else not r) (list_any-silent (λ e. takes_part id e && (e.is_prepared && is_durable_at x.managers e.manager)) es-e e (no-part-of id _ other))
  recorded-new Committing id r other = ap (λ b. r || not b) (list_any-silent (λ e. takes_part id e && (not e.is_finished && is_durable_at x.managers e.manager)) es-e e (no-part-of id _ other))
  recorded-new _ id r other = refl

  asked-new : (v : Transaction) → are_enlistments_as_asked es-e v ≡ true → (not (same_id e.transaction v.id) || is_enlistment_as v.phase e) ≡ true → are_enlistments_as_asked (es-e ++ e ∷ []) v ≡ true
  asked-new v all new = list_all-push (λ (e : Enlistment). not (same_id e.transaction v.id) || is_enlistment_as v.phase e) es-e e all new

  idle-new : is_enlistment_as Active e ≡ true
  idle-new = if_cases (λ b. b ≡ true) (is_superior e) true true (λ above. refl) (λ below. refl)

  pub sound-with_enlistment : IsSoundCourse (with_new_enlistment x m t kind)
  sound-with_enlistment = record {
    numbers = sound.numbers;
    transactions = sound.transactions;
    enlistments = record {
      rise = each_pair-push (λ (e f : Enlistment). is_before e.id f.id) es-e e sound.enlistments.rise (λ f there. counted-before (x.recorded).boots (x.transactions).last_enlistment f.id (counted-enlistment f there));
      counted = list_all-push (λ (f : Enlistment). is_counted (x.recorded).boots ((x.transactions).last_enlistment + 1) f.id) es-e e
          (list_all-from (λ (f : Enlistment). is_counted (x.recorded).boots ((x.transactions).last_enlistment + 1) f.id) es-e (λ f there. counted-more (x.recorded).boots (x.transactions).last_enlistment f.id (counted-enlistment f there)))
          (counted-next (x.recorded).boots (x.transactions).last_enlistment sound.numbers.booted fits);
      made = list_all-push (is_made_with_it (x.recorded).boots) es-e e sound.enlistments.made (or_right _ _ (eq-eqb (x.recorded).boots (x.recorded).boots refl));
      transactions_there = list_all-push (λ (e : Enlistment). has_transaction ts-e e.transaction) es-e e sound.enlistments.transactions_there (list_any-from (λ (v : Transaction). same_id v.id t.id) ts-e t transaction (same_id-from t.id t.id refl));
      managers_there = list_all-push (λ (e : Enlistment). has_manager x.managers e.manager) es-e e sound.enlistments.managers_there (list_any-from (λ (n : Manager). same_id n.id m.id) x.managers m manager (same_id-from m.id m.id refl));
      superiors_durable = list_all-push (is_superior_durable x.managers) es-e e sound.enlistments.superiors_durable durable;
      superiors_differ = each_pair-push are_not_both_superiors es-e e sound.enlistments.superiors_differ (λ f there. not_from_false _ (false_from_ne_true _ (λ both.
          let two = and_parts (is_superior f && is_superior e) (same_id f.transaction t.id) both in
          let one = and_parts (is_superior f) (is_superior e) two.0 in
          true≢false (sym (superior-found t.id es-e f there (and_from _ _ two.1 one.0)) ∙ alone one.1))));
      unrecovered = list_all-push (is_unrecovered_well (x.recorded).boots x.managers) es-e e sound.enlistments.unrecovered refl;
      information_fits = list_all-push (λ (e : Enlistment). nat_le (length e.information) MOST_INFORMATION_BYTES) es-e e sound.enlistments.information_fits refl;
    };
    managers = record {
      rise = sound.managers.rise;
      counted = sound.managers.counted;
      notes_there = list_all-from (λ (n : Manager). list_all (is_note_of (es-e ++ e ∷ []) n.id) n.queue) x.managers (λ n is. list_all-from (is_note_of (es-e ++ e ∷ []) n.id) n.queue (λ note waits. note-enlistment n.id note
          (list_all-at (is_note_of es-e n.id) n.queue (list_all-at (λ (n : Manager). list_all (is_note_of es-e n.id) n.queue) x.managers sound.managers.notes_there n is) note waits)));
    };
    handles = record {
      labels_differ = sound.handles.labels_differ;
      objects_there = list_all-from (λ (h : Handle). is_there z h.object) x.handles (λ h there. object-enlistment h.object (list_all-at (λ (h : Handle). is_there x h.object) x.handles sound.handles.objects_there h there));
    };
    phases = record {
      superiors = each-transaction (has_superior_as_asked es-e) (has_superior_as_asked (es-e ++ e ∷ [])) sound.phases.superiors
          (λ v phase is old. subst (λ p. is_superior_as p (is_some (superior_of (es-e ++ e ∷ []) v.id)) ≡ true) (sym phase) refl)
          (λ v other old. subst (λ o. is_superior_as v.phase (is_some o) ≡ true) (sym (superior-silent v.id es-e e (and_left _ _ other))) old);
      enlistments = each-transaction (are_enlistments_as_asked es-e) (are_enlistments_as_asked (es-e ++ e ∷ [])) sound.phases.enlistments
          (λ v phase is old. asked-new v old (or_right _ _ (subst (λ p. is_enlistment_as p e ≡ true) (sym phase) idle-new)))
          (λ v other old. asked-new v old (or_left _ _ (not_from_false _ other)));
      awaited = each-transaction (is_awaited es-e) (is_awaited (es-e ++ e ∷ [])) sound.phases.awaited
          (λ v phase is old. subst (λ p. is_awaited_as p (es-e ++ e ∷ []) v.id ≡ true) (sym phase) refl)
          (λ v other old. awaited-new v.phase v.id other ∙ old);
      recorded = each-transaction (is_recorded_as_asked x.managers es-e) (is_recorded_as_asked x.managers (es-e ++ e ∷ [])) sound.phases.recorded
          (λ v phase is old. subst (λ p. is_recorded_as p x.managers (es-e ++ e ∷ []) v.id v.is_recorded ≡ true) (sym phase) (subst (λ p. is_recorded_as p x.managers es-e v.id v.is_recorded ≡ true) phase old))
          (λ v other old. recorded-new v.phase v.id v.is_recorded other ∙ old);
    };
    alone = sound.alone;
  }

-- ---- time, and recovery information

pub sound-clock : (x : Present) (ms : ℕ) → IsSoundCourse x → IsSoundCourse (record x { transactions = record x.transactions { clock = later (x.transactions).clock ms } })
sound-clock x ms sound = record {
  numbers = record {
    booted = sound.numbers.booted;
    boots_fit = sound.numbers.boots_fit;
    image_fits = sound.numbers.image_fits;
    clock_fits = omega arith;
  };
  transactions = record {
    rise = sound.transactions.rise;
    counted = sound.transactions.counted;
    boots = sound.transactions.boots;
    outcomes = sound.transactions.outcomes;
    begun = list_all-from (λ (t : Transaction). nat_le t.created (later (x.transactions).clock ms)) (x.transactions).items (λ t there.
        let began = leb-true _ _ (list_all-at (λ (t : Transaction). nat_le t.created (x.transactions).clock) (x.transactions).items sound.transactions.begun t there) in
        le-leb t.created (later (x.transactions).clock ms) (let fits = sound.numbers.clock_fits in omega arith));
  };
  enlistments = sound.enlistments;
  managers = sound.managers;
  handles = sound.handles;
  phases = sound.phases;
  alone = sound.alone;
}

-- the enlistment with an Id keeps these bytes
abbrev pub with_information : Present → Id → List ℕ → Present
with_information x id information = record x { transactions = record x.transactions { enlistments = with_enlistments (has_id id) (λ e. record e { information = information }) (x.transactions).enlistments } }

module _ (x : Present) (id : Id) (information : List ℕ) (sound : IsSoundCourse x) (short : length information ≤ MOST_INFORMATION_BYTES) where
  abbrev es-i : List Enlistment
  es-i = (x.transactions).enlistments

  abbrev informed : Enlistment → Enlistment
  informed e = if has_id id e then record e { information = information } else e

  abbrev es-i' : List Enlistment
  es-i' = map informed es-i

  -- what does not read it stays
  same-informed : {X : Type 0} (test : Enlistment → X) → ((e : Enlistment) → test (record e { information = information }) ≡ test e) → (e : Enlistment) → test (informed e) ≡ test e
  same-informed test same e = if_cases (λ f. test f ≡ test e) (has_id id e) (record e { information = information }) e (λ is. same e) (λ is. refl)

  same-all : (test : Enlistment → Bool) → ((e : Enlistment) → test (record e { information = information }) ≡ test e) → list_all test es-i' ≡ list_all test es-i
  same-all test same = list_all-map test test informed (same-informed test same) es-i

  same-any : (test : Enlistment → Bool) → ((e : Enlistment) → test (record e { information = information }) ≡ test e) → list_any test es-i' ≡ list_any test es-i
  same-any test same = list_any-map test test informed (same-informed test same) es-i

  same-pairs : (test : Enlistment → Enlistment → Bool) → ((e f : Enlistment) → test (record e { information = information }) f ≡ test e f) → ((e f : Enlistment) → test e (record f { information = information }) ≡ test e f)
      → each_pair test es-i' ≡ each_pair test es-i
  same-pairs test left right = each_pair-map test test informed (λ e f. same-informed (λ g. test g (informed f)) (λ g. left g (informed f)) e ∙ same-informed (λ g. test e g) (λ g. right e g) f) es-i

  same-count : (test : Enlistment → Bool) → ((e : Enlistment) → test (record e { information = information }) ≡ test e) → count_by test es-i' ≡ count_by test es-i
  same-count test same = sym (length-filter test es-i') ∙ go es-i ∙ length-filter test es-i
    where
      go : (fs : List Enlistment) → length (filter test (map informed fs)) ≡ length (filter test fs)
      go [] = refl
      go (f ∷ fs) = let first = same-informed test same f in
          elim (cases_Bool (test f)) [ inl is ↦ rw (first ∙ is, is) (ap (λ n. Rattle.std.specs.Prelude.suc n) (go fs)) | inr other ↦ rw (first ∙ other, other) (go fs) ]

  same-superior : (k : Id) (fs : List Enlistment) → is_some (superior_of (map informed fs) k) ≡ is_some (superior_of fs k)
  same-superior k [] = refl
  same-superior k (f ∷ fs) =
      let first = same-informed (λ e. same_id e.transaction k && is_superior e) (λ e. refl) f in
      elim (cases_Bool (same_id f.transaction k && is_superior f)) [ inl is ↦ rw (first ∙ is, is) refl | inr other ↦ rw (first ∙ other, other) (same-superior k fs) ]

  object-informed : (object : Object) → is_there x object ≡ true → is_there (with_information x id information) object ≡ true
  object-informed (TransactionObject k) is = is
  object-informed (ManagerObject k) is = is
  object-informed (EnlistmentObject k) is = same-any (λ (e : Enlistment). same_id e.id k) (λ e. refl) ∙ is
  object-informed (FileObject number) is = is

  note-informed : (manager : Id) (note : Note) → is_note_of es-i manager note ≡ true → is_note_of es-i' manager note ≡ true
  note-informed manager note is = go note.enlistment is
    where
      go : (o : Option Id) → is_note_of es-i manager (record note { enlistment = o }) ≡ true → is_note_of es-i' manager (record note { enlistment = o }) ≡ true
      go None is = is
      go (Some k) is = ap (λ b. not (is_last_recover note.kind) && b) (same-any (λ (e : Enlistment). same_id e.id k && same_id e.manager manager) (λ e. refl)) ∙ is

  awaited-informed : (phase : Phase) (k : Id) → is_awaited_as phase es-i' k ≡ is_awaited_as phase es-i k
  awaited-informed PrePreparing k = same-any (λ e. takes_part k e && is_some e.owes) (λ e. refl)
  awaited-informed Preparing k = same-any (λ e. takes_part k e && is_some e.owes) (λ e. refl)
  awaited-informed SinglePhase k = ap (λ n. n == 1) (same-count (takes_part k) (λ e. refl))
  awaited-informed Committing k = same-any (is_unfinished k) (λ e. refl)
  awaited-informed Aborting k = same-any (is_unfinished k) (λ e. refl)
  awaited-informed _ k = refl

  recorded-informed : (phase : Phase) (k : Id) (r : Bool) → is_recorded_as phase x.managers es-i' k r ≡ is_recorded_as phase x.managers es-i k r
  recorded-informed Preparing k r = ap (λ b. if b then r else not r) (same-any (λ e. takes_part k e && (e.is_prepared && is_durable_at x.managers e.manager)) (λ e. refl))
  recorded-informed Committing k r = ap (λ b. r || not b) (same-any (λ e. takes_part k e && (not e.is_finished && is_durable_at x.managers e.manager)) (λ e. refl))
  recorded-informed _ k r = refl

  asked-informed : (phase : Phase) (e : Enlistment) → is_enlistment_as phase (record e { information = information }) ≡ is_enlistment_as phase e
  asked-informed Active e = refl
  asked-informed Requested e = refl
  asked-informed PrePreparing e = refl
  asked-informed PrePrepared e = refl
  asked-informed Preparing e = refl
  asked-informed SinglePhase e = refl
  asked-informed Held e = refl
  asked-informed InDoubt e = refl
  asked-informed Committing e = refl
  asked-informed Aborting e = refl
  asked-informed Ended e = refl

  each-item : (test test' : Transaction → Bool) → ((t : Transaction) → test' t ≡ test t) → list_all test (x.transactions).items ≡ true → list_all test' (x.transactions).items ≡ true
  each-item test test' same all = list_all-from test' (x.transactions).items (λ t there. same t ∙ list_all-at test (x.transactions).items all t there)

  pub sound-with_information : IsSoundCourse (with_information x id information)
  sound-with_information = record {
    numbers = sound.numbers;
    transactions = sound.transactions;
    enlistments = record {
      rise = same-pairs (λ (e f : Enlistment). is_before e.id f.id) (λ e f. refl) (λ e f. refl) ∙ sound.enlistments.rise;
      counted = same-all (λ e. is_counted (x.recorded).boots (x.transactions).last_enlistment e.id) (λ e. refl) ∙ sound.enlistments.counted;
      made = same-all (is_made_with_it (x.recorded).boots) (λ e. refl) ∙ sound.enlistments.made;
      transactions_there = same-all (λ e. has_transaction (x.transactions).items e.transaction) (λ e. refl) ∙ sound.enlistments.transactions_there;
      managers_there = same-all (λ e. has_manager x.managers e.manager) (λ e. refl) ∙ sound.enlistments.managers_there;
      superiors_durable = same-all (is_superior_durable x.managers) (λ e. refl) ∙ sound.enlistments.superiors_durable;
      superiors_differ = same-pairs are_not_both_superiors (λ e f. refl) (λ e f. refl) ∙ sound.enlistments.superiors_differ;
      unrecovered = same-all (is_unrecovered_well (x.recorded).boots x.managers) (λ e. refl) ∙ sound.enlistments.unrecovered;
      information_fits = list_all-from (λ (e : Enlistment). nat_le (length e.information) MOST_INFORMATION_BYTES) es-i' (λ e there.
          let from = IsIn-unmap informed e es-i there in
          subst (λ (f : Enlistment). nat_le (length f.information) MOST_INFORMATION_BYTES ≡ true) from.1
          (if_cases (λ (f : Enlistment). nat_le (length f.information) MOST_INFORMATION_BYTES ≡ true) (has_id id from.0) (record from.0 { information = information }) from.0
          (λ is. le-leb (length information) MOST_INFORMATION_BYTES short) (λ is. list_all-at (λ (e : Enlistment). nat_le (length e.information) MOST_INFORMATION_BYTES) es-i sound.enlistments.information_fits from.0 from.2)));
    };
    managers = record {
      rise = sound.managers.rise;
      counted = sound.managers.counted;
      notes_there = list_all-from (λ (m : Manager). list_all (is_note_of es-i' m.id) m.queue) x.managers (λ m is. list_all-from (is_note_of es-i' m.id) m.queue (λ note waits. note-informed m.id note
          (list_all-at (is_note_of es-i m.id) m.queue (list_all-at (λ (m : Manager). list_all (is_note_of es-i m.id) m.queue) x.managers sound.managers.notes_there m is) note waits)));
    };
    handles = record {
      labels_differ = sound.handles.labels_differ;
      objects_there = list_all-from (λ (h : Handle). is_there (with_information x id information) h.object) x.handles
          (λ h there. object-informed h.object (list_all-at (λ (h : Handle). is_there x h.object) x.handles sound.handles.objects_there h there));
    };
    phases = record {
      superiors = each-item (has_superior_as_asked es-i) (has_superior_as_asked es-i') (λ t. ap (is_superior_as t.phase) (same-superior t.id es-i)) sound.phases.superiors;
      enlistments = each-item (are_enlistments_as_asked es-i) (are_enlistments_as_asked es-i') (λ t. same-all (λ e. not (same_id e.transaction t.id) || is_enlistment_as t.phase e) (λ e. ap (λ b. not (same_id e.transaction t.id) || b) (asked-informed t.phase e))) sound.phases.enlistments;
      awaited = each-item (is_awaited es-i) (is_awaited es-i') (λ t. awaited-informed t.phase t.id) sound.phases.awaited;
      recorded = each-item (is_recorded_as_asked x.managers es-i) (is_recorded_as_asked x.managers es-i') (λ t. recorded-informed t.phase t.id t.is_recorded) sound.phases.recorded;
    };
    alone = sound.alone;
  }
