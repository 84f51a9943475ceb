-- A transaction on its way, put back among the others: the machine is sound again.
use Rattle.std.specs.Prelude.{if◌then◌else◌}
use Rattle.std.proofs.Common.{◌≡◌, ◌==◌, ◌&&◌, ◌||◌, not, Bool, true, false, List, [], ◌∷◌, length, map, filter, nat_le, Option, Some, None, is_some, refl, sym, ◌∙◌, ap, subst, arith, inl, inr, ◌⊎◌}
use Rattle.std.proofs.lemmas.Bool.{cases_Bool, le-leb, leb-true, and_parts, and_from, and_left, and_right, or_cases, or_left, or_right, true≢false, not-true, not_from_true, not_from_false, false_from_ne_true}
use Rattle.std.proofs.lemmas.List.Sums.{length-filter}
use Rattle.std.specs.List.{list_any, list_all}
use Rattle.ktm_base.specs.declared.limits.TheConstants.{MOST_INFORMATION_BYTES}
use Rattle.ktm_base.specs.declared.id.Id.{Id}
use Rattle.ktm_world.specs.declared.object.Handle.{Handle}
use Rattle.ktm_world.specs.declared.object.Object.{Object}
use Rattle.ktm_world.specs.declared.object.Object.TheVariants.{Transaction as TransactionObject, Manager as ManagerObject, Enlistment as EnlistmentObject, File as FileObject}
use Rattle.ktm_world.specs.declared.object.Phase.{Phase}
use Rattle.ktm_world.specs.declared.object.Phase.TheVariants.{PrePreparing, Preparing, SinglePhase, Committing, Aborting}
use Rattle.ktm_world.specs.declared.object.Transaction.{Transaction}
use Rattle.ktm_world.specs.Durable.{is_before}
use Rattle.ktm_world.specs.Enlistments.{Enlistment, Manager, Note, Sent, is_superior, takes_part, is_unfinished, is_durable_at}
use Rattle.ktm_world.specs.Files.{own_changes}
use Rattle.ktm_world.specs.Keys.{own_settings}
use Rattle.ktm_world.specs.Phases.{Course, has_settings, is_single_phase}
use Rattle.ktm_world.specs.Present.{Present}
use Rattle.ktm_world.specs.TransactionCalls.{course_of}
use Rattle.ktm_world.specs.Transactions.{same_id, change_at}
use Rattle.ktm_world.specs.Changes.{has_changes}
use Rattle.txf_laws.specs.Elements.{IsIn, each_pair}
use Rattle.ktm_courses.specs.SoundCourse.{IsSoundCourse, is_counted, is_made_with_it, has_transaction, has_manager, has_enlistment, is_there, is_last_recover, is_note_of, are_not_both_superiors, is_superior_durable, is_unrecovered_well, is_outcome_of, is_of_its_boot, is_superior_as, has_superior_as_asked, is_idle, is_part_as, is_enlistment_as, are_enlistments_as_asked, is_awaited_as, is_awaited, is_recorded_as, is_recorded_as_asked, is_alone_in_one_phase}
use Rattle.txf_laws.proofs.offered.Lists.{IsIn-unmap}
use Rattle.txf_laws.proofs.offered.Elements.{list_all-at, list_all-from, list_any-from}
use Rattle.txf_laws.proofs.offered.Tables.{same_id-equal, same_id-from, same_id-sym, before_other}
use Rattle.ktm_courses.proofs.offered.Moves.{if_parts, if_first, if_second, IsTold, Moved, Stand, unrecovered-moved}
use Rattle.ktm_courses.proofs.offered.Endings.{Stands, Arrives, superior-with, part-parts}
use Rattle.ktm_courses.proofs.offered.Views.{list_any-map, each_pair-map}

-- ---- the enlistments of a transaction, as a test and as facts

-- a superior, one that is read-only, or one that takes part
abbrev Role : (Enlistment → Bool) → Enlistment → Type 0
Role test e = ((is_superior e ≡ true) × ((is_idle e && not e.is_read_only) ≡ true)) ⊎ (((is_superior e ≡ false) × (e.is_read_only ≡ true) × (is_idle e ≡ true)) ⊎ ((is_superior e ≡ false) × (e.is_read_only ≡ false) × (test e ≡ true)))

role : (phase : Phase) (e : Enlistment) → is_enlistment_as phase e ≡ true → Role (is_part_as phase) e
role phase e fits = elim (if_parts (is_superior e) (is_idle e && not e.is_read_only) (if e.is_read_only then is_idle e else is_part_as phase e) fits) [
  | inl above ↦ inl above
  | inr below ↦ elim (if_parts e.is_read_only (is_idle e) (is_part_as phase e) below.1) [ inl reads ↦ inr (inl (below.0, reads.0, reads.1)) | inr part ↦ inr (inr (below.0, part.0, part.1)) ]
]

pub stand-from : (es : List Enlistment) (t : Transaction) → are_enlistments_as_asked es t ≡ true → Stand es t.id (is_part_as t.phase)
stand-from es t all = record {
  others = λ e there own other. elim (role t.phase e (one e there own)) [
    | inl above ↦ let both = and_parts (is_idle e) (not e.is_read_only) above.1 in and_from _ _ both.0 (not_from_false _ (and_right (is_superior e) e.is_read_only (not-true _ both.1)))
    | inr (inl reads) ↦ and_from _ _ reads.2 (not_from_false _ (and_left (is_superior e) e.is_read_only reads.0))
    | inr (inr takes) ↦ absurd (true≢false (sym (and_from _ _ (and_from _ _ own (not_from_false _ takes.0)) (not_from_false _ takes.1)) ∙ other))
  ];
  parts = λ e there part. let is = part-parts t.id e part in elim (role t.phase e (one e there is.0)) [
    | inl above ↦ absurd (true≢false (sym above.0 ∙ is.1))
    | inr (inl reads) ↦ absurd (true≢false (sym reads.1 ∙ is.2))
    | inr (inr takes) ↦ takes.2
  ];
}
  where
    one : (e : Enlistment) → IsIn e es → same_id e.transaction t.id ≡ true → is_enlistment_as t.phase e ≡ true
    one e there own = elim (or_cases (not (same_id e.transaction t.id)) (is_enlistment_as t.phase e) (list_all-at (λ (e : Enlistment). not (same_id e.transaction t.id) || is_enlistment_as t.phase e) es all e there)) [
      | inl other ↦ absurd (true≢false (sym own ∙ not-true _ other))
      | inr fits ↦ fits
    ]

pub stand-into : (es : List Enlistment) (t : Transaction) → Stand es t.id (is_part_as t.phase) → are_enlistments_as_asked es t ≡ true
stand-into es t stand = list_all-from (λ (e : Enlistment). not (same_id e.transaction t.id) || is_enlistment_as t.phase e) es (λ e there. elim (cases_Bool (same_id e.transaction t.id)) [
  | inr other ↦ or_left (not (same_id e.transaction t.id)) (is_enlistment_as t.phase e) (not_from_false _ other)
  | inl own ↦ or_right (not (same_id e.transaction t.id)) (is_enlistment_as t.phase e) (one e there own (cases_Bool (is_superior e)) (cases_Bool e.is_read_only))
])
  where
    one : (e : Enlistment) → IsIn e es → same_id e.transaction t.id ≡ true → (is_superior e ≡ true) ⊎ (is_superior e ≡ false) → (e.is_read_only ≡ true) ⊎ (e.is_read_only ≡ false) → is_enlistment_as t.phase e ≡ true
    one e there own (inl above) reads =
        let both = and_parts (is_idle e) (not (is_superior e && e.is_read_only)) (stand.others e there own (and_left _ _ (and_right (same_id e.transaction t.id) _ (not_from_true _ above)))) in
        if_first (is_superior e) (is_idle e && not e.is_read_only) (if e.is_read_only then is_idle e else is_part_as t.phase e) above
        (and_from _ _ both.0 (subst (λ b. not (b && e.is_read_only) ≡ true) above both.1))
    one e there own (inr below) (inl reads) =
        let both = and_parts (is_idle e) (not (is_superior e && e.is_read_only)) (stand.others e there own (and_right (same_id e.transaction t.id && not (is_superior e)) _ (not_from_true _ reads))) in
        if_second (is_superior e) (is_idle e && not e.is_read_only) (if e.is_read_only then is_idle e else is_part_as t.phase e) below (if_first e.is_read_only (is_idle e) (is_part_as t.phase e) reads both.0)
    one e there own (inr below) (inr takes) =
        if_second (is_superior e) (is_idle e && not e.is_read_only) (if e.is_read_only then is_idle e else is_part_as t.phase e) below
        (if_second e.is_read_only (is_idle e) (is_part_as t.phase e) takes (stand.parts e there (and_from _ _ (and_from _ _ own (not_from_false _ below)) (not_from_false _ takes))))

-- ---- transactions by their Ids

abbrev pub RiseTransactions : List Transaction → Type 0
RiseTransactions ts = each_pair (λ (t u : Transaction). is_before t.id u.id) ts ≡ true

-- the one with the Id is another one now
abbrev pub changed_to : List Transaction → Transaction → List Transaction
changed_to ts u = change_at ts u.id (λ t. u)

ids-changed : (ts : List Transaction) (u : Transaction) → map (λ (t : Transaction). t.id) (changed_to ts u) ≡ map (λ (t : Transaction). t.id) ts
ids-changed [] u = refl
ids-changed (t ∷ ts) u = elim (cases_Bool (same_id t.id u.id)) [
  | inl same ↦ rw same (ap (λ id. id ∷ map (λ (t : Transaction). t.id) ts) (sym (same_id-equal t.id u.id same)))
  | inr other ↦ rw other (ap (λ ids. t.id ∷ ids) (ids-changed ts u))
]

rises-changed : (ts : List Transaction) (u : Transaction) → RiseTransactions ts → RiseTransactions (changed_to ts u)
rises-changed ts u rises =
    sym (each_pair-map is_before (λ (t v : Transaction). is_before t.id v.id) (λ (t : Transaction). t.id) (λ t v. refl) (changed_to ts u))
    ∙ ap (each_pair is_before) (ids-changed ts u) ∙ each_pair-map is_before (λ (t v : Transaction). is_before t.id v.id) (λ (t : Transaction). t.id) (λ t v. refl) ts ∙ rises

pub has-changed : (ts : List Transaction) (u : Transaction) (id : Id) → has_transaction (changed_to ts u) id ≡ has_transaction ts id
has-changed ts u id =
    sym (list_any-map (λ k. same_id k id) (λ (t : Transaction). same_id t.id id) (λ (t : Transaction). t.id) (λ t. refl) (changed_to ts u))
    ∙ ap (list_any (λ k. same_id k id)) (ids-changed ts u) ∙ list_any-map (λ k. same_id k id) (λ (t : Transaction). same_id t.id id) (λ (t : Transaction). t.id) (λ t. refl) ts

pub IsIn-changed : (ts : List Transaction) (u v : Transaction) → RiseTransactions ts → IsIn v (changed_to ts u) → (v ≡ u) ⊎ (IsIn v ts × (same_id v.id u.id ≡ false))
IsIn-changed [] u v rises there = absurd there
IsIn-changed (t ∷ ts) u v rises there =
    let parts = and_parts (list_all (λ (v : Transaction). is_before t.id v.id) ts) (each_pair (λ (t v : Transaction). is_before t.id v.id) ts) rises in
    elim (cases_Bool (same_id t.id u.id)) [
      | inl same ↦
          let there' : IsIn v (u ∷ ts) = rw same at there in
          elim there' [
            | inl e ↦ inl (sym e)
            | inr later ↦ inr (
              inr later,
              false_from_ne_true _ (λ again.
                  before_other t.id v.id (list_all-at (λ (v : Transaction). is_before t.id v.id) ts parts.0 v later) (same_id-equal t.id u.id same ∙ sym (same_id-equal v.id u.id again))),
            )
          ]
      | inr other ↦
          let there' : IsIn v (t ∷ changed_to ts u) = rw other at there in
          elim there' [
            | inl e ↦ inr (inl e, subst (λ (w : Transaction). same_id w.id u.id ≡ false) e other)
            | inr later ↦ elim (IsIn-changed ts u v parts.1 later) [ inl e ↦ inl e | inr (there'', other') ↦ inr (inr there'', other') ]
          ]
    ]

-- ---- one course of a machine

told-note : (es : List Enlistment) (s : Sent) → IsTold es s → is_note_of es s.manager s.note ≡ true
told-note es s told = subst (λ (o : Option Id). is_note_of es s.manager (record s.note { enlistment = o }) ≡ true) (sym told.note)
    (and_from _ _ (not_from_false _ told.kind) (list_any-from (λ (e : Enlistment). same_id e.id (told.enlistment).id && same_id e.manager s.manager) es told.enlistment told.there
    (and_from _ _ (same_id-from (told.enlistment).id (told.enlistment).id refl) (same_id-from (told.enlistment).manager s.manager (sym told.manager)))))

pub stands-now : (x : Present) (t : Transaction) (caller : Option Enlistment) → IsSoundCourse x → IsIn t (x.transactions).items → Stands (x.recorded).boots (course_of x t caller)
stands-now x t caller sound there = record {
  outcome = list_all-at (λ (t : Transaction). is_outcome_of t.phase t) (x.transactions).items sound.transactions.outcomes t there;
  boots = list_all-at (is_of_its_boot (x.recorded).boots) (x.transactions).items sound.transactions.boots t there;
  superior = list_all-at (has_superior_as_asked (x.transactions).enlistments) (x.transactions).items sound.phases.superiors t there;
  stand = stand-from (x.transactions).enlistments t (list_all-at (are_enlistments_as_asked (x.transactions).enlistments) (x.transactions).items sound.phases.enlistments t there);
  awaited = list_all-at (is_awaited (x.transactions).enlistments) (x.transactions).items sound.phases.awaited t there;
  alone = list_all-at (is_alone_in_one_phase ((x.files).table).own (x.keys).own) (x.transactions).items sound.alone t there;
  recorded = list_all-at (is_recorded_as_asked x.managers (x.transactions).enlistments) (x.transactions).items sound.phases.recorded t there;
}

pub brought-now : (x : Present) (t : Transaction) (caller : Option Enlistment) → IsSoundCourse x → (e : Enlistment) → IsIn e (course_of x t caller).enlistments → is_unrecovered_well (x.recorded).boots (course_of x t caller).managers e ≡ true
brought-now x t caller sound e there = list_all-at (is_unrecovered_well (x.recorded).boots x.managers) (x.transactions).enlistments sound.enlistments.unrecovered e there

-- the transactions once a course has come so far
abbrev pub with_course : Present → Course → Present
with_course x d = record x { transactions = record x.transactions { items = changed_to (x.transactions).items d.transaction; enlistments = d.enlistments } }

module _ (x : Present) (sound : IsSoundCourse x) (t : Transaction) (there : IsIn t (x.transactions).items) (caller : Option Enlistment) (d : Course) (arrives : Arrives (x.recorded).boots (course_of x t caller) d) where
  abbrev moved : Moved (course_of x t caller) d
  moved = arrives.moved

  abbrev es : List Enlistment
  es = (x.transactions).enlistments

  abbrev ts : List Transaction
  ts = (x.transactions).items

  abbrev es' : List Enlistment
  es' = map moved.enlistments.step es

  abbrev u : Transaction
  u = d.transaction

  -- with the enlistments as they come from those before
  abbrev y : Present
  y = record x { transactions = record x.transactions { items = changed_to ts u; enlistments = es' } }

  id-same : (e : Enlistment) → (moved.enlistments.step e).id ≡ e.id
  id-same e = (moved.enlistments.same e).id

  stands-u : Stands (x.recorded).boots (record d { enlistments = es' })
  stands-u = subst (λ xs. Stands (x.recorded).boots (record d { enlistments = xs })) moved.enlistments.is arrives.stands

  -- what is so of each transaction
  each : (test : Transaction → Bool) → test u ≡ true → ((v : Transaction) → IsIn v ts → same_id v.id t.id ≡ false → test v ≡ true) → list_all test (changed_to ts u) ≡ true
  each test here others = list_all-from test (changed_to ts u) (λ v is. elim (IsIn-changed ts u v sound.transactions.rise is) [
    | inl e ↦ subst (λ w. test w ≡ true) (sym e) here
    | inr (old, other) ↦ others v old (subst (λ id. same_id v.id id ≡ false) moved.stays.id other)
  ])

  -- what is so of each enlistment
  each-enlistment : (test : Enlistment → Bool) → ((e : Enlistment) → IsIn e es → test (moved.enlistments.step e) ≡ true) → list_all test es' ≡ true
  each-enlistment test old = list_all-from test es' (λ e is. let from = IsIn-unmap moved.enlistments.step e es is in subst (λ f. test f ≡ true) from.1 (old from.0 from.2))

  -- what is asked of the enlistments of another transaction stays
  module _ (v : Transaction) (other : same_id v.id t.id ≡ false) where
    foreign : (e : Enlistment) → IsIn e es → (P : Enlistment → Enlistment → Type 0) → P e e → (same_id e.transaction v.id ≡ false → same_id (moved.enlistments.step e).transaction v.id ≡ false → P (moved.enlistments.step e) e) → P (moved.enlistments.step e) e
    foreign e is P still away = elim (cases_Bool (same_id e.transaction t.id)) [
      | inr far ↦ subst (λ f. P f e) (sym (moved.enlistments.others e is far)) still
      | inl near ↦
          let not_v : same_id e.transaction v.id ≡ false = subst (λ id. same_id id v.id ≡ false) (sym (same_id-equal e.transaction t.id near)) (same_id-sym v.id t.id other) in
          away not_v (subst (λ id. same_id id v.id ≡ false) (sym (moved.enlistments.same e).transaction) not_v)
    ]

    list_any-foreign : (test : Enlistment → Bool) → ((e : Enlistment) → same_id e.transaction v.id ≡ false → test e ≡ false) → (xs : List Enlistment) → ((e : Enlistment) → IsIn e xs → IsIn e es) → list_any test (map moved.enlistments.step xs) ≡ list_any test xs
    list_any-foreign test none [] are = refl
    list_any-foreign test none (e ∷ xs) are = λ i.
        foreign e (are e (inl refl)) (λ f g. test f ≡ test g) refl (λ away away'. none (moved.enlistments.step e) away' ∙ sym (none e away)) i || list_any-foreign test none xs (λ f is. are f (inr is)) i

    count-foreign : (test : Enlistment → Bool) → ((e : Enlistment) → same_id e.transaction v.id ≡ false → test e ≡ false) → (xs : List Enlistment) → ((e : Enlistment) → IsIn e xs → IsIn e es)
        → length (filter test (map moved.enlistments.step xs)) ≡ length (filter test xs)
    count-foreign test none [] are = refl
    count-foreign test none (e ∷ xs) are =
        let first : test (moved.enlistments.step e) ≡ test e = foreign e (are e (inl refl)) (λ f g. test f ≡ test g) refl (λ away away'. none (moved.enlistments.step e) away' ∙ sym (none e away)) in
        let rest = count-foreign test none xs (λ f is. are f (inr is)) in
        elim (cases_Bool (test e)) [ inl is ↦ rw (first ∙ is, is) (ap (λ n. Rattle.std.specs.Prelude.suc n) rest) | inr fails ↦ rw (first ∙ fails, fails) rest ]

    no-part : (test : Enlistment → Bool) (e : Enlistment) → same_id e.transaction v.id ≡ false → (takes_part v.id e && test e) ≡ false
    no-part test e away = and_left _ _ (and_left _ _ (and_left _ _ away))

    awaited-foreign : (phase : Phase) → is_awaited_as phase es' v.id ≡ is_awaited_as phase es v.id
    awaited-foreign PrePreparing = list_any-foreign (λ e. takes_part v.id e && is_some e.owes) (no-part (λ e. is_some e.owes)) es (λ e is. is)
    awaited-foreign Preparing = list_any-foreign (λ e. takes_part v.id e && is_some e.owes) (no-part (λ e. is_some e.owes)) es (λ e is. is)
    awaited-foreign SinglePhase = ap (λ n. n == 1) (sym (length-filter (takes_part v.id) es') ∙ count-foreign (takes_part v.id) (λ e away. and_left _ _ (and_left _ _ away)) es (λ e is. is) ∙ length-filter (takes_part v.id) es)
    awaited-foreign Committing = list_any-foreign (is_unfinished v.id) (no-part (λ e. not e.is_finished)) es (λ e is. is)
    awaited-foreign Aborting = list_any-foreign (is_unfinished v.id) (no-part (λ e. not e.is_finished)) es (λ e is. is)
    awaited-foreign _ = refl

    recorded-foreign : (phase : Phase) (r : Bool) → is_recorded_as phase x.managers es' v.id r ≡ is_recorded_as phase x.managers es v.id r
    recorded-foreign Preparing r = ap (λ b. if b then r else not r) (list_any-foreign (λ e. takes_part v.id e && (e.is_prepared && is_durable_at x.managers e.manager)) (no-part (λ e. e.is_prepared && is_durable_at x.managers e.manager)) es (λ e is. is))
    recorded-foreign Committing r = ap (λ b. r || not b) (list_any-foreign (λ e. takes_part v.id e && (not e.is_finished && is_durable_at x.managers e.manager)) (no-part (λ e. not e.is_finished && is_durable_at x.managers e.manager)) es (λ e is. is))
    recorded-foreign _ r = refl

    as_asked-foreign : are_enlistments_as_asked es v ≡ true → are_enlistments_as_asked es' v ≡ true
    as_asked-foreign all = each-enlistment (λ e. not (same_id e.transaction v.id) || is_enlistment_as v.phase e) (λ e is.
        foreign e is (λ f g. (not (same_id f.transaction v.id) || is_enlistment_as v.phase f) ≡ true) (list_all-at (λ (e : Enlistment). not (same_id e.transaction v.id) || is_enlistment_as v.phase e) es all e is)
        (λ away away'. or_left _ _ (not_from_false _ away')))

  transaction-there : (id : Id) → has_transaction ts id ≡ true → has_transaction (changed_to ts u) id ≡ true
  transaction-there id is = has-changed ts u id ∙ is

  enlistment-there : (id : Id) → has_enlistment es' id ≡ has_enlistment es id
  enlistment-there id = list_any-map (λ (e : Enlistment). same_id e.id id) (λ e. same_id e.id id) moved.enlistments.step (λ e i. same_id (id-same e i) id) es

  pub note-there : (manager : Id) (note : Note) → is_note_of es manager note ≡ true → is_note_of es' manager note ≡ true
  note-there manager note is = go note.enlistment is
    where
      go : (o : Option Id) → is_note_of es manager (record note { enlistment = o }) ≡ true → is_note_of es' manager (record note { enlistment = o }) ≡ true
      go None is = is
      go (Some id) is = ap (λ b. not (is_last_recover note.kind) && b)
          (list_any-map (λ (e : Enlistment). same_id e.id id && same_id e.manager manager) (λ e. same_id e.id id && same_id e.manager manager) moved.enlistments.step (λ e i. same_id (id-same e i) id && same_id ((moved.enlistments.same e).manager i) manager) es) ∙ is

  object-there : (object : Object) → is_there x object ≡ true → is_there y object ≡ true
  object-there (TransactionObject id) is = transaction-there id is
  object-there (ManagerObject id) is = is
  object-there (EnlistmentObject id) is = enlistment-there id ∙ is
  object-there (FileObject number) is = is

  sound-y : IsSoundCourse y
  sound-y = record {
    numbers = sound.numbers;
    transactions = record {
      rise = rises-changed ts u sound.transactions.rise;
      counted = each (λ v. is_counted (x.recorded).boots (x.transactions).last_transaction v.id)
          (subst (λ id. is_counted (x.recorded).boots (x.transactions).last_transaction id ≡ true) (sym moved.stays.id) (list_all-at (λ (v : Transaction). is_counted (x.recorded).boots (x.transactions).last_transaction v.id) ts sound.transactions.counted t there))
          (λ v is other. list_all-at (λ (v : Transaction). is_counted (x.recorded).boots (x.transactions).last_transaction v.id) ts sound.transactions.counted v is);
      boots = each (is_of_its_boot (x.recorded).boots) (arrives.stands).boots (λ v is other. list_all-at (is_of_its_boot (x.recorded).boots) ts sound.transactions.boots v is);
      outcomes = each (λ v. is_outcome_of v.phase v) (arrives.stands).outcome (λ v is other. list_all-at (λ (v : Transaction). is_outcome_of v.phase v) ts sound.transactions.outcomes v is);
      begun = each (λ v. nat_le v.created (x.transactions).clock)
          (le-leb u.created (x.transactions).clock (omega (arith, moved.stays.created, leb-true t.created (x.transactions).clock (list_all-at (λ (v : Transaction). nat_le v.created (x.transactions).clock) ts sound.transactions.begun t there))))
          (λ v is other. list_all-at (λ (v : Transaction). nat_le v.created (x.transactions).clock) ts sound.transactions.begun v is);
    };
    enlistments = record {
      rise = each_pair-map _ _ moved.enlistments.step (λ e f i. is_before (id-same e i) (id-same f i)) es ∙ sound.enlistments.rise;
      counted = each-enlistment (λ e. is_counted (x.recorded).boots (x.transactions).last_enlistment e.id)
          (λ e is. subst (λ id. is_counted (x.recorded).boots (x.transactions).last_enlistment id ≡ true) (sym (id-same e)) (list_all-at (λ (e : Enlistment). is_counted (x.recorded).boots (x.transactions).last_enlistment e.id) es sound.enlistments.counted e is));
      made = each-enlistment (is_made_with_it (x.recorded).boots)
          (λ e is. (λ i. is_made_with_it (x.recorded).boots (record e { id = id-same e i; transaction = (moved.enlistments.same e).transaction i })) ∙ list_all-at (is_made_with_it (x.recorded).boots) es sound.enlistments.made e is);
      transactions_there = each-enlistment (λ e. has_transaction (changed_to ts u) e.transaction) (λ e is.
          subst (λ id. has_transaction (changed_to ts u) id ≡ true) (sym (moved.enlistments.same e).transaction) (transaction-there e.transaction (list_all-at (λ (e : Enlistment). has_transaction ts e.transaction) es sound.enlistments.transactions_there e is)));
      managers_there = each-enlistment (λ e. has_manager x.managers e.manager) (λ e is.
          subst (λ id. has_manager x.managers id ≡ true) (sym (moved.enlistments.same e).manager) (list_all-at (λ (e : Enlistment). has_manager x.managers e.manager) es sound.enlistments.managers_there e is));
      superiors_durable = each-enlistment (is_superior_durable x.managers) (λ e is.
          (λ i. is_superior_durable x.managers (record e { kind = (moved.enlistments.same e).kind i; manager = (moved.enlistments.same e).manager i })) ∙ list_all-at (is_superior_durable x.managers) es sound.enlistments.superiors_durable e is);
      superiors_differ = each_pair-map are_not_both_superiors are_not_both_superiors moved.enlistments.step (λ e f i.
          are_not_both_superiors (record e { kind = (moved.enlistments.same e).kind i; transaction = (moved.enlistments.same e).transaction i }) (record f { kind = (moved.enlistments.same f).kind i; transaction = (moved.enlistments.same f).transaction i })) es ∙ sound.enlistments.superiors_differ;
      unrecovered = list_all-from (is_unrecovered_well (x.recorded).boots x.managers) es' (λ e is. subst (λ ms. is_unrecovered_well (x.recorded).boots ms e ≡ true) moved.stays.managers
          (unrecovered-moved (course_of x t caller) d (x.recorded).boots moved (brought-now x t caller sound) e (subst (λ xs. IsIn e xs) (sym moved.enlistments.is) is)));
      information_fits = each-enlistment (λ e. nat_le (length e.information) MOST_INFORMATION_BYTES) (λ e is.
          subst (λ bytes. nat_le (length bytes) MOST_INFORMATION_BYTES ≡ true) (sym (moved.enlistments.same e).information) (list_all-at (λ (e : Enlistment). nat_le (length e.information) MOST_INFORMATION_BYTES) es sound.enlistments.information_fits e is));
    };
    managers = record {
      rise = sound.managers.rise;
      counted = sound.managers.counted;
      notes_there = list_all-from (λ (m : Manager). list_all (is_note_of es' m.id) m.queue) x.managers (λ m is. list_all-from (is_note_of es' m.id) m.queue (λ note waits. note-there m.id note
          (list_all-at (is_note_of es m.id) m.queue (list_all-at (λ (m : Manager). list_all (is_note_of es m.id) m.queue) x.managers sound.managers.notes_there m is) note waits)));
    };
    handles = record {
      labels_differ = sound.handles.labels_differ;
      objects_there = list_all-from (λ (h : Handle). is_there y h.object) x.handles (λ h is. object-there h.object (list_all-at (λ (h : Handle). is_there x h.object) x.handles sound.handles.objects_there h is));
    };
    phases = record {
      superiors = each (has_superior_as_asked es') stands-u.superior (λ v is other.
          ap (is_superior_as v.phase) (superior-with v.id moved.enlistments.step moved.enlistments.same es) ∙ list_all-at (has_superior_as_asked es) ts sound.phases.superiors v is);
      enlistments = each (are_enlistments_as_asked es') (stand-into es' u stands-u.stand) (λ v is other. as_asked-foreign v other (list_all-at (are_enlistments_as_asked es) ts sound.phases.enlistments v is));
      awaited = each (is_awaited es') stands-u.awaited (λ v is other. awaited-foreign v other v.phase ∙ list_all-at (is_awaited es) ts sound.phases.awaited v is);
      recorded = each (is_recorded_as_asked x.managers es') (subst (λ ms. is_recorded_as_asked ms es' u ≡ true) moved.stays.managers stands-u.recorded)
          (λ v is other. recorded-foreign v other v.phase v.is_recorded ∙ list_all-at (is_recorded_as_asked x.managers es) ts sound.phases.recorded v is);
    };
    alone = each (is_alone_in_one_phase ((x.files).table).own (x.keys).own) alone-u (λ v is other. list_all-at (is_alone_in_one_phase ((x.files).table).own (x.keys).own) ts sound.alone v is);
  }
    where
      alone-u : is_alone_in_one_phase ((x.files).table).own (x.keys).own u ≡ true
      alone-u = subst (λ id. (not (is_single_phase u.phase) || (not (has_changes (own_changes ((x.files).table).own id)) && not (has_settings (own_settings (x.keys).own id)))) ≡ true) (sym moved.stays.id)
          ((λ i. not (is_single_phase u.phase) || (not (has_changes (sym moved.stays.changes i)) && not (has_settings (sym moved.stays.settings i)))) ∙ (arrives.stands).alone)

  pub sound-course : IsSoundCourse (with_course x d)
  sound-course = subst (λ xs. IsSoundCourse (record x { transactions = record x.transactions { items = changed_to ts u; enlistments = xs } })) (sym moved.enlistments.is) sound-y

  -- what it sent tells enlistments of their resource managers
  pub notes-course : (s : Sent) → IsIn s d.sent → is_note_of d.enlistments s.manager s.note ≡ true
  notes-course s sent = subst (λ xs. is_note_of xs s.manager s.note ≡ true) (sym moved.enlistments.is) (note-there s.manager s.note (elim (moved.sent s sent) [ inl none ↦ absurd none | inr told ↦ told-note es s told ]))
