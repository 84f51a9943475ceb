-- What a restart of a good state makes is sound.
use Rattle.std.specs.Prelude.{if◌then◌else◌}
use Rattle.std.proofs.Common.{◌≡◌, ◌+◌, ◌≤◌, ◌&&◌, ◌||◌, not, Bool, true, false, List, [], ◌∷◌, length, map, nat_lt, nat_le, Option, Some, None, is_some, is_none, refl, sym, ◌∙◌, ap, subst, arith, inl, inr, ◌⊎◌}
use Rattle.std.proofs.lemmas.Bool.{cases_Bool, and_parts, and_from, and_left, or_cases, or_left, or_right, lt-ltb, le-leb, leb-true, true≢false, not-true, not_from_false, false_from_ne_true}
use Rattle.std.proofs.lemmas.Option.{same_Some}
use Rattle.std.specs.List.{list_any, list_all, flat_map}
use Rattle.ktm_base.specs.declared.limits.TheConstants.{MOST_NUMBER, MOST_INFORMATION_BYTES}
use Rattle.ktm_base.specs.declared.id.Id.{Id}
use Rattle.ktm_world.specs.declared.recorded.RecordedPart.{RecordedPart}
use Rattle.ktm_world.specs.declared.recorded.Superior.{Superior}
use Rattle.ktm_world.specs.declared.event.DonePart.{DonePart}
use Rattle.ktm_world.specs.declared.event.Event.TheVariants.{Boot, Done}
use Rattle.ktm_world.specs.declared.event.Part.{Part}
use Rattle.ktm_world.specs.declared.event.Part.TheVariants.{Enlistment as EnlistmentPart, Changes, Settings}
use Rattle.ktm_world.specs.declared.object.Phase.TheVariants.{InDoubt, Committing}
use Rattle.ktm_world.specs.declared.object.Transaction.{Transaction}
use Rattle.ktm_world.specs.declared.object.TransactionOutcome.{TransactionOutcome}
use Rattle.ktm_world.specs.declared.options.EnlistmentKind.{EnlistmentKind}
use Rattle.ktm_world.specs.Durable.{Durable, Recorded, after_event, after_events, enlistments_of, has_undone, is_before, is_decided, is_held, is_manager, stand}
use Rattle.ktm_world.specs.Enlistments.{Enlistment, Manager, is_superior, is_unfinished, is_durable_at, superior_of}
use Rattle.ktm_world.specs.Logs.{Group}
use Rattle.ktm_world.specs.Present.{Present}
use Rattle.ktm_world.specs.Transactions.{same_id}
use Rattle.ktm_world.specs.World.{ManagerPast, manager_now, present, opened, own_events, own_group, done_if, enlistment_back, superior_back, enlistments_back, by_rising_id, is_enlistment_part, is_brought_back, transaction_back, back}
use Rattle.txf_laws.specs.Elements.{IsIn, each_pair}
use Rattle.txf_laws.specs.GoodState.{is_of_object, is_drawn, enlisted_in, superiors_in, enlisted, is_held_well, IsGoodState}
use Rattle.ktm_courses.specs.SoundCourse.{IsSoundCourse, is_note_of, is_idle, is_waiting, is_part_as, is_counted, is_made_with_it, has_transaction, has_manager, are_not_both_superiors, is_superior_durable, is_unrecovered_well, is_outcome_of, is_of_its_boot, has_superior_as_asked, is_enlistment_as, are_enlistments_as_asked, is_awaited, is_recorded_as_asked, is_alone_in_one_phase}
use Rattle.txf_laws.proofs.offered.Diamonds.{IsIn-right}
use Rattle.txf_laws.proofs.offered.Lists.{IsIn-left, IsIn-cases, IsIn-unmap}
use Rattle.txf_laws.proofs.offered.Elements.{IsIn-filter, IsIn-kept, IsIn-flat_map, IsIn-unflat, list_all-at, list_all-from, list_any-at, list_any-from, each_pair-filter, each_pair-from, each_pair-flat_kept}
use Rattle.txf_laws.proofs.offered.Tables.{same_id-equal, same_id-from, before_other}
use Rattle.ktm_courses.proofs.offered.Moves.{same-by_id, if_first, if_second, IsIn-map, NoBoots, NoBoots-none, NoBoots-one, NoBoots-append}
use Rattle.ktm_courses.proofs.offered.Endings.{superior-found}
use Rattle.ktm_courses.proofs.offered.EnlistmentAnswers.{RiseEnlistments}
use Rattle.ktm_courses.proofs.offered.EnlistmentOrder.{IsIn-rising, IsIn-into_rising, earlier, differ_in_id, Rises-by_rising_id, map-flat, ids-back}
use Rattle.ktm_courses.proofs.offered.OutcomesMade.{events-kept}
use Rattle.ktm_courses.proofs.offered.Views.{list_all-map, each_pair-map, sound-alike}

-- ---- what is brought back

-- the enlistment, as it was recorded
abbrev pub recorded_as : Enlistment → Superior
recorded_as e = record { enlistment = e.id; manager = e.manager; information = e.information }

-- what an enlistment is that is brought back
pub record IsBack (t : Recorded) (e : Enlistment) : Type 0 where
  pub transaction : e.transaction ≡ t.id
  pub recovered : e.is_recovered ≡ false
  pub owes : is_none e.owes ≡ true
  pub read_only : e.is_read_only ≡ false
  pub finished : e.is_finished ≡ false
  pub prepared : ((is_superior e ≡ true) × (e.is_prepared ≡ false)) ⊎ ((is_superior e ≡ false) × (e.is_prepared ≡ true))
  pub superior : is_superior e ≡ true → t.superior ≡ Some (recorded_as e)
  pub enlisted : IsIn (recorded_as e) (enlisted t)

pub is-back : (t : Recorded) (e : Enlistment) → IsIn e (enlistments_back t) → IsBack t e
is-back t e there = elim (IsIn-cases e (superior_back t.id t.superior) (flat_map (enlistment_back t.id) t.parts) there) [
  | inl above ↦ superior t.superior refl above
  | inr below ↦ let from = IsIn-unflat (enlistment_back t.id) t.parts e below in part from.0 from.1 (from.0).part refl from.2
]
  where
    superior : (o : Option Superior) → t.superior ≡ o → IsIn e (superior_back t.id o) → IsBack t e
    superior None is none = absurd none
    superior (Some s) is (inr none) = absurd none
    superior (Some s) is (inl same) = subst (IsBack t) same (record {
      transaction = refl;
      recovered = refl;
      owes = refl;
      read_only = refl;
      finished = refl;
      prepared = inl (refl, refl);
      superior = λ above. is;
      enlisted = IsIn-left s (superiors_in t.superior) (flat_map (λ (p : RecordedPart). enlisted_in p.part) t.parts) (subst (λ o. IsIn s (superiors_in o)) (sym is) (inl refl));
    })

    part : (p : RecordedPart) → IsIn p t.parts → (q : Part) → p.part ≡ q → IsIn e (enlistment_back t.id (record p { part = q })) → IsBack t e
    part p in_parts (EnlistmentPart enlistment manager information) is (inr none) = absurd none
    part p in_parts (EnlistmentPart enlistment manager information) is (inl same) = subst (IsBack t) same (record {
      transaction = refl;
      recovered = refl;
      owes = refl;
      read_only = refl;
      finished = refl;
      prepared = inr (refl, refl);
      superior = λ above. absurd (true≢false (sym above));
      enlisted = IsIn-right (record { enlistment = enlistment; manager = manager; information = information }) (superiors_in t.superior) (flat_map (λ (p : RecordedPart). enlisted_in p.part) t.parts)
          (IsIn-flat_map (λ (p : RecordedPart). enlisted_in p.part) t.parts p (record { enlistment = enlistment; manager = manager; information = information }) in_parts
          (subst (λ q. IsIn (record { enlistment = enlistment; manager = manager; information = information }) (enlisted_in q)) (sym is) (inl refl)));
    })
    part p in_parts (Changes changes) is none = absurd none
    part p in_parts (Settings settings) is none = absurd none

-- one that is brought back owes nothing, and is prepared, or a superior
back-waits : (t : Recorded) (e : Enlistment) → IsBack t e → (test : Enlistment → Bool) → (e.is_prepared ≡ true → test e ≡ true) → (if is_superior e then is_idle e && not e.is_read_only else (if e.is_read_only then is_idle e else test e)) ≡ true
back-waits t e is test waits = elim is.prepared [
  | inl above ↦ if_first (is_superior e) _ _ above.0 (and_from _ _ (and_from _ _ (and_from _ _ is.owes (not_from_false _ above.1)) (not_from_false _ is.finished)) (not_from_false _ is.read_only))
  | inr below ↦ if_second (is_superior e) _ _ below.0 (if_second e.is_read_only _ _ is.read_only (waits below.1))
]

bool_cases : (P : Bool → Type 0) (b : Bool) → (b ≡ true → P true) → (b ≡ false → P false) → P b
bool_cases P true on off = on refl
bool_cases P false on off = off refl

-- ---- the machine

-- what the restart records is its boot, and that participants are done
no-boots : (rs : List Recorded) → NoBoots (flat_map own_events rs)
no-boots [] = NoBoots-none
no-boots (t ∷ rs) = NoBoots-append (NoBoots-append (done (has_undone DonePart.Files t) t.id DonePart.Files) (done (has_undone DonePart.Keys t) t.id DonePart.Keys)) (no-boots rs)
  where
    done : (b : Bool) (id : Id) (part : DonePart) → NoBoots (done_if b id part)
    done true id part = NoBoots-one (Done id part) refl
    done false id part = NoBoots-none

-- with one boot more than the state that was found
pub booted : (s : Durable) → ((after_events s (own_group s)).boots ≡ s.boots + 1) × ((after_events s (own_group s)).image ≡ s.image)
booted s = events-kept (flat_map own_events s.transactions) (after_event s (Boot (s.boots + 1))) (no-boots s.transactions)

module _ (base : Durable) (log : List Group) (good : IsGoodState (stand base log)) where
  abbrev s : Durable
  s = stand base log

  abbrev x : Present
  x = present (opened base log)

  -- with the boot that began
  abbrev y : Present
  y = record x { recorded = record s { boots = s.boots + 1 } }

  abbrev ts : List Transaction
  ts = map transaction_back (back s)

  abbrev es : List Enlistment
  es = by_rising_id (flat_map enlistments_back (back s))

  abbrev manager_back : Id → ManagerPast
  manager_back id = record { id = id; is_durable = true; taken = []; queue = [] }

  abbrev ms : List Manager
  ms = map manager_now (map manager_back s.managers)

  drawn-boot : (id : Id) → is_drawn s id ≡ true → id.boot ≤ s.boots
  drawn-boot id drawn = leb-true _ _ (and_parts (is_of_object id) (nat_le id.boot s.boots) drawn).1

  counted : (id : Id) → is_drawn s id ≡ true → is_counted (s.boots + 1) 0 id ≡ true
  counted id drawn =
      let number = and_parts (nat_le 1 id.boot && nat_le 1 id.number) (nat_le id.number MOST_NUMBER) (and_parts (is_of_object id) (nat_le id.boot s.boots) drawn).0 in
      let from = and_parts (nat_le 1 id.boot) (nat_le 1 id.number) number.0 in
      let boot = drawn-boot id drawn in
      and_from _ _ (and_from _ _ (and_from _ _ (and_from _ _ from.0 (le-leb id.boot (s.boots + 1) (omega (arith, boot)))) from.1) number.1) (or_left _ _ (lt-ltb id.boot (s.boots + 1) (omega (arith, boot))))

  -- the transaction that an enlistment was brought back with
  record From (e : Enlistment) : Type 0 where
    t : Recorded
    there : IsIn t s.transactions
    brought : is_brought_back t ≡ true
    within : IsIn e (enlistments_back t)
    is : IsBack t e

  from : (e : Enlistment) → IsIn e es → From e
  from e there =
      let at = IsIn-unflat enlistments_back (back s) e (IsIn-rising (flat_map enlistments_back (back s)) e there) in
      let kept = IsIn-filter is_brought_back s.transactions at.0 at.1 in
      record { t = at.0; there = kept.0; brought = kept.1; within = at.2; is = is-back at.0 e at.2 }

  -- what was recorded of it
  enlisted-fact : (test : Superior → Bool) → list_all test (flat_map enlisted s.transactions) ≡ true → (e : Enlistment) → IsIn e es → test (recorded_as e) ≡ true
  enlisted-fact test all e there = let f = from e there in list_all-at test (flat_map enlisted s.transactions) all (recorded_as e) (IsIn-flat_map enlisted s.transactions f.t (recorded_as e) f.there (f.is).enlisted)

  each : (test : Transaction → Bool) → ((t : Recorded) → IsIn t s.transactions → is_brought_back t ≡ true → test (transaction_back t) ≡ true) → list_all test ts ≡ true
  each test all = list_all-from test ts (λ u there.
      let at = IsIn-unmap transaction_back u (back s) there in
      let kept = IsIn-filter is_brought_back s.transactions at.0 at.2 in
      subst (λ v. test v ≡ true) at.1 (all at.0 kept.0 kept.1))

  has-back : (t : Recorded) → IsIn t s.transactions → is_brought_back t ≡ true → has_transaction ts t.id ≡ true
  has-back t there brought = list_any-from (λ (u : Transaction). same_id u.id t.id) ts (transaction_back t) (IsIn-map transaction_back t (back s) (IsIn-kept is_brought_back s.transactions t there brought)) (same_id-from t.id t.id refl)

  manager-back : (id : Id) → is_manager s id ≡ true → (has_manager ms id ≡ true) × (is_durable_at ms id ≡ true)
  manager-back id is =
      let some = list_any-at _ s.managers is in
      let there = IsIn-map manager_now (manager_back some.0) (map manager_back s.managers) (IsIn-map manager_back some.0 s.managers some.1) in
      let same : same_id some.0 id ≡ true = some.2 in
      (list_any-from (λ (m : Manager). same_id m.id id) ms (manager_now (manager_back some.0)) there same, list_any-from (λ (m : Manager). same_id m.id id && m.is_durable) ms (manager_now (manager_back some.0)) there (and_from _ _ same refl))

  managers-known : (e : Enlistment) → IsIn e es → is_manager s e.manager ≡ true
  managers-known e there = enlisted-fact (λ (e : Superior). is_manager s e.manager) good.managers_there e there

  -- the resource manager of an enlistment that is brought back is durable
  pub durable-back : (e : Enlistment) → IsIn e es → is_durable_at ms e.manager ≡ true
  durable-back e there = (manager-back e.manager (managers-known e there)).1

  -- it waits, or it commits and has an enlistment
  stages : (t : Recorded) → is_brought_back t ≡ true → (P : Transaction → Type 0)
      → (is_held t.stage ≡ true → P (record (transaction_back t) { phase = InDoubt; outcome = TransactionOutcome.Undetermined }))
      → (list_any is_enlistment_part t.parts ≡ true → P (record (transaction_back t) { phase = Committing; outcome = TransactionOutcome.Committed })) → P (transaction_back t)
  stages t brought P held decided = bool_cases
      (λ b. P (record (transaction_back t) { phase = if b then InDoubt else Committing; outcome = if b then TransactionOutcome.Undetermined else TransactionOutcome.Committed }))
      (is_held t.stage) held
      (λ not_held. decided (elim (or_cases (is_held t.stage) _ brought) [ inl is ↦ absurd (true≢false (sym is ∙ not_held)) | inr commits ↦ (and_parts (is_decided t.stage) (list_any is_enlistment_part t.parts) commits).1 ]))

  -- an enlistment with a transaction's Id was brought back with it
  pub own-within : (t : Recorded) → IsIn t s.transactions → (e : Enlistment) → IsIn e es → same_id e.transaction t.id ≡ true → IsIn e (enlistments_back t)
  own-within t there e in_es same =
      let f = from e in_es in
      subst (λ u. IsIn e (enlistments_back u)) (same-by_id (λ (r : Recorded). r.id) s.transactions good.transactions_rise f.t t f.there there (sym (f.is).transaction ∙ same_id-equal e.transaction t.id same)) f.within

  own : (t : Recorded) → IsIn t s.transactions → (e : Enlistment) → IsIn e es → same_id e.transaction t.id ≡ true → IsBack t e
  own t there e in_es same = is-back t e (own-within t there e in_es same)

  pub in-es : (t : Recorded) → IsIn t s.transactions → is_brought_back t ≡ true → (e : Enlistment) → IsIn e (enlistments_back t) → IsIn e es
  in-es t there brought e is = IsIn-into_rising (flat_map enlistments_back (back s)) e (IsIn-flat_map enlistments_back (back s) t e (IsIn-kept is_brought_back s.transactions t there brought) is)

  -- its superior is there, where it has one
  pub superior-there : (t : Recorded) → IsIn t s.transactions → is_brought_back t ≡ true → (sup : Superior) → t.superior ≡ Some sup → is_some (superior_of es t.id) ≡ true
  superior-there t there brought sup is =
      let e : Enlistment = record {
        id = sup.enlistment;
        manager = sup.manager;
        transaction = t.id;
        kind = EnlistmentKind.Superior;
        owes = None;
        is_read_only = false;
        is_prepared = false;
        is_finished = false;
        is_recovered = false;
        information = sup.information;
      } in
      superior-found t.id es e (in-es t there brought e (IsIn-left e (superior_back t.id t.superior) (flat_map (enlistment_back t.id) t.parts) (subst (λ o. IsIn e (superior_back t.id o)) (sym is) (inl refl)))) (and_from _ _ (same_id-from t.id t.id refl) refl)

  -- one that waits has it
  superior-back : (t : Recorded) → IsIn t s.transactions → is_brought_back t ≡ true → is_held t.stage ≡ true → is_some (superior_of es t.id) ≡ true
  superior-back t there brought held = go t.superior refl (elim (or_cases (not (is_held t.stage)) (is_some t.superior) (list_all-at is_held_well s.transactions good.held t there)) [ inl other ↦ absurd (true≢false (sym held ∙ not-true _ other)) | inr has ↦ has ])
    where
      go : (o : Option Superior) → t.superior ≡ o → is_some o ≡ true → is_some (superior_of es t.id) ≡ true
      go None is has = absurd (true≢false (sym has))
      go (Some sup) is has = superior-there t there brought sup is

  -- a transaction that is brought back with an enlistment that takes part has one that has not finished
  unfinished-back : (t : Recorded) → IsIn t s.transactions → is_brought_back t ≡ true → list_any is_enlistment_part t.parts ≡ true → list_any (is_unfinished t.id) es ≡ true
  unfinished-back t there brought some =
      let one = list_any-at is_enlistment_part t.parts some in
      go one.0 one.1 (one.0).part refl one.2
    where
      go : (p : RecordedPart) → IsIn p t.parts → (q : Part) → p.part ≡ q → is_enlistment_part (record p { part = q }) ≡ true → list_any (is_unfinished t.id) es ≡ true
      go p in_parts (EnlistmentPart enlistment manager information) is yes' =
          let e : Enlistment = record {
            id = enlistment;
            manager = manager;
            transaction = t.id;
            kind = EnlistmentKind.Plain;
            owes = None;
            is_read_only = false;
            is_prepared = true;
            is_finished = false;
            is_recovered = false;
            information = information;
          } in
          list_any-from (is_unfinished t.id) es e
          (in-es t there brought e (IsIn-right e (superior_back t.id t.superior) (flat_map (enlistment_back t.id) t.parts)
          (IsIn-flat_map (enlistment_back t.id) t.parts p e in_parts (subst (λ q. IsIn e (enlistment_back t.id (record p { part = q }))) (sym is) (inl refl)))))
          (and_from _ _ (and_from _ _ (and_from _ _ (same_id-from t.id t.id refl) refl) refl) refl)
      go p in_parts (Changes changes) is yes' = absurd (true≢false (sym yes'))
      go p in_parts (Settings settings) is yes' = absurd (true≢false (sym yes'))

  sound-y : IsSoundCourse y
  sound-y = record {
    numbers = record {
      booted = omega arith;
      boots_fit = let left = good.boots_left in omega arith;
      image_fits = good.image_fits;
      clock_fits = omega arith;
    };
    transactions = record {
      rise = each_pair-map (λ (t u : Transaction). is_before t.id u.id) (λ (t u : Recorded). is_before t.id u.id) transaction_back (λ t u. refl) (back s) ∙ each_pair-filter (λ (t u : Recorded). is_before t.id u.id) is_brought_back s.transactions good.transactions_rise;
      counted = each (λ t. is_counted (s.boots + 1) 0 t.id) (λ t there brought. counted t.id (list_all-at (λ (t : Recorded). is_drawn s t.id) s.transactions good.transactions_drawn t there));
      boots = each (is_of_its_boot (s.boots + 1)) (λ t there brought.
          let earlier' : nat_lt (t.id).boot (s.boots + 1) ≡ true = lt-ltb (t.id).boot (s.boots + 1) (let boot = drawn-boot t.id (list_all-at (λ (t : Recorded). is_drawn s t.id) s.transactions good.transactions_drawn t there) in omega (arith, boot)) in
          stages t brought (λ u. is_of_its_boot (s.boots + 1) u ≡ true) (λ held. rw earlier' refl) (λ commits. rw earlier' refl));
      outcomes = each (λ t. is_outcome_of t.phase t) (λ t there brought. stages t brought (λ u. is_outcome_of u.phase u ≡ true) (λ held. refl) (λ commits. refl));
      begun = each (λ t. nat_le t.created 0) (λ t there brought. refl);
    };
    enlistments = record {
      rise = rises;
      counted = list_all-from (λ (e : Enlistment). is_counted (s.boots + 1) 0 e.id) es (λ e there.
          counted e.id (enlisted-fact (λ (e : Superior). is_drawn s e.enlistment) good.enlistments_drawn e there));
      made = list_all-from (is_made_with_it (s.boots + 1)) es (λ e there.
          let f = from e there in
          or_left _ _ (subst (λ (id : Id). nat_lt id.boot (s.boots + 1) ≡ true) (sym (f.is).transaction) (lt-ltb _ _ (let boot = drawn-boot f.t.id (list_all-at (λ (t : Recorded). is_drawn s t.id) s.transactions good.transactions_drawn f.t f.there) in omega (arith, boot)))));
      transactions_there = list_all-from (λ (e : Enlistment). has_transaction ts e.transaction) es (λ e there. let f = from e there in subst (λ id. has_transaction ts id ≡ true) (sym (f.is).transaction) (has-back f.t f.there f.brought));
      managers_there = list_all-from (λ (e : Enlistment). has_manager ms e.manager) es (λ e there. (manager-back e.manager (managers-known e there)).0);
      superiors_durable = list_all-from (is_superior_durable ms) es (λ e there. or_right _ _ (manager-back e.manager (managers-known e there)).1);
      superiors_differ = each_pair-from earlier are_not_both_superiors es rises (λ a b there there' before. not_from_false _ (false_from_ne_true _ (λ both.
          let two = and_parts (is_superior a && is_superior b) (same_id a.transaction b.transaction) both in
          let one = and_parts (is_superior a) (is_superior b) two.0 in
          let f = from a there in
          let other = own f.t f.there b there' (same_id-from b.transaction (f.t).id (sym (same_id-equal a.transaction b.transaction two.1) ∙ (f.is).transaction)) in
          let same : recorded_as a ≡ recorded_as b = same_Some _ _ (sym ((f.is).superior one.0) ∙ other.superior one.1) in
          before_other a.id b.id before (ap (λ (e : Superior). e.enlistment) same))));
      unrecovered = list_all-from (is_unrecovered_well (s.boots + 1) ms) es (λ e there.
          let is = (from e there).is in
          or_right _ _ (and_from _ _ (and_from _ _ (and_from _ _ (and_from _ _ (and_from _ _
          (lt-ltb (e.id).boot (s.boots + 1) (let boot = drawn-boot e.id (enlisted-fact (λ (e : Superior). is_drawn s e.enlistment) good.enlistments_drawn e there) in omega (arith, boot)))
          (manager-back e.manager (managers-known e there)).1) (not_from_false _ is.read_only)) (not_from_false _ is.finished)) is.owes)
          (elim is.prepared [ inl above ↦ or_left _ _ above.0 | inr below ↦ or_right _ _ below.1 ])));
      information_fits = list_all-from (λ (e : Enlistment). nat_le (length e.information) MOST_INFORMATION_BYTES) es (λ e there. enlisted-fact (λ (e : Superior). nat_le (length e.information) MOST_INFORMATION_BYTES) good.information_fits e there);
    };
    managers = record {
      rise = each_pair-map (λ (m n : Manager). is_before m.id n.id) (λ (m n : ManagerPast). is_before m.id n.id) manager_now (λ m n. refl) (map manager_back s.managers) ∙ each_pair-map (λ (m n : ManagerPast). is_before m.id n.id) is_before manager_back (λ m n. refl) s.managers ∙ good.managers_rise;
      counted = list_all-map (λ (m : Manager). is_counted (s.boots + 1) 0 m.id) (λ (m : ManagerPast). is_counted (s.boots + 1) 0 m.id) manager_now (λ m. refl) (map manager_back s.managers)
          ∙ list_all-map (λ (m : ManagerPast). is_counted (s.boots + 1) 0 m.id) (λ id. is_counted (s.boots + 1) 0 id) manager_back (λ id. refl) s.managers
          ∙ list_all-from (λ id. is_counted (s.boots + 1) 0 id) s.managers (λ id there. counted id (list_all-at (is_drawn s) s.managers good.managers_drawn id there));
      notes_there = list_all-map (λ (m : Manager). list_all (is_note_of es m.id) m.queue) (λ (m : ManagerPast). list_all (is_note_of es m.id) m.queue) manager_now (λ m. refl) (map manager_back s.managers)
          ∙ list_all-map (λ (m : ManagerPast). list_all (is_note_of es m.id) m.queue) (λ id. true) manager_back (λ id. refl) s.managers ∙ list_all-from (λ id. true) s.managers (λ id there. refl);
    };
    handles = record {
      labels_differ = refl;
      objects_there = refl;
    };
    phases = record {
      superiors = each (has_superior_as_asked es) (λ t there brought. stages t brought (λ u. has_superior_as_asked es u ≡ true) (λ held. superior-back t there brought held) (λ commits. refl));
      enlistments = each (are_enlistments_as_asked es) (λ t there brought. list_all-from (λ (e : Enlistment). not (same_id e.transaction t.id) || is_enlistment_as (transaction_back t).phase e) es (λ e in_es. elim (cases_Bool (same_id e.transaction t.id)) [
        | inr other ↦ or_left _ _ (not_from_false _ other)
        | inl same ↦ or_right _ _ (let b = own t there e in_es same in stages t brought (λ u. is_enlistment_as u.phase e ≡ true)
            (λ held. back-waits t e b is_waiting (λ prepared. and_from _ _ (and_from _ _ b.owes prepared) (not_from_false _ b.finished)))
            (λ commits. back-waits t e b (is_part_as Committing) (λ prepared. and_from _ _ prepared (if_second (e.is_recovered && not e.is_finished) _ _ (and_left _ _ b.recovered) b.owes))))
      ]));
      awaited = each (is_awaited es) (λ t there brought. stages t brought (λ u. is_awaited es u ≡ true) (λ held. refl) (λ commits. unfinished-back t there brought commits));
      recorded = each (is_recorded_as_asked ms es) (λ t there brought. stages t brought (λ u. is_recorded_as_asked ms es u ≡ true) (λ held. refl) (λ commits. refl));
    };
    alone = each (is_alone_in_one_phase ((y.files).table).own (y.keys).own) (λ t there brought. stages t brought (λ u. is_alone_in_one_phase ((y.files).table).own (y.keys).own u ≡ true) (λ held. refl) (λ commits. refl));
  }
    where
      differ : each_pair differ_in_id (flat_map enlistments_back (back s)) ≡ true
      differ =
          sym (each_pair-map (λ a b. not (same_id a b)) differ_in_id (λ (e : Enlistment). e.id) (λ e f. refl) (flat_map enlistments_back (back s)))
          ∙ ap (each_pair (λ a b. not (same_id a b))) (map-flat (λ (e : Enlistment). e.id) enlistments_back enlistments_of ids-back (back s))
          ∙ each_pair-flat_kept (λ a b. not (same_id a b)) enlistments_of is_brought_back s.transactions good.enlistments_differ

      rises : RiseEnlistments es
      rises = Rises-by_rising_id (flat_map enlistments_back (back s)) differ

  pub sound-opened : IsSoundCourse (present (opened base log))
  sound-opened =
      let kept = booted s in
      sound-alike y x (record { boots = sym kept.0; image = sym kept.1; transactions = refl; managers = refl; handles = refl; own = refl; settings = refl }) sound-y
