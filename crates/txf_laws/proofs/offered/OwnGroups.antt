-- What a restart records by itself applies, and settles each transaction.
use Rattle.std.proofs.Common.{◌≡◌, ◌+◌, ◌<◌, ◌^◌, ◌-◌, ◌&&◌, ◌||◌, not, Bool, true, false, List, [], ◌∷◌, ◌++◌, length, map, filter, nat_le, refl, sym, ◌∙◌, ap, subst, arith, inl, inr, ◌⊎◌}
use Rattle.std.proofs.lemmas.Bool.{cases_Bool, and_parts, and_from, and_left, and_right, or_right, eq-eqb, lt-ltb, not-true, not_from_false, not_from_true, true≢false, false_from_ne_true}
use Rattle.std.proofs.lemmas.List.{length-append}
use Rattle.std.specs.List.{list_all, list_any, flat_map}
use Rattle.ktm_base.specs.declared.id.Id.{Id}
use Rattle.ktm_world.specs.declared.recorded.RecordedPart.{RecordedPart}
use Rattle.ktm_world.specs.declared.recorded.Stage.{Stage}
use Rattle.ktm_world.specs.declared.event.DonePart.{DonePart}
use Rattle.ktm_world.specs.declared.event.Event.{Event}
use Rattle.ktm_world.specs.declared.event.Event.TheVariants.{Boot, Done}
use Rattle.ktm_world.specs.declared.event.Part.{Part}
use Rattle.ktm_world.specs.declared.event.Part.TheVariants.{Enlistment, Changes, Settings}
use Rattle.ktm_world.specs.Durable.{Durable, Recorded, is_ready, is_decided, is_part_of, is_of_enlistment, has_undone, parts_done, superior_ids, enlistments_in, while_not_done, finish_recorded, stage_passes, fact_of, after_event, after_events, fact_applies, event_applies, events_apply, is_within_limits}
use Rattle.ktm_world.specs.Transactions.{same_id}
use Rattle.ktm_world.specs.World.{done_if, own_events}
use Rattle.ktm_world.proofs.offered.Durables.{after_events-append, after_events-events}
use Rattle.txf_laws.specs.Elements.{IsIn}
use Rattle.txf_laws.specs.GoodState.{is_of_object, is_drawn, IsGoodState}
use Rattle.txf_laws.specs.Grammatical.{is_grammatical}
use Rattle.txf_laws.specs.OwnGroup.{is_settled, OwnGroupLaw}
use Rattle.txf_laws.proofs.offered.Diamonds.{none-from}
use Rattle.txf_laws.proofs.offered.Lists.{IsIn-unmap}
use Rattle.txf_laws.proofs.offered.Elements.{IsIn-filter, IsIn-kept, list_all-at, list_all-from, list_any-at, list_any-from}
use Rattle.txf_laws.proofs.offered.Parts.{gathered-map}
use Rattle.txf_laws.proofs.offered.Tables.{same_id-equal, same_id-from, other_id, before_other, Rises, rises-first, rises-rest, IsIn-with_recorded, IsIn-with_recorded-itself, IsIn-with_recorded-other, recorded_at-there}
use Rattle.txf_laws.proofs.offered.Limits.{limits-less, limits-booted, Less-filter, Less-while}
use Rattle.txf_laws.proofs.StateEvents.{boot-keeps}
use Rattle.txf_laws.proofs.offered.DoneEvents.{marked, done-keeps}

-- has the transaction a part that is not done
abbrev pub is_open : Recorded → Bool
is_open t = list_any (λ (p : RecordedPart). not p.is_done) t.parts

-- ---- a transaction that stays while a part of it is not done

IsIn-while : (ts : List Recorded) (t u : Recorded) → Rises ts → IsIn u (while_not_done ts t) → (u ≡ t) ⊎ (IsIn u ts × (u.id ≡ t.id → ⊥))
IsIn-while ts t u rises there = elim (cases_Bool (is_open t)) [
  | inl stays ↦ IsIn-with_recorded ts t u rises (rw stays at there)
  | inr over ↦ let at = IsIn-filter (λ v. not (same_id v.id t.id)) ts u (rw over at there) in inr (at.0, other_id u.id t.id (not-true _ at.1))
]

IsIn-while-itself : (ts : List Recorded) (t : Recorded) → is_open t ≡ true → IsIn t (while_not_done ts t)
IsIn-while-itself ts t stays = rw stays (IsIn-with_recorded-itself ts t)

IsIn-while-other : (ts : List Recorded) (t u : Recorded) → IsIn u ts → (u.id ≡ t.id → ⊥) → IsIn u (while_not_done ts t)
IsIn-while-other ts t u there differs = elim (cases_Bool (is_open t)) [
  | inl stays ↦ rw stays (IsIn-with_recorded-other ts t u there differs)
  | inr over ↦ rw over (IsIn-kept (λ v. not (same_id v.id t.id)) ts u there (not_from_false _ (false_from_ne_true _ (λ same. differs (same_id-equal u.id t.id same)))))
]

-- ---- the files' part done, or the keys'

-- the transaction with the part of this participant done
abbrev done_by : DonePart → Recorded → Recorded
done_by done t = record t { parts = map (marked done) t.parts }

undone-open : (done : DonePart) (t : Recorded) → has_undone done t ≡ true → is_open t ≡ true
undone-open done t undone =
    let some = list_any-at (λ (p : RecordedPart). is_part_of done p.part && not p.is_done) t.parts (and_parts (is_decided t.stage) (list_any (λ (p : RecordedPart). is_part_of done p.part && not p.is_done) t.parts) undone).1 in
    list_any-from (λ (p : RecordedPart). not p.is_done) t.parts some.0 some.1 (and_parts (is_part_of done (some.0).part) (not (some.0).is_done) some.2).1

done_by-done : (done : DonePart) (t : Recorded) → has_undone done (done_by done t) ≡ false
done_by-done done t = and_right (is_decided t.stage) _ (none-from (λ (p : RecordedPart). is_part_of done p.part && not p.is_done) (map (marked done) t.parts) (λ q there.
    let from = IsIn-unmap (marked done) q t.parts there in
    subst (λ (p : RecordedPart). (is_part_of done p.part && not p.is_done) ≡ false) from.1 (elim (cases_Bool (is_part_of done (from.0).part)) [
      | inl is ↦ and_right _ _ (not_from_true _ (or_right _ _ is))
      | inr other ↦ and_left _ _ other
    ])))

-- no part is of both participants
abbrev AreApartKinds : DonePart → DonePart → Type 0
AreApartKinds d done = (part : Part) → is_part_of d part ≡ true → is_part_of done part ≡ false

done_by-other : (d done : DonePart) (t : Recorded) → AreApartKinds d done → has_undone d (done_by done t) ≡ has_undone d t
done_by-other d done t kinds = ap (λ b. is_decided t.stage && b) (go t.parts)
  where
    one : (p : RecordedPart) → (is_part_of d p.part && not (p.is_done || is_part_of done p.part)) ≡ (is_part_of d p.part && not p.is_done)
    one p = elim (cases_Bool (is_part_of d p.part)) [
      | inl is ↦ rw (is, kinds p.part is) (elim p.is_done as (λ b. ◌≡◌ {A = Bool} (not (b || false)) (not b)) [ true ↦ refl | false ↦ refl ])
      | inr other ↦ rw other refl
    ]

    go : (ps : List RecordedPart) → list_any (λ (p : RecordedPart). is_part_of d p.part && not p.is_done) (map (marked done) ps) ≡ list_any (λ (p : RecordedPart). is_part_of d p.part && not p.is_done) ps
    go [] = refl
    go (p ∷ ps) = rw (one p, go ps) refl

kinds-files : AreApartKinds DonePart.Files DonePart.Keys
kinds-files (Enlistment enlistment manager information) is = refl
kinds-files (Changes cs) is = refl
kinds-files (Settings ss) is = absurd (true≢false (sym is))

kinds-keys : AreApartKinds DonePart.Keys DonePart.Files
kinds-keys (Enlistment enlistment manager information) is = refl
kinds-keys (Changes cs) is = absurd (true≢false (sym is))
kinds-keys (Settings ss) is = refl

-- ---- along the transactions

-- a good state in which these transactions have yet to be settled
record Going (s : Durable) (todo : List Recorded) : Type 0 where
  good : IsGoodState s
  rises : Rises todo
  there : (u : Recorded) → IsIn u todo → (done : DonePart) → has_undone done u ≡ true → IsIn u s.transactions
  rest : (u : Recorded) → IsIn u s.transactions → (is_settled u ≡ true) ⊎ (IsIn u todo × (is_ready u.stage ≡ false))

spelled-done : (id : Id) (done : DonePart) → is_of_enlistment done ≡ false → is_of_object id ≡ true → is_grammatical (Done id done) ≡ true
spelled-done id (DonePart.Enlistment enlistment) other counted = absurd (true≢false other)
spelled-done id DonePart.Files other counted = and_from _ _ (and_from _ _ counted refl) refl
spelled-done id DonePart.Keys other counted = and_from _ _ (and_from _ _ counted refl) refl

not_ready : (stage : Stage) → is_decided stage ≡ true → is_ready stage ≡ false
not_ready Stage.Ready is = absurd (true≢false (sym is))
not_ready Stage.Held is = refl
not_ready Stage.Decided is = refl

module _ (s : Durable) (t : Recorded) (ts : List Recorded) (going : Going s (t ∷ ts)) (done : DonePart) (other : is_of_enlistment done ≡ false) (undone : has_undone done t ≡ true) (few : s.events + 1 < 2 ^ 63) where
  here : IsIn t s.transactions
  here = going.there t (inl refl) done undone

  decided : is_decided t.stage ≡ true
  decided = (and_parts (is_decided t.stage) (list_any (λ (p : RecordedPart). is_part_of done p.part && not p.is_done) t.parts) undone).0

  fact-done : fact_of s (Done t.id done) ≡ record s { transactions = while_not_done s.transactions (done_by done t) }
  fact-done = ap (finish_recorded s done) (recorded_at-there s.transactions (going.good).transactions_rise t here)
      ∙ ap (λ ps. record s { transactions = while_not_done s.transactions (record t { parts = ps }) }) (marks t.parts)
    where
      marks : (ps : List RecordedPart) → parts_done done ps ≡ map (marked done) ps
      marks ps = rw other refl

  passes : stage_passes s t.id (has_undone done) ≡ true
  passes = list_any-from (λ u. same_id u.id t.id && has_undone done u) s.transactions t here (and_from _ _ (same_id-from t.id t.id refl) undone)

  limits-done : is_within_limits (fact_of s (Done t.id done)) ≡ true
  limits-done = subst (λ x. is_within_limits x ≡ true) (sym fact-done)
      (limits-less s (while_not_done s.transactions (done_by done t))
      (Less-while s.transactions t (done_by done t) (going.good).transactions_rise here refl decided decided
      (let same = ap length (ap (λ es. superior_ids t.superior ++ es) (gathered-map enlistments_in (marked done) (λ p. refl) t.parts)) in omega arith)) (going.good).limits)

  done-applies : event_applies s (Done t.id done) ≡ true
  done-applies = and_from _ _ (and_from _ _ passes limits-done) (lt-ltb _ _ few)

  going-on : Going (after_event s (Done t.id done)) (done_by done t ∷ ts)
  going-on = record {
    good = done-keeps s t.id done going.good (spelled-done t.id done other counted) passes limits-done few;
    rises = going.rises;
    there = λ u in_todo d undone'. subst (λ xs. IsIn u xs) (sym transactions) (stays u in_todo d undone');
    rest = λ u in_new. left u (IsIn-while s.transactions (done_by done t) u (going.good).transactions_rise (subst (λ xs. IsIn u xs) transactions in_new));
  }
    where
      transactions : (after_event s (Done t.id done)).transactions ≡ while_not_done s.transactions (done_by done t)
      transactions = ap (λ (x : Durable). x.transactions) fact-done

      counted : is_of_object t.id ≡ true
      counted = (and_parts (is_of_object t.id) (nat_le (t.id).boot s.boots) (list_all-at (λ t. is_drawn s t.id) s.transactions (going.good).transactions_drawn t here)).0

      stays : (u : Recorded) → IsIn u (done_by done t ∷ ts) → (d : DonePart) → has_undone d u ≡ true → IsIn u (while_not_done s.transactions (done_by done t))
      stays u (inl e) d undone' = subst (λ v. IsIn v (while_not_done s.transactions (done_by done t))) e
          (IsIn-while-itself s.transactions (done_by done t) (subst (λ v. is_open v ≡ true) (sym e) (undone-open d u undone')))
      stays u (inr later) d undone' =
          IsIn-while-other s.transactions (done_by done t) u (going.there u (inr later) d undone') (λ e. before_other t.id u.id (rises-first t ts going.rises u later) (sym e))

      left : (u : Recorded) → (u ≡ done_by done t) ⊎ (IsIn u s.transactions × (u.id ≡ t.id → ⊥)) → (is_settled u ≡ true) ⊎ (IsIn u (done_by done t ∷ ts) × (is_ready u.stage ≡ false))
      left u (inl e) = inr (inl (sym e), ap (λ (v : Recorded). is_ready v.stage) e ∙ not_ready t.stage decided)
      left u (inr old) = elim (going.rest u old.0) [
        | inl settled ↦ inl settled
        | inr (inl e, unready) ↦ absurd (old.1 (ap (λ (v : Recorded). v.id) (sym e)))
        | inr (inr later, unready) ↦ inr (inr later, unready)
      ]

-- a transaction is settled
going-past : (s : Durable) (t : Recorded) (ts : List Recorded) → Going s (t ∷ ts) → has_undone DonePart.Files t ≡ false → has_undone DonePart.Keys t ≡ false → Going s ts
going-past s t ts going files keys = record {
  good = going.good;
  rises = rises-rest t ts going.rises;
  there = λ u later. going.there u (inr later);
  rest = λ u there. elim (going.rest u there) [
    | inl settled ↦ inl settled
    | inr (inl e, unready) ↦ inl (subst (λ (v : Recorded). (not (is_ready v.stage) && not (has_undone DonePart.Files v) && not (has_undone DonePart.Keys v)) ≡ true) e
        (and_from _ _ (and_from _ _ (not_from_false _ (ap (λ (v : Recorded). is_ready v.stage) e ∙ unready)) (not_from_false _ files)) (not_from_false _ keys)))
    | inr (inr later, unready) ↦ inr (later, unready)
  ];
}

-- the event of a participant that is done, where it is to be recorded
record OneDone (s : Durable) (t : Recorded) (ts : List Recorded) (done : DonePart) : Type 0 where
  after : Recorded
  same : after.id ≡ t.id
  apply : events_apply s (done_if (has_undone done t) t.id done) ≡ true
  going : Going (after_events s (done_if (has_undone done t) t.id done)) (after ∷ ts)
  is : has_undone done after ≡ false
  others : (d : DonePart) → AreApartKinds d done → has_undone d after ≡ has_undone d t

one-done : (s : Durable) (t : Recorded) (ts : List Recorded) (done : DonePart) → is_of_enlistment done ≡ false → Going s (t ∷ ts) → s.events + length (done_if (has_undone done t) t.id done) < 2 ^ 63 → OneDone s t ts done
one-done s t ts done other going few = go (has_undone done t) refl few
  where
    go : (b : Bool) → has_undone done t ≡ b → s.events + length (done_if b t.id done) < 2 ^ 63 → OneDone s t ts done
    go true undone few = record {
      after = done_by done t;
      same = refl;
      apply = rw undone (and_from _ _ (done-applies s t ts going done other undone few) refl);
      going = rw undone (going-on s t ts going done other undone few);
      is = done_by-done done t;
      others = λ d kinds. done_by-other d done t kinds;
    }
    go false undone few = record {
      after = t;
      same = refl;
      apply = rw undone refl;
      going = rw undone going;
      is = undone;
      others = λ d kinds. refl;
    }

events_apply-append : (s : Durable) (a b : List Event) → events_apply s a ≡ true → events_apply (after_events s a) b ≡ true → events_apply s (a ++ b) ≡ true
events_apply-append s [] b first second = second
events_apply-append s (event ∷ a) b first second =
    let parts = and_parts (event_applies s event) (events_apply (after_event s event) a) first in
    and_from _ _ parts.0 (events_apply-append (after_event s event) a b parts.1 second)

-- the events of one transaction
settle : (s : Durable) (t : Recorded) (ts : List Recorded) → Going s (t ∷ ts) → s.events + length (own_events t) < 2 ^ 63 → (events_apply s (own_events t) ≡ true) × Going (after_events s (own_events t)) ts
settle s t ts going few = (
  events_apply-append s files keys first.apply (subst (λ es. events_apply (after_events s files) es ≡ true) same second.apply),
  subst (λ x. Going x ts) (ap (after_events (after_events s files)) same ∙ sym (after_events-append s files keys))
      (going-past (after_events (after_events s files) keys_after) second.after ts second.going (second.others DonePart.Files kinds-files ∙ first.is) second.is),
)
  where
    files : List Event
    files = done_if (has_undone DonePart.Files t) t.id DonePart.Files

    keys : List Event
    keys = done_if (has_undone DonePart.Keys t) t.id DonePart.Keys

    lengths : length (own_events t) ≡ length files + length keys
    lengths = length-append files keys

    first : OneDone s t ts DonePart.Files
    first = one-done s t ts DonePart.Files refl going (omega (arith, few, lengths))

    keys_after : List Event
    keys_after = done_if (has_undone DonePart.Keys first.after) (first.after).id DonePart.Keys

    same : keys_after ≡ keys
    same i = done_if (first.others DonePart.Keys kinds-keys i) (first.same i) DonePart.Keys

    second : OneDone (after_events s files) first.after ts DonePart.Keys
    second = one-done (after_events s files) first.after ts DonePart.Keys refl first.going (omega (arith, few, lengths, ap length same, after_events-events s files))

-- the events of all of them
walk : (todo : List Recorded) (s : Durable) → Going s todo → s.events + length (flat_map own_events todo) < 2 ^ 63
    → (events_apply s (flat_map own_events todo) ≡ true) × (list_all is_settled (after_events s (flat_map own_events todo)).transactions ≡ true)
walk [] s going few = (refl, list_all-from is_settled s.transactions (λ u there. settled u (going.rest u there)))
  where
    settled : (u : Recorded) → (is_settled u ≡ true) ⊎ (IsIn u [] × (is_ready u.stage ≡ false)) → is_settled u ≡ true
    settled u (inl is) = is
    settled u (inr none) = absurd none.0
walk (t ∷ ts) s going few =
    let lengths = length-append (own_events t) (flat_map own_events ts) in
    let one = settle s t ts going (omega (arith, few, lengths)) in
    let rest = walk ts (after_events s (own_events t)) one.1 (omega (arith, few, lengths, after_events-events s (own_events t))) in (
      events_apply-append s (own_events t) (flat_map own_events ts) one.0 rest.0,
      subst (λ (x : Durable). list_all is_settled x.transactions ≡ true) (sym (after_events-append s (own_events t) (flat_map own_events ts))) rest.1,
    )

pub own_group_law : OwnGroupLaw
own_group_law s good boots few = (and_from _ _ boot_applies walked.0, walked.1)
  where
    boot : Event
    boot = Boot (s.boots + 1)

    applies : fact_applies s boot ≡ true
    applies = and_from _ _ (eq-eqb (s.boots + 1) (s.boots + 1) refl) (lt-ltb (s.boots + 1) (2 ^ 32 - 1) (omega arith))

    limits : is_within_limits (fact_of s boot) ≡ true
    limits = limits-booted (record s { transactions = filter (λ t. not (is_ready t.stage)) s.transactions }) (s.boots + 1)
        (limits-less s (filter (λ t. not (is_ready t.stage)) s.transactions) (Less-filter (λ t. not (is_ready t.stage)) s.transactions) good.limits)

    low : s.events + 1 < 2 ^ 63
    low = omega (arith, few)

    boot_applies : event_applies s boot ≡ true
    boot_applies = and_from _ _ (and_from _ _ applies limits) (lt-ltb (s.events + 1) (2 ^ 63) low)

    going : Going (after_event s boot) s.transactions
    going = record {
      good = boot-keeps s (s.boots + 1) good refl applies limits low;
      rises = good.transactions_rise;
      there = λ u there done undone. IsIn-kept (λ t. not (is_ready t.stage)) s.transactions u there
          (not_from_false _ (not_ready u.stage (and_parts (is_decided u.stage) (list_any (λ (p : RecordedPart). is_part_of done p.part && not p.is_done) u.parts) undone).0));
      rest = λ u there. let at = IsIn-filter (λ t. not (is_ready t.stage)) s.transactions u there in inr (at.0, not-true _ at.1);
    }

    walked : (events_apply (after_event s boot) (flat_map own_events s.transactions) ≡ true) × (list_all is_settled (after_events (after_event s boot) (flat_map own_events s.transactions)).transactions ≡ true)
    walked = walk s.transactions (after_event s boot) going (omega (arith, few))
