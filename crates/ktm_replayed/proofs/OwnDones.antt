-- The events that a restart records by itself of the transactions, one after another.
use Rattle.std.proofs.Common.{◌≡◌, ℕ, ◌+◌, ◌&&◌, ◌||◌, not, Bool, true, false, List, [], ◌∷◌, ◌++◌, Option, Some, None, map, filter, refl, sym, ◌∙◌, ap, subst, inl, inr}
use Rattle.std.specs.List.{list_any, flat_map}
use Rattle.std.proofs.lemmas.Bool.{and_from, and_left, and_right, cases_Bool, false_from_ne_true, false≢true, or_parts}
use Rattle.ktm_base.specs.declared.id.Id.{Id}
use Rattle.ktm_world.specs.declared.event.DonePart.{DonePart}
use Rattle.ktm_world.specs.declared.event.DonePart.TheVariants.{Files, Keys}
use Rattle.ktm_world.specs.declared.event.Event.{Event}
use Rattle.ktm_world.specs.declared.event.Event.TheVariants.{Boot, Done}
use Rattle.ktm_world.specs.declared.event.Part.{Part}
use Rattle.ktm_world.specs.declared.event.Part.TheVariants.{Enlistment, Changes, Settings}
use Rattle.ktm_world.specs.declared.recorded.RecordedPart.{RecordedPart}
use Rattle.ktm_world.specs.declared.recorded.Stage.{Stage}
use Rattle.txf_laws.proofs.offered.DoneEvents.{marked}
use Rattle.ktm_world.specs.Durable.{Durable, Recorded, after_event, after_events, fact_of, finish_recorded, has_undone, is_before, is_decided, is_part_of, is_ready, parts_done, recorded_at, while_not_done}
use Rattle.ktm_world.specs.Transactions.{same_id}
use Rattle.ktm_world.specs.World.{done_if, own_events}
use Rattle.txf_laws.specs.Elements.{IsIn}
use Rattle.txf_laws.proofs.offered.Elements.{list_any-from}
use Rattle.txf_laws.proofs.offered.Tables.{Rises, before_other, is_before-then, recorded_at-found, rises-first, rises-rest, same_id-equal, same_id-from}
use Rattle.ktm_waiting.specs.Table.{finished_in}
use Rattle.ktm_waiting.proofs.offered.TableSteps.{none-other}

-- is a part of this participant not done
abbrev is_undone : DonePart → RecordedPart → Bool
is_undone done p = is_part_of done p.part && not p.is_done

-- has the transaction a part that is not done
abbrev is_open : Recorded → Bool
is_open t = list_any (λ (p : RecordedPart). not p.is_done) t.parts

-- the transaction once this participant is done
abbrev finished : DonePart → Recorded → Recorded
finished done t = record t { parts = parts_done done t.parts }

-- ---- the parts of one

neither : (a b : Bool) → (b && not (a || b)) ≡ false
neither true true = refl
neither true false = refl
neither false true = refl
neither false false = refl

or-false : (a : Bool) → (a || false) ≡ a
or-false true = refl
or-false false = refl

done-itself : (done : DonePart) (ps : List RecordedPart) → list_any (is_undone done) (map (marked done) ps) ≡ false
done-itself done [] = refl
done-itself done (p ∷ ps) = rw (neither p.is_done (is_part_of done p.part)) (done-itself done ps)

keys-beside : (part : Part) (is_done : Bool) → (is_part_of Keys part && not (is_done || is_part_of Files part)) ≡ (is_part_of Keys part && not is_done)
keys-beside (Enlistment enlistment manager information) is_done = refl
keys-beside (Changes changes) is_done = refl
keys-beside (Settings settings) is_done = ap not (or-false is_done)

files-beside : (part : Part) (is_done : Bool) → (is_part_of Files part && not (is_done || is_part_of Keys part)) ≡ (is_part_of Files part && not is_done)
files-beside (Enlistment enlistment manager information) is_done = refl
files-beside (Changes changes) is_done = ap not (or-false is_done)
files-beside (Settings settings) is_done = refl

keys-kept : (ps : List RecordedPart) → list_any (is_undone Keys) (map (marked Files) ps) ≡ list_any (is_undone Keys) ps
keys-kept [] = refl
keys-kept (p ∷ ps) = rw (keys-beside p.part p.is_done, keys-kept ps) refl

files-kept : (ps : List RecordedPart) → list_any (is_undone Files) (map (marked Keys) ps) ≡ list_any (is_undone Files) ps
files-kept [] = refl
files-kept (p ∷ ps) = rw (files-beside p.part p.is_done, files-kept ps) refl

none-undone : (done : DonePart) (ps : List RecordedPart) → list_any (λ (p : RecordedPart). not p.is_done) ps ≡ false → list_any (is_undone done) ps ≡ false
none-undone done [] none = refl
none-undone done (p ∷ ps) none =
    let parts = or_parts (not p.is_done) (list_any (λ (p : RecordedPart). not p.is_done) ps) none in
    rw (and_right (is_part_of done p.part) (not p.is_done) parts.0) (none-undone done ps parts.1)

-- ---- the events of one

-- where the files are done, the keys are left, as they were
own-files : (t : Recorded) → own_events (finished Files t) ≡ done_if (has_undone Keys t) t.id Keys
own-files t = λ i. done_if (files i) t.id Files ++ done_if (keys i) t.id Keys
  where
    files : has_undone Files (finished Files t) ≡ false
    files = and_right (is_decided t.stage) _ (done-itself Files t.parts)

    keys : has_undone Keys (finished Files t) ≡ has_undone Keys t
    keys = ap (λ (b : Bool). is_decided t.stage && b) (keys-kept t.parts)

-- where the keys are done behind the files, nothing is left
own-keys : (t : Recorded) → has_undone Files t ≡ false → own_events (finished Keys t) ≡ []
own-keys t none = λ i. done_if (files i) t.id Files ++ done_if (keys i) t.id Keys
  where
    files : has_undone Files (finished Keys t) ≡ false
    files = ap (λ (b : Bool). is_decided t.stage && b) (files-kept t.parts) ∙ none

    keys : has_undone Keys (finished Keys t) ≡ false
    keys = and_right (is_decided t.stage) _ (done-itself Keys t.parts)

-- where all parts are done, nothing is recorded
own-closed : (t : Recorded) → is_open t ≡ false → own_events t ≡ []
own-closed t closed = λ i. done_if (and_right (is_decided t.stage) _ (none-undone Files t.parts closed) i) t.id Files ++ done_if (and_right (is_decided t.stage) _ (none-undone Keys t.parts closed) i) t.id Keys

not-decided : (stage : Stage) → is_ready stage ≡ true → is_decided stage ≡ false
not-decided Stage.Ready ready = refl
not-decided Stage.Held ready = absurd (false≢true ready)
not-decided Stage.Decided ready = absurd (false≢true ready)

own-ready : (t : Recorded) → is_ready t.stage ≡ true → own_events t ≡ []
own-ready t ready = λ i. done_if (and_left (is_decided t.stage) (list_any (is_undone Files) t.parts) (not-decided t.stage ready) i) t.id Files
    ++ done_if (and_left (is_decided t.stage) (list_any (is_undone Keys) t.parts) (not-decided t.stage ready) i) t.id Keys

-- ---- the events of all

-- those that a boot forgets have none
own-booted : (ts : List Recorded) → flat_map own_events (filter (λ t. not (is_ready t.stage)) ts) ≡ flat_map own_events ts
own-booted [] = refl
own-booted (t ∷ ts) = elim (cases_Bool (is_ready t.stage)) [
  | inl ready ↦ rw ready (own-booted ts ∙ ap (λ (es : List Event). es ++ flat_map own_events ts) (sym (own-ready t ready)))
  | inr other ↦ rw other (ap (λ (es : List Event). own_events t ++ es) (own-booted ts))
]

-- the first one changed
own-first : (t u : Recorded) (ts : List Recorded) → Rises (t ∷ ts) → u.id ≡ t.id → flat_map own_events (while_not_done (t ∷ ts) u) ≡ own_events u ++ flat_map own_events ts
own-first t u ts rises same = elim (cases_Bool (is_open u)) [
  | inl stays ↦ rw stays (rw (same_id-from t.id u.id (sym same)) refl)
  | inr over ↦ rw over (rw (same_id-from t.id u.id (sym same))
      (ap (flat_map own_events) (none-other ts u.id (λ v there. subst (λ (i : Id). is_before i v.id ≡ true) (sym same) (rises-first t ts rises v there)))
      ∙ ap (λ (es : List Event). es ++ flat_map own_events ts) (sym (own-closed u over))))
]

-- one behind it changed
own-later : (t u : Recorded) (ts : List Recorded) → is_before t.id u.id ≡ true → flat_map own_events (while_not_done (t ∷ ts) u) ≡ own_events t ++ flat_map own_events (while_not_done ts u)
own-later t u ts before = elim (cases_Bool (is_open u)) [
  | inl stays ↦ rw stays (rw (other, behind) refl)
  | inr over ↦ rw over (rw other refl)
]
  where
    other : same_id t.id u.id ≡ false
    other = false_from_ne_true _ (λ same. before_other t.id u.id before (same_id-equal t.id u.id same))

    behind : is_before u.id t.id ≡ false
    behind = false_from_ne_true _ (λ after. before_other t.id t.id (is_before-then t.id u.id t.id before after) refl)

-- the first event is one of these, whose participant is not done
own-from : (ts : List Recorded) (id : Id) (done : DonePart) (rest : List Event) → flat_map own_events ts ≡ Done id done ∷ rest → (t : Recorded) × IsIn t ts × (t.id ≡ id) × (has_undone done t ≡ true)
own-from [] id done rest is = absurd (cc)
own-from (t ∷ ts) id done rest is = elim (cases_Bool (has_undone Files t)) [
  | inl files ↦
      let e = rw files at is in
      let same : t.id ≡ id = cc in
      let kind : Files ≡ done = cc in
      (t, inl refl, same, subst (λ (d : DonePart). has_undone d t ≡ true) kind files)
  | inr no_files ↦ elim (cases_Bool (has_undone Keys t)) [
    | inl keys ↦
        let e = rw (no_files, keys) at is in
        let same : t.id ≡ id = cc in
        let kind : Keys ≡ done = cc in
        (t, inl refl, same, subst (λ (d : DonePart). has_undone d t ≡ true) kind keys)
    | inr no_keys ↦ let later = own-from ts id done rest (rw (no_files, no_keys) at is) in (later.0, inr later.1, later.2, later.3)
  ]
]

pub own-undone : (ts : List Recorded) (id : Id) (done : DonePart) (rest : List Event) → flat_map own_events ts ≡ Done id done ∷ rest → list_any (λ t. same_id t.id id && has_undone done t) ts ≡ true
own-undone ts id done rest is =
    let from = own-from ts id done rest is in
    list_any-from (λ (t : Recorded). same_id t.id id && has_undone done t) ts from.0 from.1 (and_from _ _ (same_id-from (from.0).id id from.2) from.3)

module _ (t : Recorded) (ts : List Recorded) (rises : Rises (t ∷ ts)) where
  found-first : recorded_at (t ∷ ts) t.id ≡ Some t
  found-first = rw (same_id-from t.id t.id refl) refl

  -- a participant of the first one is done
  at-first : (id : Id) (done : DonePart) (left : List Event) → t.id ≡ id → own_events (finished done t) ≡ left
      → flat_map own_events (finished_in (t ∷ ts) done (recorded_at (t ∷ ts) id)) ≡ left ++ flat_map own_events ts
  at-first id done left same is =
      ap (λ (o : Option Recorded). flat_map own_events (finished_in (t ∷ ts) done o)) (ap (recorded_at (t ∷ ts)) (sym same) ∙ found-first)
      ∙ own-first t (finished done t) ts rises refl ∙ ap (λ (es : List Event). es ++ flat_map own_events ts) is

  -- one of another is done
  at-later : (id : Id) (done : DonePart) → is_before t.id id ≡ true → own_events t ≡ []
      → flat_map own_events (finished_in (t ∷ ts) done (recorded_at (t ∷ ts) id)) ≡ flat_map own_events (finished_in ts done (recorded_at ts id))
  at-later id done before none =
      ap (λ (o : Option Recorded). flat_map own_events (finished_in (t ∷ ts) done o)) found ∙ go (recorded_at ts id) (λ u is. (recorded_at-found ts id u is).1)
    where
      found : recorded_at (t ∷ ts) id ≡ recorded_at ts id
      found = let other : same_id t.id id ≡ false = false_from_ne_true _ (λ same. before_other t.id id before (same_id-equal t.id id same)) in rw other refl

      go : (o : Option Recorded) → ((u : Recorded) → o ≡ Some u → u.id ≡ id) → flat_map own_events (finished_in (t ∷ ts) done o) ≡ flat_map own_events (finished_in ts done o)
      go None is = ap (λ (es : List Event). es ++ flat_map own_events ts) none
      go (Some u) is =
          own-later t (finished done u) ts (subst (λ (i : Id). is_before t.id i ≡ true) (sym (is u refl)) before)
          ∙ ap (λ (es : List Event). es ++ flat_map own_events (while_not_done ts (finished done u))) none

-- once the first one is done, the others are left
own-finished : (ts : List Recorded) (id : Id) (done : DonePart) (rest : List Event) → Rises ts → flat_map own_events ts ≡ Done id done ∷ rest
    → flat_map own_events (finished_in ts done (recorded_at ts id)) ≡ rest
own-finished [] id done rest rises is = absurd (cc)
own-finished (t ∷ ts) id done rest rises is = elim (cases_Bool (has_undone Files t)) [
  | inl files ↦
      let e = rw files at is in
      let same : t.id ≡ id = cc in
      let kind : Files ≡ done = cc in
      let left : done_if (has_undone Keys t) t.id Keys ++ flat_map own_events ts ≡ rest = cc in
      at-first t ts rises id done (done_if (has_undone Keys t) t.id Keys) same (subst (λ (d : DonePart). own_events (finished d t) ≡ done_if (has_undone Keys t) t.id Keys) kind (own-files t)) ∙ left
  | inr no_files ↦ elim (cases_Bool (has_undone Keys t)) [
    | inl keys ↦
        let e = rw (no_files, keys) at is in
        let same : t.id ≡ id = cc in
        let kind : Keys ≡ done = cc in
        let left : flat_map own_events ts ≡ rest = cc in
        at-first t ts rises id done [] same (subst (λ (d : DonePart). own_events (finished d t) ≡ []) kind (own-keys t no_files)) ∙ left
    | inr no_keys ↦
        let e = rw (no_files, no_keys) at is in
        let from = own-from ts id done rest e in
        let before = subst (λ (i : Id). is_before t.id i ≡ true) from.2 (rises-first t ts rises from.0 from.1) in
        let none : own_events t ≡ [] = λ i. done_if (no_files i) t.id Files ++ done_if (no_keys i) t.id Keys in
        at-later t ts rises id done before none ∙ own-finished ts id done rest (rises-rest t ts rises) e
  ]
]

-- what is left of the transactions, where that is what the event makes of them
finish-transactions : (s : Durable) (done : DonePart) (o : Option Recorded) → (finish_recorded s done o).transactions ≡ finished_in s.transactions done o
finish-transactions s done None = refl
finish-transactions s done (Some t) = refl

-- ---- the state

finish-events : (s : Durable) (done : DonePart) (o : Option Recorded) → (finish_recorded s done o).events ≡ s.events
finish-events s done None = refl
finish-events s done (Some t) = refl

-- what is so once an event is made and counted, of which and of what is left the group of a restart is
pub record Made (s then : Durable) (event : Event) (rest : List Event) : Type 0 where
  pub is : then ≡ after_event s event
  pub left : flat_map own_events then.transactions ≡ rest
  pub events : then.events ≡ s.events + 1

pub made-all : {s then : Durable} {event : Event} {rest : List Event} → Made s then event rest → after_events then (flat_map own_events then.transactions) ≡ after_events s (event ∷ rest)
made-all {s} {then} {event} {rest} made = ap (after_events then) made.left ∙ ap (λ (d : Durable). after_events d rest) made.is

-- a participant that is the first one to be done
pub own-step : (s made then : Durable) (id : Id) (done : DonePart) (rest : List Event) → Rises s.transactions → flat_map own_events s.transactions ≡ Done id done ∷ rest
    → made ≡ fact_of s (Done id done) → then ≡ record made { events = made.events + 1 } → Made s then (Done id done) rest
own-step s made then id done rest rises first made_is then_is = record {
  is = is;
  left = ap (λ (d : Durable). flat_map own_events d.transactions) is ∙ ap (flat_map own_events) (finish-transactions s done (recorded_at s.transactions id)) ∙ own-finished s.transactions id done rest rises first;
  events = ap (λ (d : Durable). d.events) is;
}
  where
    count : made.events ≡ s.events
    count = ap (λ (d : Durable). d.events) made_is ∙ finish-events s done (recorded_at s.transactions id)

    is : then ≡ after_event s (Done id done)
    is = then_is ∙ ap (λ (n : ℕ). record made { events = n + 1 }) count ∙ ap (λ (d : Durable). record d { events = s.events + 1 }) made_is

-- the boot
pub own-boot : (s made then : Durable) → made ≡ fact_of s (Boot (s.boots + 1)) → then ≡ record made { events = made.events + 1 } → Made s then (Boot (s.boots + 1)) (flat_map own_events s.transactions)
own-boot s made then made_is then_is =
    let is : then ≡ after_event s (Boot (s.boots + 1)) = then_is ∙ ap (λ (d : Durable). record d { events = d.events + 1 }) made_is in
    record {
      is = is;
      left = ap (λ (d : Durable). flat_map own_events d.transactions) is ∙ own-booted s.transactions;
      events = ap (λ (d : Durable). d.events) is;
    }
