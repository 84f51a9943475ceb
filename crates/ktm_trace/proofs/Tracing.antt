-- What memory keeps goes on with each event as what was recorded does.
use Rattle.std.proofs.Common.{◌≡◌, ◌||◌, not, false, List, [], ◌∷◌, ◌++◌, map, fold, Option, Some, None, refl, sym, ◌∙◌, ap, inl, inr}
use Rattle.std.proofs.lemmas.Bool.{cases_Bool}
use Rattle.std.proofs.lemmas.List.{map-append}
use Rattle.std.specs.List.{list_any}
use Rattle.ktm_base.specs.declared.id.Id.{Id}
use Rattle.ktm_world.specs.declared.event.DonePart.{DonePart}
use Rattle.ktm_world.specs.declared.event.Event.{Event}
use Rattle.ktm_world.specs.declared.event.Event.TheVariants.{Boot, MadeRm, Plain, Ready, Single, Held, Decide, Undo, Done}
use Rattle.ktm_world.specs.declared.event.Part.{Part}
use Rattle.ktm_world.specs.declared.recorded.RecordedPart.{RecordedPart}
use Rattle.ktm_world.specs.declared.recorded.Stage.{Stage}
use Rattle.ktm_world.specs.Durable.{Durable, Recorded, after_event, after_events, decide_recorded, emptied, emptied_part, finish_recorded, is_before, is_part_of, is_ready, parts_done, recorded_at, recorded_or_new, while_not_done, with_recorded, without_recorded}
use Rattle.ktm_world.specs.Transactions.{same_id}
use Rattle.ktm_trace.specs.Placed.{at_id, placed, without_id}
use Rattle.ktm_trace.specs.Traces.{Traced, TracedPart, TracesLaw, id_of, marked, once_decided, once_done, recorded_id, same_participant, stays_while_not_done, traced, traced_or_new, traced_part, traces_after, traces_of, who_of, with_ready, without_done}
use Rattle.ktm_trace.proofs.Placed.{made, map-at, map-filter, map-placed}

placed-recorded : (ts : List Recorded) (t : Recorded) → with_recorded ts t ≡ placed recorded_id ts t
placed-recorded [] t = refl
placed-recorded (a ∷ ts) t = elim (cases_Bool (same_id a.id t.id)) [
  | inl same ↦ rw same refl
  | inr other ↦ elim (cases_Bool (is_before t.id a.id)) [
    | inl before ↦ rw (other, before) refl
    | inr behind ↦ rw (other, behind) (ap (λ l. a ∷ l) (placed-recorded ts t))
  ]
]

with-traced : (ts : List Recorded) (t : Recorded) → map traced (with_recorded ts t) ≡ placed id_of (map traced ts) (traced t)
with-traced ts t = ap (map traced) (placed-recorded ts t) ∙ map-placed recorded_id id_of traced (λ u. refl) ts t

without-traced : (ts : List Recorded) (id : Id) → map traced (without_recorded ts id) ≡ without_id id_of (map traced ts) id
without-traced ts id = map-filter (λ (t : Recorded). not (same_id t.id id)) (λ (t : Traced). not (same_id t.id id)) traced (λ t. refl) ts

at-traced : (ts : List Recorded) (id : Id) → at_id id_of (map traced ts) id ≡ made traced (recorded_at ts id)
at-traced ts id = map-at recorded_id id_of traced (λ t. refl) ts id

or-new-traced : (ts : List Recorded) (id : Id) → traced (recorded_or_new ts id) ≡ traced_or_new (map traced ts) id
or-new-traced [] id = refl
or-new-traced (t ∷ ts) id = elim (cases_Bool (same_id t.id id)) [
  | inl same ↦ rw same refl
  | inr other ↦ rw other (or-new-traced ts id)
]

-- ---- parts

undone-traced : (ps : List RecordedPart) → list_any (λ (p : TracedPart). not p.is_done) (map traced_part ps) ≡ list_any (λ (p : RecordedPart). not p.is_done) ps
undone-traced [] = refl
undone-traced (p ∷ ps) = ap (λ b. not p.is_done || b) (undone-traced ps)

who-emptied : (part : Part) → who_of (emptied part) ≡ who_of part
who-emptied (Part.Enlistment enlistment manager information) = refl
who-emptied (Part.Changes changes) = refl
who-emptied (Part.Settings settings) = refl

emptied-traced : (ps : List RecordedPart) → map traced_part (map emptied_part ps) ≡ map traced_part ps
emptied-traced [] = refl
emptied-traced (p ∷ ps) = λ i. record { is_done = p.is_done; who = who-emptied p.part i } ∷ emptied-traced ps i

same-who : (done : DonePart) (part : Part) → same_participant done (who_of part) ≡ is_part_of done part
same-who (DonePart.Enlistment id) (Part.Enlistment enlistment manager information) = refl
same-who (DonePart.Enlistment id) (Part.Changes changes) = refl
same-who (DonePart.Enlistment id) (Part.Settings settings) = refl
same-who DonePart.Files (Part.Enlistment enlistment manager information) = refl
same-who DonePart.Files (Part.Changes changes) = refl
same-who DonePart.Files (Part.Settings settings) = refl
same-who DonePart.Keys (Part.Enlistment enlistment manager information) = refl
same-who DonePart.Keys (Part.Changes changes) = refl
same-who DonePart.Keys (Part.Settings settings) = refl

marked-traced : (done : DonePart) (ps : List RecordedPart) → map traced_part (map (λ (p : RecordedPart). record p { is_done = p.is_done || is_part_of done p.part }) ps) ≡ map (marked done) (map traced_part ps)
marked-traced done [] = refl
marked-traced done (p ∷ ps) = λ i. record { is_done = p.is_done || sym (same-who done p.part) i; who = who_of p.part } ∷ marked-traced done ps i

done-traced : (done : DonePart) (ps : List RecordedPart) → map traced_part (parts_done done ps) ≡ without_done done (map traced_part ps)
done-traced (DonePart.Enlistment id) ps =
    map-filter (λ (p : RecordedPart). not (is_part_of (DonePart.Enlistment id) p.part)) (λ (p : TracedPart). not (same_participant (DonePart.Enlistment id) p.who)) traced_part
    (λ p. ap not (same-who (DonePart.Enlistment id) p.part)) ps
done-traced DonePart.Files ps = marked-traced DonePart.Files ps
done-traced DonePart.Keys ps = marked-traced DonePart.Keys ps

-- ---- one event

ready-traced : (t : Recorded) (part : Part) → traced (record t { parts = t.parts ++ record { is_done = false; part = part } ∷ [] }) ≡ with_ready (traced t) (who_of part)
ready-traced t part = ap (λ ps. record (traced t) { parts = ps }) (map-append traced_part t.parts (record { is_done = false; part = part } ∷ []))

stays-traced : (ts : List Recorded) (t : Recorded) → map traced (while_not_done ts t) ≡ stays_while_not_done (map traced ts) (traced t)
stays-traced ts t = elim (cases_Bool (list_any (λ (p : RecordedPart). not p.is_done) t.parts)) [
  | inl stays ↦ rw (undone-traced t.parts, stays) (with-traced ts t)
  | inr over ↦ rw (undone-traced t.parts, over) (without-traced ts t.id)
]

decided-traced : (s : Durable) (o : Option Recorded) → traces_of (decide_recorded s o) ≡ once_decided (traces_of s) (made traced o)
decided-traced s None = refl
decided-traced s (Some t) =
    stays-traced s.transactions (record t { stage = Stage.Decided; parts = map emptied_part t.parts })
    ∙ ap (λ ps. stays_while_not_done (traces_of s) (record (traced t) { stage = Stage.Decided; parts = ps })) (emptied-traced t.parts)

finished-traced : (s : Durable) (done : DonePart) (o : Option Recorded) → traces_of (finish_recorded s done o) ≡ once_done (traces_of s) done (made traced o)
finished-traced s done None = refl
finished-traced s done (Some t) =
    stays-traced s.transactions (record t { parts = parts_done done t.parts })
    ∙ ap (λ ps. stays_while_not_done (traces_of s) (record (traced t) { parts = ps })) (done-traced done t.parts)

event-traced : (s : Durable) (event : Event) → traces_of (after_event s event) ≡ traces_after (traces_of s) event
event-traced s (Boot boot) = map-filter (λ (t : Recorded). not (is_ready t.stage)) (λ (t : Traced). not (is_ready t.stage)) traced (λ t. refl) s.transactions
event-traced s (MadeRm manager) = refl
event-traced s (Plain change) = refl
event-traced s (Ready transaction part) =
    let t = recorded_or_new s.transactions transaction in
    with-traced s.transactions (record t { parts = t.parts ++ record { is_done = false; part = part } ∷ [] })
    ∙ ap (placed id_of (traces_of s)) (ready-traced t part ∙ ap (λ u. with_ready u (who_of part)) (or-new-traced s.transactions transaction))
event-traced s (Single transaction part) = refl
event-traced s (Held transaction enlistment manager information) =
    let t = recorded_or_new s.transactions transaction in
    with-traced s.transactions (record t { stage = Stage.Held; superior = Some (record { enlistment = enlistment; manager = manager; information = information }) })
    ∙ ap (λ u. placed id_of (traces_of s) (record u { stage = Stage.Held; superior = Some enlistment })) (or-new-traced s.transactions transaction)
event-traced s (Decide transaction) = decided-traced s (recorded_at s.transactions transaction) ∙ ap (once_decided (traces_of s)) (sym (at-traced s.transactions transaction))
event-traced s (Undo transaction) = without-traced s.transactions transaction
event-traced s (Done transaction done) = finished-traced s done (recorded_at s.transactions transaction) ∙ ap (once_done (traces_of s) done) (sym (at-traced s.transactions transaction))

-- ---- events one after another

events-traced : (s : Durable) (events : List Event) → traces_of (after_events s events) ≡ fold traces_after (traces_of s) events
events-traced s [] = refl
events-traced s (event ∷ events) = events-traced (after_event s event) events ∙ ap (λ ts. fold traces_after ts events) (event-traced s event)

pub traces_law : TracesLaw
traces_law = record {
  event = event-traced;
  events = events-traced;
}
