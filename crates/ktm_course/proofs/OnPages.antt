-- What steps record where contents stand on pages.
use Rattle.std.proofs.Common.{◌≡◌, ◌+◌, ◌/◌, ◌||◌, ℕ, All, Bool, true, false, List, [], ◌∷◌, Option, Some, None, length, sum_by, refl, sym, ◌∙◌, ap, ap₂, subst, arith}
use Rattle.std.proofs.lemmas.List.Elements.{All-from_recursion, recursion_from_All}
use Rattle.std.proofs.lemmas.List.Sums.{sum_by-cons}
use Rattle.std.specs.List.{AllByRecursion}
use Rattle.ktm_base.specs.declared.id.Id.{Id}
use Rattle.ktm_event.specs.Spelling.{AreSpellableChanges, IsSpellableChange, IsSpellableContents, IsSpellableEvent, IsSpellableId, IsSpellablePart, IsSpellableSole}
use Rattle.ktm_world.specs.Sizes.{change_size, event_size, part_size, put_size}
use Rattle.ktm_world.specs.declared.change.Change.{Change}
use Rattle.ktm_world.specs.declared.change.Change.TheVariants.{Make, Put, Cut, Move, Drop}
use Rattle.ktm_world.specs.declared.change.Contents.{Contents}
use Rattle.ktm_world.specs.declared.change.Contents.TheVariants.{Whole, Paged}
use Rattle.ktm_world.specs.declared.event.DonePart.{DonePart}
use Rattle.ktm_world.specs.declared.event.Event.{Event}
use Rattle.ktm_world.specs.declared.event.Event.TheVariants.{Boot, MadeRm, Plain, Ready, Single, Held, Decide, Undo, Done}
use Rattle.ktm_world.specs.declared.event.Part.{Part}
use Rattle.ktm_world.specs.declared.event.Part.TheVariants.{Changes, Settings}
use Rattle.ktm_world.specs.declared.step.Fact.{Fact}
use Rattle.ktm_world.specs.declared.step.Step.{Step}
use Rattle.ktm_world.specs.declared.step.Step.TheVariants.{Record, Tell, Ask, Enter, Decide as DecideIt, End, EndWhereFinished}
use Rattle.ktm_world.specs.Changes.{has_changes}
use Rattle.ktm_world.specs.Enlistments.{Enlistment, Manager, is_durable_at}
use Rattle.ktm_world.specs.Phases.{enlistment_part, event_if, has_settings}
use Rattle.ktm_world.specs.Steps.{Basis, event_of_caller, events_ahead, events_of, held_event, is_recorded_by}
use Rattle.ktm_course.specs.OnPages.{AreRecordedEvents, IsRecordedEvent, IsRecordedPart}
use Rattle.ktm_event.specs.OnPages.{AreEach, AreRecordedContents, IsRecordedChange}
use Rattle.ktm_event.proofs.offered.Recorded.{each-both}

-- ---- lists of which each thing is so to that of the other

module _ {X : Type 0} (Is : X → X → Type 0) where
  each-many : (xs ys : List X) → AreEach Is xs ys → length ys ≡ length xs
  each-many [] [] are = refl
  each-many (x ∷ xs) (y ∷ ys) are = let rest = each-many xs ys are.1 in omega (arith, rest)
  each-many [] (y ∷ ys) are = absurd are
  each-many (x ∷ xs) [] are = absurd are

  each-size : (size : X → ℕ) → ((x y : X) → Is x y → size y ≡ size x) → (xs ys : List X) → AreEach Is xs ys → sum_by size ys ≡ sum_by size xs
  each-size size same [] [] are = refl
  each-size size same (x ∷ xs) (y ∷ ys) are = sum_by-cons size y ys ∙ ap₂ ◌+◌ (same x y are.0) (each-size size same xs ys are.1) ∙ sym (sum_by-cons size x xs)
  each-size size same [] (y ∷ ys) are = absurd are
  each-size size same (x ∷ xs) [] are = absurd are

  each-also : (P : X → Type 0) → ((x y : X) → Is x y → P x → P y) → (xs ys : List X) → AreEach Is xs ys → AllByRecursion P xs → AllByRecursion P ys
  each-also P also [] [] are all = tt
  each-also P also (x ∷ xs) (y ∷ ys) are all = (also x y are.0 all.0, each-also P also xs ys are.1 all.1)
  each-also P also [] (y ∷ ys) are all = absurd are
  each-also P also (x ∷ xs) [] are all = absurd are

  all-also : (P : X → Type 0) → ((x y : X) → Is x y → P x → P y) → (xs ys : List X) → AreEach Is xs ys → All P xs → All P ys
  all-also P also xs ys are all = All-from_recursion P ys (each-also P also xs ys are (recursion_from_All P xs all))

-- ---- sizes

put-size : (contents recorded : Contents) → AreRecordedContents contents recorded → put_size recorded ≡ put_size contents
put-size (Whole contents) (Paged len pages) are = let units : length pages ≡ (length contents + 4095) / 4096 = are.lie.units in omega (arith, units)
put-size (Whole contents) (Whole others) are = absurd are
put-size (Paged len pages) recorded are = absurd are

change-size : (change recorded : Change) → IsRecordedChange change recorded → change_size recorded ≡ change_size change
change-size (Put node offset contents) (Put node' offset' contents') are = ap (λ n. 17 + n) (put-size contents contents' are.2)
change-size (Put node offset contents) recorded are = absurd are
change-size (Make node parent kind name) recorded are = ap change_size are
change-size (Cut node size pages) recorded are = ap change_size are
change-size (Move node parent name) recorded are = ap change_size are
change-size (Drop node) recorded are = ap change_size are

part-size : (part recorded : Part) → IsRecordedPart part recorded → part_size recorded ≡ part_size part
part-size (Changes changes) (Changes recorded) are = ap (λ n. 5 + n) (each-size IsRecordedChange change_size change-size changes recorded are)
part-size (Changes changes) recorded are = absurd are
part-size (Part.Enlistment enlistment manager information) recorded are = ap part_size are
part-size (Settings settings) recorded are = ap part_size are

one-size : (event recorded : Event) → IsRecordedEvent event recorded → event_size recorded ≡ event_size event
one-size (Ready transaction part) (Ready transaction' part') are = ap (λ n. 9 + n) (part-size part part' are.1)
one-size (Ready transaction part) recorded are = absurd are
one-size (Single transaction part) (Single transaction' part') are = ap (λ n. 9 + n) (part-size part part' are.1)
one-size (Single transaction part) recorded are = absurd are
one-size (Boot boot) recorded are = ap event_size are
one-size (MadeRm manager) recorded are = ap event_size are
one-size (Plain change) recorded are = ap event_size are
one-size (Held transaction enlistment manager information) recorded are = ap event_size are
one-size (Decide transaction) recorded are = ap event_size are
one-size (Undo transaction) recorded are = ap event_size are
one-size (Done transaction done) recorded are = ap event_size are

pub sizes_recorded : (events recorded : List Event) → AreRecordedEvents events recorded → sum_by event_size recorded ≡ sum_by event_size events
sizes_recorded events recorded are = each-size IsRecordedEvent event_size one-size events recorded are

-- ---- spellings

put-spellable : (contents recorded : Contents) → AreRecordedContents contents recorded → IsSpellableContents contents → IsSpellableContents recorded
put-spellable (Whole contents) (Paged len pages) are spellable =
    let units : length pages ≡ (length contents + 4095) / 4096 = are.lie.units in (
      omega (arith, are.long, spellable.0),
      omega (arith, are.long, spellable.1),
      record { few = omega (arith, units, spellable.1); each = are.fit },
    )
put-spellable (Whole contents) (Whole others) are spellable = absurd are
put-spellable (Paged len pages) recorded are spellable = absurd are

change-spellable : (change recorded : Change) → IsRecordedChange change recorded → IsSpellableChange change → IsSpellableChange recorded
change-spellable (Put node offset contents) (Put node' offset' contents') are spellable = put-spellable contents contents' are.2 spellable
change-spellable (Put node offset contents) recorded are spellable = absurd are
change-spellable (Make node parent kind name) recorded are spellable = subst IsSpellableChange (sym are) spellable
change-spellable (Cut node size pages) recorded are spellable = subst IsSpellableChange (sym are) spellable
change-spellable (Move node parent name) recorded are spellable = subst IsSpellableChange (sym are) spellable
change-spellable (Drop node) recorded are spellable = subst IsSpellableChange (sym are) spellable

changes-spellable : (changes recorded : List Change) → AreEach IsRecordedChange changes recorded → AreSpellableChanges changes → AreSpellableChanges recorded
changes-spellable changes recorded are spellable = record {
  few = omega (arith, each-many IsRecordedChange changes recorded are, spellable.few);
  each = all-also IsRecordedChange IsSpellableChange change-spellable changes recorded are spellable.each;
}

part-spellable : (part recorded : Part) → IsRecordedPart part recorded → IsSpellablePart part → IsSpellablePart recorded
part-spellable (Changes changes) (Changes recorded) are spellable = changes-spellable changes recorded are spellable
part-spellable (Changes changes) recorded are spellable = absurd are
part-spellable (Part.Enlistment enlistment manager information) recorded are spellable = subst IsSpellablePart (sym are) spellable
part-spellable (Settings settings) recorded are spellable = subst IsSpellablePart (sym are) spellable

sole-spellable : (part recorded : Part) → IsRecordedPart part recorded → IsSpellableSole part → IsSpellableSole recorded
sole-spellable (Changes changes) (Changes recorded) are spellable = changes-spellable changes recorded are spellable
sole-spellable (Changes changes) recorded are spellable = absurd are
sole-spellable (Part.Enlistment enlistment manager information) recorded are spellable = absurd spellable
sole-spellable (Settings settings) recorded are spellable = subst IsSpellableSole (sym are) spellable

one-spellable : (event recorded : Event) → IsRecordedEvent event recorded → IsSpellableEvent event → IsSpellableEvent recorded
one-spellable (Ready transaction part) (Ready transaction' part') are spellable = (subst IsSpellableId (sym are.0) spellable.0, part-spellable part part' are.1 spellable.1)
one-spellable (Ready transaction part) recorded are spellable = absurd are
one-spellable (Single transaction part) (Single transaction' part') are spellable = (subst IsSpellableId (sym are.0) spellable.0, sole-spellable part part' are.1 spellable.1)
one-spellable (Single transaction part) recorded are spellable = absurd are
one-spellable (Boot boot) recorded are spellable = subst IsSpellableEvent (sym are) spellable
one-spellable (MadeRm manager) recorded are spellable = subst IsSpellableEvent (sym are) spellable
one-spellable (Plain change) recorded are spellable = subst IsSpellableEvent (sym are) spellable
one-spellable (Held transaction enlistment manager information) recorded are spellable = subst IsSpellableEvent (sym are) spellable
one-spellable (Decide transaction) recorded are spellable = subst IsSpellableEvent (sym are) spellable
one-spellable (Undo transaction) recorded are spellable = subst IsSpellableEvent (sym are) spellable
one-spellable (Done transaction done) recorded are spellable = subst IsSpellableEvent (sym are) spellable

pub spellable_recorded : (events recorded : List Event) → AreRecordedEvents events recorded → All IsSpellableEvent events → All IsSpellableEvent recorded
spellable_recorded events recorded are all = all-also IsRecordedEvent IsSpellableEvent one-spellable events recorded are all

-- ---- events

-- events without contents are recorded as they are
event-same : (b : Bool) (event : Event) → IsRecordedEvent event event → AreRecordedEvents (event_if b event) (event_if b event)
event-same true event same = (same, tt)
event-same false event same = tt

caller-same : (e : Option Enlistment) (ms : List Manager) (event : Enlistment → Event) → ((e : Enlistment) → IsRecordedEvent (event e) (event e)) → AreRecordedEvents (event_of_caller e ms event) (event_of_caller e ms event)
caller-same None ms event same = tt
caller-same (Some e) ms event same = event-same (is_durable_at ms e.manager) (event e) (same e)

held-same : (id : Id) (e : Option Enlistment) → AreRecordedEvents (held_event id e) (held_event id e)
held-same id None = tt
held-same id (Some e) = (refl, tt)

-- where changes are recorded there are changes
same-changes : (changes recorded : List Change) → AreEach IsRecordedChange changes recorded → has_changes recorded ≡ has_changes changes
same-changes [] [] are = refl
same-changes (c ∷ cs) (d ∷ ds) are = refl
same-changes [] (d ∷ ds) are = absurd are
same-changes (c ∷ cs) [] are = absurd are

ready-files : (id : Id) (changes recorded : List Change) → AreEach IsRecordedChange changes recorded
    → AreRecordedEvents (event_if (has_changes changes) (Ready id (Changes changes))) (event_if (has_changes recorded) (Ready id (Changes recorded)))
ready-files id [] [] are = tt
ready-files id (c ∷ cs) (d ∷ ds) are = ((refl, are), tt)
ready-files id [] (d ∷ ds) are = absurd are
ready-files id (c ∷ cs) [] are = absurd are

module _ (b : Basis) (changes : List Change) (are : AreEach IsRecordedChange b.changes changes) where
  abbrev on_pages : Basis
  on_pages = record b { changes = changes }

  fact-events : (fact : Fact) → AreRecordedEvents (events_of fact b) (events_of fact on_pages)
  fact-events Fact.ReadyFiles = ready-files b.id b.changes changes are
  fact-events Fact.ReadyKeys = event-same (has_settings b.settings) (Ready b.id (Settings b.settings)) (refl, refl)
  fact-events Fact.Ready = caller-same b.caller b.managers (λ e. Ready b.id (enlistment_part e)) (λ e. (refl, refl))
  fact-events Fact.Held = held-same b.id b.superior
  fact-events Fact.Decide = event-same b.is_recorded (Decide b.id) refl
  fact-events Fact.Undo = event-same b.is_recorded (Undo b.id) refl
  fact-events Fact.DoneFiles = subst (λ (has : Bool). AreRecordedEvents (event_if (has_changes b.changes) (Done b.id DonePart.Files)) (event_if has (Done b.id DonePart.Files))) (sym (same-changes b.changes changes are)) (event-same (has_changes b.changes) (Done b.id DonePart.Files) refl)
  fact-events Fact.DoneKeys = event-same (has_settings b.settings) (Done b.id DonePart.Keys) refl
  fact-events Fact.Done = caller-same b.caller b.managers (λ e. Done b.id (DonePart.Enlistment e.id)) (λ e. refl)
  fact-events Fact.SingleFiles = ((refl, are), tt)
  fact-events Fact.SingleKeys = ((refl, refl), tt)

  fact-recorded : (fact : Fact) → is_recorded_by fact b ≡ is_recorded_by fact on_pages
  fact-recorded Fact.ReadyFiles = ap (λ (has : Bool). b.is_recorded || has) (sym (same-changes b.changes changes are))
  fact-recorded Fact.ReadyKeys = refl
  fact-recorded Fact.Ready = refl
  fact-recorded Fact.Held = refl
  fact-recorded Fact.Decide = refl
  fact-recorded Fact.Undo = refl
  fact-recorded Fact.DoneFiles = refl
  fact-recorded Fact.DoneKeys = refl
  fact-recorded Fact.Done = refl
  fact-recorded Fact.SingleFiles = refl
  fact-recorded Fact.SingleKeys = refl

pub events_recorded : (steps : List Step) (b : Basis) (changes : List Change) → AreEach IsRecordedChange b.changes changes
    → AreRecordedEvents (events_ahead steps b) (events_ahead steps (record b { changes = changes }))
events_recorded [] b changes are = tt
events_recorded (Record fact ∷ steps) b changes are =
    let after = record b { is_recorded = is_recorded_by fact b } in
    each-both IsRecordedEvent (events_of fact b) _ (events_ahead steps after) _ (fact-events b changes are fact)
    (subst (λ (r : Bool). AreRecordedEvents (events_ahead steps after) (events_ahead steps (record b { changes = changes; is_recorded = r }))) (fact-recorded b changes are fact) (events_recorded steps after changes are))
events_recorded (Step.Commit ∷ steps) b changes are = events_recorded steps b changes are
events_recorded (Tell who kind ∷ steps) b changes are = events_recorded steps b changes are
events_recorded (Ask who kind owed ∷ steps) b changes are = events_recorded steps b changes are
events_recorded (Step.Change answer ∷ steps) b changes are = events_recorded steps b changes are
events_recorded (Enter phase ∷ steps) b changes are = events_recorded steps b changes are
events_recorded (DecideIt outcome ∷ steps) b changes are = events_recorded steps b changes are
events_recorded (End outcome ∷ steps) b changes are = events_recorded steps b changes are
events_recorded (EndWhereFinished outcome ∷ steps) b changes are = events_recorded steps b changes are
