-- No more pages are named by what is recorded than there are units that it puts.
use Rattle.std.proofs.Common.{◌≡◌, ◌≢◌, ℕ, zero, suc, ◌+◌, ◌≤◌, true, length, All, List, [], ◌∷◌, ◌++◌, Option, Some, None, sum_by, refl, sym, ◌∙◌, ap, subst, arith, inl, inr}
use Rattle.std.proofs.lemmas.Bool.{cases_Bool}
use Rattle.std.proofs.lemmas.List.Elements.{All-head, All-tail}
use Rattle.std.proofs.lemmas.List.Sums.{sum_by-append, sum_by-cons}
use Rattle.arrayvec.specs.ArrayVec.{ArrayVec}
use Rattle.ktm_base.specs.declared.id.Id.{Id}
use Rattle.ktm_base.specs.declared.id.Label.{Label}
use Rattle.ktm_base.specs.declared.id.Pid.{Pid}
use Rattle.ktm_course.specs.Moved.{is_of_changes, records_files}
use Rattle.ktm_event.specs.OnPages.{AreEach, IsRecordedChange}
use Rattle.ktm_event.specs.Work.{pages_changes}
use Rattle.ktm_records.proofs.offered.AgreementOfCourses.{arrival}
use Rattle.txf_laws.specs.Grammatical.{changes_of_event}
use Rattle.ktm_steps.specs.Laws.{EventsAheadLaw}
use Rattle.ktm_tm.specs.Courses.{caller_of}
use Rattle.ktm_world.specs.declared.change.Change.{Change}
use Rattle.ktm_world.specs.declared.change.Change.TheVariants.{Make, Put, Cut, Move, Drop}
use Rattle.ktm_world.specs.declared.change.Contents.TheVariants.{Whole, Paged}
use Rattle.ktm_world.specs.declared.event.Event.{Event}
use Rattle.ktm_world.specs.declared.event.Event.TheVariants.{Ready}
use Rattle.ktm_world.specs.declared.event.Part.TheVariants.{Changes}
use Rattle.ktm_world.specs.declared.object.Transaction.{Transaction}
use Rattle.ktm_world.specs.declared.reply.Reply.TheVariants.{Done}
use Rattle.ktm_world.specs.declared.step.Fact.{Fact}
use Rattle.ktm_world.specs.declared.step.Step.{Step}
use Rattle.ktm_world.specs.declared.step.Step.TheVariants.{Record, Tell, Ask, Enter, Decide as DecideIt, End, EndWhereFinished}
use Rattle.ktm_world.specs.Changes.{has_changes}
use Rattle.ktm_world.specs.Decide.{events_of as plain_events}
use Rattle.ktm_world.specs.FileOutcome.{FileOutcome}
use Rattle.ktm_world.specs.Files.{own_changes}
use Rattle.ktm_world.specs.Logs.{Group}
use Rattle.ktm_world.specs.Phases.{event_if}
use Rattle.ktm_world.specs.Present.{Present}
use Rattle.ktm_world.specs.Steps.{Basis, basis, events_ahead, events_of, is_recorded_by}
use Rattle.ktm_world.specs.TransactionCalls.{course_of}
use Rattle.ktm_memory.specs.declared.settlement.Settlement.TheVariants.{Change as PlainChange, Course}
use Rattle.ktm_memory.specs.Memory.{course_then}
use Rattle.ktm_memory.specs.Settled.{left_to_do}
use Rattle.ktm_memory.specs.Stored.{pages_named, units_of_change, units_put}
use Rattle.ktm_memory.proofs.WorkRecords.{IsFinal}
use Rattle.ktm_memory.proofs.offered.Opening.{events_in}

-- ---- changes as they are recorded

named-few : (c recorded : Change) → IsRecordedChange c recorded → IsFinal recorded → pages_named recorded ≤ units_of_change c
named-few (Put node offset (Whole contents)) (Put node' offset' (Paged len pages)) r final = let e = r.2.lie.units in omega (arith, e)
named-few (Put node offset (Whole contents)) (Put node' offset' (Whole others)) r final = absurd r.2
named-few (Put node offset (Paged len pages)) (Put node' offset' contents) r final = absurd r.2
named-few (Put node offset contents) (Make node' parent kind name) r final = absurd r
named-few (Put node offset contents) (Cut node' size pages) r final = absurd r
named-few (Put node offset contents) (Move node' parent name) r final = absurd r
named-few (Put node offset contents) (Drop node') r final = absurd r
named-few (Make node parent kind name) recorded r final = subst (λ (c : Change). pages_named c ≤ 0) (sym r) (omega arith)
named-few (Cut node size pages) recorded r final =
    let is = subst IsFinal r final in
    let none = ap (λ (ps : List ℕ). length ps) is.1 in
    subst (λ (c : Change). pages_named c ≤ 0) (sym r) (omega (arith, none))
named-few (Move node parent name) recorded r final = subst (λ (c : Change). pages_named c ≤ 0) (sym r) (omega arith)
named-few (Drop node) recorded r final = subst (λ (c : Change). pages_named c ≤ 0) (sym r) (omega arith)

all-few : (cs rs : List Change) → AreEach IsRecordedChange cs rs → All IsFinal rs → sum_by pages_named rs ≤ sum_by units_of_change cs
all-few [] [] are final = omega arith
all-few (c ∷ cs) (r ∷ rs) are final =
    let first = named-few c r are.0 (All-head IsFinal r rs final) in
    let rest = all-few cs rs are.1 (All-tail IsFinal r rs final) in
    let here = sum_by-cons pages_named r rs in
    let there = sum_by-cons units_of_change c cs in
    omega (arith, first, rest, here, there)
all-few [] (r ∷ rs) are final = absurd are
all-few (c ∷ cs) [] are final = absurd are

-- the later ones of those that are recorded name no more either
pub later-few : (cs names files : List Change) → AreEach IsRecordedChange cs (names ++ files) → All IsFinal (names ++ files) → sum_by pages_named files ≤ sum_by units_of_change cs
later-few cs names files are final =
    let all = all-few cs (names ++ files) are final in
    let parts = sum_by-append pages_named names files in
    omega (arith, all, parts)

-- the pages of a file that has bytes are named
pub file-named : (file len : ℕ) (pages : List ℕ) → len ≢ 0 → length pages ≤ sum_by pages_named (pages_changes file len pages)
file-named file zero pages some = absurd (some refl)
file-named file (suc n) pages some = omega arith

-- ---- what steps record

if-units : (cs : List Change) (event : Event) → changes_of_event event ≡ cs → sum_by units_of_change cs ≤ units_put (event_if (has_changes cs) event)
if-units [] event is = omega arith
if-units (c ∷ cs) event is = let e = ap (sum_by units_of_change) is in omega (arith, e)

fact-units : (b : Basis) (fact : Fact) → is_of_changes fact ≡ true → sum_by units_of_change b.changes ≤ units_put (events_of fact b)
fact-units b Fact.ReadyFiles is = if-units b.changes (Ready b.id (Changes b.changes)) refl
fact-units b Fact.SingleFiles is = omega arith
fact-units b Fact.ReadyKeys is = absurd (cc)
fact-units b Fact.Ready is = absurd (cc)
fact-units b Fact.Held is = absurd (cc)
fact-units b Fact.Decide is = absurd (cc)
fact-units b Fact.Undo is = absurd (cc)
fact-units b Fact.DoneFiles is = absurd (cc)
fact-units b Fact.DoneKeys is = absurd (cc)
fact-units b Fact.Done is = absurd (cc)
fact-units b Fact.SingleKeys is = absurd (cc)

units-append : (xs ys : Group) → units_put (xs ++ ys) ≡ units_put xs + units_put ys
units-append xs ys = sum_by-append (λ event. sum_by units_of_change (changes_of_event event)) xs ys

ahead-units : (steps : List Step) (b : Basis) → records_files steps ≡ true → sum_by units_of_change b.changes ≤ units_put (events_ahead steps b)
ahead-units [] b is = absurd (cc)
ahead-units (Record fact ∷ steps) b is =
    let both = units-append (events_of fact b) (events_ahead steps (record b { is_recorded = is_recorded_by fact b })) in
    elim (cases_Bool (is_of_changes fact)) [
      | inl here ↦ (let first = fact-units b fact here in omega (arith, both, first))
      | inr other ↦ (let rest = ahead-units steps (record b { is_recorded = is_recorded_by fact b }) (rw other at is) in omega (arith, both, rest))
    ]
ahead-units (Step.Commit ∷ steps) b is = ahead-units steps b is
ahead-units (Tell who kind ∷ steps) b is = ahead-units steps b is
ahead-units (Ask who kind owed ∷ steps) b is = ahead-units steps b is
ahead-units (Step.Change answer ∷ steps) b is = ahead-units steps b is
ahead-units (Enter phase ∷ steps) b is = ahead-units steps b is
ahead-units (DecideIt outcome ∷ steps) b is = ahead-units steps b is
ahead-units (End outcome ∷ steps) b is = ahead-units steps b is
ahead-units (EndWhereFinished outcome ∷ steps) b is = ahead-units steps b is

-- the units that a transaction's changes put are among those that its steps record
pub course-units : EventsAheadLaw → (x : Present) (t : Transaction) (caller : Option Id) (steps : ArrayVec Step) → records_files steps.items ≡ true
    → sum_by units_of_change (own_changes x.files.table.own t.id) ≤ units_put (left_to_do x (Course t caller steps)).events
course-units ahead x t caller steps records =
    let c = course_of x t (caller_of x.transactions.enlistments caller) in
    subst (λ (events : Group). sum_by units_of_change c.changes ≤ units_put events) (sym ((arrival x (course_then x t caller steps.items) Done).events ∙ ahead steps.items c))
    (ahead-units steps.items (basis c) records)

-- those of a plain call's change are among those of its event
pub change-units : (x : Present) (process : Pid) (label : Option Label) (plan : FileOutcome) (ready : Option (List ℕ)) (change : Change) → plan.change ≡ Some change
    → units_of_change change ≤ units_put (left_to_do x (PlainChange process label plan ready)).events
change-units x process label plan ready change is =
    subst (λ (events : Group). units_of_change change ≤ units_put events) (sym (events_in x process None label plan ∙ ap (λ (o : Option Change). plain_events None o) is)) (omega arith)
