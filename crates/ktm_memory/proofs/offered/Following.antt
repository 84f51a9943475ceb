-- What is so of each place that memory has of files is so of each that is recorded.
use Rattle.std.proofs.Common.{◌≡◌, ℕ, Bool, true, false, List, [], ◌∷◌, ◌++◌, map, Option, Some, None, All, refl, sym, subst, inl, inr}
use Rattle.std.specs.Prelude.{if◌then◌else◌}
use Rattle.std.specs.List.{list_any}
use Rattle.std.proofs.lemmas.Bool.{cases_Bool, or_left, or_right}
use Rattle.std.proofs.lemmas.List.Elements.{All-append, All-cons, All-head, All-nil, All-tail, All-weaker}
use Rattle.ktm_base.specs.declared.id.Id.{Id}
use Rattle.ktm_course.specs.Moved.{is_of_changes, records_changes, records_files}
use Rattle.ktm_each.specs.Each.{AreZerosSuch, EachOfChange, EachOfChanges, EachOfDurable, EachOfEvent, EachOfFiles, EachOfGroup, EachOfOwn, EachOfPart, EachOfRecorded}
use Rattle.ktm_each.proofs.offered.Files.{files_committed-each, forgotten-each}
use Rattle.txf_laws.specs.Grammatical.{changes_of_event}
use Rattle.ktm_trace.specs.Contents.{contents_of, expanded, expanded_parts}
use Rattle.ktm_trace.specs.Traces.{Traced, TracedPart}
use Rattle.ktm_world.specs.declared.change.Change.{Change}
use Rattle.ktm_world.specs.declared.event.DonePart.{DonePart}
use Rattle.ktm_world.specs.declared.event.Event.{Event}
use Rattle.ktm_world.specs.declared.event.Event.TheVariants.{Ready, Single, Held, Decide, Undo, Done}
use Rattle.ktm_world.specs.declared.event.Part.TheVariants.{Changes, Settings}
use Rattle.ktm_world.specs.declared.step.Fact.{Fact}
use Rattle.ktm_world.specs.declared.step.Step.{Step}
use Rattle.ktm_world.specs.declared.step.Step.TheVariants.{Record, Tell, Ask, Enter, Decide as DecideIt, End, EndWhereFinished}
use Rattle.ktm_world.specs.Changes.{has_changes}
use Rattle.ktm_world.specs.Durable.{is_decided}
use Rattle.ktm_world.specs.Enlistments.{Enlistment, Manager, is_durable_at}
use Rattle.ktm_world.specs.Files.{FilesNow, OwnChanges, own_changes}
use Rattle.ktm_world.specs.Keys.{Own, OwnSettings, own_settings}
use Rattle.ktm_world.specs.Logs.{Group}
use Rattle.ktm_world.specs.Phases.{enlistment_part, event_if, has_settings}
use Rattle.ktm_steps.specs.Laws.{EventsAheadLaw}
use Rattle.ktm_tm.specs.Courses.{caller_of}
use Rattle.ktm_world.specs.declared.input.PhaseInput.{PhaseInput}
use Rattle.ktm_world.specs.declared.object.Transaction.{Transaction}
use Rattle.ktm_world.specs.Present.{Present}
use Rattle.ktm_world.specs.Rows.{row}
use Rattle.ktm_world.specs.Steps.{Basis, basis, event_of_caller, events_ahead, events_of, held_event, is_recorded_by, led, seen}
use Rattle.ktm_world.specs.TransactionCalls.{course_of}
use Rattle.ktm_memory.specs.Routed.{course_to}
use Rattle.ktm_world.specs.Transactions.{same_id}
use Rattle.txf_laws.specs.FileEffects.{forgotten}
use Rattle.txf_laws.specs.Reservations.{files_committed}
use Rattle.ktm_memory.specs.Memory.{LayersNow, recorded_of}

module _ (p : ℕ → ℕ → ℕ → Type 0) where
  -- ---- what transactions changed

  pub own-each : (own : List OwnChanges) (id : Id) → All (EachOfOwn p) own → EachOfChanges p (own_changes own id)
  own-each [] id all = All-nil (EachOfChange p)
  own-each (o ∷ os) id all = elim (cases_Bool (same_id o.transaction id)) [
    | inl same ↦ rw same (All-head (EachOfOwn p) o os all)
    | inr other ↦ rw other (own-each os id (All-tail (EachOfOwn p) o os all))
  ]

  changes-if : (b : Bool) (cs : List Change) → EachOfChanges p cs → EachOfChanges p (if b then [] else cs)
  changes-if true cs each = All-nil (EachOfChange p)
  changes-if false cs each = each

  contents-each : (es : List Enlistment) (cs : List Change) (settings : OwnSettings) (who : DonePart) → EachOfChanges p cs → EachOfPart p (contents_of es cs settings who)
  contents-each es cs settings (DonePart.Enlistment id) each = All-nil (EachOfChange p)
  contents-each es cs settings DonePart.Files each = each
  contents-each es cs settings DonePart.Keys each = All-nil (EachOfChange p)

  parts-each : (es : List Enlistment) (cs : List Change) (settings : OwnSettings) (parts : List TracedPart) → EachOfChanges p cs → All (λ part. EachOfPart p part.part) (expanded_parts es cs settings parts)
  parts-each es cs settings [] each = All-nil (λ part. EachOfPart p part.part)
  parts-each es cs settings (part ∷ parts) each =
      All-cons (λ part. EachOfPart p part.part) (record { is_done = part.is_done; part = contents_of es cs settings part.who }) (expanded_parts es cs settings parts) (contents-each es cs settings part.who each) (parts-each es cs settings parts each)

  traced-each : (es : List Enlistment) (own : List OwnChanges) (settings : List Own) (ts : List Traced) → All (EachOfOwn p) own → All (EachOfRecorded p) (map (expanded es own settings) ts)
  traced-each es own settings [] all = All-nil (EachOfRecorded p)
  traced-each es own settings (t ∷ ts) all =
      All-cons (EachOfRecorded p) (expanded es own settings t) (map (expanded es own settings) ts)
      (parts-each es _ (if is_decided t.stage then [] else own_settings settings t.id) t.parts (changes-if (is_decided t.stage) (own_changes own t.id) (own-each own t.id all)))
      (traced-each es own settings ts all)

  -- what was recorded, by what the layers hold
  pub recorded-each : (h : LayersNow) → EachOfFiles p h.files → EachOfDurable p (recorded_of h)
  recorded-each h each = record { tree = each.tree; transactions = traced-each h.transactions.enlistments h.files.table.own h.keys.own h.traces each.own }

  -- ---- what is recorded

  -- events without changes
  pub bare-each : (events : Group) → All (λ event. changes_of_event event ≡ []) events → EachOfGroup p events
  bare-each events none = All-weaker (λ event. changes_of_event event ≡ []) (EachOfEvent p) (λ event is. subst (All (EachOfChange p)) (sym is) (All-nil (EachOfChange p))) events none

  one-each : (event : Event) → EachOfEvent p event → EachOfGroup p (event ∷ [])
  one-each event each = All-cons (EachOfEvent p) event [] each (All-nil (EachOfEvent p))

  if-each : (b : Bool) (event : Event) → EachOfEvent p event → EachOfGroup p (event_if b event)
  if-each true event each = one-each event each
  if-each false event each = All-nil (EachOfEvent p)

  none : EachOfChanges p []
  none = All-nil (EachOfChange p)

  caller-each : (e : Option Enlistment) (ms : List Manager) (event : Enlistment → Event) → ((e : Enlistment) → EachOfEvent p (event e)) → EachOfGroup p (event_of_caller e ms event)
  caller-each None ms event each = All-nil (EachOfEvent p)
  caller-each (Some e) ms event each = if-each (is_durable_at ms e.manager) (event e) (each e)

  held-each : (id : Id) (e : Option Enlistment) → EachOfGroup p (held_event id e)
  held-each id None = All-nil (EachOfEvent p)
  held-each id (Some e) = one-each (Held id e.id e.manager e.information) none

  fact-each : (b : Basis) (fact : Fact) → (is_of_changes fact ≡ true → EachOfChanges p b.changes) → EachOfGroup p (events_of fact b)
  fact-each b Fact.ReadyFiles each = if-each (has_changes b.changes) (Ready b.id (Changes b.changes)) (each refl)
  fact-each b Fact.ReadyKeys each = if-each (has_settings b.settings) (Ready b.id (Settings b.settings)) none
  fact-each b Fact.Ready each = caller-each b.caller b.managers (λ e. Ready b.id (enlistment_part e)) (λ e. none)
  fact-each b Fact.Held each = held-each b.id b.superior
  fact-each b Fact.Decide each = if-each b.is_recorded (Decide b.id) none
  fact-each b Fact.Undo each = if-each b.is_recorded (Undo b.id) none
  fact-each b Fact.DoneFiles each = if-each (has_changes b.changes) (Done b.id DonePart.Files) none
  fact-each b Fact.DoneKeys each = if-each (has_settings b.settings) (Done b.id DonePart.Keys) none
  fact-each b Fact.Done each = caller-each b.caller b.managers (λ e. Done b.id (DonePart.Enlistment e.id)) (λ e. none)
  fact-each b Fact.SingleFiles each = one-each (Single b.id (Changes b.changes)) (each refl)
  fact-each b Fact.SingleKeys each = one-each (Single b.id (Settings b.settings)) none

  -- what steps record, where they record the changes of the files
  pub ahead-each : (steps : List Step) (b : Basis) → (records_files steps ≡ true → EachOfChanges p b.changes) → EachOfGroup p (events_ahead steps b)
  ahead-each [] b each = All-nil (EachOfEvent p)
  ahead-each (Record fact ∷ steps) b each =
      All-append (EachOfEvent p) (events_of fact b) (events_ahead steps (record b { is_recorded = is_recorded_by fact b }))
      (fact-each b fact (λ here. each (or_left (is_of_changes fact) (list_any records_changes steps) here)))
      (ahead-each steps (record b { is_recorded = is_recorded_by fact b }) (λ there. each (or_right (is_of_changes fact) (list_any records_changes steps) there)))
  ahead-each (Step.Commit ∷ steps) b each = ahead-each steps b each
  ahead-each (Tell who kind ∷ steps) b each = ahead-each steps b each
  ahead-each (Ask who kind owed ∷ steps) b each = ahead-each steps b each
  ahead-each (Step.Change answer ∷ steps) b each = ahead-each steps b each
  ahead-each (Enter phase ∷ steps) b each = ahead-each steps b each
  ahead-each (DecideIt outcome ∷ steps) b each = ahead-each steps b each
  ahead-each (End outcome ∷ steps) b each = ahead-each steps b each
  ahead-each (EndWhereFinished outcome ∷ steps) b each = ahead-each steps b each

  -- the changes that a fact records
  fact-puts : (b : Basis) (fact : Fact) → EachOfGroup p (events_of fact b) → is_of_changes fact ≡ true → EachOfChanges p b.changes
  fact-puts b Fact.ReadyFiles each is = ready b.changes each
    where
      ready : (cs : List Change) → EachOfGroup p (event_if (has_changes cs) (Ready b.id (Changes cs))) → EachOfChanges p cs
      ready [] each = none
      ready (c ∷ cs) each = All-head (EachOfEvent p) (Ready b.id (Changes (c ∷ cs))) [] each
  fact-puts b Fact.SingleFiles each is = All-head (EachOfEvent p) (Single b.id (Changes b.changes)) [] each
  fact-puts b Fact.ReadyKeys each is = absurd (cc)
  fact-puts b Fact.Ready each is = absurd (cc)
  fact-puts b Fact.Held each is = absurd (cc)
  fact-puts b Fact.Decide each is = absurd (cc)
  fact-puts b Fact.Undo each is = absurd (cc)
  fact-puts b Fact.DoneFiles each is = absurd (cc)
  fact-puts b Fact.DoneKeys each is = absurd (cc)
  fact-puts b Fact.Done each is = absurd (cc)
  fact-puts b Fact.SingleKeys each is = absurd (cc)

  both : (xs ys : Group) → EachOfGroup p (xs ++ ys) → EachOfGroup p xs × EachOfGroup p ys
  both [] ys each = (All-nil (EachOfEvent p), each)
  both (x ∷ xs) ys each =
      let rest = both xs ys (All-tail (EachOfEvent p) x (xs ++ ys) each) in
      (All-cons (EachOfEvent p) x xs (All-head (EachOfEvent p) x (xs ++ ys) each) rest.0, rest.1)

  -- where steps record the changes of the files, these are among what is recorded
  pub ahead-puts : (steps : List Step) (b : Basis) → EachOfGroup p (events_ahead steps b) → records_files steps ≡ true → EachOfChanges p b.changes
  ahead-puts [] b each is = absurd (cc)
  ahead-puts (Record fact ∷ steps) b each is =
      let parts = both (events_of fact b) (events_ahead steps (record b { is_recorded = is_recorded_by fact b })) each in
      elim (cases_Bool (is_of_changes fact)) [
        | inl here ↦ fact-puts b fact parts.0 here
        | inr other ↦ ahead-puts steps (record b { is_recorded = is_recorded_by fact b }) parts.1 (rw other at is)
      ]
  ahead-puts (Step.Commit ∷ steps) b each is = ahead-puts steps b each is
  ahead-puts (Tell who kind ∷ steps) b each is = ahead-puts steps b each is
  ahead-puts (Ask who kind owed ∷ steps) b each is = ahead-puts steps b each is
  ahead-puts (Step.Change answer ∷ steps) b each is = ahead-puts steps b each is
  ahead-puts (Enter phase ∷ steps) b each is = ahead-puts steps b each is
  ahead-puts (DecideIt outcome ∷ steps) b each is = ahead-puts steps b each is
  ahead-puts (End outcome ∷ steps) b each is = ahead-puts steps b each is
  ahead-puts (EndWhereFinished outcome ∷ steps) b each is = ahead-puts steps b each is

-- ---- what ends

-- the files that a transaction held are committed or forgotten, or it holds them still
pub released-each : (p : ℕ → ℕ → ℕ → Type 0) → AreZerosSuch p → (id : Id) (commits is_known : Bool) (files after : FilesNow) → EachOfFiles p files
    → after ≡ (if commits then files_committed files id else (if is_known then forgotten files id else files)) → EachOfFiles p after
released-each p zeros id true known files after each is = subst (EachOfFiles p) (sym is) (files_committed-each p zeros files id each)
released-each p zeros id false true files after each is = subst (EachOfFiles p) (sym is) (forgotten-each p files id each)
released-each p zeros id false false files after each is = subst (EachOfFiles p) (sym is) each

-- ---- courses

-- what a course records of a transaction
pub course-each : (p : ℕ → ℕ → ℕ → Type 0) → EventsAheadLaw → (x : Present) (t : Transaction) (caller : Option Id) (input : PhaseInput) → EachOfFiles p x.files → EachOfGroup p (course_to x t caller input).events
unfolding led
course-each p ahead x t caller input each =
    let c = course_of x t (caller_of x.transactions.enlistments caller) in
    let steps = row (seen c) input in
    subst (EachOfGroup p) (sym (ahead steps c)) (ahead-each p steps (basis c) (λ records. own-each p x.files.table.own t.id each.own))
