-- What holds of each byte that events make of durable states.
use Rattle.std.proofs.Common.{ℕ, ◌+◌, ◌||◌, not, Bool, true, false, List, [], ◌∷◌, ◌++◌, map, find, Option, Some, None, All, IfSome, inl, inr}
use Rattle.std.specs.List.{flat_map, list_any}
use Rattle.std.proofs.lemmas.Bool.{cases_Bool}
use Rattle.std.proofs.lemmas.List.Elements.{All-append, All-cons, All-filter, All-head, All-map, All-nil, All-push, All-tail, All-weaker}
use Rattle.ktm_base.specs.declared.id.Id.{Id}
use Rattle.ktm_world.specs.declared.change.Change.{Change}
use Rattle.ktm_world.specs.declared.event.DonePart.{DonePart}
use Rattle.ktm_world.specs.declared.event.Event.{Event}
use Rattle.ktm_world.specs.declared.event.Event.TheVariants.{Boot, MadeRm, Plain, Ready, Single, Held, Decide, Undo, Done}
use Rattle.ktm_world.specs.declared.event.Part.{Part}
use Rattle.ktm_world.specs.declared.event.Part.TheVariants.{Enlistment, Changes, Settings}
use Rattle.ktm_world.specs.declared.recorded.RecordedPart.{RecordedPart}
use Rattle.ktm_world.specs.declared.recorded.Stage.{Stage}
use Rattle.ktm_world.specs.declared.recorded.Superior.{Superior}
use Rattle.ktm_world.specs.Durable.{Durable, Recorded, after_event, after_events, changes_in, changes_of, decide_recorded, emptied, emptied_part, fact_of, finish_recorded, has_undone, hold_recorded, is_before, is_held, is_of_enlistment, is_part_of, is_ready, parts_done, recorded_at, recorded_or_new, settings_in, stand, while_not_done, with_committed, with_part, with_recorded}
use Rattle.ktm_world.specs.Files.{OwnChanges}
use Rattle.ktm_world.specs.Keys.{OwnSettings}
use Rattle.ktm_world.specs.Logs.{Group}
use Rattle.ktm_world.specs.Transactions.{same_id}
use Rattle.ktm_world.specs.World.{done_if, has_own_changes, in_doubt, opened, own_events, own_group, present}
use Rattle.txf_laws.proofs.offered.CommitsOfOthers.{All-by}
use Rattle.ktm_each.specs.Each.{AreZerosSuch, EachOfChange, EachOfChanges, EachOfOwn, EachOfFirst, EachOfFiles, EachOfPart, EachOfEvent, EachOfGroup, EachOfRecorded, EachOfDurable}
use Rattle.ktm_each.proofs.offered.Trees.{All-flat_map, All-one, changed_all-each}

-- ---- transactions that come and are found

module _ (P : Recorded → Type 0) where
  with_recorded-each : (ts : List Recorded) (t : Recorded) → P t → All P ts → All P (with_recorded ts t)
  with_recorded-each [] t is all = All-one P t is
  with_recorded-each (a ∷ ts) t is all = elim (cases_Bool (same_id a.id t.id)) [
    | inl same ↦ rw same (All-cons P t ts is (All-tail P a ts all))
    | inr other ↦ elim (cases_Bool (is_before t.id a.id)) [
      | inl before ↦ rw (other, before) (All-cons P t (a ∷ ts) is all)
      | inr behind ↦ rw (other, behind) (All-cons P a (with_recorded ts t) (All-head P a ts all) (with_recorded-each ts t is (All-tail P a ts all)))
    ]
  ]

  while_not_done-each : (ts : List Recorded) (t : Recorded) → P t → All P ts → All P (while_not_done ts t)
  while_not_done-each ts t is all = elim (cases_Bool (list_any (λ part. not part.is_done) t.parts)) [
    | inl left ↦ rw left (with_recorded-each ts t is all)
    | inr over ↦ rw over (All-filter (λ u. not (same_id u.id t.id)) P ts all)
  ]

  find-each : (test : Recorded → Bool) (ts : List Recorded) → All P ts → IfSome (find test ts) P
  find-each test [] all = tt
  find-each test (t ∷ ts) all = elim (cases_Bool (test t)) [ inl here ↦ rw here (All-head P t ts all) | inr other ↦ rw other (find-each test ts (All-tail P t ts all)) ]

module _ (p : ℕ → ℕ → ℕ → Type 0) where
  -- ---- parts

  emptied-each : (part : Part) → EachOfPart p (emptied part)
  emptied-each (Enlistment enlistment manager information) = All-nil (EachOfChange p)
  emptied-each (Changes changes) = All-nil (EachOfChange p)
  emptied-each (Settings settings) = All-nil (EachOfChange p)

  parts_done-each : (done : DonePart) (parts : List RecordedPart) → All (λ part. EachOfPart p part.part) parts → All (λ part. EachOfPart p part.part) (parts_done done parts)
  parts_done-each done parts all = elim (cases_Bool (is_of_enlistment done)) [
    | inl taken ↦ rw taken (All-filter (λ part. not (is_part_of done part.part)) (λ part. EachOfPart p part.part) parts all)
    | inr marked ↦ rw marked (All-map (λ part. EachOfPart p part.part) (λ (part : RecordedPart). record part { is_done = part.is_done || is_part_of done part.part }) parts all)
  ]

  -- ---- transactions

  pub changes_of-each : (t : Recorded) → EachOfRecorded p t → EachOfChanges p (changes_of t)
  changes_of-each t each = All-flat_map (EachOfChange p) (λ part. changes_in part.part) t.parts each

  recorded_or_new-each : (ts : List Recorded) (id : Id) → All (EachOfRecorded p) ts → EachOfRecorded p (recorded_or_new ts id)
  recorded_or_new-each [] id all = All-nil (λ part. EachOfPart p part.part)
  recorded_or_new-each (t ∷ ts) id all = elim (cases_Bool (same_id t.id id)) [
    | inl same ↦ rw same (All-head (EachOfRecorded p) t ts all)
    | inr other ↦ rw other (recorded_or_new-each ts id (All-tail (EachOfRecorded p) t ts all))
  ]

  -- ---- what a restart records, and what it makes

  done_if-each : (is : Bool) (id : Id) (done : DonePart) → EachOfGroup p (done_if is id done)
  done_if-each true id done = All-one (EachOfEvent p) (Done id done) (All-nil (EachOfChange p))
  done_if-each false id done = All-nil (EachOfEvent p)

  own_events-each : (t : Recorded) → EachOfGroup p (own_events t)
  own_events-each t =
      All-append (EachOfEvent p) (done_if (has_undone DonePart.Files t) t.id DonePart.Files) (done_if (has_undone DonePart.Keys t) t.id DonePart.Keys)
      (done_if-each (has_undone DonePart.Files t) t.id DonePart.Files) (done_if-each (has_undone DonePart.Keys t) t.id DonePart.Keys)

  pub own_group-each : (s : Durable) → EachOfGroup p (own_group s)
  own_group-each s =
      All-cons (EachOfEvent p) (Boot (s.boots + 1)) (flat_map own_events s.transactions) (All-nil (EachOfChange p))
      (All-flat_map (EachOfEvent p) own_events s.transactions (All-by (λ t. EachOfGroup p (own_events t)) s.transactions (λ t there. own_events-each t)))

  pub opened-each : (base : Durable) (groups : List Group) → EachOfDurable p (stand base groups) → EachOfFiles p (present (opened base groups)).files
  opened-each base groups each = record {
    tree = each.tree;
    own = All-filter has_own_changes (EachOfOwn p) (map own (in_doubt s)) (All-map (EachOfOwn p) own (in_doubt s) waiting);
    first_opens = All-nil (EachOfFirst p);
  }
    where
      s : Durable
      s = stand base groups

      own : Recorded → OwnChanges
      own t = record { transaction = t.id; changes = changes_of t }

      waiting : All (λ t. EachOfOwn p (own t)) (in_doubt s)
      waiting = All-weaker (EachOfRecorded p) (λ t. EachOfOwn p (own t)) changes_of-each (in_doubt s) (All-filter (λ t. is_held t.stage) (EachOfRecorded p) s.transactions each.transactions)

-- ---- events

module _ (p : ℕ → ℕ → ℕ → Type 0) (zeros : AreZerosSuch p) where
  with_committed-each : (s : Durable) (changes : List Change) (settings : OwnSettings) → EachOfDurable p s → EachOfChanges p changes → EachOfDurable p (with_committed s changes settings)
  with_committed-each s changes settings each all = record { tree = changed_all-each p zeros s.tree changes each.tree all; transactions = each.transactions }

  decided-each : (s : Durable) (o : Option Recorded) → EachOfDurable p s → IfSome o (EachOfRecorded p) → EachOfDurable p (decide_recorded s o)
  decided-each s None each found = each
  decided-each s (Some t) each found = record {
    tree = changed_all-each p zeros s.tree (changes_of t) each.tree (changes_of-each p t found);
    transactions = while_not_done-each (EachOfRecorded p) s.transactions decided emptied_parts each.transactions;
  }
    where
      decided : Recorded
      decided = record t { stage = Stage.Decided; parts = map emptied_part t.parts }

      emptied_parts : EachOfRecorded p decided
      emptied_parts = All-map (λ part. EachOfPart p part.part) emptied_part t.parts (All-by (λ part. EachOfPart p (emptied part.part)) t.parts (λ part there. emptied-each p part.part))

  finished-each : (s : Durable) (done : DonePart) (o : Option Recorded) → EachOfDurable p s → IfSome o (EachOfRecorded p) → EachOfDurable p (finish_recorded s done o)
  finished-each s done None each found = each
  finished-each s done (Some t) each found = record {
    tree = each.tree;
    transactions = while_not_done-each (EachOfRecorded p) s.transactions (record t { parts = parts_done done t.parts }) (parts_done-each p done t.parts found) each.transactions;
  }

  with_part-each : (s : Durable) (id : Id) (part : Part) → EachOfDurable p s → EachOfPart p part → EachOfDurable p (with_part s id part)
  with_part-each s id part each puts = record {
    tree = each.tree;
    transactions = with_recorded-each (EachOfRecorded p) s.transactions (record t { parts = t.parts ++ record { is_done = false; part = part } ∷ [] })
        (All-push (λ q. EachOfPart p q.part) t.parts (record { is_done = false; part = part }) (recorded_or_new-each p s.transactions id each.transactions) puts) each.transactions;
  }
    where
      t : Recorded
      t = recorded_or_new s.transactions id

  hold-each : (s : Durable) (id : Id) (superior : Superior) → EachOfDurable p s → EachOfDurable p (hold_recorded s id superior)
  hold-each s id superior each = record {
    tree = each.tree;
    transactions = with_recorded-each (EachOfRecorded p) s.transactions (record t { stage = Stage.Held; superior = Some superior }) (recorded_or_new-each p s.transactions id each.transactions) each.transactions;
  }
    where
      t : Recorded
      t = recorded_or_new s.transactions id

  fact_of-each : (s : Durable) (event : Event) → EachOfDurable p s → EachOfEvent p event → EachOfDurable p (fact_of s event)
  fact_of-each s (Boot boot) each puts = record { tree = each.tree; transactions = All-filter (λ t. not (is_ready t.stage)) (EachOfRecorded p) s.transactions each.transactions }
  fact_of-each s (MadeRm manager) each puts = record { tree = each.tree; transactions = each.transactions }
  fact_of-each s (Plain change) each puts = with_committed-each s (change ∷ []) [] each puts
  fact_of-each s (Ready transaction part) each puts = with_part-each s transaction part each puts
  fact_of-each s (Single transaction part) each puts = with_committed-each s (changes_in part) (settings_in part) each puts
  fact_of-each s (Held transaction enlistment manager information) each puts = hold-each s transaction (record { enlistment = enlistment; manager = manager; information = information }) each
  fact_of-each s (Decide transaction) each puts =
      decided-each s (recorded_at s.transactions transaction) each (find-each (EachOfRecorded p) (λ t. same_id t.id transaction) s.transactions each.transactions)
  fact_of-each s (Undo transaction) each puts = record { tree = each.tree; transactions = All-filter (λ t. not (same_id t.id transaction)) (EachOfRecorded p) s.transactions each.transactions }
  fact_of-each s (Done transaction done) each puts =
      finished-each s done (recorded_at s.transactions transaction) each (find-each (EachOfRecorded p) (λ t. same_id t.id transaction) s.transactions each.transactions)

  pub after_event-each : (s : Durable) (event : Event) → EachOfDurable p s → EachOfEvent p event → EachOfDurable p (after_event s event)
  after_event-each s event each puts = let made = fact_of-each s event each puts in record { tree = made.tree; transactions = made.transactions }

  pub after_events-each : (s : Durable) (events : Group) → EachOfDurable p s → EachOfGroup p events → EachOfDurable p (after_events s events)
  after_events-each s [] each all = each
  after_events-each s (event ∷ events) each all =
      after_events-each (after_event s event) events (after_event-each s event each (All-head (EachOfEvent p) event events all)) (All-tail (EachOfEvent p) event events all)

  pub stand-each : (base : Durable) (groups : List Group) → EachOfDurable p base → All (EachOfGroup p) groups → EachOfDurable p (stand base groups)
  stand-each base [] each all = each
  stand-each base (group ∷ groups) each all =
      stand-each (after_events base group) groups (after_events-each base group each (All-head (EachOfGroup p) group groups all)) (All-tail (EachOfGroup p) group groups all)
