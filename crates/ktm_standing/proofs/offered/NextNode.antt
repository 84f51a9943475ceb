-- The next node number by what steps record: events raise it by the changes that they make ready or commit at once, and no decision does.
use Rattle.std.proofs.Common.{◌≡◌, ℕ, ◌+◌, ◌≤◌, ◌||◌, not, Bool, true, false, cond, List, [], ◌∷◌, ◌++◌, filter, fold, map, max, Option, Some, None, ◌⊎◌, inl, inr, refl, sym, ◌∙◌, ap, subst, arith}
use Rattle.std.proofs.lemmas.Bool.{and_parts, cases_Bool, ltb-true}
use Rattle.std.proofs.lemmas.List.Sums.{fold-append}
use Rattle.std.specs.List.{list_all, list_any}
use Rattle.ktm_base.specs.declared.id.Id.{Id}
use Rattle.ktm_world.specs.declared.change.Change.{Change}
use Rattle.ktm_world.specs.declared.event.DonePart.{DonePart}
use Rattle.ktm_world.specs.declared.event.Event.{Event}
use Rattle.ktm_world.specs.declared.event.Event.TheVariants.{Boot, MadeRm, Plain, Ready, Single, Held, Decide, Undo, Done}
use Rattle.ktm_world.specs.declared.event.Part.{Part}
use Rattle.ktm_world.specs.declared.object.Transaction.{Transaction}
use Rattle.ktm_world.specs.declared.recorded.RecordedPart.{RecordedPart}
use Rattle.ktm_world.specs.declared.step.Fact.{Fact}
use Rattle.ktm_world.specs.declared.step.Step.{Step}
use Rattle.ktm_world.specs.Durable.{Durable, Recorded, after_event, after_events, changes_in, changes_of, decide_recorded, emptied, emptied_part, finish_recorded, is_of_enlistment, is_part_of, is_ready, next_after_all, parts_done, recorded_at, recorded_or_new, while_not_done, with_recorded, without_recorded}
use Rattle.ktm_world.specs.Changes.{has_changes}
use Rattle.ktm_world.specs.Enlistments.{Enlistment, Manager, is_durable_at}
use Rattle.ktm_world.specs.Phases.{enlistment_part, event_if, has_settings}
use Rattle.ktm_world.specs.Present.{Present}
use Rattle.ktm_world.specs.Steps.{Basis, basis, event_of_caller, events_ahead, events_of, held_event, is_recorded_by, run}
use Rattle.ktm_world.specs.TransactionCalls.{course_of}
use Rattle.ktm_world.specs.Transactions.{same_id}
use Rattle.ktm_world.specs.Durable.{is_before}
use Rattle.txf_laws.specs.Contents.{is_made_below}
use Rattle.txf_laws.specs.Elements.{IsIn}
use Rattle.txf_laws.proofs.offered.Elements.{IsIn-filter, IsIn-flat_map, IsIn-unflat, find-in, list_all-at, list_all-from}
use Rattle.txf_laws.proofs.offered.Lists.{IsIn-unmap}
use Rattle.txf_laws.proofs.offered.NodeNumbers.{all_made_below-more, next-made, next-rises}
use Rattle.ktm_steps.proofs.offered.Ahead.{events-ahead}
use Rattle.ktm_steps.proofs.offered.Ways.{if_cases}
use Rattle.txf_laws.specs.GoodState.{IsGoodState}
use Rattle.ktm_course.specs.Moved.{is_of_changes, records_files}
use Rattle.ktm_standing.specs.Courses.{LogsNext}

-- ---- numbers

-- what changes make of a later number, they make of an earlier one and the later one
next-max : (cs : List Change) (n : ℕ) → next_after_all n cs ≡ max n (next_after_all 0 cs)
next-max [] n = omega arith
next-max (Change.Make node parent kind name ∷ cs) n = let a = next-max cs (max n (node + 1)) in let b = next-max cs (max 0 (node + 1)) in omega arith
next-max (Change.Put node offset contents ∷ cs) n = next-max cs n
next-max (Change.Cut node size pages ∷ cs) n = next-max cs n
next-max (Change.Move node parent name ∷ cs) n = next-max cs n
next-max (Change.Drop node ∷ cs) n = next-max cs n

-- numbers that were given out are not given out again
next-again : (cs : List Change) (n : ℕ) → next_after_all (next_after_all n cs) cs ≡ next_after_all n cs
next-again cs n = let a = next-max cs n in let b = next-max cs (next_after_all n cs) in omega arith

-- changes whose nodes are below the number leave it
next-still : (cs : List Change) (n : ℕ) → list_all (is_made_below n) cs ≡ true → next_after_all n cs ≡ n
next-still [] n below = refl
next-still (Change.Make node parent kind name ∷ cs) n below =
    let parts = and_parts (is_made_below n (Change.Make node parent kind name)) (list_all (is_made_below n) cs) below in
    let less = ltb-true node n parts.0 in
    let same : max n (node + 1) ≡ n = omega (arith, less) in
    ap (λ m. next_after_all m cs) same ∙ next-still cs n parts.1
next-still (Change.Put node offset contents ∷ cs) n below = next-still cs n (and_parts (is_made_below n (Change.Put node offset contents)) (list_all (is_made_below n) cs) below).1
next-still (Change.Cut node size pages ∷ cs) n below = next-still cs n (and_parts (is_made_below n (Change.Cut node size pages)) (list_all (is_made_below n) cs) below).1
next-still (Change.Move node parent name ∷ cs) n below = next-still cs n (and_parts (is_made_below n (Change.Move node parent name)) (list_all (is_made_below n) cs) below).1
next-still (Change.Drop node ∷ cs) n below = next-still cs n (and_parts (is_made_below n (Change.Drop node)) (list_all (is_made_below n) cs) below).1

-- the next number after an event
abbrev raised : ℕ → Event → ℕ
raised n (Plain change) = next_after_all n (change ∷ [])
raised n (Ready transaction part) = next_after_all n (changes_in part)
raised n (Single transaction part) = next_after_all n (changes_in part)
raised n _ = n

-- ---- what waits makes nodes below the next number

-- these parts make nodes below a number
abbrev BelowIn : ℕ → List RecordedPart → Type 0
BelowIn n ps = (p : RecordedPart) → IsIn p ps → list_all (is_made_below n) (changes_in p.part) ≡ true

-- the parts of each of these transactions make nodes below a number
abbrev Below : ℕ → List Recorded → Type 0
Below n ts = (t : Recorded) → IsIn t ts → BelowIn n t.parts

below-more : (m n : ℕ) (ts : List Recorded) → m ≤ n → Below m ts → Below n ts
below-more m n ts more below t there p has = all_made_below-more m n (changes_in p.part) more (below t there p has)

in-with : (ts : List Recorded) (t u : Recorded) → IsIn u (with_recorded ts t) → (t ≡ u) ⊎ IsIn u ts
in-with [] t u (inl is) = inl is
in-with [] t u (inr none) = absurd none
in-with (a ∷ ts) t u there = elim (cases_Bool (same_id a.id t.id)) [
  | inl same ↦ elim (rw same at there) [ inl is ↦ inl is | inr later ↦ inr (inr later) ]
  | inr other ↦ elim (cases_Bool (is_before t.id a.id)) [
    | inl before ↦ elim (rw (other, before) at there) [ inl is ↦ inl is | inr later ↦ inr later ]
    | inr behind ↦ elim (rw (other, behind) at there) [
      | inl is ↦ inr (inl is)
      | inr later ↦ elim (in-with ts t u later) [ inl is ↦ inl is | inr old ↦ inr (inr old) ]
    ]
  ]
]

below-with : (n : ℕ) (ts : List Recorded) (t : Recorded) → Below n ts → BelowIn n t.parts → Below n (with_recorded ts t)
below-with n ts t below own u there = elim (in-with ts t u there) [ inl is ↦ subst (λ (v : Recorded). BelowIn n v.parts) is own | inr old ↦ below u old ]

below-filter : (n : ℕ) (keep : Recorded → Bool) (ts : List Recorded) → Below n ts → Below n (filter keep ts)
below-filter n keep ts below u there = below u (IsIn-filter keep ts u there).0

below-while : (n : ℕ) (ts : List Recorded) (t : Recorded) → Below n ts → BelowIn n t.parts → Below n (while_not_done ts t)
below-while n ts t below own = if_cases (λ us. Below n us) (list_any (λ (p : RecordedPart). not p.is_done) t.parts) (with_recorded ts t) (without_recorded ts t.id)
    (λ some. below-with n ts t below own) (λ over. below-filter n (λ v. not (same_id v.id t.id)) ts below)

below-known : (n : ℕ) (ts : List Recorded) (id : Id) → Below n ts → BelowIn n (recorded_or_new ts id).parts
below-known n [] id below = λ p none. absurd none
below-known n (t ∷ ts) id below = elim (cases_Bool (same_id t.id id)) [
  | inl same ↦ rw same (below t (inl refl))
  | inr other ↦ rw other (below-known n ts id (λ u there. below u (inr there)))
]

below-emptied : (n : ℕ) (ps : List RecordedPart) → BelowIn n (map emptied_part ps)
below-emptied n ps p there =
    let of = IsIn-unmap emptied_part p ps there in
    subst (λ (q : RecordedPart). list_all (is_made_below n) (changes_in q.part) ≡ true) of.1 (none of.0.part)
  where
    none : (part : Part) → list_all (is_made_below n) (changes_in (emptied part)) ≡ true
    none (Part.Enlistment e m i) = refl
    none (Part.Changes cs) = refl
    none (Part.Settings ss) = refl

below-done : (n : ℕ) (done : DonePart) (ps : List RecordedPart) → BelowIn n ps → BelowIn n (parts_done done ps)
below-done n done ps below = if_cases (λ qs. BelowIn n qs) (is_of_enlistment done) (filter (λ p. not (is_part_of done p.part)) ps) (map (λ (p : RecordedPart). record p { is_done = p.is_done || is_part_of done p.part }) ps)
    (λ enlistment. λ q there. below q (IsIn-filter (λ (p : RecordedPart). not (is_part_of done p.part)) ps q there).0)
    (λ other. λ q there.
    let of = IsIn-unmap (λ (p : RecordedPart). record p { is_done = p.is_done || is_part_of done p.part }) q ps there in
    subst (λ (p : RecordedPart). list_all (is_made_below n) (changes_in p.part) ≡ true) of.1 (below of.0 of.2))

below-pushed : (n : ℕ) (ps : List RecordedPart) (part : Part) → BelowIn n ps → list_all (is_made_below n) (changes_in part) ≡ true → BelowIn n (ps ++ record { is_done = false; part = part } ∷ [])
below-pushed n [] part below own p (inl is) = subst (λ (q : RecordedPart). list_all (is_made_below n) (changes_in q.part) ≡ true) is own
below-pushed n [] part below own p (inr none) = absurd none
below-pushed n (q ∷ ps) part below own p (inl is) = below p (inl is)
below-pushed n (q ∷ ps) part below own p (inr there) = below-pushed n ps part (λ r has. below r (inr has)) own p there

-- what a transaction changes by such parts leaves the number
still-decided : (n : ℕ) (t : Recorded) → BelowIn n t.parts → next_after_all n (changes_of t) ≡ n
still-decided n t below = next-still (changes_of t) n (list_all-from (is_made_below n) (changes_of t) (λ c there.
    let at = IsIn-unflat (λ (p : RecordedPart). changes_in p.part) t.parts c there in list_all-at (is_made_below n) (changes_in at.0.part) (below at.0 at.1) c at.2))

-- ---- events, one after another

-- it stays so, and the number is what the event raises it to
record Goes (n : ℕ) (event : Event) (s : Durable) : Type 0 where
  below : Below s.next_node s.transactions
  next : s.next_node ≡ raised n event

goes-on : (s : Durable) (event : Event) → Below s.next_node s.transactions → Goes s.next_node event (after_event s event)
goes-on s (Boot boot) all = record { below = below-filter s.next_node (λ t. not (is_ready t.stage)) s.transactions all; next = refl }
goes-on s (MadeRm manager) all = record { below = all; next = refl }
goes-on s (Plain change) all = record { below = below-more s.next_node _ s.transactions (next-rises (change ∷ []) s.next_node) all; next = refl }
goes-on s (Ready transaction part) all =
    let n = next_after_all s.next_node (changes_in part) in
    let more = below-more s.next_node n s.transactions (next-rises (changes_in part) s.next_node) all in
    let t = recorded_or_new s.transactions transaction in
    record {
      below = below-with n s.transactions (record t { parts = t.parts ++ record { is_done = false; part = part } ∷ [] }) more (below-pushed n t.parts part (below-known n s.transactions transaction more) (next-made (changes_in part) s.next_node));
      next = refl;
    }
goes-on s (Single transaction part) all = record { below = below-more s.next_node _ s.transactions (next-rises (changes_in part) s.next_node) all; next = refl }
goes-on s (Held transaction enlistment manager information) all = record {
  below = below-with s.next_node s.transactions _ all (below-known s.next_node s.transactions transaction all);
  next = refl;
}
goes-on s (Decide transaction) all = go (recorded_at s.transactions transaction) refl
  where
    go : (found : Option Recorded) → recorded_at s.transactions transaction ≡ found → Goes s.next_node (Decide transaction) (record (decide_recorded s found) { events = s.events + 1 })
    go None is = record { below = all; next = refl }
    go (Some t) is =
        let there = (find-in (λ (u : Recorded). same_id u.id transaction) s.transactions t is).0 in
        let still = still-decided s.next_node t (all t there) in
        record {
          below = below-while (next_after_all s.next_node (changes_of t)) s.transactions _ (subst (λ n. Below n s.transactions) (sym still) all) (below-emptied (next_after_all s.next_node (changes_of t)) t.parts);
          next = still;
        }
goes-on s (Undo transaction) all = record { below = below-filter s.next_node (λ t. not (same_id t.id transaction)) s.transactions all; next = refl }
goes-on s (Done transaction done) all = go (recorded_at s.transactions transaction) refl
  where
    go : (found : Option Recorded) → recorded_at s.transactions transaction ≡ found → Goes s.next_node (Done transaction done) (record (finish_recorded s done found) { events = s.events + 1 })
    go None is = record { below = all; next = refl }
    go (Some t) is =
        let there = (find-in (λ (u : Recorded). same_id u.id transaction) s.transactions t is).0 in
        record { below = below-while s.next_node s.transactions (record t { parts = parts_done done t.parts }) all (below-done s.next_node done t.parts (all t there)); next = refl }

all-raised : (events : List Event) (s : Durable) → Below s.next_node s.transactions → (after_events s events).next_node ≡ fold raised s.next_node events
all-raised [] s all = refl
all-raised (e ∷ events) s all =
    let goes = goes-on s e all in all-raised events (after_event s e) goes.below ∙ ap (λ n. fold raised n events) goes.next

good-below : (s : Durable) → IsGoodState s → Below s.next_node s.transactions
good-below s good t there p has =
    let made = list_all-at (λ (u : Recorded). list_all (is_made_below s.next_node) (changes_of u)) s.transactions good.made t there in
    list_all-from (is_made_below s.next_node) (changes_in p.part) (λ c is. list_all-at (is_made_below s.next_node) (changes_of t) made c (IsIn-flat_map (λ (q : RecordedPart). changes_in q.part) t.parts p c has is))

-- ---- what steps record

-- once the changes are given out, giving them out again changes nothing
abbrev given : List Change → Bool → ℕ → ℕ
given cs recorded n = cond recorded (next_after_all n cs) n

given-again : (cs : List Change) (a b : Bool) (n : ℕ) → given cs b (given cs a n) ≡ given cs (a || b) n
given-again cs true true n = next-again cs n
given-again cs true false n = refl
given-again cs false b n = refl

given-none : (cs : List Change) (n : ℕ) → has_changes cs ≡ false → next_after_all n cs ≡ n
given-none [] n none = refl
given-none (c ∷ cs) n none = absurd (cc)

-- an event that makes no nodes leaves the number, where it is recorded and where it is not
if-still : (b : Bool) (event : Event) (n : ℕ) → raised n event ≡ n → fold raised n (event_if b event) ≡ n
if-still true event n still = still
if-still false event n still = refl

caller-still : (caller : Option Enlistment) (ms : List Manager) (event : Enlistment → Event) (n : ℕ) → ((e : Enlistment) → raised n (event e) ≡ n) → fold raised n (event_of_caller caller ms event) ≡ n
caller-still None ms event n still = refl
caller-still (Some e) ms event n still = if-still (is_durable_at ms e.manager) (event e) n (still e)

fact-raised : (fact : Fact) (b : Basis) (n : ℕ) → fold raised n (events_of fact b) ≡ given b.changes (is_of_changes fact) n
fact-raised Fact.ReadyFiles b n = elim (cases_Bool (has_changes b.changes)) [
  | inl some ↦ rw some refl
  | inr none ↦ rw none (sym (given-none b.changes n none))
]
fact-raised Fact.ReadyKeys b n = if-still (has_settings b.settings) (Ready b.id (Part.Settings b.settings)) n refl
fact-raised Fact.Ready b n = caller-still b.caller b.managers (λ e. Ready b.id (enlistment_part e)) n (λ e. refl)
fact-raised Fact.Held b n = superior-still b.superior
  where
    superior-still : (o : Option Enlistment) → fold raised n (held_event b.id o) ≡ n
    superior-still None = refl
    superior-still (Some e) = refl
fact-raised Fact.Decide b n = if-still b.is_recorded (Decide b.id) n refl
fact-raised Fact.Undo b n = if-still b.is_recorded (Undo b.id) n refl
fact-raised Fact.DoneFiles b n = if-still (has_changes b.changes) (Done b.id DonePart.Files) n refl
fact-raised Fact.DoneKeys b n = if-still (has_settings b.settings) (Done b.id DonePart.Keys) n refl
fact-raised Fact.Done b n = caller-still b.caller b.managers (λ e. Done b.id (DonePart.Enlistment e.id)) n (λ e. refl)
fact-raised Fact.SingleFiles b n = refl
fact-raised Fact.SingleKeys b n = refl

-- the events that steps record raise the next number as the changes do, where a step records these, and else leave it
steps-raised : (steps : List Step) (b : Basis) (n : ℕ) → fold raised n (events_ahead steps b) ≡ given b.changes (records_files steps) n
steps-raised [] b n = refl
steps-raised (Step.Record fact ∷ steps) b n =
    fold-append raised n (events_of fact b) (events_ahead steps (record b { is_recorded = is_recorded_by fact b }))
    ∙ ap (λ m. fold raised m (events_ahead steps (record b { is_recorded = is_recorded_by fact b }))) (fact-raised fact b n)
    ∙ steps-raised steps (record b { is_recorded = is_recorded_by fact b }) (given b.changes (is_of_changes fact) n)
    ∙ given-again b.changes (is_of_changes fact) (records_files steps) n
steps-raised (Step.Commit ∷ steps) b n = steps-raised steps b n
steps-raised (Step.Tell who kind ∷ steps) b n = steps-raised steps b n
steps-raised (Step.Ask who kind owed ∷ steps) b n = steps-raised steps b n
steps-raised (Step.Change answer ∷ steps) b n = steps-raised steps b n
steps-raised (Step.Enter phase ∷ steps) b n = steps-raised steps b n
steps-raised (Step.Decide outcome ∷ steps) b n = steps-raised steps b n
steps-raised (Step.End outcome ∷ steps) b n = steps-raised steps b n
steps-raised (Step.EndWhereFinished outcome ∷ steps) b n = steps-raised steps b n

pub logs_next : (x : Present) (t : Transaction) (caller : Option Enlistment) (steps : List Step) → IsGoodState x.recorded → LogsNext x t caller steps
logs_next x t caller steps good =
    let c = course_of x t caller in
    all-raised (run steps c).events x.recorded (good-below x.recorded good)
    ∙ ap (λ es. fold raised x.recorded.next_node es) (events-ahead steps c)
    ∙ steps-raised steps (basis c) x.recorded.next_node
