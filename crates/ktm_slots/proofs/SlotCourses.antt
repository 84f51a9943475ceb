-- What comes to a transaction sends no more than was owed to its enlistments.
use Rattle.std.specs.Prelude.{if◌then◌else◌}
use Rattle.std.proofs.Common.{◌≡◌, ℕ, ◌+◌, ◌≤◌, ◌*◌, ◌&&◌, ◌||◌, not, Bool, true, false, List, [], ◌∷◌, length, sum_by, Option, Some, None, refl, sym, ◌∙◌, ap, subst, arith, inl, inr}
use Rattle.std.proofs.lemmas.Bool.{cases_Bool, or_left, or_right, not_from_false, true≢false}
use Rattle.std.proofs.lemmas.List.Sums.{sum_by-cons}
use Rattle.std.proofs.lemmas.Option.{none-some}
use Rattle.ktm_base.specs.declared.id.Id.{Id}
use Rattle.ktm_world.specs.declared.input.PhaseInput.{PhaseInput}
use Rattle.ktm_world.specs.declared.object.Phase.{Phase}
use Rattle.ktm_world.specs.declared.object.Phase.TheVariants.{InDoubt, Committing, Aborting}
use Rattle.ktm_world.specs.declared.object.Transaction.{Transaction}
use Rattle.ktm_world.specs.declared.step.Step.{Step}
use Rattle.ktm_world.specs.Enlistments.{Enlistment, has_id, id_of, is_given, is_superior, takes_part}
use Rattle.ktm_world.specs.Labels.{holds_of}
use Rattle.ktm_world.specs.Phases.{Course}
use Rattle.ktm_world.specs.Present.{Present}
use Rattle.ktm_world.specs.Rows.{row}
use Rattle.ktm_world.specs.Steps.{led, run, seen}
use Rattle.ktm_world.specs.TransactionCalls.{course_of}
use Rattle.ktm_world.specs.Transactions.{change_at, same_id, transaction_at}
use Rattle.txf_laws.specs.Elements.{IsIn}
use Rattle.txf_laws.proofs.offered.Sums.{sum-less, sum-map-by, sum-plus, sum-same}
use Rattle.txf_laws.proofs.offered.Tables.{other_id, same_id-equal, same_id-from}
use Rattle.ktm_steps.specs.Fading.{Fades, GoesOn}
use Rattle.ktm_steps.proofs.offered.Fading.{fades-run}
use Rattle.ktm_steps.proofs.offered.Staying.{Stays, stays-led}
use Rattle.ktm_courses.specs.SoundCourse.{IsSoundCourse}
use Rattle.ktm_courses.proofs.offered.Arrivals.{RiseTransactions}
use Rattle.ktm_courses.proofs.offered.Moves.{same-by_id}
use Rattle.ktm_courses.proofs.offered.Calls.{transaction_at-found}
use Rattle.ktm_slots.specs.Owed.{owed_by, owed_in, owed_slots, part_owed, still_to_send, superior_owed}
use Rattle.ktm_slots.specs.Slots.{Comes}
use Rattle.ktm_slots.proofs.Costs.{case_in, case_of, cost, costs, owed, takes}
use Rattle.ktm_slots.proofs.RowCosts.{may_be, row-costs}

-- ---- transactions by their Ids

-- one that is there is found by its Id
pub at-itself : (ts : List Transaction) (t : Transaction) → RiseTransactions ts → IsIn t ts → transaction_at ts t.id ≡ Some t
at-itself ts t rises there = go (transaction_at ts t.id) refl
  where
    missing : (us : List Transaction) → IsIn t us → transaction_at us t.id ≡ None → ⊥
    missing [] there' none = there'
    missing (u ∷ us) there' none = elim (cases_Bool (same_id u.id t.id)) [
      | inl same ↦ none-some u (sym none ∙ rw same refl)
      | inr other ↦ elim there' [ inl e ↦ other_id u.id t.id other (ap (λ (v : Transaction). v.id) e) | inr later ↦ missing us later (rw other at none) ]
    ]

    go : (o : Option Transaction) → transaction_at ts t.id ≡ o → transaction_at ts t.id ≡ Some t
    go None found = absurd (missing ts there found)
    go (Some u) found = let at = transaction_at-found ts t.id u found in found ∙ ap Some (same-by_id (λ (t : Transaction). t.id) ts rises u t at.0 there at.1)

-- once a transaction is changed, the changed one is found by its Id
changed-itself : (ts : List Transaction) (t u : Transaction) → u.id ≡ t.id → IsIn t ts → transaction_at (change_at ts t.id (λ v. u)) t.id ≡ Some u
changed-itself [] t u same there = absurd there
changed-itself (v ∷ vs) t u same there = elim (cases_Bool (same_id v.id t.id)) [
  | inl is ↦ rw (is, same_id-from u.id t.id same) refl
  | inr other ↦ rw (other, other) (elim there [ inl e ↦ absurd (other_id v.id t.id other (ap (λ (w : Transaction). w.id) e)) | inr later ↦ changed-itself vs t u same later ])
]

-- once a transaction is changed, the others are found as before
changed-others : (ts : List Transaction) (t u : Transaction) (id : Id) → u.id ≡ t.id → same_id id t.id ≡ false → transaction_at (change_at ts t.id (λ v. u)) id ≡ transaction_at ts id
changed-others [] t u id same differs = refl
changed-others (v ∷ vs) t u id same differs = elim (cases_Bool (same_id v.id t.id)) [
  | inl is ↦ rw (is, apart u.id same, apart v.id (same_id-equal v.id t.id is)) refl
  | inr other ↦ rw other (elim (cases_Bool (same_id v.id id)) [ inl here ↦ rw here refl | inr away ↦ rw away (changed-others vs t u id same differs) ])
]
  where
    apart : (k : Id) → k ≡ t.id → same_id k id ≡ false
    apart k is = elim (cases_Bool (same_id k id)) [ inl again ↦ absurd (other_id id t.id differs (sym (same_id-equal k id again) ∙ is)) | inr away ↦ away ]

-- ---- what is owed to enlistments that go on

-- to one of another transaction
abbrev to_others : List Transaction → Id → Enlistment → ℕ
to_others ts own e = if same_id e.transaction own then 0 else owed_by (transaction_at ts e.transaction) e

part-less : (phase : Phase) (before after : Bool) → (before ≡ true → after ≡ true) → part_owed phase after ≤ part_owed phase before
part-less phase true true stays = omega arith
part-less phase false false stays = omega arith
part-less phase true false stays = absurd (true≢false (sym (stays refl)))
part-less InDoubt false true stays = omega arith
part-less Committing false true stays = omega arith
part-less Aborting false true stays = omega arith
part-less _ false true stays = omega arith

superior-less : (phase : Phase) (before after : Bool) → (before ≡ true → after ≡ true) → superior_owed phase after ≤ superior_owed phase before
superior-less phase true true stays = omega arith
superior-less phase false false stays = omega arith
superior-less phase true false stays = absurd (true≢false (sym (stays refl)))
superior-less InDoubt false true stays = omega arith
superior-less _ false true stays = omega arith

-- it is read-only and recovered where it was, and no more is owed to it
still-less : (phase : Phase) (e f : Enlistment) → GoesOn e f → still_to_send phase f ≤ still_to_send phase e
still-less phase e f goes = elim (cases_Bool (is_superior e)) [
  | inl above ↦ rw (ap is_superior goes.lasts ∙ above, above) (superior-less phase e.is_recovered f.is_recovered goes.recovered)
  | inr below ↦ rw (ap is_superior goes.lasts ∙ below, below) (elim (cases_Bool f.is_read_only) [
    | inl reads ↦ rw reads (omega arith)
    | inr takes ↦ rw (takes, took takes) (part-less phase e.is_recovered f.is_recovered goes.recovered)
  ])
]
  where
    took : f.is_read_only ≡ false → e.is_read_only ≡ false
    took takes = elim (cases_Bool e.is_read_only) [ inl read ↦ absurd (true≢false (sym (goes.read_only read) ∙ takes)) | inr is ↦ is ]

owed_by-less : (o : Option Transaction) (e f : Enlistment) → GoesOn e f → owed_by o f ≤ owed_by o e
owed_by-less None e f goes = omega arith
owed_by-less (Some t) e f goes = still-less t.phase e f goes

others-less : (ts : List Transaction) (own : Id) (e f : Enlistment) → GoesOn e f → to_others ts own f ≤ to_others ts own e
others-less ts own e f goes =
    let same : to_others ts own f ≡ (if same_id e.transaction own then 0 else owed_by (transaction_at ts e.transaction) f) = λ i. if same_id (goes.lasts i).transaction own then 0 else owed_by (transaction_at ts (goes.lasts i).transaction) f in
    subst (λ n. n ≤ to_others ts own e) (sym same) (elim (cases_Bool (same_id e.transaction own)) [ inl is ↦ rw is (omega arith) | inr other ↦ rw other (owed_by-less (transaction_at ts e.transaction) e f goes) ])

-- what is owed to an enlistment is owed by its transaction or by another one
parts-owed : (ts us : List Transaction) (own : Id) (u : Transaction) (caller : Option Id) → transaction_at us own ≡ Some u → ((id : Id) → same_id id own ≡ false → transaction_at us id ≡ transaction_at ts id)
    → (e : Enlistment) → owed_by (transaction_at us e.transaction) e ≡ owed u.phase (case_of own caller e) + to_others ts own e
parts-owed ts us own u caller here elsewhere e = elim (cases_Bool (same_id e.transaction own)) [
  | inl is ↦ let at : transaction_at us e.transaction ≡ Some u = ap (transaction_at us) (same_id-equal e.transaction own is) ∙ here in rw (at, is) (omega arith)
  | inr other ↦ rw (elsewhere e.transaction other, other) (omega arith)
]

all-owed : (ts us : List Transaction) (own : Id) (u : Transaction) (caller : Option Id) → transaction_at us own ≡ Some u → ((id : Id) → same_id id own ≡ false → transaction_at us id ≡ transaction_at ts id)
    → (es : List Enlistment) → owed_in us es ≡ sum_by (λ e. owed u.phase (case_of own caller e)) es + sum_by (to_others ts own) es
all-owed ts us own u caller here elsewhere es =
    sum-same (λ e. owed_by (transaction_at us e.transaction) e) (λ e. owed u.phase (case_of own caller e) + to_others ts own e) es (λ e there. parts-owed ts us own u caller here elsewhere e)
    ∙ sum-plus (λ e. owed u.phase (case_of own caller e)) (to_others ts own) es

-- ---- what comes

-- the one that calls is as it is asked, and the only one with its Id
asked-caller : (x : Present) → IsSoundCourse x → (caller : Option Enlistment) → ((e : Enlistment) → caller ≡ Some e → IsIn e x.transactions.enlistments) → (test : Enlistment → Bool) → holds_of test caller ≡ true
    → (e : Enlistment) → IsIn e x.transactions.enlistments → (not (is_given (id_of caller) e) || test e) ≡ true
asked-caller x sound None calls test asked e there = refl
asked-caller x sound (Some g) calls test asked e there = elim (cases_Bool (has_id g.id e)) [
  | inl is ↦ or_right _ _ (subst (λ f. test f ≡ true) (same-by_id (λ (e : Enlistment). e.id) x.transactions.enlistments sound.enlistments.rise g e (calls g refl) there (sym (same_id-equal e.id g.id is))) asked)
  | inr other ↦ or_left _ _ (not_from_false _ other)
]

may-be : (x : Present) (t : Transaction) (caller : Option Enlistment) (input : PhaseInput) → IsSoundCourse x → Comes x t caller input
    → (e : Enlistment) → IsIn e x.transactions.enlistments → may_be input (case_of t.id (id_of caller) e) ≡ true
may-be x t caller PhaseInput.SinglePhaseReject sound comes e there = asked-caller x sound caller comes.calls (takes_part t.id) comes.from e there
may-be x t caller PhaseInput.Recover sound comes e there = asked-caller x sound caller comes.calls (λ e. takes_part t.id e && not e.is_recovered) comes.from e there
may-be x t caller PhaseInput.RecoverSuperior sound comes e there = asked-caller x sound caller comes.calls (λ e. same_id e.transaction t.id && is_superior e && not e.is_recovered) comes.from e there
may-be x t caller _ sound comes e there = refl

pub course-paid : (x : Present) (t : Transaction) (caller : Option Enlistment) (input : PhaseInput) → IsSoundCourse x → Comes x t caller input
    → let d = led input (course_of x t caller) in length d.sent + owed_in (change_at x.transactions.items t.id (λ u. d.transaction)) d.enlistments ≤ owed_slots x
unfolding led
course-paid x t caller input sound comes =
    let paid = (costs steps c).paid in
    let less = sum-less (λ e. cost t.phase steps (case_in c e)) (λ e. owed t.phase (case_in c e)) es (λ e there. row-costs (seen c) input comes.phase (case_in c e) (may-be x t caller input sound comes e there)) in
    let before = all-owed ts ts t.id t (id_of caller) (at-itself ts t sound.transactions.rise comes.there) (λ id other. refl) es in
    let after = all-owed ts (change_at ts t.id (λ u. d.transaction)) t.id d.transaction (id_of d.caller) (changed-itself ts t d.transaction stays.id comes.there) (λ id other. changed-others ts t d.transaction id stays.id other) d.enlistments in
    let named = ap (λ own. sum_by (λ e. owed d.transaction.phase (case_of own (id_of d.caller) e)) d.enlistments) stays.id in
    let faded = ap (sum_by (to_others ts t.id)) fades.is in
    let moved = sum-map-by (to_others ts t.id) fades.change es in
    let others = sum-less (λ e. to_others ts t.id (fades.change e)) (to_others ts t.id) es (λ e there. others-less ts t.id e (fades.change e) (fades.each e)) in
    omega arith
  where
    c : Course
    c = course_of x t caller

    steps : List Step
    steps = row (seen c) input

    d : Course
    d = run steps c

    ts : List Transaction
    ts = x.transactions.items

    es : List Enlistment
    es = x.transactions.enlistments

    stays : Stays c d
    stays = stays-led input c

    fades : Fades c d
    fades = fades-run steps c

-- ---- no more than five

part-few : (phase : Phase) (recovered : Bool) → part_owed phase recovered ≤ 5
part-few InDoubt true = omega arith
part-few InDoubt false = omega arith
part-few Committing true = omega arith
part-few Committing false = omega arith
part-few Aborting true = omega arith
part-few Aborting false = omega arith
part-few _ recovered = omega arith

superior-few : (phase : Phase) (recovered : Bool) → superior_owed phase recovered ≤ 5
superior-few InDoubt true = omega arith
superior-few InDoubt false = omega arith
superior-few _ recovered = omega arith

pub few-still : (phase : Phase) (e : Enlistment) → still_to_send phase e ≤ 5
few-still phase e = elim (cases_Bool (is_superior e)) [
  | inl above ↦ rw above (superior-few phase e.is_recovered)
  | inr below ↦ rw below (elim (cases_Bool e.is_read_only) [ inl reads ↦ rw reads (omega arith) | inr takes ↦ rw takes (part-few phase e.is_recovered) ])
]

pub few-by : (o : Option Transaction) (e : Enlistment) → owed_by o e ≤ 5
few-by None e = omega arith
few-by (Some t) e = few-still t.phase e

pub few-in : (ts : List Transaction) (es : List Enlistment) → owed_in ts es ≤ 5 * length es
few-in ts [] = omega arith
few-in ts (e ∷ es) =
    let rest = few-in ts es in
    let one = few-by (transaction_at ts e.transaction) e in
    let all = sum_by-cons (λ e. owed_by (transaction_at ts e.transaction) e) e es in
    omega arith
