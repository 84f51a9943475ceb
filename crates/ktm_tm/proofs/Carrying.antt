-- Steps that are carried out one after another.
use Rattle.std.proofs.Common.{true≢false, ◌≡◌, inl, inr, ℕ, zero, suc, ◌+◌, Bool, true, List, [], ◌∷◌, ◌++◌, length, map, Option, Some, None, refl, sym, ◌∙◌, ap, arith, length-append}
use Rattle.std.specs.Prelude.{is_some}
use Rattle.std.specs.List.{list_all, list_any}
use Rattle.std.proofs.lemmas.Bool.{and_from, and_parts, cases_Bool}
use Rattle.ktm_base.specs.declared.id.Id.{Id}
use Rattle.ktm_world.specs.declared.object.Transaction.{Transaction}
use Rattle.ktm_world.specs.declared.step.Answered.{Answered}
use Rattle.ktm_world.specs.declared.step.Owed.{Owed}
use Rattle.ktm_world.specs.declared.step.Step.{Step}
use Rattle.ktm_world.specs.Enlistments.{Enlistment, Manager, Sent, has_id, is_unfinished, manager_at, with_enlistments}
use Rattle.ktm_world.specs.Outcome.{served}
use Rattle.ktm_world.specs.Steps.{answered, is_one_of}
use Rattle.ktm_enlist.specs.Enlistments.{EnlistmentsState}
use Rattle.ktm_enlist.specs.Telling.{asked, has_manager}
use Rattle.ktm_manager.specs.Managers.{ManagersState}
use Rattle.ktm_manager.proofs.offered.Served.{served_nothing, served_twice, there_served}
use Rattle.ktm_world.specs.Transactions.{same_id}
use Rattle.ktm_tm.specs.declared.steps.Going.{Going}
use Rattle.ktm_tm.specs.Listed.{AreRecoveredBehind}
use Rattle.ktm_tm.specs.Steps.{After, after, after_all, only, visits_all, visits_of, with_answer, Carries, Leaves}

-- ---- enlistments keep their Ids, those of their resource managers and of their transactions, and stay recovered

-- the change keeps all four
pub record Keeps (f : Enlistment → Enlistment) : Type 0 where
  pub id : (e : Enlistment) → (f e).id ≡ e.id
  pub manager : (e : Enlistment) → (f e).manager ≡ e.manager
  pub transaction : (e : Enlistment) → (f e).transaction ≡ e.transaction
  pub recovered : (e : Enlistment) → e.is_recovered ≡ true → (f e).is_recovered ≡ true

pub asked_keeps : (owed : Option Owed) → Keeps (asked owed)
asked_keeps None = record { id = λ e. refl; manager = λ e. refl; transaction = λ e. refl; recovered = λ e is. is }
asked_keeps (Some owed) = record { id = λ e. refl; manager = λ e. refl; transaction = λ e. refl; recovered = λ e is. is }

pub answered_keeps : (answer : Answered) → Keeps (answered answer)
answered_keeps Answered.PrePrepared = record { id = λ e. refl; manager = λ e. refl; transaction = λ e. refl; recovered = λ e is. is }
answered_keeps Answered.Prepared = record { id = λ e. refl; manager = λ e. refl; transaction = λ e. refl; recovered = λ e is. is }
answered_keeps Answered.ReadOnly = record { id = λ e. refl; manager = λ e. refl; transaction = λ e. refl; recovered = λ e is. is }
answered_keeps Answered.Finished = record { id = λ e. refl; manager = λ e. refl; transaction = λ e. refl; recovered = λ e is. is }
answered_keeps Answered.Recovered = record { id = λ e. refl; manager = λ e. refl; transaction = λ e. refl; recovered = λ e is. refl }

-- a test of the three Ids comes out the same after the change
pub changed_test : (test : Id → Id → Id → Bool) (meant : Enlistment → Bool) (f : Enlistment → Enlistment) → Keeps f → (es : List Enlistment)
    → list_all (λ e. test e.id e.manager e.transaction) (with_enlistments meant f es) ≡ list_all (λ e. test e.id e.manager e.transaction) es
changed_test test meant f keeps [] = refl
changed_test test meant f keeps (e ∷ es) = elim (cases_Bool (meant e)) [
  | inl is ↦ rw (is, keeps.id e, keeps.manager e, keeps.transaction e, changed_test test meant f keeps es) refl
  | inr other ↦ rw (other, changed_test test meant f keeps es) refl
]

-- enlistments that are recovered are so after the change
pub changed_recovered : (meant : Enlistment → Bool) (f : Enlistment → Enlistment) → Keeps f → (back : ℕ) (es : List Enlistment) → AreRecoveredBehind back es → AreRecoveredBehind back (with_enlistments meant f es)
changed_recovered meant f keeps zero [] all = refl
changed_recovered meant f keeps zero (e ∷ es) all =
    let parts = and_parts e.is_recovered (list_all (λ (d : Enlistment). d.is_recovered) es) all in
    and_from _ _ (elim (cases_Bool (meant e)) [ inl is ↦ rw is (keeps.recovered e parts.0) | inr other ↦ rw other parts.0 ]) (changed_recovered meant f keeps zero es parts.1)
changed_recovered meant f keeps (suc back) [] none = absurd none
changed_recovered meant f keeps (suc back) (e ∷ es) rest = changed_recovered meant f keeps back es rest

-- what is kept where enlistments are told and where one answers is kept by steps
module _ (g : Going) (Holds : List Enlistment → Type 0)
    (told : (meant : Enlistment → Bool) (owed : Option Owed) (es : List Enlistment) → Holds es → Holds (with_enlistments meant (asked owed) es))
    (answers : (answer : Answered) (es : List Enlistment) → Holds es → Holds (with_answer g.caller answer es)) where
  after_step : (step : Step) (t : Transaction) (es : List Enlistment) → Holds es → Holds (after g step t es).enlistments
  after_step (Step.Record fact) t es holds = holds
  after_step Step.Commit t es holds = holds
  after_step (Step.Tell who kind) t es holds = told (is_one_of t.id g.caller who) None es holds
  after_step (Step.Ask who kind owed) t es holds = told (is_one_of t.id g.caller who) (Some owed) es holds
  after_step (Step.Change answer) t es holds = answers answer es holds
  after_step (Step.Enter phase) t es holds = holds
  after_step (Step.Decide outcome) t es holds = holds
  after_step (Step.End outcome) t es holds = told _ None es holds
  after_step (Step.EndWhereFinished outcome) t es holds = elim (cases_Bool (list_any (is_unfinished t.id) es)) [
    | inl is ↦ rw is holds
    | inr none ↦ rw none (told _ None es holds)
  ]

  pub after_steps : (steps : List Step) (t : Transaction) (es : List Enlistment) → Holds es → Holds (after_all g steps t es).enlistments
  after_steps [] t es holds = holds
  after_steps (step ∷ steps) t es holds = after_steps steps (after g step t es).transaction (after g step t es).enlistments (after_step step t es holds)

-- what is kept by changes that keep the Ids is kept by an answer
pub after_answer : (Holds : List Enlistment → Type 0) → ((meant : Enlistment → Bool) (f : Enlistment → Enlistment) → Keeps f → (es : List Enlistment) → Holds es → Holds (with_enlistments meant f es))
    → (caller : Option Id) (answer : Answered) (es : List Enlistment) → Holds es → Holds (with_answer caller answer es)
after_answer Holds kept None answer es holds = holds
after_answer Holds kept (Some id) answer es holds = kept (has_id id) (answered answer) (answered_keeps answer) es holds

-- a test of the three Ids comes out the same after a change
same_test : (test : Id → Id → Id → Bool) (es : List Enlistment) (meant : Enlistment → Bool) (f : Enlistment → Enlistment) → Keeps f → (fs : List Enlistment)
    → list_all (λ e. test e.id e.manager e.transaction) fs ≡ list_all (λ e. test e.id e.manager e.transaction) es
    → list_all (λ e. test e.id e.manager e.transaction) (with_enlistments meant f fs) ≡ list_all (λ e. test e.id e.manager e.transaction) es
same_test test es meant f keeps fs is = changed_test test meant f keeps fs ∙ is

-- it comes out the same after a step
pub after_test : (test : Id → Id → Id → Bool) (g : Going) (step : Step) (t : Transaction) (es : List Enlistment)
    → list_all (λ e. test e.id e.manager e.transaction) (after g step t es).enlistments ≡ list_all (λ e. test e.id e.manager e.transaction) es
after_test test g step t es =
    after_step g (λ fs. list_all (λ e. test e.id e.manager e.transaction) fs ≡ list_all (λ e. test e.id e.manager e.transaction) es) (λ meant owed. same_test test es meant (asked owed) (asked_keeps owed)) (after_answer _ (same_test test es) g.caller) step t es refl

-- it comes out the same after all steps
pub after_all_test : (test : Id → Id → Id → Bool) (g : Going) (steps : List Step) (t : Transaction) (es : List Enlistment)
    → list_all (λ e. test e.id e.manager e.transaction) (after_all g steps t es).enlistments ≡ list_all (λ e. test e.id e.manager e.transaction) es
after_all_test test g steps t es =
    after_steps g (λ fs. list_all (λ e. test e.id e.manager e.transaction) fs ≡ list_all (λ e. test e.id e.manager e.transaction) es) (λ meant owed. same_test test es meant (asked owed) (asked_keeps owed)) (after_answer _ (same_test test es) g.caller) steps t es refl

-- enlistments that are recovered are so after all steps
pub after_all_recovered : (g : Going) (steps : List Step) (t : Transaction) (back : ℕ) (es : List Enlistment) → AreRecoveredBehind back es → AreRecoveredBehind back (after_all g steps t es).enlistments
after_all_recovered g steps t back es =
    after_steps g (AreRecoveredBehind back) (λ meant owed. changed_recovered meant (asked owed) (asked_keeps owed) back) (after_answer _ (λ meant f keeps. changed_recovered meant f keeps back) g.caller) steps t es

-- the managers of all are there while these are served
pub there_all : (took : Option Id) (sent : List Sent) (ms : List Manager) (es : List Enlistment) → list_all (has_manager (map (served took sent) ms)) es ≡ list_all (has_manager ms) es
there_all took sent ms [] = refl
there_all took sent ms (e ∷ es) = rw (there_served took sent ms e.manager, there_all took sent ms es) refl

-- the managers of all are there where there is one manager more
pub there_more : (ms : List Manager) (m : Manager) (es : List Enlistment) → list_all (has_manager ms) es ≡ true → list_all (has_manager (ms ++ m ∷ [])) es ≡ true
there_more ms m [] all = refl
there_more ms m (e ∷ es) all =
    let parts = and_parts (has_manager ms e) (list_all (has_manager ms) es) all in
    and_from _ _ (at-more ms parts.0) (there_more ms m es parts.1)
  where
    at-more : (ms : List Manager) → is_some (manager_at ms e.manager) ≡ true → is_some (manager_at (ms ++ m ∷ []) e.manager) ≡ true
    at-more [] there = absurd (true≢false (sym there))
    at-more (n ∷ ms) there = elim (cases_Bool (same_id n.id e.manager)) [ inl is ↦ rw is refl | inr other ↦ rw other (at-more ms (rw other at there)) ]

-- the managers of all are there with one enlistment more, of a manager that is there
pub there_push : (ms : List Manager) (es : List Enlistment) (e : Enlistment) → list_all (has_manager ms) es ≡ true → is_some (manager_at ms e.manager) ≡ true → list_all (has_manager ms) (es ++ e ∷ []) ≡ true
there_push ms [] e all there = rw there refl
there_push ms (f ∷ es) e all there =
    let parts = and_parts (has_manager ms f) (list_all (has_manager ms) es) all in and_from _ _ parts.0 (there_push ms es e parts.1 there)

-- ---- a step, and the rest of them

-- where nothing is sent
pub only_carries : (t : Transaction) (es : EnlistmentsState) (ms : ManagersState) → Carries (only t es.enlistments) t es es ms ms
only_carries t es ms = record { transaction = refl; enlistments = refl; managers = sym (served_nothing ms.managers); spare = omega arith; enlistment_room = refl; manager_room = refl }

pub leaves_all : (g : Going) (steps : List Step) (t : Transaction) (es : EnlistmentsState) (ms : ManagersState) → list_all (has_manager ms.managers) es.enlistments ≡ true → Leaves g steps t es ms (after_all g steps t es.enlistments) es ms
leaves_all g steps t es ms there = record { there = there; transaction = refl; enlistments = refl; managers = refl; spare = refl; enlistment_room = refl; manager_room = refl }

-- the rest of the steps is left to do once one is carried out
pub next_left : (g : Going) (step : Step) (rest : List Step) (t t' : Transaction) (es es' : EnlistmentsState) (ms ms' : ManagersState) (all : After) (was : EnlistmentsState) (base : ManagersState)
    → Leaves g (step ∷ rest) t es ms all was base → Carries (after g step t es.enlistments) t' es es' ms ms' → Leaves g rest t' es' ms' all was base
next_left g step rest t t' es es' ms ms' all was base left carried =
    let sent = (after g step t es.enlistments).sent in
    let others = after_all g rest (after g step t es.enlistments).transaction (after g step t es.enlistments).enlistments in
    let same : after_all g rest t' es'.enlistments ≡ others = ap (λ t. after_all g rest t es'.enlistments) carried.transaction ∙ ap (after_all g rest (after g step t es.enlistments).transaction) carried.enlistments in
    record {
      there =
          ap (λ (l : List Manager). list_all (has_manager l) es'.enlistments) carried.managers ∙ there_all None sent ms.managers es'.enlistments
          ∙ ap (list_all (has_manager ms.managers)) carried.enlistments ∙ after_test (λ id manager transaction. is_some (manager_at ms.managers manager)) g step t es.enlistments ∙ left.there;
      transaction = ap (λ (a : After). a.transaction) same ∙ left.transaction;
      enlistments = ap (λ (a : After). a.enlistments) same ∙ left.enlistments;
      managers =
          ap (λ (a : After). map (served None a.sent) ms'.managers) same ∙ ap (map (served None others.sent)) carried.managers ∙ served_twice sent others.sent ms.managers ∙ left.managers;
      spare = omega (arith, carried.spare, left.spare, length-append sent others.sent, ap (λ (a : After). length a.sent) same);
      enlistment_room = carried.enlistment_room ∙ left.enlistment_room;
      manager_room = carried.manager_room ∙ left.manager_room;
    }

-- what the rest of the steps visits is left to visit once one is carried out
pub next_visited : (g : Going) (step : Step) (rest : List Step) (t t' : Transaction) (es es' : EnlistmentsState) (ms ms' : ManagersState) (before after' all : ℕ)
    → before + visits_all g (step ∷ rest) t es.enlistments ≡ all → Carries (after g step t es.enlistments) t' es es' ms ms' → after' ≡ before + visits_of step t.id g.caller es.enlistments → after' + visits_all g rest t' es'.enlistments ≡ all
next_visited g step rest t t' es es' ms ms' before after' all left carried counted =
    let same = ap (λ t. visits_all g rest t es'.enlistments) carried.transaction ∙ ap (visits_all g rest (after g step t es.enlistments).transaction) carried.enlistments in
    omega (arith, left, same, counted)

-- none is left
pub none_left : (g : Going) (t : Transaction) (es : EnlistmentsState) (ms : ManagersState) (all : After) (was : EnlistmentsState) (base : ManagersState) → Leaves g [] t es ms all was base → Carries all t was es base ms
none_left g t es ms all was base left = record {
  transaction = left.transaction;
  enlistments = left.enlistments;
  managers = sym (served_nothing ms.managers) ∙ left.managers;
  spare = left.spare ∙ omega arith;
  enlistment_room = left.enlistment_room;
  manager_room = left.manager_room;
}
