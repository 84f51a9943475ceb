-- The calls on transactions and enlistments that are there: what each comes to is sound.
use Rattle.std.proofs.Common.{◌≡◌, ℕ, ◌&&◌, not, Bool, true, false, List, [], ◌∷◌, map, filter, Option, Some, None, refl, sym, ◌∙◌, ap, subst, inl, inr}
use Rattle.std.specs.Prelude.{option_and_then, if◌then◌else◌}
use Rattle.std.proofs.lemmas.Bool.{cases_Bool, and_parts, and_from, or_left, true≢false, not-true}
use Rattle.std.proofs.lemmas.Option.{none-some, same_Some}
use Rattle.ktm_base.specs.declared.id.Id.{Id}
use Rattle.ktm_base.specs.declared.id.Label.{Label}
use Rattle.ktm_base.specs.declared.id.Pid.{Pid}
use Rattle.ktm_base.specs.declared.notify.Notify.{Notify}
use Rattle.ktm_base.specs.declared.refusal.Refusal.{Refusal}
use Rattle.ktm_world.specs.declared.input.PhaseInput.{PhaseInput}
use Rattle.ktm_world.specs.declared.object.Phase.{Phase}
use Rattle.ktm_world.specs.declared.object.Phase.TheVariants.{Active, Requested, PrePrepared, SinglePhase, Held, InDoubt, Committing, Aborting, Ended}
use Rattle.ktm_world.specs.declared.object.Transaction.{Transaction}
use Rattle.ktm_world.specs.declared.reply.Reply.{Reply}
use Rattle.ktm_world.specs.declared.reply.Reply.TheVariants.{Done}
use Rattle.ktm_world.specs.declared.step.Owed.{Owed}
use Rattle.ktm_world.specs.Enlistments.{Enlistment, Manager, Sent, is_superior, is_open_for_votes, owes_pre_prepare, owes_prepare, owes_commit, owes_rollback, manager_at, enlistment_at}
use Rattle.ktm_world.specs.Handles.{object_at, transaction_id}
use Rattle.ktm_world.specs.Labels.{transaction_named, manager_named, manager_id, enlistment_named, enlistment_id, holds_of, transaction_tests}
use Rattle.ktm_world.specs.Outcome.{first_refusal, Outcome, only_reply}
use Rattle.ktm_world.specs.Phases.{Course, is_single_phase}
use Rattle.ktm_world.specs.Present.{Present}
use Rattle.ktm_world.specs.TransactionCalls.{course_of, commit_reply, commit_of, aborted_by, rollback_of, may_roll_back, rollback_transaction_tests, transaction_in, phase_passes, is_voting, lets_superior_roll_back, before_pre_prepare, before_prepare, waits_for_superior, may_vote, may_roll_back_by, may_reject_one_phase, may_recover, enlistment_tests, superior_tests, goes_on, answering, is_to_recover, recover_notes, recover_all, take_first, recovery_of, arrived}
use Rattle.ktm_world.specs.Steps.{led, share_of, run}
use Rattle.ktm_world.specs.Transactions.{same_id, transaction_at, is_active}
use Rattle.ktm_steps.specs.Outcomes.{MayCome, known}
use Rattle.txf_laws.specs.Elements.{IsIn}
use Rattle.ktm_courses.specs.SoundCourse.{IsSoundCourse, is_note_of, is_outcome_of, is_unrecovered_well}
use Rattle.txf_laws.proofs.offered.Lists.{IsIn-cases, IsIn-unmap}
use Rattle.txf_laws.proofs.offered.Elements.{IsIn-filter, list_any-from, not-not}
use Rattle.txf_laws.proofs.offered.Tables.{same_id-equal, same_id-from}
use Rattle.ktm_courses.proofs.offered.Endings.{Stands, Arrives, is_backed-from, arrives-committing}
use Rattle.ktm_courses.proofs.offered.CommitsBegun.{Fresh, arrives-to_prepare, arrives-to_pre_prepare, arrives-to_commit}
use Rattle.ktm_courses.proofs.offered.EnlistmentAnswers.{stands-in, here-from, fresh-from, can_roll_back, voting-rolls, undecided-rolls, undecided-pre_prepare, undecided-prepare, is-committing, is-aborting, owed-commit, owed-rollback, phase-owing, arrives-rolled_back, arrives-pre_prepare_complete, arrives-prepare_complete, arrives-read_only, arrives-single_phase_reject, arrives-commit_complete, arrives-rollback_complete, arrives-recovered}
use Rattle.ktm_courses.proofs.offered.Arrivals.{stands-now, brought-now}
use Rattle.ktm_courses.proofs.offered.Outcomes.{stay-refl, none-known, known-in}
use Rattle.ktm_courses.proofs.offered.OutcomesMade.{IsSoundOutcome, sound-only_reply, sound-arrived}
use Rattle.ktm_courses.proofs.offered.Moves.{NoBoots-none, find-found, if_parts}
use Rattle.ktm_world.specs.Rows.{commits}

-- ---- refusals

-- no test holds
pub record Passes (tests : List (Bool × Refusal)) : Type 0 where
  pub none : first_refusal tests ≡ None

pub passed : {test : Bool × Refusal} {tests : List (Bool × Refusal)} → Passes (test ∷ tests) → (test.0 ≡ false) × Passes tests
passed {test} {tests} passes = elim (cases_Bool test.0) [
  | inl is ↦ absurd (none-some test.1 (sym passes.none ∙ rw is refl))
  | inr fails ↦ (fails, record { none = rw fails at passes.none })
]

-- ---- what is there

pub transaction_at-found : (ts : List Transaction) (id : Id) (t : Transaction) → transaction_at ts id ≡ Some t → IsIn t ts × (t.id ≡ id)
transaction_at-found [] id t found = absurd (none-some t found)
transaction_at-found (a ∷ ts) id t found = elim (cases_Bool (same_id a.id id)) [
  | inl same ↦ let e : a ≡ t = same_Some a t (rw same at found) in (inl e, ap (λ (r : Transaction). r.id) (sym e) ∙ same_id-equal a.id id same)
  | inr other ↦ let rest = transaction_at-found ts id t (rw other at found) in (inr rest.0, rest.1)
]

-- what was found by way of something else
pub and_then-found : {X Y : Type 0} (f : X → Option Y) (o : Option X) (y : Y) → option_and_then f o ≡ Some y → (x : X) × (o ≡ Some x) × (f x ≡ Some y)
and_then-found f None y found = absurd (none-some y found)
and_then-found f (Some x) y found = (x, refl, found)

pub transaction-named : (x : Present) (process : Pid) (label : Label) (t : Transaction) → transaction_named x process label ≡ Some t → IsIn t (x.transactions).items
transaction-named x process label t is = let id = and_then-found (transaction_at (x.transactions).items) (transaction_id (object_at x.handles process label)) t is in (transaction_at-found (x.transactions).items id.0 t id.2).0

pub manager-named : (x : Present) (process : Pid) (label : Label) (m : Manager) → manager_named x process label ≡ Some m → IsIn m x.managers
manager-named x process label m is = let id = and_then-found (manager_at x.managers) (manager_id (object_at x.handles process label)) m is in (find-found _ x.managers m id.2).0

pub enlistment-named : (x : Present) (process : Pid) (label : Label) (e : Enlistment) → enlistment_named x process label ≡ Some e → IsIn e (x.transactions).enlistments
enlistment-named x process label e is = let id = and_then-found (enlistment_at (x.transactions).enlistments) (enlistment_id (object_at x.handles process label)) e is in (find-found _ (x.transactions).enlistments e id.2).0

-- ---- phases

pub active-phase : (t : Transaction) → is_active t ≡ true → t.phase ≡ Active
active-phase t = go t.phase
  where
    go : (phase : Phase) → is_active (record t { phase = phase }) ≡ true → phase ≡ Active
    go Active is = refl
    go _ is = absurd (true≢false (sym is))

pub may-roll : (t : Transaction) → may_roll_back t ≡ true → can_roll_back t.phase ≡ true
may-roll t = go t.phase
  where
    go : (phase : Phase) → may_roll_back (record t { phase = phase }) ≡ true → can_roll_back phase ≡ true
    go Committing is = is
    go Aborting is = is
    go Ended is = is
    go _ is = refl

superior-rolls : (phase : Phase) → lets_superior_roll_back phase ≡ true → can_roll_back phase ≡ true
superior-rolls Committing is = is
superior-rolls Aborting is = is
superior-rolls Ended is = is
superior-rolls _ is = refl

pub waiting-rolls : (phase : Phase) → waits_for_superior phase ≡ true → can_roll_back phase ≡ true
waiting-rolls Committing is = is
waiting-rolls Aborting is = is
waiting-rolls Ended is = is
waiting-rolls _ is = refl

pub single-phase : (phase : Phase) → is_single_phase phase ≡ true → phase ≡ SinglePhase
single-phase SinglePhase is = refl
single-phase _ is = absurd (true≢false (sym is))

-- ---- transactions

module _ (x : Present) (sound : IsSoundCourse x) (t : Transaction) (there : IsIn t (x.transactions).items) (caller : Option Enlistment) where
  abbrev boot : ℕ
  boot = (x.recorded).boots

  abbrev c : Course
  c = course_of x t caller

  stands : Stands boot c
  stands = stands-now x t caller sound there

  pub fresh-active : t.phase ≡ Active → Fresh boot c
  fresh-active is = let at = stands-in boot c Active is stands in fresh-from boot c at.outcome (here-from boot (record t { phase = Active }) refl at.boots) at.recorded at.stand (brought-now x t caller sound)

  fresh-requested : t.phase ≡ Requested → Fresh boot c
  fresh-requested is = let at = stands-in boot c Requested is stands in fresh-from boot c at.outcome (here-from boot (record t { phase = Requested }) refl at.boots) at.recorded at.stand (brought-now x t caller sound)

  fresh-pre_prepared : t.phase ≡ PrePrepared → Fresh boot c
  fresh-pre_prepared is = let at = stands-in boot c PrePrepared is stands in fresh-from boot c at.outcome (here-from boot (record t { phase = PrePrepared }) refl at.boots) at.recorded at.stand (brought-now x t caller sound)

  pub fresh-before_prepare : (phase : Phase) → t.phase ≡ phase → before_prepare phase ≡ true → Fresh boot c
  fresh-before_prepare Active is before = fresh-active is
  fresh-before_prepare Requested is before = fresh-requested is
  fresh-before_prepare PrePrepared is before = fresh-pre_prepared is
  fresh-before_prepare _ is before = absurd (true≢false (sym before))

  pub fresh-before_pre_prepare : (phase : Phase) → t.phase ≡ phase → before_pre_prepare phase ≡ true → Fresh boot c
  fresh-before_pre_prepare Active is before = fresh-active is
  fresh-before_pre_prepare Requested is before = fresh-requested is
  fresh-before_pre_prepare _ is before = absurd (true≢false (sym before))

  pub commits-waiting : (phase : Phase) → t.phase ≡ phase → waits_for_superior phase ≡ true → Arrives boot c (run commits c)
  commits-waiting Held is waits = let at = stands-in boot c Held is stands in arrives-committing boot c (record { backed = is_backed-from boot t stands.boots; stand = at.stand; recorded = or_left _ _ at.recorded })
  commits-waiting InDoubt is waits = let at = stands-in boot c InDoubt is stands in arrives-committing boot c (record { backed = is_backed-from boot t stands.boots; stand = at.stand; recorded = or_left _ _ at.recorded })
  commits-waiting _ is waits = absurd (true≢false (sym waits))

  -- it rolls back
  pub rolled_back : can_roll_back t.phase ≡ true → Arrives boot c (led PhaseInput.Rollback c)
  rolled_back can = arrives-rolled_back boot c stands (brought-now x t caller sound) can

  pub sound-aborted_by : (reply : Reply) → ((e : Enlistment) → caller ≡ Some e → IsIn e (x.transactions).enlistments) → can_roll_back t.phase ≡ true → IsSoundOutcome x (aborted_by x t caller reply)
  sound-aborted_by reply calls can =
      let goes = rolled_back can in sound-arrived x t caller PhaseInput.Rollback reply sound there calls goes (none-known t (undecided-rolls t can stands.outcome))

pub sound-commit_of : (x : Present) (o : Option Transaction) → IsSoundCourse x → ((t : Transaction) → o ≡ Some t → IsIn t (x.transactions).items) → Passes (transaction_tests o) → IsSoundOutcome x (commit_of x o)
sound-commit_of x None sound there tests = sound-only_reply x Done sound
sound-commit_of x (Some t) sound there tests =
    let here = passed tests in let committed = passed here.1 in let aborted = passed committed.1 in let active = passed aborted.1 in
    let is = active-phase t (not-not _ active.0) in
    let c = course_of x t None in
    let fresh = fresh-active x sound t (there t refl) None is in
    sound-arrived x t None PhaseInput.CommitTransaction (commit_reply (led PhaseInput.CommitTransaction c)) sound (there t refl) (λ e is. absurd (none-some e is))
    (arrives-to_commit (x.recorded).boots c fresh)
    (none-known t fresh.undecided)

pub sound-rollback_of : (x : Present) (o : Option Transaction) → IsSoundCourse x → ((t : Transaction) → o ≡ Some t → IsIn t (x.transactions).items) → Passes (rollback_transaction_tests o) → IsSoundOutcome x (rollback_of x o)
sound-rollback_of x None sound there tests = sound-only_reply x Done sound
sound-rollback_of x (Some t) sound there tests =
    let here = passed tests in let committed = passed here.1 in let aborted = passed committed.1 in let may = passed aborted.1 in
    sound-aborted_by x sound t (there t refl) None Done (λ e is. absurd (none-some e is)) (may-roll t (not-not _ may.0))

-- ---- enlistments

-- by what comes it goes on and is sound again, and this may come where so much is known of the outcome
pub record Goes (boot : ℕ) (c : Course) (input : PhaseInput) : Type 0 where
  pub arrives : Arrives boot c (led input c)
  pub may : MayCome (known c) (c.transaction).phase input

-- a transaction goes on by what comes from an enlistment
abbrev pub Answers : Present → PhaseInput → Enlistment → Type 0
Answers x input e = (t : Transaction) → IsIn t (x.transactions).items → same_id e.transaction t.id ≡ true → transaction_in x e ≡ Some t → Goes (x.recorded).boots (course_of x t (Some e)) input

-- what is so of a reply alone, and of where its transaction is led, is so of a call of an enlistment
pub of-answering : (P : Outcome → Type 0) (x : Present) (o : Option Enlistment) (input : Enlistment → PhaseInput) → P (only_reply x Done)
    → ((e : Enlistment) → o ≡ Some e → (t : Transaction) → IsIn t (x.transactions).items → same_id e.transaction t.id ≡ true → transaction_in x e ≡ Some t → P (arrived x (led (input e) (course_of x t (Some e))) Done)) → P (answering x o input)
of-answering P x None input replies leads = replies
of-answering P x (Some e) input replies leads = go (transaction_in x e) refl
  where
    go : (o : Option Transaction) → transaction_in x e ≡ o → P (goes_on x e o (input e))
    go None is = replies
    go (Some t) is = let found = transaction_at-found (x.transactions).items e.transaction t is in leads e refl t found.0 (same_id-from e.transaction t.id (sym found.1)) is

pub sound-answering : (x : Present) (o : Option Enlistment) (input : Enlistment → PhaseInput) → IsSoundCourse x → ((e : Enlistment) → o ≡ Some e → IsIn e (x.transactions).enlistments) → ((e : Enlistment) → o ≡ Some e → Answers x (input e) e) → IsSoundOutcome x (answering x o input)
sound-answering x o input sound there answers = of-answering (IsSoundOutcome x) x o input (sound-only_reply x Done sound) (λ e is t at own found.
    let goes = answers e is t at own found in
    sound-arrived x t (Some e) (input e) Done sound at (λ f same. subst (λ g. IsIn g (x.transactions).enlistments) (same_Some e f same) (there e is)) goes.arrives goes.may)

pub enlistment-allowed : (o : Option Enlistment) (allowed : Enlistment → Bool) (e : Enlistment) → o ≡ Some e → Passes (enlistment_tests o allowed) → allowed e ≡ true
enlistment-allowed o allowed e is tests =
    let tests' = subst (λ o. Passes (enlistment_tests o allowed)) is tests in
    not-not _ (passed (passed tests').1).0

pub superior-allowed : (x : Present) (o : Option Enlistment) (allowed : Phase → Bool) (e : Enlistment) → o ≡ Some e → Passes (superior_tests x o allowed) → phase_passes x allowed e ≡ true
superior-allowed x o allowed e is tests =
    let tests' = subst (λ o. Passes (superior_tests x o allowed)) is tests in
    not-not _ (passed (passed (passed tests').1).1).0

-- the phase of its transaction
pub phase-passed : (x : Present) (test : Phase → Bool) (e : Enlistment) (t : Transaction) → transaction_in x e ≡ Some t → phase_passes x test e ≡ true → test t.phase ≡ true
phase-passed x test e t is passes = subst (λ (o : Option Transaction). holds_of (λ t. test t.phase) o ≡ true) is passes

module _ (x : Present) (sound : IsSoundCourse x) (e : Enlistment) (in_es : IsIn e (x.transactions).enlistments) (t : Transaction) (there : IsIn t (x.transactions).items) (own : same_id e.transaction t.id ≡ true) where
  abbrev n : ℕ
  n = (x.recorded).boots

  abbrev c_by : Course
  c_by = course_of x t (Some e)

  stands_by : Stands n c_by
  stands_by = stands-now x t (Some e) sound there

  brought : (f : Enlistment) → IsIn f c_by.enlistments → is_unrecovered_well n c_by.managers f ≡ true
  brought = brought-now x t (Some e) sound

  -- nothing is known where it could roll back
  free : can_roll_back t.phase ≡ true → known c_by ≡ None
  free can = none-known t (undecided-rolls t can stands_by.outcome)

  pre_prepares : owes_pre_prepare e ≡ true → Goes n c_by PhaseInput.PrePrepareComplete
  pre_prepares owes = record {
    arrives = arrives-pre_prepare_complete n c_by e stands_by brought sound.enlistments.rise in_es own owes;
    may = none-known t (undecided-pre_prepare n c_by e stands_by brought sound.enlistments.rise in_es own owes);
  }

  prepares : owes_prepare e ≡ true → Goes n c_by PhaseInput.PrepareComplete
  prepares owes = record {
    arrives = arrives-prepare_complete n c_by e stands_by brought sound.enlistments.rise in_es own owes;
    may = none-known t (undecided-prepare n c_by e stands_by brought sound.enlistments.rise in_es own owes);
  }

  reads_only : is_superior e ≡ false → is_open_for_votes e ≡ true → is_voting t.phase ≡ true → Goes n c_by (PhaseInput.ReadOnly (share_of e))
  reads_only ordinary votes voting = record { arrives = arrives-read_only n c_by e stands_by brought sound.enlistments.rise in_es own ordinary votes voting; may = free (voting-rolls t.phase voting) }

  commits_by : owes_commit e ≡ true → Goes n c_by PhaseInput.CommitComplete
  commits_by owes = record {
    arrives = arrives-commit_complete n c_by e stands_by brought sound.enlistments.rise in_es own owes;
    may = elim (is-committing t.phase (phase-owing n c_by e stands_by brought sound.enlistments.rise in_es own Owed.Commit (owed-commit e owes))) [
      | inl phase ↦ inr (known-in Committing t (subst (λ p. is_outcome_of p t ≡ true) phase stands_by.outcome))
      | inr phase ↦ inl (free (subst (λ p. can_roll_back p ≡ true) (sym phase) refl))
    ];
  }

  rolls_back : owes_rollback e ≡ true → Goes n c_by PhaseInput.RollbackComplete
  rolls_back owes = record {
    arrives = arrives-rollback_complete n c_by e stands_by brought sound.enlistments.rise in_es own owes;
    may = inr (known-in Aborting t (subst (λ p. is_outcome_of p t ≡ true) (is-aborting t.phase (phase-owing n c_by e stands_by brought sound.enlistments.rise in_es own Owed.Rollback (owed-rollback e owes))) stands_by.outcome));
  }

  rejects : t.phase ≡ SinglePhase → owes_commit e ≡ true → Goes n c_by PhaseInput.SinglePhaseReject
  rejects single owes = record { arrives = arrives-single_phase_reject n c_by e stands_by brought sound.enlistments.rise in_es own single owes; may = tt }

  recovers : e.is_recovered ≡ false → Goes n c_by (recovery_of e)
  recovers back = record { arrives = arrives-recovered n c_by e stands_by brought sound.enlistments.rise in_es own back; may = may (is_superior e) }
    where
      may : (above : Bool) → MayCome (known c_by) t.phase (if above then PhaseInput.RecoverSuperior else PhaseInput.Recover)
      may true = tt
      may false = known-in t.phase t stands_by.outcome

module _ (x : Present) (sound : IsSoundCourse x) (o : Option Enlistment) (there : (e : Enlistment) → o ≡ Some e → IsIn e (x.transactions).enlistments) where
  pub goes-pre_prepare_complete : Passes (enlistment_tests o owes_pre_prepare) → (e : Enlistment) → o ≡ Some e → Answers x PhaseInput.PrePrepareComplete e
  goes-pre_prepare_complete tests e is t at own found = pre_prepares x sound e (there e is) t at own (enlistment-allowed o owes_pre_prepare e is tests)

  pub goes-prepare_complete : Passes (enlistment_tests o owes_prepare) → (e : Enlistment) → o ≡ Some e → Answers x PhaseInput.PrepareComplete e
  goes-prepare_complete tests e is t at own found = prepares x sound e (there e is) t at own (enlistment-allowed o owes_prepare e is tests)

  pub goes-read_only : Passes (enlistment_tests o (may_vote x)) → (e : Enlistment) → o ≡ Some e → Answers x (PhaseInput.ReadOnly (share_of e)) e
  goes-read_only tests e is t at own found =
      let phase = and_parts (not (is_superior e) && is_open_for_votes e) (phase_passes x is_voting e) (enlistment-allowed o (may_vote x) e is tests) in
      let both = and_parts (not (is_superior e)) (is_open_for_votes e) phase.0 in
      reads_only x sound e (there e is) t at own (not-true _ both.0) both.1 (phase-passed x is_voting e t found phase.1)

  pub goes-commit_complete : Passes (enlistment_tests o owes_commit) → (e : Enlistment) → o ≡ Some e → Answers x PhaseInput.CommitComplete e
  goes-commit_complete tests e is t at own found = commits_by x sound e (there e is) t at own (enlistment-allowed o owes_commit e is tests)

  pub goes-rollback_complete : Passes (enlistment_tests o owes_rollback) → (e : Enlistment) → o ≡ Some e → Answers x PhaseInput.RollbackComplete e
  goes-rollback_complete tests e is t at own found = rolls_back x sound e (there e is) t at own (enlistment-allowed o owes_rollback e is tests)

  pub goes-single_phase_reject : Passes (enlistment_tests o (may_reject_one_phase x)) → (e : Enlistment) → o ≡ Some e → Answers x PhaseInput.SinglePhaseReject e
  goes-single_phase_reject tests e is t at own found =
      let both = and_parts (phase_passes x is_single_phase e) (owes_commit e) (enlistment-allowed o (may_reject_one_phase x) e is tests) in
      rejects x sound e (there e is) t at own (single-phase t.phase (phase-passed x is_single_phase e t found both.0)) both.1

  -- an enlistment that may roll its transaction back does so in a phase in which that is possible
  pub rolls : (e : Enlistment) (t : Transaction) → transaction_in x e ≡ Some t → may_roll_back_by x e ≡ true → can_roll_back t.phase ≡ true
  rolls e t found may = elim (if_parts (is_superior e) (phase_passes x lets_superior_roll_back e) (may_vote x e) may) [
    | inl above ↦ superior-rolls t.phase (phase-passed x lets_superior_roll_back e t found above.1)
    | inr below ↦ voting-rolls t.phase (phase-passed x is_voting e t found (and_parts (not (is_superior e) && is_open_for_votes e) (phase_passes x is_voting e) below.1).1)
  ]

  pub goes-rollback_enlistment : Passes (enlistment_tests o (may_roll_back_by x)) → (e : Enlistment) → o ≡ Some e → Answers x PhaseInput.Rollback e
  goes-rollback_enlistment tests e is t at own found =
      let can = rolls e t found (enlistment-allowed o (may_roll_back_by x) e is tests) in
      record { arrives = rolled_back x sound t at (Some e) can; may = free x sound e (there e is) t at own can }

  pub goes-pre_prepare_enlistment : Passes (superior_tests x o before_pre_prepare) → (e : Enlistment) → o ≡ Some e → Answers x PhaseInput.PrePrepare e
  goes-pre_prepare_enlistment tests e is t at own found =
      let c = course_of x t (Some e) in
      let fresh = fresh-before_pre_prepare x sound t at (Some e) t.phase refl (phase-passed x before_pre_prepare e t found (superior-allowed x o before_pre_prepare e is tests)) in
      record { arrives = arrives-to_pre_prepare (x.recorded).boots c fresh; may = none-known t fresh.undecided }

  pub goes-prepare_enlistment : Passes (superior_tests x o before_prepare) → (e : Enlistment) → o ≡ Some e → Answers x PhaseInput.Prepare e
  goes-prepare_enlistment tests e is t at own found =
      let c = course_of x t (Some e) in
      let fresh = fresh-before_prepare x sound t at (Some e) t.phase refl (phase-passed x before_prepare e t found (superior-allowed x o before_prepare e is tests)) in
      record { arrives = arrives-to_prepare (x.recorded).boots c fresh; may = none-known t fresh.undecided }

  pub goes-commit_enlistment : Passes (superior_tests x o waits_for_superior) → (e : Enlistment) → o ≡ Some e → Answers x PhaseInput.Commit e
  unfolding led
  goes-commit_enlistment tests e is t at own found =
      let waits = phase-passed x waits_for_superior e t found (superior-allowed x o waits_for_superior e is tests) in
      record { arrives = commits-waiting x sound t at (Some e) t.phase refl waits; may = free x sound e (there e is) t at own (waiting-rolls t.phase waits) }

  pub goes-recover_enlistment : Passes (enlistment_tests o (may_recover x)) → (e : Enlistment) → o ≡ Some e → Answers x (recovery_of e) e
  goes-recover_enlistment tests e is t at own found = recovers x sound e (there e is) t at own (not-true _ (and_parts (not e.is_recovered) _ (enlistment-allowed o (may_recover x) e is tests)).0)

-- ---- queues

pub sound-recover_all : (x : Present) (o : Option Manager) → IsSoundCourse x → IsSoundOutcome x (recover_all x o)
sound-recover_all x None sound = sound-only_reply x Done sound
sound-recover_all x (Some m) sound = record { settled = sound; events = NoBoots-none; made = refl; notes = notes; outcomes = stay-refl (x.transactions).items; objects = refl }
  where
    recover : Enlistment → Sent
    recover e = record { manager = m.id; note = record { kind = Notify.Recover; enlistment = Some e.id } }

    notes : (s : Sent) → IsIn s (recover_notes x m.id) → is_note_of (x.transactions).enlistments s.manager s.note ≡ true
    notes s sent = elim (IsIn-cases s (map (λ (e : Enlistment). record { manager = m.id; note = record { kind = Notify.Recover; enlistment = Some e.id } }) (filter (is_to_recover x m.id) (x.transactions).enlistments))
        (record { manager = m.id; note = record { kind = Notify.LastRecover; enlistment = None } } ∷ []) sent) [
          | inl one ↦
              let from = IsIn-unmap (λ (e : Enlistment). record { manager = m.id; note = record { kind = Notify.Recover; enlistment = Some e.id } }) s (filter (is_to_recover x m.id) (x.transactions).enlistments) one in
              let at = IsIn-filter (is_to_recover x m.id) (x.transactions).enlistments from.0 from.2 in
              subst (λ (s : Sent). is_note_of (x.transactions).enlistments s.manager s.note ≡ true) from.1
              (list_any-from (λ (e : Enlistment). same_id e.id (from.0).id && same_id e.manager m.id) (x.transactions).enlistments from.0 at.0
              (and_from _ _ (same_id-from (from.0).id (from.0).id refl) (and_parts (same_id (from.0).manager m.id) _ (and_parts _ _ at.1).0).0))
          | inr (inl e) ↦ subst (λ (s : Sent). is_note_of (x.transactions).enlistments s.manager s.note ≡ true) e refl
          | inr (inr none) ↦ absurd none
        ]

pub sound-take_first : (x : Present) (o : Option Manager) → IsSoundCourse x → IsSoundOutcome x (take_first x o)
sound-take_first x None sound = sound-only_reply x Done sound
sound-take_first x (Some m) sound = record { settled = sound; events = NoBoots-none; made = refl; notes = λ s none. absurd none; outcomes = stay-refl (x.transactions).items; objects = refl }
