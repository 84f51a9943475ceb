-- The answers of enlistments: what their transaction comes to is sound again.
use Rattle.std.specs.Prelude.{if◌then◌else◌}
use Rattle.std.proofs.Common.{◌≡◌, ℕ, ◌==◌, ◌&&◌, ◌||◌, not, Bool, true, false, List, [], ◌∷◌, ◌++◌, nat_lt, Option, Some, None, is_some, is_none, refl, sym, ◌∙◌, ap, subst, arith, inl, inr, ◌⊎◌}
use Rattle.std.proofs.lemmas.Bool.{cases_Bool, and_parts, and_from, and_cases, and_left, and_right, or_cases, or_left, or_right, eqb-true, not-true, not_from_false, true≢false, false_from_ne_true}
use Rattle.std.proofs.lemmas.List.Sums.{length-filter}
use Rattle.ktm_base.specs.declared.notify.Notify.{Notify}
use Rattle.ktm_world.specs.declared.event.DonePart.{DonePart}
use Rattle.ktm_world.specs.declared.event.Event.{Event}
use Rattle.ktm_world.specs.declared.input.PhaseInput.{PhaseInput}
use Rattle.ktm_world.specs.declared.object.Phase.{Phase}
use Rattle.ktm_world.specs.declared.object.Phase.TheVariants.{Active, Requested, PrePreparing, PrePrepared, Preparing, SinglePhase, Held, InDoubt, Committing, Aborting, Ended}
use Rattle.ktm_world.specs.declared.object.Transaction.{Transaction}
use Rattle.ktm_world.specs.declared.object.TransactionOutcome.{TransactionOutcome}
use Rattle.ktm_world.specs.declared.step.Owed.{Owed}
use Rattle.ktm_world.specs.Enlistments.{has_id, Sent, Enlistment, Manager, is_superior, is_open_for_votes, asks_pre_prepare, allows_one_phase, owes_pre_prepare, owes_prepare, owes_commit, owes_rollback, takes_part, is_unfinished, is_durable_at, with_enlistments, superior_of}
use Rattle.ktm_world.specs.Phases.{Course, changing_one, is_single_phase, in_phase, recording, telling, owing, unchanged, superior, ended, ended_if_finished, event_if}
use Rattle.ktm_world.specs.Transactions.{same_id, is_undecided}
use Rattle.txf_laws.specs.Elements.{IsIn, each_pair}
use Rattle.ktm_courses.specs.SoundCourse.{is_last_recover, is_phase_back, is_unrecovered_well, is_outcome_of, is_of_its_boot, is_superior_as, is_idle, is_waiting, owes_until_finished, is_part_as, has_part, is_awaited_as, is_recorded_as, has_durable_part}
use Rattle.txf_laws.proofs.offered.Diamonds.{none-from}
use Rattle.txf_laws.proofs.offered.Lists.{IsIn-unmap}
use Rattle.txf_laws.proofs.offered.Elements.{list_any-at, list_any-from, list_all-at}
use Rattle.ktm_courses.proofs.offered.Moves.{same-by_id, if_parts, moved-changing, unrecovered-moved, IsIn-map, IsSame, IsSame-refl, IsAlike, Moved, Moved-then, moved-transaction, moved-telling, Changes, stepped, with-unchanged, is_bystander, Stand, Stand-with, Stand-as, moved-still}
use Rattle.ktm_courses.proofs.offered.Endings.{with_phase, is_backed-from, waiting-parts, over-part, arrives-if_finished, may_be_told, arrives-aborting, none-at, list_any-told, list_any-with, filter-with, superior-with, idle-parts, part-parts, unprepared-recovered, Arrives, Stands, arrives-then, alike-owing, Stand-nobody, only-one, arrives-ended, arrives-all_ready}
use Rattle.ktm_world.specs.Durable.{is_before}
use Rattle.ktm_world.specs.Steps.{led, answered, run, seen, share_of}
use Rattle.ktm_world.specs.TransactionCalls.{is_voting, recovery_of}
use Rattle.txf_laws.proofs.offered.Tables.{same_id-equal, same_id-from, before_other}
use Rattle.ktm_courses.proofs.offered.CommitsBegun.{Fresh, arrives-pre_prepared}
use Rattle.ktm_steps.specs.Laws.{IsPart, by, someone_owes, when_none_owes}
use Rattle.ktm_steps.proofs.offered.Table.{rows_law}
use Rattle.ktm_world.specs.Rows.{all_readies, proceeds, proceeds_without, row, tells_in}
use Rattle.ktm_world.specs.declared.step.Answered.{Answered}
use Rattle.ktm_world.specs.declared.step.Fact.{Fact}
use Rattle.ktm_world.specs.declared.step.Step.{Step}
use Rattle.ktm_world.specs.declared.step.Step.TheVariants.{Record}
use Rattle.ktm_base.specs.declared.id.Id.{Id}
use Rattle.std.specs.List.{list_all}
use Rattle.ktm_steps.proofs.offered.Ways.{if_cases}

-- ---- enlistments by their Ids

abbrev pub RiseEnlistments : List Enlistment → Type 0
RiseEnlistments es = each_pair (λ (e f : Enlistment). is_before e.id f.id) es ≡ true

-- an Id before another is another
earlier : (a b : Id) → is_before a b ≡ true → same_id a b ≡ false
earlier a b before = false_from_ne_true _ (λ same. before_other a b before (same_id-equal a b same))

later : (a b : Id) → is_before a b ≡ true → same_id b a ≡ false
later a b before = false_from_ne_true _ (λ same. before_other a b before (sym (same_id-equal b a same)))

-- one that takes part is the only one with its Id
is-part-of : (c : Course) (e : Enlistment) (es : List Enlistment) → RiseEnlistments es → IsIn e es → takes_part (c.transaction).id e ≡ true → IsPart (record c { enlistments = es }) e
is-part-of c e [] rise there part = absurd there
is-part-of c e (f ∷ fs) rise (inl same) part =
    let first : list_all (λ (g : Enlistment). is_before f.id g.id) fs ≡ true = (and_parts (list_all (λ (g : Enlistment). is_before f.id g.id) fs) (each_pair (λ (a b : Enlistment). is_before a.id b.id) fs) rise).0 in
    record {
      before = [];
      after = fs;
      is = ap (λ g. g ∷ fs) same;
      none_before = refl;
      none_after = none-from (has_id e.id) fs (λ g there. later e.id g.id (subst (λ (x : Enlistment). is_before x.id g.id ≡ true) same (list_all-at (λ (g : Enlistment). is_before f.id g.id) fs first g there)));
      part = part;
    }
is-part-of c e (f ∷ fs) rise (inr there) part =
    let both = and_parts (list_all (λ (g : Enlistment). is_before f.id g.id) fs) (each_pair (λ (a b : Enlistment). is_before a.id b.id) fs) rise in
    let rest = is-part-of c e fs both.1 there part in
    record {
      before = f ∷ rest.before;
      after = rest.after;
      is = ap (λ gs. f ∷ gs) rest.is;
      none_before = rw (earlier f.id e.id (list_all-at (λ (g : Enlistment). is_before f.id g.id) fs both.0 e there)) rest.none_before;
      none_after = rest.none_after;
      part = part;
    }

pub is-part : (c : Course) (e : Enlistment) → RiseEnlistments c.enlistments → IsIn e c.enlistments → takes_part (c.transaction).id e ≡ true → IsPart c e
is-part c e rise there part = is-part-of c e c.enlistments rise there part

-- ---- what is owed

pub owed-pre_prepare : (e : Enlistment) → owes_pre_prepare e ≡ true → e.owes ≡ Some Owed.PrePrepare
owed-pre_prepare e = go e.owes
  where
    go : (o : Option Owed) → owes_pre_prepare (record e { owes = o }) ≡ true → o ≡ Some Owed.PrePrepare
    go (Some Owed.PrePrepare) is = refl
    go _ is = absurd (true≢false (sym is))

pub owed-prepare : (e : Enlistment) → owes_prepare e ≡ true → e.owes ≡ Some Owed.Prepare
owed-prepare e = go e.owes
  where
    go : (o : Option Owed) → owes_prepare (record e { owes = o }) ≡ true → o ≡ Some Owed.Prepare
    go (Some Owed.Prepare) is = refl
    go _ is = absurd (true≢false (sym is))

pub owed-commit : (e : Enlistment) → owes_commit e ≡ true → e.owes ≡ Some Owed.Commit
owed-commit e = go e.owes
  where
    go : (o : Option Owed) → owes_commit (record e { owes = o }) ≡ true → o ≡ Some Owed.Commit
    go (Some Owed.Commit) is = refl
    go _ is = absurd (true≢false (sym is))

pub owed-rollback : (e : Enlistment) → owes_rollback e ≡ true → e.owes ≡ Some Owed.Rollback
owed-rollback e = go e.owes
  where
    go : (o : Option Owed) → owes_rollback (record e { owes = o }) ≡ true → o ≡ Some Owed.Rollback
    go (Some Owed.Rollback) is = refl
    go _ is = absurd (true≢false (sym is))

-- the answer that is waited for in a phase
pub answer_in : Phase → Option Owed
answer_in PrePreparing = Some Owed.PrePrepare
answer_in Preparing = Some Owed.Prepare
answer_in SinglePhase = Some Owed.Commit
answer_in Committing = Some Owed.Commit
answer_in Aborting = Some Owed.Rollback
answer_in _ = None

none-of : (o : Option Owed) → is_some o ≡ false → is_none o ≡ true
none-of None is = refl
none-of (Some owed) is = absurd (true≢false is)

not-both : (o : Option Owed) → is_none o ≡ true → is_some o ≡ true → ⊥
not-both None none some = true≢false (sym some)
not-both (Some owed) none some = true≢false (sym none)

owes_none : (e : Enlistment) (owed : Owed) → e.owes ≡ Some owed → is_none e.owes ≡ true → ⊥
owes_none e owed is none = true≢false (sym none ∙ ap is_none is)

pub until-owed : (owes : Enlistment → Bool) (e : Enlistment) (owed : Owed) → e.owes ≡ Some owed → owes_until_finished owes e ≡ true → (owes e ≡ true) × (e.is_recovered ≡ true) × (e.is_finished ≡ false)
until-owed owes e owed is until = elim (cases_Bool (e.is_recovered && not e.is_finished)) [
  | inl both ↦ let parts = and_parts e.is_recovered (not e.is_finished) both in (rw both at until, parts.0, not-true _ parts.1)
  | inr other ↦ absurd (owes_none e owed is (rw other at until))
]

-- one that takes part is prepared, or owes that
pub preparing-parts : (e : Enlistment) → is_part_as Preparing e ≡ true → (is_waiting e ≡ true) ⊎ ((e.is_prepared ≡ false) × (owes_prepare e ≡ true) × (e.is_finished ≡ false))
preparing-parts e part = elim (if_parts e.is_prepared (is_waiting e) (owes_prepare e && not e.is_finished) part) [
  | inl waits ↦ inl waits.1
  | inr owes ↦ let both = and_parts (owes_prepare e) (not e.is_finished) owes.1 in inr (owes.0, both.0, not-true _ both.1)
]

answer-of : (phase : Phase) (e : Enlistment) (owed : Owed) → e.owes ≡ Some owed → is_part_as phase e ≡ true → e.owes ≡ answer_in phase
unfolding answer_in
answer-of Active e owed is part = absurd (owes_none e owed is (idle-parts e part).0)
answer-of Requested e owed is part = absurd (owes_none e owed is (idle-parts e part).0)
answer-of PrePrepared e owed is part = absurd (owes_none e owed is (idle-parts e part).0)
answer-of Held e owed is part = absurd (owes_none e owed is (waiting-parts e part).0)
answer-of InDoubt e owed is part = absurd (owes_none e owed is (waiting-parts e part).0)
answer-of Ended e owed is part = absurd (owes_none e owed is (and_parts (is_none e.owes) e.is_finished part).0)
answer-of PrePreparing e owed is part = elim (or_cases _ _ (and_parts (not e.is_prepared && not e.is_finished) (is_none e.owes || (owes_pre_prepare e && asks_pre_prepare e)) part).1) [
  | inl none ↦ absurd (owes_none e owed is none)
  | inr asks ↦ owed-pre_prepare e (and_parts (owes_pre_prepare e) (asks_pre_prepare e) asks).0
]
answer-of Preparing e owed is part = elim (preparing-parts e part) [ inl waits ↦ absurd (owes_none e owed is (waiting-parts e waits).0) | inr owes ↦ owed-prepare e owes.1 ]
answer-of SinglePhase e owed is part =
    let three = and_parts (owes_commit e && not e.is_prepared && not e.is_finished) (allows_one_phase e) part in
    let two = and_parts (owes_commit e && not e.is_prepared) (not e.is_finished) three.0 in
    owed-commit e (and_parts (owes_commit e) (not e.is_prepared) two.0).0
answer-of Committing e owed is part = owed-commit e (until-owed owes_commit e owed is (and_parts e.is_prepared (owes_until_finished owes_commit e) part).1).0
answer-of Aborting e owed is part = owed-rollback e (until-owed owes_rollback e owed is part).0

pub is-pre_preparing : (phase : Phase) → answer_in phase ≡ Some Owed.PrePrepare → phase ≡ PrePreparing
unfolding answer_in
is-pre_preparing PrePreparing is = refl
is-pre_preparing _ is = absurd cc

pub is-preparing : (phase : Phase) → answer_in phase ≡ Some Owed.Prepare → phase ≡ Preparing
unfolding answer_in
is-preparing Preparing is = refl
is-preparing _ is = absurd cc

pub is-committing : (phase : Phase) → answer_in phase ≡ Some Owed.Commit → (phase ≡ Committing) ⊎ (phase ≡ SinglePhase)
unfolding answer_in
is-committing Committing is = inl refl
is-committing SinglePhase is = inr refl
is-committing _ is = absurd cc

pub is-aborting : (phase : Phase) → answer_in phase ≡ Some Owed.Rollback → phase ≡ Aborting
unfolding answer_in
is-aborting Aborting is = refl
is-aborting _ is = absurd cc

-- nobody owes an answer
pub none-owed : (d : Course) → someone_owes d ≡ false → (x : Enlistment) → IsIn x d.enlistments → takes_part (d.transaction).id x ≡ true → is_none x.owes ≡ true
none-owed d none x there part = elim (and_cases _ _ (none-at _ d.enlistments none x there)) [ inl other ↦ absurd (true≢false (sym part ∙ other)) | inr silent ↦ none-of x.owes silent ]

-- ---- a transaction in a phase

pub stands-in : (boot : ℕ) (c : Course) (phase : Phase) → (c.transaction).phase ≡ phase → Stands boot c → Stands boot (with_phase c phase)
stands-in boot c phase is stands = subst (λ p. Stands boot (with_phase c p)) is stands

pub stands-back : (boot : ℕ) (c : Course) (phase : Phase) → (c.transaction).phase ≡ phase → Stands boot (with_phase c phase) → Stands boot c
stands-back boot c phase is stands = subst (λ p. Stands boot (with_phase c p)) (sym is) stands

pub here-from : (boot : ℕ) (t : Transaction) → is_phase_back t.phase ≡ false → is_of_its_boot boot t ≡ true → nat_lt (t.id).boot boot ≡ false
here-from boot t other is = elim (cases_Bool (nat_lt (t.id).boot boot)) [
  | inr now ↦ now
  | inl earlier ↦
      let is' = rw earlier at is in
      let three = and_parts _ (t.created == 0) (and_parts _ t.is_recorded is').0 in
      absurd (true≢false (sym (and_parts (is_phase_back t.phase) (t.timeout == 0) three.0).0 ∙ other))
]

-- nothing of it is prepared
pub fresh-from : (boot : ℕ) (c : Course) → is_outcome_of Active c.transaction ≡ true → nat_lt ((c.transaction).id).boot boot ≡ false → not (c.transaction).is_recorded ≡ true → Stand c.enlistments (c.transaction).id is_idle
    → ((e : Enlistment) → IsIn e c.enlistments → is_unrecovered_well boot c.managers e ≡ true) → Fresh boot c
fresh-from boot c undecided here unrecorded stand brought = record { here = here; undecided = undecided; unrecorded = not-true _ unrecorded; stand = stand; brought = brought }

-- the phases in which a transaction can be rolled back
abbrev pub can_roll_back : Phase → Bool
can_roll_back Committing = false
can_roll_back Aborting = false
can_roll_back Ended = false
can_roll_back _ = true

-- every phase is one of them in which enlistments vote
pub voting-rolls : (phase : Phase) → is_voting phase ≡ true → can_roll_back phase ≡ true
voting-rolls Committing is = is
voting-rolls Aborting is = is
voting-rolls Ended is = is
voting-rolls _ is = refl

unfinished-in : (phase : Phase) (e : Enlistment) → can_roll_back phase ≡ true → is_part_as phase e ≡ true → e.is_finished ≡ false
unfinished-in Active e can part = (idle-parts e part).2
unfinished-in Requested e can part = (idle-parts e part).2
unfinished-in PrePrepared e can part = (idle-parts e part).2
unfinished-in Held e can part = (waiting-parts e part).2
unfinished-in InDoubt e can part = (waiting-parts e part).2
unfinished-in PrePreparing e can part = not-true _ (and_parts (not e.is_prepared) (not e.is_finished) (and_parts (not e.is_prepared && not e.is_finished) (is_none e.owes || (owes_pre_prepare e && asks_pre_prepare e)) part).0).1
unfinished-in Preparing e can part = elim (preparing-parts e part) [ inl waits ↦ (waiting-parts e waits).2 | inr owes ↦ owes.2 ]
unfinished-in SinglePhase e can part =
    let three = and_parts (owes_commit e && not e.is_prepared && not e.is_finished) (allows_one_phase e) part in
    not-true _ (and_parts (owes_commit e && not e.is_prepared) (not e.is_finished) three.0).1
unfinished-in Committing e can part = absurd (true≢false (sym can))
unfinished-in Aborting e can part = absurd (true≢false (sym can))
unfinished-in Ended e can part = absurd (true≢false (sym can))

unrecovered-parts : (boot : ℕ) (ms : List Manager) (e : Enlistment) → is_unrecovered_well boot ms e ≡ true → e.is_recovered ≡ false
    → (e.is_read_only ≡ false) × (e.is_finished ≡ false) × (is_none e.owes ≡ true) × ((is_superior e || e.is_prepared) ≡ true)
unrecovered-parts boot ms e well unrecovered =
    let back : (nat_lt (e.id).boot boot && is_durable_at ms e.manager && not e.is_read_only && not e.is_finished && is_none e.owes && (is_superior e || e.is_prepared)) ≡ true = rw unrecovered at well in
    let a = and_parts _ (is_superior e || e.is_prepared) back in
    let b = and_parts _ (is_none e.owes) a.0 in
    let d = and_parts _ (not e.is_finished) b.0 in
    let f = and_parts _ (not e.is_read_only) d.0 in
    (not-true _ f.1, not-true _ d.1, b.1, a.1)

-- a transaction whose outcome is not known rolls back
pub arrives-rolled_back : (boot : ℕ) (c : Course) → Stands boot c → ((e : Enlistment) → IsIn e c.enlistments → is_unrecovered_well boot c.managers e ≡ true) → can_roll_back (c.transaction).phase ≡ true → Arrives boot c (led PhaseInput.Rollback c)
arrives-rolled_back boot c stands brought can = arrives-aborting boot c (is_backed-from boot c.transaction stands.boots)
    (Stand-as c.enlistments (c.transaction).id (is_part_as (c.transaction).phase) may_be_told stands.stand (λ e there part fits.
    and_from _ _ (not_from_false _ (unfinished-in (c.transaction).phase e can fits)) (elim (cases_Bool e.is_recovered) [
      | inl recovered ↦ or_left _ _ recovered
      | inr unrecovered ↦ or_right _ _ (unrecovered-parts boot c.managers e (brought e there) unrecovered).2
    ])))

-- before that the outcome is not known
pub undecided-rolls : (t : Transaction) → can_roll_back t.phase ≡ true → is_outcome_of t.phase t ≡ true → is_undecided t ≡ true
undecided-rolls t = go t.phase
  where
    go : (phase : Phase) → can_roll_back phase ≡ true → is_outcome_of phase t ≡ true → is_undecided t ≡ true
    go Committing can is = absurd (true≢false (sym can))
    go Aborting can is = absurd (true≢false (sym can))
    go Ended can is = absurd (true≢false (sym can))
    go _ can is = is

-- ---- one enlistment answers

module _ (boot : ℕ) (begun : Course) (e : Enlistment) (stands : Stands boot (by begun e)) (brought : (e : Enlistment) → IsIn e begun.enlistments → is_unrecovered_well boot begun.managers e ≡ true)
    (rise : RiseEnlistments begun.enlistments) (there : IsIn e begun.enlistments) (own : same_id e.transaction (begun.transaction).id ≡ true) where
  -- the course where it makes the call
  abbrev c : Course
  c = by begun e

  it : (x : Enlistment) → IsIn x c.enlistments → has_id e.id x ≡ true → x ≡ e
  it x there' is = same-by_id (λ (f : Enlistment). f.id) c.enlistments rise x e there' there (same_id-equal x.id e.id is)

  it-itself : has_id e.id e ≡ true
  it-itself = same_id-from e.id e.id refl

  -- it alone is changed
  changes-one : (f : Enlistment → Enlistment) → ((x : Enlistment) → IsSame x (f x)) → ((f e).is_recovered ≡ true) → Changes c (has_id e.id) f
  changes-one f same recovered = record {
    own = λ x there' is. subst (λ (y : Enlistment). same_id y.transaction (c.transaction).id ≡ true) (sym (it x there' is)) own;
    same = same;
    recovered = λ x there' is. inr (subst (λ y. (f y).is_recovered ≡ true) (sym (it x there' is)) recovered);
  }

  moved-one : (f : Enlistment → Enlistment) → ((x : Enlistment) → IsSame x (f x)) → ((f e).is_recovered ≡ true) → Moved c (changing_one c e.id f)
  moved-one f same recovered = moved-changing c (has_id e.id) f c.sent (changes-one f same recovered) (λ s sent. inl sent)

  -- one that owes something takes part, and is recovered
  pub takes_part-owing : (owed : Owed) → e.owes ≡ Some owed → takes_part (c.transaction).id e ≡ true
  takes_part-owing owed is = elim (cases_Bool (takes_part (c.transaction).id e)) [
    | inl part ↦ part
    | inr other ↦
        absurd (owes_none e owed is (idle-parts e (and_parts (is_idle e) (not (is_superior e && e.is_read_only)) ((stands.stand).others e there own other)).0).0)
  ]

  part-owing : (owed : Owed) → e.owes ≡ Some owed → IsPart c e
  part-owing owed is = is-part c e rise there (takes_part-owing owed is)

  recovered-owing : (owed : Owed) → e.owes ≡ Some owed → e.is_recovered ≡ true
  recovered-owing owed is = elim (cases_Bool e.is_recovered) [
    | inl recovered ↦ recovered
    | inr unrecovered ↦ absurd (owes_none e owed is (unrecovered-parts boot c.managers e (brought e there) unrecovered).2)
  ]

  pub phase-owing : (owed : Owed) → e.owes ≡ Some owed → answer_in (c.transaction).phase ≡ Some owed
  phase-owing owed is = sym (answer-of (c.transaction).phase e owed is ((stands.stand).parts e there (takes_part-owing owed is))) ∙ is

  superior-one : (f : Enlistment → Enlistment) → ((x : Enlistment) → IsSame x (f x)) → is_some (superior_of (with_enlistments (has_id e.id) f c.enlistments) (c.transaction).id) ≡ is_some (superior c)
  superior-one f same = superior-with (c.transaction).id (stepped (has_id e.id) f) (λ x. if_cases (λ y. IsSame x y) (has_id e.id x) (f x) x (λ is. same x) (λ is. IsSame-refl x)) c.enlistments

  -- it is changed, and takes part as before
  stand-one : (before after : Enlistment → Bool) (f : Enlistment → Enlistment) → Stand c.enlistments (c.transaction).id before → takes_part (c.transaction).id e ≡ true → ((x : Enlistment) → IsAlike x (f x))
      → (before e ≡ true → after (f e) ≡ true) → ((x : Enlistment) → IsIn x c.enlistments → takes_part (c.transaction).id x ≡ true → before x ≡ true → has_id e.id x ≡ false → after x ≡ true)
      → Stand (with_enlistments (has_id e.id) f c.enlistments) (c.transaction).id after
  stand-one before after f stand part alike changed left = Stand-with c.enlistments (c.transaction).id before after (has_id e.id) f stand
      (λ x there' is. subst (λ y. takes_part (c.transaction).id y ≡ true) (sym (it x there' is)) part) alike
      (λ x there' part' passes is. subst (λ y. after (f y) ≡ true) (sym (it x there' is)) (changed (subst (λ y. before y ≡ true) (it x there' is) passes))) left

  -- what it owes tells whether the outcome is known
  pub undecided-pre_prepare : owes_pre_prepare e ≡ true → is_undecided c.transaction ≡ true
  undecided-pre_prepare owes = undecided-rolls c.transaction
      (subst (λ p. can_roll_back p ≡ true) (sym (is-pre_preparing (c.transaction).phase (phase-owing Owed.PrePrepare (owed-pre_prepare e owes)))) refl) stands.outcome

  pub undecided-prepare : owes_prepare e ≡ true → is_undecided c.transaction ≡ true
  undecided-prepare owes = undecided-rolls c.transaction (subst (λ p. can_roll_back p ≡ true) (sym (is-preparing (c.transaction).phase (phase-owing Owed.Prepare (owed-prepare e owes)))) refl) stands.outcome

  -- ---- PrePrepareComplete

  alike-answered : (x : Enlistment) → IsAlike x (answered Answered.PrePrepared x)
  alike-answered x = record { same = record { id = refl; manager = refl; transaction = refl; kind = refl; information = refl }; read_only = refl }

  abbrev c_answered : Course
  c_answered = changing_one c e.id (answered Answered.PrePrepared)

  idle-from : (x : Enlistment) → is_part_as PrePreparing x ≡ true → is_none x.owes ≡ true → is_idle x ≡ true
  idle-from x fits none =
      let both = and_parts (not x.is_prepared && not x.is_finished) (is_none x.owes || (owes_pre_prepare x && asks_pre_prepare x)) fits in
      let first = and_parts (not x.is_prepared) (not x.is_finished) both.0 in
      and_from _ _ (and_from _ _ none first.0) first.1

  pub arrives-pre_prepare_complete : owes_pre_prepare e ≡ true → Arrives boot c (led PhaseInput.PrePrepareComplete c)
  arrives-pre_prepare_complete owes = subst (Arrives boot c) (sym (rows_law.pre_prepare_completes c e (part-owing Owed.PrePrepare is) (ap is_some is))) (if_cases (λ d. Arrives boot c d) (someone_owes c_answered) c_answered (run (proceeds (seen c_answered)) c_answered)
      (λ some. record {
        moved = moved;
        stands = stands-back boot c_answered PrePreparing phase (record {
          outcome = at.outcome;
          boots = at.boots;
          superior = refl;
          stand = stand;
          awaited = some;
          alone = refl;
          recorded = at.recorded;
        });
      })
      (λ none. arrives-then boot moved (arrives-pre_prepared boot c_answered (fresh-from boot c_answered at.outcome (here-from boot (in_phase c PrePreparing).transaction refl at.boots) at.recorded
      (Stand-as c_answered.enlistments (c.transaction).id (is_part_as PrePreparing) is_idle stand (λ x there' part fits.
      idle-from x fits (none-owed c_answered none x there' part)))
      (unrecovered-moved c c_answered boot moved brought)))))
    where
      is : e.owes ≡ Some Owed.PrePrepare
      is = owed-pre_prepare e owes

      phase : (c.transaction).phase ≡ PrePreparing
      phase = is-pre_preparing (c.transaction).phase (phase-owing Owed.PrePrepare is)

      at : Stands boot (in_phase c PrePreparing)
      at = stands-in boot c PrePreparing phase stands

      moved : Moved c c_answered
      moved = moved-one (answered Answered.PrePrepared) (λ x. (alike-answered x).same) (recovered-owing Owed.PrePrepare is)

      stand : Stand c_answered.enlistments (c.transaction).id (is_part_as PrePreparing)
      stand = stand-one (is_part_as PrePreparing) (is_part_as PrePreparing) (answered Answered.PrePrepared) at.stand (takes_part-owing Owed.PrePrepare is) alike-answered
          (λ fits. and_from _ _ (and_parts (not e.is_prepared && not e.is_finished) (is_none e.owes || (owes_pre_prepare e && asks_pre_prepare e)) fits).0 refl) (λ x there' part fits other. fits)

  -- ---- PrepareComplete

  -- it owes nothing, and is prepared
  abbrev prepared : Enlistment → Enlistment
  prepared = answered Answered.Prepared

  alike-prepared : (x : Enlistment) → IsAlike x (prepared x)
  alike-prepared x = record { same = record { id = refl; manager = refl; transaction = refl; kind = refl; information = refl }; read_only = refl }

  -- which is recorded where its resource manager is durable
  abbrev c_prepared : Course
  c_prepared = run (Step.Change Answered.Prepared ∷ Record Fact.Ready ∷ []) c

  module _ (owes : owes_prepare e ≡ true) where
    is_prepare : e.owes ≡ Some Owed.Prepare
    is_prepare = owed-prepare e owes

    pub phase_preparing : (c.transaction).phase ≡ Preparing
    phase_preparing = is-preparing (c.transaction).phase (phase-owing Owed.Prepare is_prepare)

    at_preparing : Stands boot (in_phase c Preparing)
    at_preparing = stands-in boot c Preparing phase_preparing stands

    pub part_preparing : takes_part (c.transaction).id e ≡ true
    part_preparing = takes_part-owing Owed.Prepare is_prepare

    -- it was not prepared before
    pub unprepared : (e.is_prepared ≡ false) × (owes_prepare e ≡ true) × (e.is_finished ≡ false)
    unprepared = elim (preparing-parts e ((at_preparing.stand).parts e there part_preparing)) [ inl waits ↦ absurd (owes_none e Owed.Prepare is_prepare (waiting-parts e waits).0) | inr parts ↦ parts ]

    stand_prepared : Stand (with_enlistments (has_id e.id) prepared c.enlistments) (c.transaction).id (is_part_as Preparing)
    stand_prepared = stand-one (is_part_as Preparing) (is_part_as Preparing) prepared at_preparing.stand part_preparing alike-prepared
        (λ fits. not_from_false _ unprepared.2) (λ x there' part fits other. fits)

    here_preparing : nat_lt ((c.transaction).id).boot boot ≡ false
    here_preparing = here-from boot (in_phase c Preparing).transaction refl at_preparing.boots

    prepared-moved : Moved c c_prepared
    prepared-moved = Moved-then (moved-one prepared (λ x. (alike-prepared x).same) (recovered-owing Owed.Prepare is_prepare)) (moved-still (changing_one c e.id prepared) c_prepared.transaction c_prepared.events c.works refl (omega arith))

    -- the log has it where an enlistment with a durable resource manager is prepared
    prepared-recorded : is_recorded_as Preparing c.managers c_prepared.enlistments (c.transaction).id (c_prepared.transaction).is_recorded ≡ true
    prepared-recorded = elim (cases_Bool (is_durable_at c.managers e.manager)) [
      | inl durable ↦
          rw (list_any-from (λ x. takes_part (c.transaction).id x && (x.is_prepared && is_durable_at c.managers x.manager)) c_prepared.enlistments (stepped (has_id e.id) prepared e)
          (IsIn-map (stepped (has_id e.id) prepared) e c.enlistments there) (rw it-itself (and_from _ _ part_preparing durable))) (or_left _ _ durable)
      | inr volatile ↦
          subst (λ d. (if has_durable_part c.managers c_prepared.enlistments (c.transaction).id (λ x. x.is_prepared) then d || (c.transaction).is_recorded else not (d || (c.transaction).is_recorded)) ≡ true) (sym volatile)
          (subst (λ b. (if b then (c.transaction).is_recorded else not (c.transaction).is_recorded) ≡ true)
          (sym (list_any-told (λ x. takes_part (c.transaction).id x && (x.is_prepared && is_durable_at c.managers x.manager)) (has_id e.id) prepared c.enlistments (λ x there' is.
          let none : is_durable_at c.managers x.manager ≡ false = subst (λ (y : Enlistment). is_durable_at c.managers y.manager ≡ false) (sym (it x there' is)) volatile in
          rw none (ap (λ b. takes_part (c.transaction).id x && b) (sym (and_right x.is_prepared false refl))))))
          at_preparing.recorded)
    ]

    pub arrives-prepare_complete : Arrives boot c (led PhaseInput.PrepareComplete c)
    arrives-prepare_complete = subst (Arrives boot c) (sym (rows_law.prepare_completes c e (part-owing Owed.Prepare is_prepare) (ap is_some is_prepare))) (if_cases (λ d. Arrives boot c d) (someone_owes c_prepared) c_prepared (run (all_readies (seen c_prepared)) c_prepared)
        (λ some. record {
          moved = prepared-moved;
          stands = stands-back boot c_prepared Preparing phase_preparing (record {
            outcome = at_preparing.outcome;
            boots = rw here_preparing refl;
            superior = refl;
            stand = stand_prepared;
            awaited = some;
            alone = refl;
            recorded = prepared-recorded;
          });
        })
        (λ none. arrives-then boot prepared-moved (arrives-all_ready boot c_prepared (record {
          here = here_preparing;
          undecided = at_preparing.outcome;
          stand = Stand-as c_prepared.enlistments (c.transaction).id (is_part_as Preparing) is_waiting stand_prepared (λ x there' part fits. elim (preparing-parts x fits) [
            | inl waits ↦ waits
            | inr owing' ↦ absurd (owes_none x Owed.Prepare (owed-prepare x owing'.1) (none-owed c_prepared none x there' part))
          ]);
          recorded = λ some. elim (if_parts _ (c_prepared.transaction).is_recorded (not (c_prepared.transaction).is_recorded) prepared-recorded) [ inl both ↦ both.1 | inr both ↦ absurd (true≢false (sym some ∙ both.0)) ];
        }))))

  -- ---- ReadOnlyEnlistment

  -- it owes nothing, and takes no part
  abbrev left : Enlistment → Enlistment
  left = answered Answered.ReadOnly

  same-left : (x : Enlistment) → IsSame x (left x)
  same-left x = record { id = refl; manager = refl; transaction = refl; kind = refl; information = refl }

  abbrev c_left : Course
  c_left = changing_one c e.id left

  module _ (ordinary : is_superior e ≡ false) (votes : is_open_for_votes e ≡ true) (voting : is_voting (c.transaction).phase ≡ true) where
    pub part_left : takes_part (c.transaction).id e ≡ true
    part_left = and_from _ _ (and_from _ _ own (not_from_false _ ordinary)) (and_parts (not e.is_read_only) (not e.is_prepared) votes).0

    pub unprepared_left : e.is_prepared ≡ false
    unprepared_left = not-true _ (and_parts (not e.is_read_only) (not e.is_prepared) votes).1

    moved_left : Moved c c_left
    moved_left = moved-one left same-left (unprepared-recovered boot c.managers (c.transaction).id e (brought e there) part_left unprepared_left)

    fits_left : is_part_as (c.transaction).phase e ≡ true
    fits_left = (stands.stand).parts e there part_left

    unfinished_left : e.is_finished ≡ false
    unfinished_left = unfinished-in (c.transaction).phase e (voting-rolls (c.transaction).phase voting) fits_left

    -- those that take part are the others that did
    still : (x : Enlistment) → IsIn x c_left.enlistments → takes_part (c.transaction).id x ≡ true → IsIn x c.enlistments × (has_id e.id x ≡ false)
    still x there' part =
        let from = IsIn-unmap (stepped (has_id e.id) left) x c.enlistments there' in
        elim (cases_Bool (has_id e.id from.0)) [
          | inl told ↦
              let is : left from.0 ≡ x = rw told at from.1 in
              absurd (true≢false (sym part ∙ sym (ap (takes_part (c.transaction).id) is) ∙ and_right (same_id (from.0).transaction (c.transaction).id && not (is_superior from.0)) false refl))
          | inr silent ↦ let is : from.0 ≡ x = rw silent at from.1 in (subst (λ y. IsIn y c.enlistments) is from.2, subst (λ y. has_id e.id y ≡ false) is silent)
        ]

    -- the others that took part still do
    stays : (x : Enlistment) → IsIn x c.enlistments → has_id e.id x ≡ false → IsIn x c_left.enlistments
    stays x there' other =
        let same : stepped (has_id e.id) left x ≡ x = rw other refl in
        subst (λ y. IsIn y c_left.enlistments) same (IsIn-map (stepped (has_id e.id) left) x c.enlistments there')

    stand_left : (test : Enlistment → Bool) → Stand c.enlistments (c.transaction).id test → Stand c_left.enlistments (c.transaction).id test
    stand_left test stand = record {
      others = λ x there' own' other.
          let from = IsIn-unmap (stepped (has_id e.id) left) x c.enlistments there' in
          elim (cases_Bool (has_id e.id from.0)) [
            | inl told ↦
                let is : left from.0 ≡ x = rw told at from.1 in
                subst (λ y. is_bystander y ≡ true) (ap left (sym (it from.0 from.2 told)) ∙ is) (rw (unprepared_left, unfinished_left, ordinary) refl)
            | inr silent ↦
                let is : from.0 ≡ x = rw silent at from.1 in
                stand.others x (subst (λ y. IsIn y c.enlistments) is from.2) own' other
          ];
      parts = λ x there' part. stand.parts x (still x there' part).0 part;
    }

    -- somebody else still owes
    still-owes : (is_none e.owes ≡ true) → has_part c.enlistments (c.transaction).id (λ x. is_some x.owes) ≡ true → has_part c_left.enlistments (c.transaction).id (λ x. is_some x.owes) ≡ true
    still-owes none some =
        let one = list_any-at (λ x. takes_part (c.transaction).id x && is_some x.owes) c.enlistments some in
        let owes = (and_parts (takes_part (c.transaction).id one.0) (is_some (one.0).owes) one.2).1 in
        list_any-from (λ x. takes_part (c.transaction).id x && is_some x.owes) c_left.enlistments one.0
        (stays one.0 one.1 (false_from_ne_true _ (λ is. not-both e.owes none (subst (λ (y : Enlistment). is_some y.owes ≡ true) (it one.0 one.1 is) owes)))) one.2

    awaited_left : (phase : Phase) → is_voting phase ≡ true → is_none e.owes ≡ true → is_part_as phase e ≡ true → is_awaited_as phase c.enlistments (c.transaction).id ≡ true → is_awaited_as phase c_left.enlistments (c.transaction).id ≡ true
    awaited_left PrePreparing voting' none fits awaited = still-owes none awaited
    awaited_left Preparing voting' none fits awaited = still-owes none awaited
    awaited_left SinglePhase voting' none fits awaited =
        let three = and_parts (owes_commit e && not e.is_prepared && not e.is_finished) (allows_one_phase e) fits in
        let two = and_parts (owes_commit e && not e.is_prepared) (not e.is_finished) three.0 in
        absurd (owes_none e Owed.Commit (owed-commit e (and_parts (owes_commit e) (not e.is_prepared) two.0).0) none)
    awaited_left Committing voting' none fits awaited = absurd (true≢false (sym voting'))
    awaited_left Aborting voting' none fits awaited = absurd (true≢false (sym voting'))
    awaited_left _ voting' none fits awaited = refl

    -- as many with a durable resource manager are prepared
    durable_left : has_durable_part c.managers c_left.enlistments (c.transaction).id (λ x. x.is_prepared) ≡ has_durable_part c.managers c.enlistments (c.transaction).id (λ x. x.is_prepared)
    durable_left = list_any-told (λ x. takes_part (c.transaction).id x && (x.is_prepared && is_durable_at c.managers x.manager)) (has_id e.id) left c.enlistments (λ x there' is.
        let unprepared' : x.is_prepared ≡ false = subst (λ (y : Enlistment). y.is_prepared ≡ false) (sym (it x there' is)) unprepared_left in
        and_left (takes_part (c.transaction).id (left x)) _ (and_right (same_id x.transaction (c.transaction).id && not (is_superior x)) false refl)
        ∙ sym (and_right (takes_part (c.transaction).id x) (x.is_prepared && is_durable_at c.managers x.manager) (and_left x.is_prepared _ unprepared')))

    recorded_left : (phase : Phase) (r : Bool) → is_voting phase ≡ true → is_recorded_as phase c.managers c.enlistments (c.transaction).id r ≡ true → is_recorded_as phase c.managers c_left.enlistments (c.transaction).id r ≡ true
    recorded_left Preparing r voting' right = subst (λ b. (if b then r else not r) ≡ true) (sym durable_left) right
    recorded_left Committing r voting' right = absurd (true≢false (sym voting'))
    recorded_left _ r voting' right = right

    -- nothing else goes on
    stands_left : is_awaited_as (c.transaction).phase c_left.enlistments (c.transaction).id ≡ true → Stands boot c_left
    stands_left awaited = record {
      outcome = stands.outcome;
      boots = stands.boots;
      superior = subst (λ b. is_superior_as (c.transaction).phase b ≡ true) (sym (superior-one left same-left)) stands.superior;
      stand = stand_left (is_part_as (c.transaction).phase) stands.stand;
      awaited = awaited;
      alone = stands.alone;
      recorded = recorded_left (c.transaction).phase (c.transaction).is_recorded voting stands.recorded;
    }

    silent : is_some e.owes ≡ true → is_idle e ≡ true → ⊥
    silent owes idle = not-both e.owes (idle-parts e idle).0 owes

    -- it was the last one that owed
    goes-on_left : (phase : Phase) → (c.transaction).phase ≡ phase → is_voting phase ≡ true → is_some e.owes ≡ true → Arrives boot c (when_none_owes c_left (proceeds_without phase (seen c_left)))
    goes-on_left PrePreparing is voting' owes =
        let at = stands-in boot c PrePreparing is stands in
        if_cases (λ d. Arrives boot c d) (someone_owes c_left) c_left (run (proceeds (seen c_left)) c_left)
        (λ some. record { moved = moved_left; stands = stands_left (subst (λ p. is_awaited_as p c_left.enlistments (c.transaction).id ≡ true) (sym is) some) })
        (λ none. arrives-then boot moved_left (arrives-pre_prepared boot c_left (fresh-from boot c_left at.outcome (here-from boot (in_phase c PrePreparing).transaction refl at.boots) at.recorded
        (Stand-as c_left.enlistments (c.transaction).id (is_part_as PrePreparing) is_idle (stand_left (is_part_as PrePreparing) at.stand) (λ x there' part fits. idle-from x fits (none-owed c_left none x there' part)))
        (unrecovered-moved c c_left boot moved_left brought))))
    goes-on_left Preparing is voting' owes =
        let at = stands-in boot c Preparing is stands in
        if_cases (λ d. Arrives boot c d) (someone_owes c_left) c_left (run (all_readies (seen c_left)) c_left)
        (λ some. record { moved = moved_left; stands = stands_left (subst (λ p. is_awaited_as p c_left.enlistments (c.transaction).id ≡ true) (sym is) some) })
        (λ none. arrives-then boot moved_left (arrives-all_ready boot c_left (record {
          here = here-from boot (in_phase c Preparing).transaction refl at.boots;
          undecided = at.outcome;
          stand = Stand-as c_left.enlistments (c.transaction).id (is_part_as Preparing) is_waiting (stand_left (is_part_as Preparing) at.stand) (λ x there' part fits. elim (preparing-parts x fits) [
            | inl waits ↦ waits
            | inr owing' ↦ absurd (owes_none x Owed.Prepare (owed-prepare x owing'.1) (none-owed c_left none x there' part))
          ]);
          recorded = λ some. elim (if_parts _ (c.transaction).is_recorded (not (c.transaction).is_recorded) at.recorded) [ inl both ↦ both.1 | inr both ↦ absurd (true≢false (sym some ∙ durable_left ∙ both.0)) ];
        })))
    goes-on_left SinglePhase is voting' owes =
        let at = stands-in boot c SinglePhase is stands in
        let nobody = λ (x : Enlistment) (there' : IsIn x c_left.enlistments) (part : takes_part (c.transaction).id x ≡ true).
        let old = still x there' part in
        let same : e ≡ x = only-one c.enlistments (c.transaction).id (length-filter (takes_part (c.transaction).id) c.enlistments ∙ eqb-true _ 1 at.awaited) e x there old.0 part_left part in
        true≢false (sym it-itself ∙ ap (has_id e.id) same ∙ old.1) in
        if_cases (λ d. Arrives boot c d) (someone_owes c_left) c_left (ended c_left TransactionOutcome.Committed)
        (λ some.
        let one = list_any-at (λ x. takes_part (c.transaction).id x && is_some x.owes) c_left.enlistments some in
        absurd (nobody one.0 one.1 (and_parts (takes_part (c.transaction).id one.0) (is_some (one.0).owes) one.2).0))
        (λ none. arrives-then boot moved_left (arrives-ended boot c_left TransactionOutcome.Committed refl (is_backed-from boot c.transaction stands.boots)
        (Stand-nobody c_left.enlistments (c.transaction).id (is_part_as SinglePhase) (is_part_as Ended) (stand_left (is_part_as SinglePhase) at.stand) nobody)))
    goes-on_left Active is voting' owes = absurd (silent owes (subst (λ p. is_part_as p e ≡ true) is fits_left))
    goes-on_left Requested is voting' owes = absurd (silent owes (subst (λ p. is_part_as p e ≡ true) is fits_left))
    goes-on_left PrePrepared is voting' owes = absurd (silent owes (subst (λ p. is_part_as p e ≡ true) is fits_left))
    goes-on_left _ is voting' owes = absurd (true≢false (sym voting'))

    pub arrives-read_only : Arrives boot c (led (PhaseInput.ReadOnly (share_of e)) c)
    arrives-read_only = subst (Arrives boot c) (sym (rows_law.read_onlies c e (is-part c e rise there part_left))) (if_cases (λ d. Arrives boot c d) (is_some e.owes) (when_none_owes c_left (proceeds_without (c.transaction).phase (seen c_left))) c_left
        (λ owes. goes-on_left (c.transaction).phase refl voting owes)
        (λ silent. record { moved = moved_left; stands = stands_left (awaited_left (c.transaction).phase voting (none-of e.owes silent) fits_left stands.awaited) }))

  -- ---- SinglePhaseReject

  module _ (phase : (c.transaction).phase ≡ SinglePhase) (owes : owes_commit e ≡ true) where
    at_single : Stands boot (in_phase c SinglePhase)
    at_single = stands-in boot c SinglePhase phase stands

    part_single : takes_part (c.transaction).id e ≡ true
    part_single = takes_part-owing Owed.Commit (owed-commit e owes)

    it_single : (x : Enlistment) → IsIn x c.enlistments → takes_part (c.transaction).id x ≡ true → e ≡ x
    it_single x there' part = only-one c.enlistments (c.transaction).id (length-filter (takes_part (c.transaction).id) c.enlistments ∙ eqb-true _ 1 at_single.awaited) e x there there' part_single part

    single-parts : (x : Enlistment) → is_part_as SinglePhase x ≡ true → (x.is_prepared ≡ false) × (x.is_finished ≡ false)
    single-parts x fits =
        let three = and_parts (owes_commit x && not x.is_prepared && not x.is_finished) (allows_one_phase x) fits in
        let two = and_parts (owes_commit x && not x.is_prepared) (not x.is_finished) three.0 in
        (not-true _ (and_parts (owes_commit x) (not x.is_prepared) two.0).1, not-true _ two.1)

    abbrev c_rejected : Course
    c_rejected = in_phase (telling c (has_id e.id) Notify.Prepare (owing Owed.Prepare)) Preparing

    rejected-none : has_durable_part c.managers c_rejected.enlistments (c.transaction).id (λ x. x.is_prepared) ≡ false
    rejected-none = none-from _ c_rejected.enlistments (λ x there'. one x there' (cases_Bool (takes_part (c.transaction).id x)))
      where
        stand : Stand c_rejected.enlistments (c.transaction).id (λ x. not x.is_prepared)
        stand = stand-one (is_part_as SinglePhase) (λ x. not x.is_prepared) (owing Owed.Prepare) at_single.stand part_single (alike-owing Owed.Prepare)
            (λ fits. not_from_false _ (single-parts e fits).0) (λ x there' part fits other. not_from_false _ (single-parts x fits).0)

        one : (x : Enlistment) → IsIn x c_rejected.enlistments → (takes_part (c.transaction).id x ≡ true) ⊎ (takes_part (c.transaction).id x ≡ false) → (takes_part (c.transaction).id x && (x.is_prepared && is_durable_at c.managers x.manager)) ≡ false
        one x there' (inl part) = and_right (takes_part (c.transaction).id x) _ (and_left x.is_prepared _ (not-true _ (stand.parts x there' part)))
        one x there' (inr other) = and_left (takes_part (c.transaction).id x) _ other

    pub arrives-single_phase_reject : Arrives boot c (led PhaseInput.SinglePhaseReject c)
    unfolding led
    arrives-single_phase_reject = record {
      moved = Moved-then (moved-telling c (has_id e.id) Notify.Prepare (owing Owed.Prepare) refl (changes-one (owing Owed.Prepare) (λ x. (alike-owing Owed.Prepare x).same) (recovered-owing Owed.Commit (owed-commit e owes))))
          (moved-transaction (telling c (has_id e.id) Notify.Prepare (owing Owed.Prepare)) c_rejected.transaction refl (omega arith));
      stands = record {
        outcome = at_single.outcome;
        boots = rw (here-from boot (in_phase c SinglePhase).transaction refl at_single.boots) refl;
        superior = refl;
        stand = stand-one (is_part_as SinglePhase) (is_part_as Preparing) (owing Owed.Prepare) at_single.stand part_single (alike-owing Owed.Prepare)
            (λ fits. rw ((single-parts e fits).0, (single-parts e fits).1) refl)
            (λ x there' part fits other. absurd (true≢false (sym it-itself ∙ ap (has_id e.id) (it_single x there' part) ∙ other)));
        awaited = list_any-from (λ x. takes_part (c.transaction).id x && is_some x.owes) c_rejected.enlistments (stepped (has_id e.id) (owing Owed.Prepare) e)
            (IsIn-map (stepped (has_id e.id) (owing Owed.Prepare)) e c.enlistments there) (rw it-itself (and_from _ _ part_single refl));
        alone = refl;
        recorded = rw rejected-none at_single.recorded;
      };
    }

  -- ---- CommitComplete and RollbackComplete

  -- it owes nothing, and has finished
  abbrev finished : Enlistment → Enlistment
  finished = answered Answered.Finished

  alike-finished : (x : Enlistment) → IsAlike x (finished x)
  alike-finished x = record { same = record { id = refl; manager = refl; transaction = refl; kind = refl; information = refl }; read_only = refl }

  abbrev c_finished : Course
  c_finished = changing_one c e.id finished

  finished-moved : (owed : Owed) → e.owes ≡ Some owed → Moved c c_finished
  finished-moved owed is = moved-one finished (λ x. (alike-finished x).same) (recovered-owing owed is)

  module _ (owes : owes_commit e ≡ true) where
    is_commit : e.owes ≡ Some Owed.Commit
    is_commit = owed-commit e owes

    -- what it records
    abbrev done_event : List Event
    done_event = event_if (is_durable_at c.managers e.manager) (Event.Done (c.transaction).id (DonePart.Enlistment e.id))

    -- it was one of many
    one-committed : (c.transaction).phase ≡ Committing → Stands boot (in_phase c Committing) → Arrives boot c (ended_if_finished (recording c_finished done_event) TransactionOutcome.Committed)
    one-committed phase at = arrives-then boot (Moved-then (finished-moved Owed.Commit is_commit) (moved-still c_finished c.transaction (c.events ++ done_event) c.works refl (omega arith)))
        (arrives-if_finished boot (recording c_finished done_event) TransactionOutcome.Committed (is_part_as Committing) refl (is_backed-from boot c.transaction stands.boots) stand
        (λ x fits over. over-part owes_commit x (and_parts x.is_prepared _ fits).1 over)
        (λ some. stands-back boot (recording c_finished done_event) Committing phase (record {
          outcome = at.outcome;
          boots = at.boots;
          superior = refl;
          stand = stand;
          awaited = some;
          alone = refl;
          recorded = elim (or_cases (c.transaction).is_recorded _ at.recorded) [
            | inl recorded' ↦ or_left _ _ recorded'
            | inr none ↦ or_right _ _ (not_from_false _ (fewer (not-true _ none)))
          ];
        })))
      where
        stand : Stand (with_enlistments (has_id e.id) finished c.enlistments) (c.transaction).id (is_part_as Committing)
        stand = stand-one (is_part_as Committing) (is_part_as Committing) finished at.stand (takes_part-owing Owed.Commit is_commit) alike-finished
            (λ fits. and_from _ _ (and_parts e.is_prepared _ fits).0 (rw (and_right e.is_recovered false refl) refl)) (λ x there' part fits other. fits)

        fewer : has_durable_part c.managers c.enlistments (c.transaction).id (λ x. not x.is_finished) ≡ false → has_durable_part c.managers (with_enlistments (has_id e.id) finished c.enlistments) (c.transaction).id (λ x. not x.is_finished) ≡ false
        fewer none = none-from _ (with_enlistments (has_id e.id) finished c.enlistments) (λ x there'.
            let from = IsIn-unmap (stepped (has_id e.id) finished) x c.enlistments there' in
            subst (λ y. (takes_part (c.transaction).id y && (not y.is_finished && is_durable_at c.managers y.manager)) ≡ false) from.1
            (if_cases (λ y. (takes_part (c.transaction).id y && (not y.is_finished && is_durable_at c.managers y.manager)) ≡ false) (has_id e.id from.0) (finished from.0) from.0
            (λ is. and_right (takes_part (c.transaction).id (finished from.0)) false refl) (λ is. none-at _ c.enlistments none from.0 from.2)))

    pub arrives-commit_complete : Arrives boot c (led PhaseInput.CommitComplete c)
    unfolding led
    arrives-commit_complete = if_cases (λ steps. Arrives boot c (run steps c_finished)) (is_single_phase (c.transaction).phase) _ _
        (λ single. elim (is-committing (c.transaction).phase (phase-owing Owed.Commit is_commit)) [
          | inl phase ↦ absurd (true≢false (sym single ∙ ap is_single_phase phase))
          | inr phase ↦ arrives-then boot (finished-moved Owed.Commit is_commit) (arrives-ended boot c_finished TransactionOutcome.Committed refl (is_backed-from boot c.transaction stands.boots)
              (stand-one (is_part_as SinglePhase) (is_part_as Ended) finished (stands-in boot c SinglePhase phase stands).stand (takes_part-owing Owed.Commit is_commit) alike-finished (λ fits. refl)
              (λ x there' part fits other. absurd (true≢false (sym it-itself ∙ ap (has_id e.id) (it_single phase owes x there' part) ∙ other)))))
        ])
        (λ several. elim (is-committing (c.transaction).phase (phase-owing Owed.Commit is_commit)) [
          | inr phase ↦ absurd (true≢false (sym (ap is_single_phase phase) ∙ several))
          | inl phase ↦ one-committed phase (stands-in boot c Committing phase stands)
        ])

  pub arrives-rollback_complete : owes_rollback e ≡ true → Arrives boot c (led PhaseInput.RollbackComplete c)
  unfolding led
  arrives-rollback_complete owes =
      let is = owed-rollback e owes in
      let phase = is-aborting (c.transaction).phase (phase-owing Owed.Rollback is) in
      let at = stands-in boot c Aborting phase stands in
      let stand = stand-one (is_part_as Aborting) (is_part_as Aborting) finished at.stand (takes_part-owing Owed.Rollback is) alike-finished
      (λ fits. rw (and_right e.is_recovered false refl) refl) (λ x there' part fits other. fits) in
      arrives-then boot (finished-moved Owed.Rollback is) (arrives-if_finished boot c_finished TransactionOutcome.Aborted (is_part_as Aborting) refl (is_backed-from boot c.transaction stands.boots) stand
      (λ x fits over. over-part owes_rollback x fits over)
      (λ some. stands-back boot c_finished Aborting phase (record { outcome = at.outcome; boots = at.boots; superior = refl; stand = stand; awaited = some; alone = refl; recorded = refl })))

  -- ---- RecoverEnlistment

  -- it is recovered
  abbrev back : Enlistment → Enlistment
  back = answered Answered.Recovered

  abbrev c_back : Course
  c_back = changing_one c e.id back

  moved-back : Moved c c_back
  moved-back = moved-one back (λ x. record { id = refl; manager = refl; transaction = refl; kind = refl; information = refl }) refl

  it-back : (x : Enlistment) → IsIn x c_back.enlistments → has_id e.id x ≡ true → x ≡ back e
  it-back x there' is =
      let from = IsIn-unmap (stepped (has_id e.id) back) x c.enlistments there' in
      elim (cases_Bool (has_id e.id from.0)) [
        | inl told ↦ let same : back from.0 ≡ x = rw told at from.1 in sym same ∙ ap back (it from.0 from.2 told)
        | inr silent ↦ let same : from.0 ≡ x = rw silent at from.1 in absurd (true≢false (sym is ∙ ap (has_id e.id) (sym same) ∙ silent))
      ]

  changes-back : (f : Enlistment → Enlistment) → ((x : Enlistment) → IsSame x (f x)) → ((f (back e)).is_recovered ≡ true) → Changes c_back (has_id e.id) f
  changes-back f same recovered' = record {
    own = λ x there' is. subst (λ (y : Enlistment). same_id y.transaction (c.transaction).id ≡ true) (sym (it-back x there' is)) own;
    same = same;
    recovered = λ x there' is. inr (subst (λ y. (f y).is_recovered ≡ true) (sym (it-back x there' is)) recovered');
  }

  stand-back : (before after : Enlistment → Bool) → Stand c.enlistments (c.transaction).id before → (takes_part (c.transaction).id e ≡ true → before e ≡ true → after (back e) ≡ true)
      → ((x : Enlistment) → IsIn x c.enlistments → before x ≡ true → has_id e.id x ≡ false → after x ≡ true) → Stand c_back.enlistments (c.transaction).id after
  stand-back before after stand itself left' = record {
    others = λ x there' own' other.
        let from = IsIn-unmap (stepped (has_id e.id) back) x c.enlistments there' in
        elim (cases_Bool (has_id e.id from.0)) [
          | inl told ↦
              let same : back from.0 ≡ x = rw told at from.1 in
              subst (λ y. is_bystander y ≡ true) same
              (stand.others from.0 from.2 (subst (λ (y : Enlistment). same_id y.transaction (c.transaction).id ≡ true) (sym same) own') (ap (takes_part (c.transaction).id) same ∙ other))
          | inr silent ↦ let same : from.0 ≡ x = rw silent at from.1 in stand.others x (subst (λ y. IsIn y c.enlistments) same from.2) own' other
        ];
    parts = λ x there' part.
        let from = IsIn-unmap (stepped (has_id e.id) back) x c.enlistments there' in
        elim (cases_Bool (has_id e.id from.0)) [
          | inl told ↦
              let same : back from.0 ≡ x = rw told at from.1 in
              let is = it from.0 from.2 told in
              subst (λ y. after y ≡ true) same (subst (λ y. after (back y) ≡ true) (sym is)
              (let part' = ap (takes_part (c.transaction).id) same ∙ part in itself (subst (λ y. takes_part (c.transaction).id y ≡ true) is part') (subst (λ y. before y ≡ true) is (stand.parts from.0 from.2 part'))))
          | inr silent ↦
              let same : from.0 ≡ x = rw silent at from.1 in
              let there'' = subst (λ y. IsIn y c.enlistments) same from.2 in
              left' x there'' (stand.parts x there'' part) (subst (λ y. has_id e.id y ≡ false) same silent)
        ];
  }

  awaited-back : (phase : Phase) → is_awaited_as phase c_back.enlistments (c.transaction).id ≡ is_awaited_as phase c.enlistments (c.transaction).id
  awaited-back PrePreparing = list_any-with (λ x. takes_part (c.transaction).id x && is_some x.owes) (has_id e.id) back (λ x. refl) c.enlistments
  awaited-back Preparing = list_any-with (λ x. takes_part (c.transaction).id x && is_some x.owes) (has_id e.id) back (λ x. refl) c.enlistments
  awaited-back SinglePhase = ap (λ n. n == 1) (sym (length-filter (takes_part (c.transaction).id) c_back.enlistments) ∙ filter-with (takes_part (c.transaction).id) (has_id e.id) back (λ x. refl) c.enlistments ∙ length-filter (takes_part (c.transaction).id) c.enlistments)
  awaited-back Committing = list_any-with (is_unfinished (c.transaction).id) (has_id e.id) back (λ x. refl) c.enlistments
  awaited-back Aborting = list_any-with (is_unfinished (c.transaction).id) (has_id e.id) back (λ x. refl) c.enlistments
  awaited-back _ = refl

  recorded-back : (phase : Phase) (r : Bool) → is_recorded_as phase c.managers c_back.enlistments (c.transaction).id r ≡ is_recorded_as phase c.managers c.enlistments (c.transaction).id r
  recorded-back Preparing r = ap (λ b. if b then r else not r) (list_any-with (λ x. takes_part (c.transaction).id x && (x.is_prepared && is_durable_at c.managers x.manager)) (has_id e.id) back (λ x. refl) c.enlistments)
  recorded-back Committing r = ap (λ b. r || not b) (list_any-with (λ x. takes_part (c.transaction).id x && (not x.is_finished && is_durable_at c.managers x.manager)) (has_id e.id) back (λ x. refl) c.enlistments)
  recorded-back _ r = refl

  stands-back_with : (sent : List Sent) → Stand c_back.enlistments (c.transaction).id (is_part_as (c.transaction).phase) → Stands boot (record c_back { sent = sent })
  stands-back_with sent stand = record {
    outcome = stands.outcome;
    boots = stands.boots;
    superior = subst (λ b. is_superior_as (c.transaction).phase b ≡ true) (sym (superior-one back (λ x. record { id = refl; manager = refl; transaction = refl; kind = refl; information = refl }))) stands.superior;
    stand = stand;
    awaited = awaited-back (c.transaction).phase ∙ stands.awaited;
    alone = stands.alone;
    recorded = recorded-back (c.transaction).phase (c.transaction).is_recorded ∙ stands.recorded;
  }

  -- who is told something more, and not changed
  arrives-told : (kind : Notify) → is_last_recover kind ≡ false → Stand c_back.enlistments (c.transaction).id (is_part_as (c.transaction).phase) → Arrives boot c (telling c_back (has_id e.id) kind unchanged)
  arrives-told kind other stand = record {
    moved = Moved-then moved-back (moved-telling c_back (has_id e.id) kind unchanged other (changes-back unchanged IsSame-refl refl));
    stands = let d = telling c_back (has_id e.id) kind unchanged in
        subst (λ es. Stands boot (record d { enlistments = es })) (sym (with-unchanged (has_id e.id) c_back.enlistments)) (stands-back_with d.sent stand);
  }

  module _ (unrecovered : e.is_recovered ≡ false) where
    parts_back : (e.is_read_only ≡ false) × (e.is_finished ≡ false) × (is_none e.owes ≡ true) × ((is_superior e || e.is_prepared) ≡ true)
    parts_back = unrecovered-parts boot c.managers e (brought e there) unrecovered

    -- where the phase asks the same of it
    phase-back : (phase : Phase) → Stand c.enlistments (c.transaction).id (is_part_as phase) → (is_part_as phase e ≡ true → is_part_as phase (back e) ≡ true) → Stand c_back.enlistments (c.transaction).id (is_part_as phase)
    phase-back phase stand itself = stand-back (is_part_as phase) (is_part_as phase) stand (λ part. itself) (λ x there' fits other. fits)

    -- it is told of the outcome, and owes an answer
    abbrev is_told_next : (Enlistment → Bool) → Enlistment → Bool
    is_told_next test x = if has_id e.id x then x.is_prepared && not x.is_finished && x.is_recovered else test x

    stand-told : (phase : Phase) (owed : Owed) → Stand c.enlistments (c.transaction).id (is_part_as phase) → is_superior e ≡ false
        → ((x : Enlistment) → x.is_prepared ≡ true → x.is_finished ≡ false → x.is_recovered ≡ true → is_part_as phase (owing owed x) ≡ true)
        → Stand (with_enlistments (has_id e.id) (owing owed) c_back.enlistments) (c.transaction).id (is_part_as phase)
    stand-told phase owed stand ordinary owes = Stand-with c_back.enlistments (c.transaction).id (is_told_next (is_part_as phase)) (is_part_as phase) (has_id e.id) (owing owed)
        (stand-back (is_part_as phase) (is_told_next (is_part_as phase)) stand
        (λ part fits. rw it-itself (and_from _ _ (and_from _ _ prepared' (not_from_false _ parts_back.1)) refl)) (λ x there' fits other. rw other fits))
        (λ x there' is. subst (λ y. takes_part (c.transaction).id y ≡ true) (sym (it-back x there' is)) (and_from _ _ (and_from _ _ own (not_from_false _ ordinary)) (not_from_false _ parts_back.0)))
        (alike-owing owed)
        (λ x there' part next is.
        let next' : (x.is_prepared && not x.is_finished && x.is_recovered) ≡ true = rw is at next in
        let both = and_parts (x.is_prepared && not x.is_finished) x.is_recovered next' in
        let first = and_parts x.is_prepared (not x.is_finished) both.0 in
        owes x first.0 (not-true _ first.1) both.1)
        (λ x there' part next silent'. let next' : is_part_as phase x ≡ true = rw silent' at next in next')
      where
        prepared' : e.is_prepared ≡ true
        prepared' = elim (or_cases (is_superior e) e.is_prepared parts_back.3) [ inl above ↦ absurd (true≢false (sym above ∙ ordinary)) | inr is ↦ is ]

    -- nothing is told
    recovered-silently : (phase : Phase) → (c.transaction).phase ≡ phase → (is_part_as phase e ≡ true → is_part_as phase (back e) ≡ true) → Arrives boot c c_back
    recovered-silently phase is itself = record {
      moved = moved-back;
      stands = stands-back_with c.sent (subst (λ p. Stand c_back.enlistments (c.transaction).id (is_part_as p)) (sym is) (phase-back phase (stands-in boot c phase is stands).stand itself));
    }

    recovered-in : (phase : Phase) → (c.transaction).phase ≡ phase → is_superior e ≡ false → Arrives boot c (run (tells_in phase) c_back)
    recovered-in InDoubt is ordinary = arrives-told Notify.Indoubt refl (subst (λ p. Stand c_back.enlistments (c.transaction).id (is_part_as p)) (sym is) (phase-back InDoubt (stands-in boot c InDoubt is stands).stand (λ fits. fits)))
    recovered-in Committing is ordinary =
        let at = stands-in boot c Committing is stands in
        let d = telling c_back (has_id e.id) Notify.Commit (owing Owed.Commit) in
        record {
          moved = Moved-then moved-back (moved-telling c_back (has_id e.id) Notify.Commit (owing Owed.Commit) refl (changes-back (owing Owed.Commit) (λ x. (alike-owing Owed.Commit x).same) refl));
          stands = stands-back boot d Committing is (record {
            outcome = at.outcome;
            boots = at.boots;
            superior = refl;
            stand = stand-told Committing Owed.Commit at.stand ordinary (λ x prepared' unfinished recovered'. rw (prepared', recovered', unfinished) refl);
            awaited = list_any-with (is_unfinished (c.transaction).id) (has_id e.id) (owing Owed.Commit) (λ x. refl) c_back.enlistments ∙ awaited-back Committing ∙ at.awaited;
            alone = refl;
            recorded = ap (λ b. (c.transaction).is_recorded || not b) (list_any-with (λ x. takes_part (c.transaction).id x && (not x.is_finished && is_durable_at c.managers x.manager)) (has_id e.id) (owing Owed.Commit) (λ x. refl) c_back.enlistments)
                ∙ recorded-back Committing (c.transaction).is_recorded ∙ at.recorded;
          });
        }
    recovered-in Aborting is ordinary =
        let at = stands-in boot c Aborting is stands in
        let d = telling c_back (has_id e.id) Notify.Rollback (owing Owed.Rollback) in
        record {
          moved = Moved-then moved-back (moved-telling c_back (has_id e.id) Notify.Rollback (owing Owed.Rollback) refl (changes-back (owing Owed.Rollback) (λ x. (alike-owing Owed.Rollback x).same) refl));
          stands = stands-back boot d Aborting is (record {
            outcome = at.outcome;
            boots = at.boots;
            superior = refl;
            stand = stand-told Aborting Owed.Rollback at.stand ordinary (λ x prepared' unfinished recovered'. rw (recovered', unfinished) refl);
            awaited = list_any-with (is_unfinished (c.transaction).id) (has_id e.id) (owing Owed.Rollback) (λ x. refl) c_back.enlistments ∙ awaited-back Aborting ∙ at.awaited;
            alone = refl;
            recorded = refl;
          });
        }
    recovered-in phase is ordinary = recovered-silently phase is (λ fits. fits)

    pub arrives-recovered : Arrives boot c (led (recovery_of e) c)
    unfolding led
    arrives-recovered = if_cases (λ input. Arrives boot c (run (row (seen c) input) c)) (is_superior e) PhaseInput.RecoverSuperior PhaseInput.Recover
        (λ above. arrives-told Notify.RecoverQuery refl (stand-back (is_part_as (c.transaction).phase) (is_part_as (c.transaction).phase) stands.stand
        (λ part. absurd (true≢false (sym above ∙ (part-parts (c.transaction).id e part).1))) (λ x there' fits other. fits)))
        (λ ordinary. recovered-in (c.transaction).phase refl ordinary)
