-- What steps tell of an outcome is so, and a known outcome stays, where they pass the test on lists; and each row passes it.
use Rattle.std.specs.Prelude.{if◌then◌else◌}
use Rattle.std.proofs.Common.{◌≡◌, ◌==◌, Bool, true, false, List, [], ◌∷◌, All, filter, map, Option, Some, None, refl, sym, ◌∙◌, subst, inl, inr, ◌⊎◌, ◌&&◌}
use Rattle.std.proofs.lemmas.Bool.{and_parts, true≢false}
use Rattle.std.proofs.lemmas.List.Elements.{All-append, All-map, All-nil, All-weaker}
use Rattle.std.specs.List.{list_any}
use Rattle.ktm_base.specs.declared.notify.Notify.{Notify}
use Rattle.ktm_world.specs.declared.object.Phase.{Phase}
use Rattle.ktm_world.specs.declared.object.Phase.TheVariants.{PrePreparing, Preparing, SinglePhase, Committing, Aborting, Ended}
use Rattle.ktm_world.specs.declared.object.TransactionOutcome.{TransactionOutcome}
use Rattle.ktm_world.specs.declared.object.TransactionOutcome.TheVariants.{Undetermined, Committed, Aborted}
use Rattle.ktm_world.specs.declared.input.PhaseInput.{PhaseInput}
use Rattle.ktm_world.specs.declared.input.Seen.{Seen}
use Rattle.ktm_world.specs.declared.step.Step.{Step}
use Rattle.ktm_world.specs.Enlistments.{Enlistment, Sent, is_unfinished, tell}
use Rattle.ktm_world.specs.OneOutcome.{told_outcome}
use Rattle.ktm_world.specs.Phases.{Course, decided, end_notice, ended, in_phase, is_its_superior, is_single_phase, owing, telling, unchanged}
use Rattle.ktm_world.specs.Rows.{aborts, all_readies, commit_completes, commits, proceeds, proceeds_without, is_last, participants, pre_prepare_completes, pre_prepares, prepare_completes, prepares, read_onlies, requests, rollback_completes, row, tells_in, without}
use Rattle.ktm_world.specs.Steps.{answered, carried, changing, is_meant, led, run, seen}
use Rattle.ktm_steps.proofs.offered.Lists.{Pass, row-passes, row_lists}
use Rattle.ktm_steps.specs.Outcomes.{AreTrue, IsKnownIn, KeepsTrue, MayBe, MayCome, OutcomeLaw, StaysTrue, TellsOnly, known, IsTrue}
use Rattle.ktm_steps.proofs.offered.Ways.{Ways, pre_prepares-by, prepares-by, proceeds-by, requests-by, if_cases}

through : (k j t : Option Bool) → MayBe k j → MayBe j t → MayBe k t
through k j t (inl none) second = inl none
through k j t (inr same) (inl none) = inl (same ∙ none)
through k j t (inr same) (inr same') = inr (same ∙ same')

widen : (k j : Option Bool) (kind : Notify) → MayBe k j → TellsOnly k kind → TellsOnly j kind
widen k j kind may (inl none) = inl none
widen k j kind (inl none) (inr same) = inl (same ∙ none)
widen k j kind (inr same') (inr same) = inr (same ∙ same')

-- ---- courses

-- a course has told nothing but this of the outcome
abbrev Tells : Option Bool → Course → Type 0
Tells k c = All (λ (s : Sent). TellsOnly k s.note.kind) c.sent

tells-wider : (k j : Option Bool) (c : Course) → MayBe k j → Tells k c → Tells j c
tells-wider k j c may tells = All-weaker (λ (s : Sent). TellsOnly k s.note.kind) (λ (s : Sent). TellsOnly j s.note.kind) (λ s. widen k j s.note.kind may) c.sent tells

tells-more : (k : Option Bool) (c : Course) (test : Enlistment → Bool) (kind : Notify) (f : Enlistment → Enlistment) → TellsOnly k kind → Tells k c → Tells k (telling c test kind f)
tells-more k c test kind f only tells =
    All-append (λ (s : Sent). TellsOnly k s.note.kind) c.sent (map (tell kind) (filter test c.enlistments)) tells
    (All-map (λ (s : Sent). TellsOnly k s.note.kind) (tell kind) (filter test c.enlistments) (λ i e below. only))

ended-known : (c : Course) (outcome : TransactionOutcome) → known (ended c outcome) ≡ told_outcome outcome
unfolding ended
ended-known c outcome = refl

ended-tells : (k : Option Bool) (c : Course) (outcome : TransactionOutcome) → MayBe k (told_outcome outcome) → TellsOnly (told_outcome outcome) (end_notice outcome) → Tells k c → Tells (told_outcome outcome) (ended c outcome)
unfolding ended
ended-tells k c outcome may only tells =
    let d = in_phase (decided c outcome) Ended in
    tells-more (told_outcome outcome) d (is_its_superior c) (end_notice outcome) unchanged only (tells-wider k (told_outcome outcome) d may tells)

-- ---- steps

then-true : (k j : Option Bool) (d : Course) → MayBe k j → StaysTrue j d → StaysTrue k d
then-true k j d may true' = record { tells = true'.tells; stays = through k j (known d) may true'.stays }

changed-tells : (k : Option Bool) (c : Course) (e : Option Enlistment) (f : Enlistment → Enlistment) → MayBe k (known c) → Tells k c → MayBe k (known (changing c e f)) × Tells k (changing c e f)
changed-tells k c None f may tells = (may, tells)
changed-tells k c (Some e) f may tells = (may, tells)

-- where no more was told than this, which is known or nothing
pub stays-true : (k : Option Bool) (steps : List Step) (c : Course) → MayBe k (known c) → Tells k c → AreTrue k steps → StaysTrue k (run steps c)
stays-true k [] c may tells ok = record { tells = tells-wider k (known c) c may tells; stays = may }
stays-true k (Step.Tell who kind ∷ steps) c may tells ok = stays-true k steps (carried (Step.Tell who kind) c) may (tells-more k c (is_meant who c) kind unchanged ok.0 tells) ok.1
stays-true k (Step.Ask who kind owed ∷ steps) c may tells ok = stays-true k steps (carried (Step.Ask who kind owed) c) may (tells-more k c (is_meant who c) kind (owing owed) ok.0 tells) ok.1
stays-true k (Step.Decide outcome ∷ steps) c may tells ok =
    then-true k (told_outcome outcome) _ ok.0 (stays-true (told_outcome outcome) steps (decided c outcome) (inr refl) (tells-wider k (told_outcome outcome) c ok.0 tells) ok.1)
stays-true k (Step.End outcome ∷ steps) c may tells ok =
    then-true k (told_outcome outcome) _ ok.0 (stays-true (told_outcome outcome) steps (ended c outcome) (inr (sym (ended-known c outcome))) (ended-tells k c outcome ok.0 ok.1 tells) ok.2)
stays-true k (Step.EndWhereFinished outcome ∷ steps) c may tells ok = if_cases (λ d. StaysTrue k (run steps d)) (list_any (is_unfinished c.transaction.id) c.enlistments) c (ended c outcome)
    (λ some. stays-true k steps c may tells ok.2)
    (λ none. then-true k (told_outcome outcome) _ ok.0 (stays-true (told_outcome outcome) steps (ended c outcome) (inr (sym (ended-known c outcome))) (ended-tells k c outcome ok.0 ok.1 tells) ok.3))
stays-true k (Step.Record fact ∷ steps) c may tells ok = stays-true k steps (carried (Step.Record fact) c) may tells ok
stays-true k (Step.Commit ∷ steps) c may tells ok = stays-true k steps (carried Step.Commit c) may tells ok
stays-true k (Step.Enter phase ∷ steps) c may tells ok = stays-true k steps (carried (Step.Enter phase) c) may tells ok
stays-true k (Step.Change answer ∷ steps) c may tells ok = let same = changed-tells k c c.caller (answered answer) may tells in stays-true k steps (carried (Step.Change answer) c) same.0 same.1 ok

-- ---- rows

true-commits : AreTrue None commits
true-commits = (inl refl, (inr refl, (inr refl, inr refl, tt, tt)))

true-aborts : AreTrue None aborts
true-aborts = (inl refl, (inr refl, (inr refl, (inr refl, inr refl, tt, tt))))

true-all_readies : (s : Seen) → AreTrue None (all_readies s)
true-all_readies s = if_cases (AreTrue None) s.has_superior _ _ (λ above. (inl refl, tt)) (λ top. if_cases (AreTrue None) (participants s == 0) _ commits (λ none. (inl refl, inr refl, tt)) (λ some. true-commits))

true-ways : (s : Seen) → Ways (AreTrue None) s
true-ways s = record {
  requested = λ has. (inl refl, tt);
  pre_prepared = λ has. (inl refl, tt);
  pre_preparing = λ some. (inl refl, tt);
  preparing = λ some. (inl refl, tt);
  one_phase = λ alone one no_files no_keys some. (inl refl, tt);
  files = λ one some. (inl refl, inr refl, tt);
  keys = λ one no_files some. (inl refl, inr refl, tt);
  nobody = λ none. (inl refl, inr refl, tt);
  ready = λ none. true-all_readies s;
}

true-where : (k : Option Bool) (b : Bool) (steps : List Step) → AreTrue k steps → AreTrue k (if b then steps else [])
true-where k b steps ok = if_cases (AreTrue k) b steps [] (λ is. ok) (λ other. tt)

true-proceeds_without : (phase : Phase) (s : Seen) → AreTrue None (proceeds_without phase s)
true-proceeds_without PrePreparing s = proceeds-by (AreTrue None) s (true-ways s)
true-proceeds_without Preparing s = true-all_readies s
true-proceeds_without SinglePhase s = (inl refl, inr refl, tt)
true-proceeds_without _ s = tt

true-commit_completes : (k : Option Bool) (phase : Phase) → MayBe k (Some true) → AreTrue k (commit_completes phase)
true-commit_completes k phase may = if_cases (AreTrue k) (is_single_phase phase) _ _ (λ one. (may, inr refl, tt)) (λ several. (may, inr refl, tt, tt))

true-rollback_completes : (k : Option Bool) → MayBe k (Some false) → AreTrue k rollback_completes
true-rollback_completes k may = (may, inr refl, tt, tt)

true-tells_in : (k : Option Bool) (phase : Phase) → IsKnownIn phase k → AreTrue k (tells_in phase)
true-tells_in k Phase.InDoubt is = (inl refl, tt)
true-tells_in k Committing is = (inr (sym is), tt)
true-tells_in k Aborting is = (inr (sym is), tt)
true-tells_in k _ is = tt

at-none : (k : Option Bool) (steps : List Step) → k ≡ None → AreTrue None steps → AreTrue k steps
at-none k steps is ok = subst (λ k. AreTrue k steps) (sym is) ok

true-row : (s : Seen) (input : PhaseInput) (k : Option Bool) → MayCome k s.phase input → AreTrue k (row s input)
true-row s PhaseInput.CommitTransaction k is = at-none k (requests s) is (requests-by (AreTrue None) s (true-ways s))
true-row s PhaseInput.Rollback k is = at-none k aborts is true-aborts
true-row s PhaseInput.PrePrepareComplete k is = at-none k (pre_prepare_completes s) is (true-where None (is_last s) (proceeds s) (proceeds-by (AreTrue None) s (true-ways s)))
true-row s PhaseInput.PrepareComplete k is = at-none k (prepare_completes s) is (true-where None (is_last s) (all_readies s) (true-all_readies s))
true-row s (PhaseInput.ReadOnly share) k is = at-none k (read_onlies s share) is (true-where None _ (proceeds_without s.phase (without share s)) (true-proceeds_without s.phase (without share s)))
true-row s PhaseInput.SinglePhaseReject k is = (inl refl, tt)
true-row s PhaseInput.CommitComplete k may = true-commit_completes k s.phase may
true-row s PhaseInput.RollbackComplete k may = true-rollback_completes k may
true-row s PhaseInput.PrePrepare k is = at-none k (pre_prepares s) is (pre_prepares-by (AreTrue None) s (true-ways s))
true-row s PhaseInput.Prepare k is = at-none k (prepares s) is (prepares-by (AreTrue None) s (true-ways s))
true-row s PhaseInput.Commit k is = at-none k commits is true-commits
true-row s PhaseInput.Recover k is = true-tells_in k s.phase is
true-row s PhaseInput.RecoverSuperior k is = (inl refl, tt)

-- ---- the law

keeps-steps : (steps : List Step) (c : Course) → AreTrue (known c) steps → KeepsTrue c (run steps c)
keeps-steps steps c ok tells = stays-true (known c) steps c (inr refl) tells ok

-- what may come while nothing is known, but that an enlistment recovers, which may be told what is known
may-come : (phase : Phase) (known : Option Bool) (input : PhaseInput) → IsKnownIn phase known → (k : Option Bool) × MayBe k known × MayCome k phase input
may-come phase known PhaseInput.Recover is = (known, inr refl, is)
may-come phase known PhaseInput.SinglePhaseReject is = (None, inl refl, tt)
may-come phase known PhaseInput.CommitComplete is = (None, inl refl, inl refl)
may-come phase known PhaseInput.RollbackComplete is = (None, inl refl, inl refl)
may-come phase known PhaseInput.RecoverSuperior is = (None, inl refl, tt)
may-come phase known _ is = (None, inl refl, refl)

tells-of-row : (input : PhaseInput) (c : Course) → c.sent ≡ [] → IsKnownIn c.transaction.phase (known c) → IsTrue (led input c)
unfolding led
tells-of-row input c none is =
    let k = may-come c.transaction.phase (known c) input is in
    (stays-true k.0 (row (seen c) input) c k.1 (subst (All (λ (s : Sent). TellsOnly k.0 s.note.kind)) (sym none) (All-nil (λ (s : Sent). TellsOnly k.0 s.note.kind))) (true-row (seen c) input k.0 k.2)).tells

pub outcome_law : OutcomeLaw
unfolding led
outcome_law = record {
  steps = keeps-steps;
  rows = λ input c may. keeps-steps (row (seen c) input) c (true-row (seen c) input (known c) may);
  tells = tells-of-row;
}

-- ---- what is decided

-- is it this outcome
abbrev is_this : Bool → TransactionOutcome → Bool
is_this true Committed = true
is_this false Aborted = true
is_this _ _ = false

-- is no other outcome decided than this
abbrev pub decides_only : Bool → List Step → Bool
decides_only k [] = true
decides_only k (Step.Decide outcome ∷ steps) = is_this k outcome && decides_only k steps
decides_only k (Step.End outcome ∷ steps) = is_this k outcome && decides_only k steps
decides_only k (Step.EndWhereFinished outcome ∷ steps) = is_this k outcome && decides_only k steps
decides_only k (_ ∷ steps) = decides_only k steps

this-told : (k : Bool) (outcome : TransactionOutcome) → is_this k outcome ≡ true → told_outcome outcome ≡ Some k
this-told true Committed is = refl
this-told false Aborted is = refl
this-told true Undetermined is = absurd (true≢false (sym is))
this-told true Aborted is = absurd (true≢false (sym is))
this-told false Undetermined is = absurd (true≢false (sym is))
this-told false Committed is = absurd (true≢false (sym is))

-- its outcome is the one that it had, or this
abbrev pub IsOr : Option Bool → Bool → Course → Type 0
IsOr before k d = (known d ≡ before) ⊎ (known d ≡ Some k)

from-this : (before after : Option Bool) (k : Bool) (d : Course) → after ≡ Some k → IsOr after k d → IsOr before k d
from-this before after k d is (inl same) = inr (same ∙ is)
from-this before after k d is (inr this) = inr this

known-changing : (c : Course) (e : Option Enlistment) (f : Enlistment → Enlistment) → known (changing c e f) ≡ known c
known-changing c None f = refl
known-changing c (Some e) f = refl

decided-run : (k : Bool) (steps : List Step) (c : Course) → decides_only k steps ≡ true → IsOr (known c) k (run steps c)
decided-run k [] c only = inl refl
decided-run k (Step.Decide outcome ∷ steps) c only =
    let both = and_parts (is_this k outcome) (decides_only k steps) only in
    from-this (known c) (told_outcome outcome) k (run steps (decided c outcome)) (this-told k outcome both.0) (decided-run k steps (decided c outcome) both.1)
decided-run k (Step.End outcome ∷ steps) c only =
    let both = and_parts (is_this k outcome) (decides_only k steps) only in
    from-this (known c) (known (ended c outcome)) k (run steps (ended c outcome)) (ended-known c outcome ∙ this-told k outcome both.0) (decided-run k steps (ended c outcome) both.1)
decided-run k (Step.EndWhereFinished outcome ∷ steps) c only =
    let both = and_parts (is_this k outcome) (decides_only k steps) only in
    if_cases (λ d. IsOr (known c) k (run steps d)) (list_any (is_unfinished c.transaction.id) c.enlistments) c (ended c outcome) (λ some. decided-run k steps c both.1)
    (λ none. from-this (known c) (known (ended c outcome)) k (run steps (ended c outcome)) (ended-known c outcome ∙ this-told k outcome both.0) (decided-run k steps (ended c outcome) both.1))
decided-run k (Step.Change answer ∷ steps) c only =
    subst (λ before. IsOr before k (run steps (carried (Step.Change answer) c))) (known-changing c c.caller (answered answer)) (decided-run k steps (carried (Step.Change answer) c) only)
decided-run k (Step.Record fact ∷ steps) c only = decided-run k steps (carried (Step.Record fact) c) only
decided-run k (Step.Commit ∷ steps) c only = decided-run k steps (carried Step.Commit c) only
decided-run k (Step.Tell who kind ∷ steps) c only = decided-run k steps (carried (Step.Tell who kind) c) only
decided-run k (Step.Ask who kind owed ∷ steps) c only = decided-run k steps (carried (Step.Ask who kind owed) c) only
decided-run k (Step.Enter phase ∷ steps) c only = decided-run k steps (carried (Step.Enter phase) c) only

-- a row of which no list decides anything else
pub decided-led : (k : Bool) (input : PhaseInput) (c : Course) → Pass (decides_only k) (row_lists input) → IsOr (known c) k (led input c)
unfolding led
decided-led k input c pass = decided-run k (row (seen c) input) c (row-passes (decides_only k) (seen c) input pass)

-- CommitTransaction decides nothing but a commit
pub committed-led : (c : Course) → IsOr (known c) true (led PhaseInput.CommitTransaction c)
committed-led c = decided-led true PhaseInput.CommitTransaction c (refl, (refl, (refl, (refl, (refl, (refl, (refl, (refl, (refl, (refl, (refl, tt)))))))))))
