-- What rows cost: to no enlistment is more sent by the row of what may come, and still to be sent then, than was to be sent before.
use Rattle.std.specs.Prelude.{if◌then◌else◌}
use Rattle.std.proofs.Common.{◌≡◌, ℕ, zero, suc, ◌≤◌, ◌==◌, ◌&&◌, ◌||◌, not, Bool, true, false, List, [], ◌∷◌, nat_le, refl, sym, ◌∙◌, inl, inr}
use Rattle.std.specs.List.{AllByRecursion, list_all}
use Rattle.std.proofs.lemmas.Bool.{and_parts, leb-true, not-true, or_cases, true≢false}
use Rattle.ktm_base.specs.declared.notify.Notify.{Notify}
use Rattle.ktm_world.specs.declared.input.PhaseInput.{PhaseInput}
use Rattle.ktm_world.specs.declared.input.Seen.{Seen}
use Rattle.ktm_world.specs.declared.input.Share.{Share}
use Rattle.ktm_world.specs.declared.object.Phase.{Phase}
use Rattle.ktm_world.specs.declared.object.Phase.TheVariants.{Active, Requested, PrePreparing, PrePrepared, Preparing, SinglePhase, Held, InDoubt, Committing, Aborting, Ended}
use Rattle.ktm_world.specs.declared.object.TransactionOutcome.TheVariants.{Committed}
use Rattle.ktm_world.specs.declared.step.Answered.{Answered}
use Rattle.ktm_world.specs.declared.step.Fact.{Fact}
use Rattle.ktm_world.specs.declared.step.Owed.{Owed}
use Rattle.ktm_world.specs.declared.step.Step.{Step}
use Rattle.ktm_world.specs.declared.step.Step.TheVariants.{Record, Tell, Ask, Change, Enter, End, EndWhereFinished}
use Rattle.ktm_world.specs.declared.step.Who.{Who}
use Rattle.ktm_world.specs.Rows.{all_readies, commits, is_last, participants, pre_prepares, prepares, prepares_all, prepares_alone, proceeds, proceeds_without, recovers, requests, row, without}
use Rattle.ktm_steps.proofs.offered.Ways.{if_cases}
use Rattle.ktm_slots.specs.Slots.{may_come_in}
use Rattle.ktm_slots.proofs.Costs.{Case, cost, owed, takes}

-- ---- every case

-- is it so of both that this makes of a case
abbrev over : (Case → Bool → Case) → (Case → Bool) → Case → Bool
over set test k = test (set k true) && test (set k false)

over-at : (set : Case → Bool → Case) (test : Case → Bool) (k : Case) → over set test k ≡ true → (b : Bool) → test (set k b) ≡ true
over-at set test k all true = (and_parts (test (set k true)) (test (set k false)) all).0
over-at set test k all false = (and_parts (test (set k true)) (test (set k false)) all).1

module _ (test : Case → Bool) where
  abbrev of_given : Case → Bool
  of_given = over (λ k b. record k { given = b }) test

  abbrev of_asks : Case → Bool
  of_asks = over (λ k b. record k { asks = b }) of_given

  abbrev of_recovered : Case → Bool
  of_recovered = over (λ k b. record k { recovered = b }) of_asks

  abbrev of_prepared : Case → Bool
  of_prepared = over (λ k b. record k { prepared = b }) of_recovered

  abbrev of_read_only : Case → Bool
  of_read_only = over (λ k b. record k { read_only = b }) of_prepared

  abbrev of_superior : Case → Bool
  of_superior = over (λ k b. record k { superior = b }) of_read_only

  -- a case with which to begin
  abbrev start : Case
  start = record { own = true; superior = true; read_only = true; prepared = true; recovered = true; asks = true; given = true }

  -- is it so of every case
  abbrev of_every : Bool
  of_every = over (λ k b. record k { own = b }) of_superior start

  every-at : of_every ≡ true → (k : Case) → test k ≡ true
  every-at all k =
      let first = record start { own = k.own } in
      let second = record first { superior = k.superior } in
      let third = record second { read_only = k.read_only } in
      let fourth = record third { prepared = k.prepared } in
      let fifth = record fourth { recovered = k.recovered } in
      let sixth = record fifth { asks = k.asks } in
      over-at (λ k b. record k { given = b }) test sixth (
      over-at (λ k b. record k { asks = b }) of_given fifth (
      over-at (λ k b. record k { recovered = b }) of_asks fourth (
      over-at (λ k b. record k { prepared = b }) of_recovered third (
      over-at (λ k b. record k { read_only = b }) of_prepared second (over-at (λ k b. record k { superior = b }) of_read_only first (over-at (λ k b. record k { own = b }) of_superior start all k.own) k.superior)
      k.read_only
      ) k.prepared
      ) k.recovered
      ) k.asks
      ) k.given

-- ---- lists of steps

-- what may be so of an enlistment where this comes: the one that calls is the one from which this may come
abbrev pub may_be : PhaseInput → Case → Bool
may_be PhaseInput.SinglePhaseReject k = not k.given || takes k
may_be PhaseInput.Recover k = not k.given || (takes k && not k.recovered)
may_be PhaseInput.RecoverSuperior k = not k.given || (k.own && k.superior && not k.recovered)
may_be _ k = true

-- do the steps from this phase on cost no enlistment more than it is owed
abbrev pub are_paid : PhaseInput → Phase → List Step → Bool
are_paid input phase steps = of_every (λ k. not (may_be input k) || nat_le (cost phase steps k) (owed phase k))

-- all are prepared, and it is decided, or waited for a superior
abbrev readied : List (List Step)
readied =
    (Record Fact.ReadyFiles ∷ Record Fact.ReadyKeys ∷ Record Fact.Held ∷ Tell Who.Superior Notify.PrepareComplete ∷ Enter Held ∷ [])
    ∷ (Record Fact.ReadyFiles ∷ Record Fact.ReadyKeys ∷ End Committed ∷ [])
    ∷ (Record Fact.ReadyFiles ∷ Record Fact.ReadyKeys ∷ commits)
    ∷ []

-- it is to be prepared
abbrev prepared : List (List Step)
prepared =
    (Ask Who.Parts Notify.Prepare Owed.Prepare ∷ Enter Preparing ∷ [])
    ∷ (Ask Who.Parts Notify.SinglePhaseCommit Owed.Commit ∷ Enter SinglePhase ∷ [])
    ∷ (Record Fact.SingleFiles ∷ Step.Commit ∷ End Committed ∷ [])
    ∷ (Record Fact.SingleKeys ∷ Step.Commit ∷ End Committed ∷ [])
    ∷ (End Committed ∷ [])
    ∷ readied

-- all have pre-prepared
abbrev proceeded : List (List Step)
proceeded = (Tell Who.Superior Notify.PrePrepareComplete ∷ Enter PrePrepared ∷ []) ∷ prepared

-- those that ask for it are to pre-prepare
abbrev pre_prepared : List (List Step)
pre_prepared = (Ask Who.Asking Notify.PrePrepare Owed.PrePrepare ∷ Enter PrePreparing ∷ []) ∷ proceeded

-- it is asked to commit
abbrev requested : List (List Step)
requested = (Tell Who.Superior Notify.CommitRequest ∷ Enter Requested ∷ []) ∷ pre_prepared

-- where each list passes a test, the procedure that chooses one does
module _ (test : List Step → Bool) where
  abbrev Pass : List Step → Type 0
  Pass steps = test steps ≡ true

  each : (ls : List (List Step)) → list_all test ls ≡ true → AllByRecursion (λ steps. test steps ≡ true) ls
  each [] all = tt
  each (steps ∷ ls) all = let parts = and_parts (test steps) (list_all test ls) all in (parts.0, each ls parts.1)

  module _ (s : Seen) where
    all_ready : AllByRecursion (λ steps. test steps ≡ true) readied → Pass (all_readies s)
    all_ready (held, (ends, (decides, none))) =
        let after = λ (steps : List Step). test (Record Fact.ReadyFiles ∷ Record Fact.ReadyKeys ∷ steps) ≡ true in
        if_cases after s.has_superior _ _ (λ above. held) (λ top. if_cases after (participants s == 0) _ commits (λ nobody. ends) (λ some. decides))

    all_prepare : AllByRecursion (λ steps. test steps ≡ true) prepared → Pass (prepares s)
    all_prepare (asks, (one, (files, (keys, (nobody, ready))))) = if_cases Pass s.has_superior _ _ (λ above. every) (λ top. alone (participants s))
      where
        every : Pass (prepares_all s)
        every = if_cases Pass (s.enlistments == 0) _ _ (λ none. all_ready ready) (λ some. asks)

        alone : (n : ℕ) → Pass (prepares_alone s n)
        alone zero = nobody
        alone (suc zero) = if_cases Pass s.has_files _ _ (λ has. files) (λ none. if_cases Pass s.has_keys _ _ (λ has. keys) (λ none'. if_cases Pass (s.in_one_phase == 0) _ _ (λ several. every) (λ can. one)))
        alone (suc (suc more)) = every

    all_proceed : AllByRecursion (λ steps. test steps ≡ true) proceeded → Pass (proceeds s)
    all_proceed (told, rest) = if_cases Pass s.has_superior _ _ (λ above. told) (λ top. all_prepare rest)

    all_pre_prepare : AllByRecursion (λ steps. test steps ≡ true) pre_prepared → Pass (pre_prepares s)
    all_pre_prepare (asks, rest) = if_cases Pass (s.asking == 0) _ _ (λ none. all_proceed rest) (λ some. asks)

    readied-passes : list_all test readied ≡ true → Pass (all_readies s)
    readied-passes all = all_ready (each readied all)

    prepared-passes : list_all test prepared ≡ true → Pass (prepares s)
    prepared-passes all = all_prepare (each prepared all)

    proceeded-passes : list_all test proceeded ≡ true → Pass (proceeds s)
    proceeded-passes all = all_proceed (each proceeded all)

    pre_prepared-passes : list_all test pre_prepared ≡ true → Pass (pre_prepares s)
    pre_prepared-passes all = all_pre_prepare (each pre_prepared all)

    requested-passes : list_all test requested ≡ true → Pass (requests s)
    requested-passes all = let lists = each requested all in if_cases Pass s.has_superior _ _ (λ above. lists.0) (λ top. all_pre_prepare lists.1)

-- ---- rows

wrong : {A : Type 0} → false ≡ true → A
wrong is = absurd (true≢false (sym is))

-- the steps after one answer counted
module _ (input : PhaseInput) (answer : Answered) where
  abbrev after : Phase → List Step → Bool
  after phase steps = are_paid input phase (Change answer ∷ steps)

begins-paid : (phase : Phase) (s : Seen) → may_come_in PhaseInput.CommitTransaction phase ≡ true → are_paid PhaseInput.CommitTransaction phase (requests s) ≡ true
begins-paid Active s may = requested-passes (are_paid PhaseInput.CommitTransaction Active) s refl
begins-paid _ s may = wrong may

rolls-paid : (phase : Phase) (s : Seen) → may_come_in PhaseInput.Rollback phase ≡ true → are_paid PhaseInput.Rollback phase (row s PhaseInput.Rollback) ≡ true
rolls-paid Committing s may = wrong may
rolls-paid Aborting s may = wrong may
rolls-paid Ended s may = wrong may
rolls-paid _ s may = refl

pre_prepare_complete-paid : (phase : Phase) (s : Seen) → may_come_in PhaseInput.PrePrepareComplete phase ≡ true → are_paid PhaseInput.PrePrepareComplete phase (row s PhaseInput.PrePrepareComplete) ≡ true
pre_prepare_complete-paid PrePreparing s may =
    let test = after PhaseInput.PrePrepareComplete Answered.PrePrepared PrePreparing in if_cases (λ steps. test steps ≡ true) (is_last s) _ [] (λ last. proceeded-passes test s refl) (λ waits. refl)
pre_prepare_complete-paid _ s may = wrong may

prepare_complete-paid : (phase : Phase) (s : Seen) → may_come_in PhaseInput.PrepareComplete phase ≡ true → are_paid PhaseInput.PrepareComplete phase (row s PhaseInput.PrepareComplete) ≡ true
prepare_complete-paid Preparing s may =
    let test = λ (steps : List Step). after PhaseInput.PrepareComplete Answered.Prepared Preparing (Record Fact.Ready ∷ steps) in
    if_cases (λ steps. test steps ≡ true) (is_last s) _ [] (λ last. readied-passes test s refl) (λ waits. refl)
prepare_complete-paid _ s may = wrong may

read_only-paid : (phase : Phase) (last : Bool) (s : Seen) (share : Share) → may_come_in (PhaseInput.ReadOnly share) phase ≡ true
    → are_paid (PhaseInput.ReadOnly share) phase (Change Answered.ReadOnly ∷ (if last then proceeds_without phase s else [])) ≡ true
read_only-paid PrePreparing true s share may = proceeded-passes (after (PhaseInput.ReadOnly share) Answered.ReadOnly PrePreparing) s refl
read_only-paid Preparing true s share may = readied-passes (after (PhaseInput.ReadOnly share) Answered.ReadOnly Preparing) s refl
read_only-paid Held last s share may = wrong may
read_only-paid InDoubt last s share may = wrong may
read_only-paid Committing last s share may = wrong may
read_only-paid Aborting last s share may = wrong may
read_only-paid Ended last s share may = wrong may
read_only-paid _ true s share may = refl
read_only-paid _ false s share may = refl

rejects-paid : (phase : Phase) (s : Seen) → may_come_in PhaseInput.SinglePhaseReject phase ≡ true → are_paid PhaseInput.SinglePhaseReject phase (row s PhaseInput.SinglePhaseReject) ≡ true
rejects-paid SinglePhase s may = refl
rejects-paid _ s may = wrong may

commit_complete-paid : (phase : Phase) → may_come_in PhaseInput.CommitComplete phase ≡ true
    → (single : Bool) → are_paid PhaseInput.CommitComplete phase (Change Answered.Finished ∷ (if single then End Committed ∷ [] else Record Fact.Done ∷ EndWhereFinished Committed ∷ [])) ≡ true
commit_complete-paid Ended may single = wrong may
commit_complete-paid _ may true = refl
commit_complete-paid _ may false = refl

rollback_complete-paid : (phase : Phase) (s : Seen) → may_come_in PhaseInput.RollbackComplete phase ≡ true → are_paid PhaseInput.RollbackComplete phase (row s PhaseInput.RollbackComplete) ≡ true
rollback_complete-paid Ended s may = wrong may
rollback_complete-paid _ s may = refl

pre_prepare-paid : (phase : Phase) (s : Seen) → may_come_in PhaseInput.PrePrepare phase ≡ true → are_paid PhaseInput.PrePrepare phase (pre_prepares s) ≡ true
pre_prepare-paid Active s may = pre_prepared-passes (are_paid PhaseInput.PrePrepare Active) s refl
pre_prepare-paid Requested s may = pre_prepared-passes (are_paid PhaseInput.PrePrepare Requested) s refl
pre_prepare-paid _ s may = wrong may

prepare-paid : (phase : Phase) (s : Seen) → may_come_in PhaseInput.Prepare phase ≡ true → are_paid PhaseInput.Prepare phase (prepares s) ≡ true
prepare-paid Active s may = prepared-passes (are_paid PhaseInput.Prepare Active) s refl
prepare-paid Requested s may = prepared-passes (are_paid PhaseInput.Prepare Requested) s refl
prepare-paid PrePrepared s may = prepared-passes (are_paid PhaseInput.Prepare PrePrepared) s refl
prepare-paid _ s may = wrong may

decides-paid : (phase : Phase) (s : Seen) → may_come_in PhaseInput.Commit phase ≡ true → are_paid PhaseInput.Commit phase (row s PhaseInput.Commit) ≡ true
decides-paid Held s may = refl
decides-paid InDoubt s may = refl
decides-paid _ s may = wrong may

recovers-paid : (phase : Phase) → are_paid PhaseInput.Recover phase (recovers phase) ≡ true
recovers-paid InDoubt = refl
recovers-paid Committing = refl
recovers-paid Aborting = refl
recovers-paid _ = refl

recovers_superior-paid : (phase : Phase) (s : Seen) → may_come_in PhaseInput.RecoverSuperior phase ≡ true → are_paid PhaseInput.RecoverSuperior phase (row s PhaseInput.RecoverSuperior) ≡ true
recovers_superior-paid InDoubt s may = refl
recovers_superior-paid _ s may = wrong may

-- the row of what may come costs no enlistment more than it is owed
row-paid : (s : Seen) (input : PhaseInput) → may_come_in input s.phase ≡ true → are_paid input s.phase (row s input) ≡ true
row-paid s PhaseInput.CommitTransaction may = begins-paid s.phase s may
row-paid s PhaseInput.Rollback may = rolls-paid s.phase s may
row-paid s PhaseInput.PrePrepareComplete may = pre_prepare_complete-paid s.phase s may
row-paid s PhaseInput.PrepareComplete may = prepare_complete-paid s.phase s may
row-paid s (PhaseInput.ReadOnly share) may = read_only-paid s.phase (share.owes && is_last s) (without share s) share may
row-paid s PhaseInput.SinglePhaseReject may = rejects-paid s.phase s may
row-paid s PhaseInput.CommitComplete may = commit_complete-paid s.phase may _
row-paid s PhaseInput.RollbackComplete may = rollback_complete-paid s.phase s may
row-paid s PhaseInput.PrePrepare may = pre_prepare-paid s.phase s may
row-paid s PhaseInput.Prepare may = prepare-paid s.phase s may
row-paid s PhaseInput.Commit may = decides-paid s.phase s may
row-paid s PhaseInput.Recover may = recovers-paid s.phase
row-paid s PhaseInput.RecoverSuperior may = recovers_superior-paid s.phase s may

pub row-costs : (s : Seen) (input : PhaseInput) → may_come_in input s.phase ≡ true → (k : Case) → may_be input k ≡ true → cost s.phase (row s input) k ≤ owed s.phase k
row-costs s input may k be = elim (or_cases (not (may_be input k)) (nat_le (cost s.phase (row s input) k) (owed s.phase k)) (every-at (λ k. not (may_be input k) || nat_le (cost s.phase (row s input) k) (owed s.phase k)) (row-paid s input may) k)) [
  | inl other ↦ absurd (true≢false (sym be ∙ not-true _ other))
  | inr less ↦ leb-true _ _ less
]
