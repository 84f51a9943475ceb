-- The lists that the rows may be: a test that all of these pass, each row passes.
use Rattle.std.proofs.Common.{◌≡◌, ◌==◌, ◌&&◌, Bool, true, false, List, [], ◌∷◌, map}
use Rattle.std.proofs.lemmas.Bool.{and_parts}
use Rattle.std.specs.List.{AllByRecursion, list_all}
use Rattle.ktm_base.specs.declared.notify.Notify.{Notify}
use Rattle.ktm_world.specs.declared.input.PhaseInput.{PhaseInput}
use Rattle.ktm_world.specs.declared.input.Seen.{Seen}
use Rattle.ktm_world.specs.declared.object.Phase.{Phase}
use Rattle.ktm_world.specs.declared.object.Phase.TheVariants.{PrePreparing, Preparing, SinglePhase, InDoubt, Committing, Aborting}
use Rattle.ktm_world.specs.declared.object.TransactionOutcome.TheVariants.{Committed}
use Rattle.ktm_world.specs.declared.step.Answered.{Answered}
use Rattle.ktm_world.specs.declared.step.Fact.{Fact}
use Rattle.ktm_world.specs.declared.step.Owed.{Owed}
use Rattle.ktm_world.specs.declared.step.Step.{Step}
use Rattle.ktm_world.specs.declared.step.Step.TheVariants.{Record, Tell, Ask, Change, Enter, End, EndWhereFinished}
use Rattle.ktm_world.specs.declared.step.Who.{Who}
use Rattle.ktm_world.specs.Phases.{is_single_phase}
use Rattle.ktm_world.specs.Rows.{aborts, all_readies, commits, is_last, participants, proceeds, proceeds_without, recovers_superior, rejects_one_phase, rollback_completes, row, tells_in, without}
use Rattle.ktm_steps.proofs.offered.Ways.{Ways, pre_prepares-by, prepares-by, proceeds-by, requests-by, if_cases}

-- ---- lists

-- where all enlistments are prepared
abbrev readied : List (List Step)
readied = map (λ steps. Record Fact.ReadyFiles ∷ Record Fact.ReadyKeys ∷ steps)
    ((Record Fact.Held ∷ Tell Who.Superior Notify.PrepareComplete ∷ Enter Phase.Held ∷ []) ∷ (End Committed ∷ []) ∷ commits ∷ [])

-- where it goes on that is not decided
abbrev going : List (List Step)
going =
    (Tell Who.Superior Notify.CommitRequest ∷ Enter Phase.Requested ∷ [])
    ∷ (Tell Who.Superior Notify.PrePrepareComplete ∷ Enter Phase.PrePrepared ∷ [])
    ∷ (Ask Who.Asking Notify.PrePrepare Owed.PrePrepare ∷ Enter PrePreparing ∷ [])
    ∷ (Ask Who.Parts Notify.Prepare Owed.Prepare ∷ Enter Preparing ∷ [])
    ∷ (Ask Who.Parts Notify.SinglePhaseCommit Owed.Commit ∷ Enter SinglePhase ∷ [])
    ∷ (Record Fact.SingleFiles ∷ Step.Commit ∷ End Committed ∷ [])
    ∷ (Record Fact.SingleKeys ∷ Step.Commit ∷ End Committed ∷ [])
    ∷ (End Committed ∷ [])
    ∷ readied

-- what an ordinary enlistment that recovers may be told
abbrev telling : List (List Step)
telling = [] ∷ (Tell Who.Caller Notify.Indoubt ∷ []) ∷ (Ask Who.Caller Notify.Commit Owed.Commit ∷ []) ∷ (Ask Who.Caller Notify.Rollback Owed.Rollback ∷ []) ∷ []

-- the lists that the row of this may be, or more
abbrev pub row_lists : PhaseInput → List (List Step)
row_lists PhaseInput.CommitTransaction = going
row_lists PhaseInput.Rollback = aborts ∷ []
row_lists PhaseInput.PrePrepareComplete = map (λ steps. Change Answered.PrePrepared ∷ steps) ([] ∷ going)
row_lists PhaseInput.PrepareComplete = map (λ steps. Change Answered.Prepared ∷ Record Fact.Ready ∷ steps) ([] ∷ readied)
row_lists (PhaseInput.ReadOnly share) = map (λ steps. Change Answered.ReadOnly ∷ steps) ([] ∷ going)
row_lists PhaseInput.SinglePhaseReject = rejects_one_phase ∷ []
row_lists PhaseInput.CommitComplete = map (λ steps. Change Answered.Finished ∷ steps) ((End Committed ∷ []) ∷ (Record Fact.Done ∷ EndWhereFinished Committed ∷ []) ∷ [])
row_lists PhaseInput.RollbackComplete = rollback_completes ∷ []
row_lists PhaseInput.PrePrepare = going
row_lists PhaseInput.Prepare = going
row_lists PhaseInput.Commit = commits ∷ []
row_lists PhaseInput.Recover = map (λ steps. Change Answered.Recovered ∷ steps) telling
row_lists PhaseInput.RecoverSuperior = recovers_superior ∷ []

-- ---- tests

-- each list of these passes
abbrev pub Pass : (List Step → Bool) → List (List Step) → Type 0
Pass test ls = AllByRecursion (λ steps. test steps ≡ true) ls

readies-pass : (test : List Step → Bool) (s : Seen) → Pass test readied → test (all_readies s) ≡ true
readies-pass test s (held, (ends, (decides, none))) =
    let after = λ (steps : List Step). test (Record Fact.ReadyFiles ∷ Record Fact.ReadyKeys ∷ steps) ≡ true in
    if_cases after s.has_superior _ _ (λ above. held) (λ top. if_cases after (participants s == 0) _ commits (λ nobody. ends) (λ some. decides))

ways-pass : (test : List Step → Bool) (s : Seen) → Pass test going → Ways (λ steps. test steps ≡ true) s
ways-pass test s (requested, (pre_prepared, (pre_preparing, (preparing, (one, (files, (keys, (ends, ready)))))))) = record {
  requested = λ has. requested;
  pre_prepared = λ has. pre_prepared;
  pre_preparing = λ some. pre_preparing;
  preparing = λ some. preparing;
  one_phase = λ alone single no_files no_keys some. one;
  files = λ single has. files;
  keys = λ single no_files has. keys;
  nobody = λ none. ends;
  ready = λ none. readies-pass test s ready;
}

module _ (test : List Step → Bool) where
  without-pass : (phase : Phase) (s : Seen) → Pass test ([] ∷ going) → test (proceeds_without phase s) ≡ true
  without-pass PrePreparing s (none, pass) = proceeds-by (λ steps. test steps ≡ true) s (ways-pass test s pass)
  without-pass Preparing s (none, pass) = readies-pass test s pass.1.1.1.1.1.1.1.1
  without-pass SinglePhase s (none, pass) = pass.1.1.1.1.1.1.1.0
  without-pass _ s (none, pass) = none

  telling-pass : (phase : Phase) → Pass test telling → test (tells_in phase) ≡ true
  telling-pass InDoubt (none, (doubt, rest)) = doubt
  telling-pass Committing (none, (doubt, (commit, rest))) = commit
  telling-pass Aborting (none, (doubt, (commit, (rollback, rest)))) = rollback
  telling-pass _ (none, rest) = none

-- where the lists of what comes pass, its row does
pub row-passes : (test : List Step → Bool) (s : Seen) (input : PhaseInput) → Pass test (row_lists input) → test (row s input) ≡ true
row-passes test s PhaseInput.CommitTransaction pass = requests-by (λ steps. test steps ≡ true) s (ways-pass test s pass)
row-passes test s PhaseInput.Rollback (is, none) = is
row-passes test s PhaseInput.PrePrepareComplete (none, pass) =
    let after = λ (steps : List Step). test (Change Answered.PrePrepared ∷ steps) in
    if_cases (λ steps. after steps ≡ true) (is_last s) (proceeds s) [] (λ last. proceeds-by (λ steps. after steps ≡ true) s (ways-pass after s pass)) (λ waits. none)
row-passes test s PhaseInput.PrepareComplete (none, pass) =
    let after = λ (steps : List Step). test (Change Answered.Prepared ∷ Record Fact.Ready ∷ steps) in if_cases (λ steps. after steps ≡ true) (is_last s) (all_readies s) [] (λ last. readies-pass after s pass) (λ waits. none)
row-passes test s (PhaseInput.ReadOnly share) (none, pass) =
    let after = λ (steps : List Step). test (Change Answered.ReadOnly ∷ steps) in
    if_cases (λ steps. after steps ≡ true) (share.owes && is_last s) (proceeds_without s.phase (without share s)) [] (λ last. without-pass after s.phase (without share s) (none, pass)) (λ waits. none)
row-passes test s PhaseInput.SinglePhaseReject (is, none) = is
row-passes test s PhaseInput.CommitComplete (ends, (done, none)) = if_cases (λ steps. test (Change Answered.Finished ∷ steps) ≡ true) (is_single_phase s.phase) _ _ (λ one. ends) (λ several. done)
row-passes test s PhaseInput.RollbackComplete (is, none) = is
row-passes test s PhaseInput.PrePrepare pass = pre_prepares-by (λ steps. test steps ≡ true) s (ways-pass test s pass)
row-passes test s PhaseInput.Prepare pass = prepares-by (λ steps. test steps ≡ true) s (ways-pass test s pass)
row-passes test s PhaseInput.Commit (is, none) = is
row-passes test s PhaseInput.Recover pass = telling-pass (λ steps. test (Change Answered.Recovered ∷ steps)) s.phase pass
row-passes test s PhaseInput.RecoverSuperior (is, none) = is

-- ---- all rows

pass-from : (test : List Step → Bool) (ls : List (List Step)) → list_all test ls ≡ true → Pass test ls
pass-from test [] all = tt
pass-from test (steps ∷ ls) all = let both = and_parts (test steps) (list_all test ls) all in (both.0, pass-from test ls both.1)

-- each thing that may come; the lists do not depend on what an enlistment counted for
abbrev inputs : List PhaseInput
inputs =
    PhaseInput.CommitTransaction
    ∷ PhaseInput.Rollback
    ∷ PhaseInput.PrePrepareComplete
    ∷ PhaseInput.PrepareComplete
    ∷ PhaseInput.ReadOnly (record { asks = false; allows_one_phase = false; owes = false })
    ∷ PhaseInput.SinglePhaseReject
    ∷ PhaseInput.CommitComplete
    ∷ PhaseInput.RollbackComplete
    ∷ PhaseInput.PrePrepare
    ∷ PhaseInput.Prepare
    ∷ PhaseInput.Commit
    ∷ PhaseInput.Recover
    ∷ PhaseInput.RecoverSuperior
    ∷ []

-- do the lists of all that may come pass
abbrev pub do_all_pass : (List Step → Bool) → Bool
do_all_pass test = list_all (λ input. list_all test (row_lists input)) inputs

pass-each : (test : PhaseInput → Bool) (is : List PhaseInput) → list_all test is ≡ true → AllByRecursion (λ input. test input ≡ true) is
pass-each test [] all = tt
pass-each test (input ∷ is) all = let both = and_parts (test input) (list_all test is) all in (both.0, pass-each test is both.1)

of-each : (test : List Step → Bool) → AllByRecursion (λ input. list_all test (row_lists input) ≡ true) inputs → (input : PhaseInput) → list_all test (row_lists input) ≡ true
of-each test all PhaseInput.CommitTransaction = all.0
of-each test all PhaseInput.Rollback = all.1.0
of-each test all PhaseInput.PrePrepareComplete = all.1.1.0
of-each test all PhaseInput.PrepareComplete = all.1.1.1.0
of-each test all (PhaseInput.ReadOnly share) = all.1.1.1.1.0
of-each test all PhaseInput.SinglePhaseReject = all.1.1.1.1.1.0
of-each test all PhaseInput.CommitComplete = all.1.1.1.1.1.1.0
of-each test all PhaseInput.RollbackComplete = all.1.1.1.1.1.1.1.0
of-each test all PhaseInput.PrePrepare = all.1.1.1.1.1.1.1.1.0
of-each test all PhaseInput.Prepare = all.1.1.1.1.1.1.1.1.1.0
of-each test all PhaseInput.Commit = all.1.1.1.1.1.1.1.1.1.1.0
of-each test all PhaseInput.Recover = all.1.1.1.1.1.1.1.1.1.1.1.0
of-each test all PhaseInput.RecoverSuperior = all.1.1.1.1.1.1.1.1.1.1.1.1.0

-- where they do, each row does
pub each-row-passes : (test : List Step → Bool) → do_all_pass test ≡ true → (s : Seen) (input : PhaseInput) → test (row s input) ≡ true
each-row-passes test all s input = row-passes test s input (pass-from test (row_lists input) (of-each test (pass-each (λ input. list_all test (row_lists input)) inputs all) input))
