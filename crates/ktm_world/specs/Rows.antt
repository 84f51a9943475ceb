-- The phase table: by what steps a transaction goes on, by what counts of it and by what comes to it.
use Rattle.std.specs.Prelude.{ℕ, zero, suc, ◌+◌, ◌-◌, ◌==◌, ◌&&◌, Bool, List, [], ◌∷◌, if◌then◌else◌}
use Rattle.ktm_base.specs.declared.notify.Notify.{Notify}
use Rattle.ktm_world.specs.declared.object.Phase.{Phase}
use Rattle.ktm_world.specs.declared.object.Phase.TheVariants.{PrePreparing, Preparing, SinglePhase, InDoubt, Committing, Aborting}
use Rattle.ktm_world.specs.declared.object.TransactionOutcome.TheVariants.{Committed, Aborted}
use Rattle.ktm_world.specs.declared.input.PhaseInput.{PhaseInput}
use Rattle.ktm_world.specs.declared.input.Seen.{Seen}
use Rattle.ktm_world.specs.declared.input.Share.{Share}
use Rattle.ktm_world.specs.declared.step.Answered.{Answered}
use Rattle.ktm_world.specs.declared.step.Fact.{Fact}
use Rattle.ktm_world.specs.declared.step.Owed.{Owed}
use Rattle.ktm_world.specs.declared.step.Step.{Step}
use Rattle.ktm_world.specs.declared.step.Step.TheVariants.{Record, Tell, Ask, Change, Enter, Decide, End, EndWhereFinished}
use Rattle.ktm_world.specs.declared.step.Who.{Who}
use Rattle.ktm_world.specs.Phases.{is_single_phase, one_if}

-- how many participants there are: enlistments, the files and the keys
abbrev pub participants : Seen → ℕ
participants s = s.enlistments + one_if s.has_files + one_if s.has_keys

-- how it stands once an enlistment that counted for this takes part no more
abbrev pub without : Share → Seen → Seen
without share s = record s {
  enlistments = s.enlistments - 1;
  asking = s.asking - one_if share.asks;
  in_one_phase = s.in_one_phase - one_if share.allows_one_phase;
  owing = s.owing - one_if share.owes;
}

-- does no other enlistment owe an answer, when one that does answers
abbrev pub is_last : Seen → Bool
is_last s = s.owing == 1

-- ---- procedures; an outcome is decided before anybody is told of it

-- it commits: that is recorded where the log has a Ready or a Held, the files and the keys commit and are done, and those that are prepared are told
abbrev pub commits : List Step
commits =
    Record Fact.Decide ∷ Record Fact.DoneFiles ∷ Record Fact.DoneKeys ∷ Step.Commit
    ∷ Decide Committed ∷ Enter Phase.Committing
    ∷ Ask Who.Prepared Notify.Commit Owed.Commit ∷ EndWhereFinished Committed ∷ []

-- it rolls back: that is recorded where the log has a Ready or a Held, its enlistments are told, and last its superior, unless that made the call
abbrev pub aborts : List Step
aborts =
    Record Fact.Undo ∷ Decide Aborted ∷ Enter Phase.Aborting
    ∷ Ask Who.Recovered Notify.Rollback Owed.Rollback ∷ Tell Who.OtherSuperior Notify.Rollback ∷ EndWhereFinished Aborted ∷ []

-- all are prepared, the files and the keys too: its superior is told, and waited for; without one it commits, where anybody takes part
abbrev pub holds_or_commits : Seen → List Step
holds_or_commits s =
    if s.has_superior
    then Record Fact.Held ∷ Tell Who.Superior Notify.PrepareComplete ∷ Enter Phase.Held ∷ []
    else (if participants s == 0 then End Committed ∷ [] else commits)

-- all enlistments are prepared: the files and the keys prepare, and it waits for its superior, or commits
abbrev pub all_readies : Seen → List Step
all_readies s = Record Fact.ReadyFiles ∷ Record Fact.ReadyKeys ∷ holds_or_commits s

-- the enlistments that take part are asked to prepare; where there is none, all are prepared
abbrev pub prepares_all : Seen → List Step
prepares_all s = if s.enlistments == 0 then all_readies s else Ask Who.Parts Notify.Prepare Owed.Prepare ∷ Enter Phase.Preparing ∷ []

-- one participant, without a superior: the files or the keys commit by one event, and an enlistment in one phase, where it can
abbrev pub commits_one : Seen → List Step
commits_one s =
    if s.has_files then Record Fact.SingleFiles ∷ Step.Commit ∷ End Committed ∷ [] else
    (if s.has_keys then Record Fact.SingleKeys ∷ Step.Commit ∷ End Committed ∷ [] else
    (if s.in_one_phase == 0 then prepares_all s else Ask Who.Parts Notify.SinglePhaseCommit Owed.Commit ∷ Enter Phase.SinglePhase ∷ []))

-- so many participants, without a superior
abbrev pub prepares_alone : Seen → ℕ → List Step
prepares_alone s zero = End Committed ∷ []
prepares_alone s (suc zero) = commits_one s
prepares_alone s (suc (suc more)) = prepares_all s

-- it is to be prepared; with a superior all are asked, however many take part
abbrev pub prepares : Seen → List Step
prepares s = if s.has_superior then prepares_all s else prepares_alone s (participants s)

-- all have pre-prepared: its superior is told, or it is to be prepared
abbrev pub proceeds : Seen → List Step
proceeds s = if s.has_superior then Tell Who.Superior Notify.PrePrepareComplete ∷ Enter Phase.PrePrepared ∷ [] else prepares s

-- those that ask for it are to pre-prepare; where nobody does, all have
abbrev pub pre_prepares : Seen → List Step
pre_prepares s = if s.asking == 0 then proceeds s else Ask Who.Asking Notify.PrePrepare Owed.PrePrepare ∷ Enter Phase.PrePreparing ∷ []

-- ---- calls

-- CommitTransaction: its superior is told, or those that ask for it are to pre-prepare
abbrev pub requests : Seen → List Step
requests s = if s.has_superior then Tell Who.Superior Notify.CommitRequest ∷ Enter Phase.Requested ∷ [] else pre_prepares s

-- PrePrepareComplete: where no other answer is owed, all have pre-prepared
abbrev pub pre_prepare_completes : Seen → List Step
pre_prepare_completes s = Change Answered.PrePrepared ∷ (if is_last s then proceeds s else [])

-- PrepareComplete: where no other answer is owed, all are prepared
abbrev pub prepare_completes : Seen → List Step
prepare_completes s = Change Answered.Prepared ∷ Record Fact.Ready ∷ (if is_last s then all_readies s else [])

-- the last enlistment that owed an answer in this phase takes part no more
abbrev pub proceeds_without : Phase → Seen → List Step
proceeds_without PrePreparing s = proceeds s
proceeds_without Preparing s = all_readies s
proceeds_without SinglePhase s = End Committed ∷ []
proceeds_without _ s = []

-- ReadOnlyEnlistment, of an enlistment that counted for this
abbrev pub read_onlies : Seen → Share → List Step
read_onlies s share = Change Answered.ReadOnly ∷ (if share.owes && is_last s then proceeds_without s.phase (without share s) else [])

-- SinglePhaseReject: the enlistment is asked to prepare
abbrev pub rejects_one_phase : List Step
rejects_one_phase = Ask Who.Caller Notify.Prepare Owed.Prepare ∷ Enter Phase.Preparing ∷ []

-- CommitComplete, in this phase: where one enlistment commits in one phase it has ended, and else where nobody is unfinished
abbrev pub commit_completes : Phase → List Step
commit_completes phase = Change Answered.Finished ∷ (if is_single_phase phase then End Committed ∷ [] else Record Fact.Done ∷ EndWhereFinished Committed ∷ [])

-- RollbackComplete: it has ended where nobody is unfinished
abbrev pub rollback_completes : List Step
rollback_completes = Change Answered.Finished ∷ EndWhereFinished Aborted ∷ []

-- what an ordinary enlistment that recovers is told in this phase
abbrev pub tells_in : Phase → List Step
tells_in InDoubt = Tell Who.Caller Notify.Indoubt ∷ []
tells_in Committing = Ask Who.Caller Notify.Commit Owed.Commit ∷ []
tells_in Aborting = Ask Who.Caller Notify.Rollback Owed.Rollback ∷ []
tells_in _ = []

-- RecoverEnlistment of an ordinary enlistment, in this phase
abbrev pub recovers : Phase → List Step
recovers phase = Change Answered.Recovered ∷ tells_in phase

-- RecoverEnlistment of a superior, which is asked to decide
abbrev pub recovers_superior : List Step
recovers_superior = Change Answered.Recovered ∷ Tell Who.Caller Notify.RecoverQuery ∷ []

-- the row of what comes
abbrev pub row : Seen → PhaseInput → List Step
row s PhaseInput.CommitTransaction = requests s
row s PhaseInput.Rollback = aborts
row s PhaseInput.PrePrepareComplete = pre_prepare_completes s
row s PhaseInput.PrepareComplete = prepare_completes s
row s (PhaseInput.ReadOnly share) = read_onlies s share
row s PhaseInput.SinglePhaseReject = rejects_one_phase
row s PhaseInput.CommitComplete = commit_completes s.phase
row s PhaseInput.RollbackComplete = rollback_completes
row s PhaseInput.PrePrepare = pre_prepares s
row s PhaseInput.Prepare = prepares s
row s PhaseInput.Commit = commits
row s PhaseInput.Recover = recovers s.phase
row s PhaseInput.RecoverSuperior = recovers_superior
