-- The names of the kinds of notification.
use Rattle.std.specs.Prelude.{ℕ, List, codes}
use Rattle.ktm_base.specs.declared.notify.Notify.{Notify}
use Rattle.ktm_base.specs.declared.notify.Notify.TheVariants.{PrePrepare, Prepare, Commit, Rollback, PrePrepareComplete, PrepareComplete, CommitComplete, RollbackComplete, Recover, RecoverQuery, Indoubt, SinglePhaseCommit, CommitRequest, LastRecover}

-- a kind's name
abbrev pub kind_name : Notify → List ℕ
kind_name PrePrepare = codes "PREPREPARE"
kind_name Prepare = codes "PREPARE"
kind_name Commit = codes "COMMIT"
kind_name Rollback = codes "ROLLBACK"
kind_name PrePrepareComplete = codes "PREPREPARE_COMPLETE"
kind_name PrepareComplete = codes "PREPARE_COMPLETE"
kind_name CommitComplete = codes "COMMIT_COMPLETE"
kind_name RollbackComplete = codes "ROLLBACK_COMPLETE"
kind_name Recover = codes "RECOVER"
kind_name RecoverQuery = codes "RECOVER_QUERY"
kind_name Indoubt = codes "INDOUBT"
kind_name SinglePhaseCommit = codes "SINGLE_PHASE_COMMIT"
kind_name CommitRequest = codes "COMMIT_REQUEST"
kind_name LastRecover = codes "LAST_RECOVER"
