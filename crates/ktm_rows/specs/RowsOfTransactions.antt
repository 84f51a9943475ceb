-- Worked rows of transactions with enlistments, on their way to an outcome.
use Rattle.std.specs.Prelude.{[], ◌∷◌, codes}
use Rattle.ktm_base.specs.declared.notify.Notify.{Notify}
use Rattle.ktm_base.specs.declared.refusal.Refusal.TheVariants.{TransactionAlreadyCommitted, TransactionAlreadyAborted, TransactionRequestNotValid, WaitTimeout}
use Rattle.ktm_world.specs.declared.command.Command.TheVariants.{CreateResourceManager, CreateTransaction, CreateEnlistment, CommitTransaction, GetNotificationResourceManager, PrepareComplete, RollbackEnlistment, GetTransactionInformation, RollbackComplete, ReadOnlyEnlistment, SinglePhaseReject, CommitComplete, CreateFileTransacted, SetEnlistmentRecoveryInformation, GetEnlistmentRecoveryInformation, PrePrepareComplete, RollbackTransaction}
use Rattle.ktm_world.specs.declared.object.TransactionOutcome.{TransactionOutcome}
use Rattle.ktm_world.specs.declared.options.Access.{Access}
use Rattle.ktm_world.specs.declared.options.Disposition.{Disposition}
use Rattle.ktm_world.specs.declared.options.Durability.{Durability}
use Rattle.ktm_world.specs.declared.options.EnlistmentKind.{EnlistmentKind}
use Rattle.ktm_world.specs.declared.options.ShareMode.{ShareMode}
use Rattle.ktm_world.specs.declared.reply.Reply.TheVariants.{Refused, Done, Guid, Committed, Pending, Information, Contents, Restarted}
use Rattle.ktm_world.specs.declared.reply.TransactionState.{TransactionState}
use Rattle.ktm_world.specs.Scripts.{Answered, blank, p1, time_passes, crash, restart, h1, h2, h3, h4, h9, transaction_guid, manager_guid, enlistment_guid, told}

-- an enlistment that rolls back before it has prepared aborts the transaction, also for one that has prepared
abbrev pub VoteAgainst : Type 0
VoteAgainst = Answered blank (
    (p1 (CreateResourceManager h1 Durability.Durable), Guid (0 ∷ 0 ∷ 0 ∷ 1 ∷ 0 ∷ 2 ∷ 0 ∷ 1 ∷ 0 ∷ 0 ∷ 0 ∷ 0 ∷ 0 ∷ 0 ∷ 0 ∷ 1 ∷ []))
    ∷ (p1 (CreateTransaction h2 0), Guid (transaction_guid 1))
    ∷ (p1 (CreateEnlistment h3 h1 h2 EnlistmentKind.Plain), Guid (0 ∷ 0 ∷ 0 ∷ 1 ∷ 0 ∷ 3 ∷ 0 ∷ 1 ∷ 0 ∷ 0 ∷ 0 ∷ 0 ∷ 0 ∷ 0 ∷ 0 ∷ 1 ∷ []))
    ∷ (p1 (CreateEnlistment h4 h1 h2 EnlistmentKind.Plain), Guid (enlistment_guid 2))
    ∷ (p1 (CommitTransaction h2), Pending)
    ∷ (p1 (GetNotificationResourceManager h1), told Notify.Prepare 1)
    ∷ (p1 (GetNotificationResourceManager h1), told Notify.Prepare 2)
    ∷ (p1 (PrepareComplete h3), Done)
    ∷ (p1 (RollbackEnlistment h4), Done)
    ∷ (p1 (GetNotificationResourceManager h1), told Notify.Rollback 1)
    ∷ (p1 (GetNotificationResourceManager h1), told Notify.Rollback 2)
    ∷ (p1 (GetNotificationResourceManager h1), Refused WaitTimeout)
    ∷ (p1 (GetTransactionInformation h2), Information (transaction_guid 1) TransactionState.Normal TransactionOutcome.Aborted)
    ∷ (p1 (RollbackComplete h3), Done)
    ∷ (p1 (RollbackComplete h4), Done)
    ∷ (p1 (RollbackEnlistment h4), Refused TransactionRequestNotValid)
    ∷ []
    )

-- a read-only enlistment takes no part in the outcome, and nothing is recorded of it
abbrev pub ReadOnly : Type 0
ReadOnly = Answered blank (
    (p1 (CreateResourceManager h1 Durability.Volatile), Guid (manager_guid 1))
    ∷ (p1 (CreateTransaction h2 0), Guid (transaction_guid 1))
    ∷ (p1 (CreateEnlistment h3 h1 h2 EnlistmentKind.Plain), Guid (enlistment_guid 1))
    ∷ (p1 (ReadOnlyEnlistment h3), Done)
    ∷ (p1 (RollbackEnlistment h3), Refused TransactionRequestNotValid)
    ∷ (p1 (CommitTransaction h2), Committed)
    ∷ (crash, Done)
    ∷ (restart 1, Restarted 1 0)
    ∷ []
    )

-- an enlistment alone is asked to commit in one phase, and goes on with two where it rejects that
abbrev pub SinglePhaseRejected : Type 0
SinglePhaseRejected = Answered blank (
    (p1 (CreateResourceManager h1 Durability.Volatile), Guid (manager_guid 1))
    ∷ (p1 (CreateTransaction h2 0), Guid (transaction_guid 1))
    ∷ (p1 (CreateEnlistment h3 h1 h2 EnlistmentKind.SinglePhase), Guid (enlistment_guid 1))
    ∷ (p1 (CommitTransaction h2), Pending)
    ∷ (p1 (GetNotificationResourceManager h1), told Notify.SinglePhaseCommit 1)
    ∷ (p1 (SinglePhaseReject h3), Done)
    ∷ (p1 (GetNotificationResourceManager h1), told Notify.Prepare 1)
    ∷ (p1 (GetNotificationResourceManager h1), Refused WaitTimeout)
    ∷ (p1 (PrepareComplete h3), Done)
    ∷ (p1 (GetNotificationResourceManager h1), told Notify.Commit 1)
    ∷ (p1 (CommitComplete h3), Done)
    ∷ (p1 (GetTransactionInformation h2), Information (transaction_guid 1) TransactionState.Normal TransactionOutcome.Committed)
    ∷ (p1 (CommitTransaction h2), Refused TransactionAlreadyCommitted)
    ∷ []
    )

-- an enlistment that can commit in one phase is asked to prepare where a file takes part too
abbrev pub FileBesideOnePhase : Type 0
FileBesideOnePhase = Answered blank (
    (p1 (CreateResourceManager h1 Durability.Volatile), Guid (manager_guid 1))
    ∷ (p1 (CreateTransaction h2 0), Guid (transaction_guid 1))
    ∷ (p1 (CreateEnlistment h3 h1 h2 EnlistmentKind.SinglePhase), Guid (enlistment_guid 1))
    ∷ (p1 (CreateFileTransacted h9 (codes "\\a") Access.ReadWrite ShareMode.Nothing Disposition.CreateNew h2), Done)
    ∷ (p1 (CommitTransaction h2), Pending)
    ∷ (p1 (GetNotificationResourceManager h1), told Notify.Prepare 1)
    ∷ []
    )

-- a timeout that is reached while enlistments prepare rolls the transaction back
abbrev pub Timeout : Type 0
Timeout = Answered blank (
    (p1 (CreateResourceManager h1 Durability.Volatile), Guid (manager_guid 1))
    ∷ (p1 (CreateTransaction h2 100), Guid (transaction_guid 1))
    ∷ (p1 (CreateEnlistment h3 h1 h2 EnlistmentKind.PrePrepare), Guid (enlistment_guid 1))
    ∷ (p1 (SetEnlistmentRecoveryInformation h3 (10 ∷ 11 ∷ [])), Done)
    ∷ (p1 (GetEnlistmentRecoveryInformation h3), Contents (10 ∷ 11 ∷ []))
    ∷ (p1 (CommitTransaction h2), Pending)
    ∷ (p1 (GetNotificationResourceManager h1), told Notify.PrePrepare 1)
    ∷ (p1 (PrePrepareComplete h3), Done)
    ∷ (p1 (GetNotificationResourceManager h1), told Notify.Prepare 1)
    ∷ (time_passes 99, Done)
    ∷ (p1 (GetTransactionInformation h2), Information (transaction_guid 1) TransactionState.Normal TransactionOutcome.Undetermined)
    ∷ (time_passes 1, Done)
    ∷ (p1 (GetNotificationResourceManager h1), told Notify.Rollback 1)
    ∷ (p1 (PrepareComplete h3), Refused TransactionRequestNotValid)
    ∷ (p1 (RollbackComplete h3), Done)
    ∷ (p1 (RollbackTransaction h2), Refused TransactionAlreadyAborted)
    ∷ []
    )
