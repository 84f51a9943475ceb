-- Worked rows of transactions that a restart finds undecided, in doubt or decided.
use Rattle.std.specs.Prelude.{[], ◌∷◌, ◌++◌, codes, None}
use Rattle.ktm_base.specs.declared.notify.Notify.{Notify}
use Rattle.ktm_base.specs.declared.refusal.Refusal.TheVariants.{EnlistmentNotFound, FileNotFound, TransactionalConflict, WaitTimeout}
use Rattle.ktm_world.specs.declared.command.Command.TheVariants.{CreateTransaction, CreateFileTransacted, WriteFile, CreateResourceManager, FindFiles, CreateFile, CloseHandle, CreateEnlistment, PrepareEnlistment, GetNotificationResourceManager, ReadFile, OpenResourceManager, RecoverResourceManager, OpenEnlistment, RecoverEnlistment, CommitEnlistment, RollbackEnlistment, CommitTransaction, PrepareComplete, CommitComplete, KvSet, KvGet}
use Rattle.ktm_world.specs.declared.command.View.{View}
use Rattle.ktm_world.specs.declared.options.Access.{Access}
use Rattle.ktm_world.specs.declared.options.Disposition.{Disposition}
use Rattle.ktm_world.specs.declared.options.Durability.{Durability}
use Rattle.ktm_world.specs.declared.options.EnlistmentKind.{EnlistmentKind}
use Rattle.ktm_world.specs.declared.options.ShareMode.{ShareMode}
use Rattle.ktm_world.specs.declared.reply.Reply.TheVariants.{Refused, Done, Guid, Pending, Notification, Contents, Restarted}
use Rattle.ktm_world.specs.Scripts.{Row, Answered, blank, p1, p2, crash, restart, h1, h2, h3, h4, h5, h6, transaction_guid, manager_guid, enlistment_guid, told}

-- a transaction that is not decided at a restart is rolled back, and objects are numbered anew in the next boot
abbrev pub UndecidedAtRestart : Type 0
UndecidedAtRestart = Answered blank (
    (p1 (CreateTransaction h1 0), Guid (transaction_guid 1))
    ∷ (p1 (CreateFileTransacted h2 (codes "\\a") Access.ReadWrite ShareMode.Nothing Disposition.CreateNew h1), Done)
    ∷ (p1 (WriteFile h2 0 (1 ∷ [])), Done)
    ∷ (crash, Done)
    ∷ (restart 3, Restarted 1 0)
    ∷ (p1 (CreateResourceManager h1 Durability.Durable), Guid (0 ∷ 0 ∷ 0 ∷ 2 ∷ 0 ∷ 2 ∷ 0 ∷ 1 ∷ 0 ∷ 0 ∷ 0 ∷ 0 ∷ 0 ∷ 0 ∷ 0 ∷ 1 ∷ []))
    ∷ (crash, Done)
    ∷ (restart 4, Restarted 3 0)
    ∷ (p1 (FindFiles (codes "\\*")), Refused FileNotFound)
    ∷ []
    )

-- a file holds some bytes, a transaction has written others and waits for its superior, and then the machine restarts
abbrev pub left_in_doubt : Row
left_in_doubt =
    (p2 (CreateFile h1 (codes "\\a") Access.Write ShareMode.Nothing Disposition.CreateNew), Done)
    ∷ (p2 (WriteFile h1 0 (codes "old")), Done)
    ∷ (p2 (CloseHandle h1), Done)
    ∷ (p1 (CreateResourceManager h1 Durability.Durable), Guid (manager_guid 1))
    ∷ (p1 (CreateTransaction h2 0), Guid (transaction_guid 1))
    ∷ (p1 (CreateEnlistment h3 h1 h2 EnlistmentKind.Superior), Guid (enlistment_guid 1))
    ∷ (p1 (CreateFileTransacted h4 (codes "\\a") Access.ReadWrite ShareMode.Nothing Disposition.OpenExisting h2), Done)
    ∷ (p1 (WriteFile h4 0 (codes "new")), Done)
    ∷ (p1 (PrepareEnlistment h3), Done)
    ∷ (p1 (GetNotificationResourceManager h1), told Notify.PrepareComplete 1)
    ∷ (crash, Done)
    ∷ (restart 1, Restarted 6 1)
    ∷ []

-- a transaction that waits for its superior keeps what it holds over a restart, and commits by its superior
abbrev pub InDoubt : Type 0
InDoubt = Answered blank (
    left_in_doubt ++ (
    (p2 (CreateFile h1 (codes "\\a") Access.Write ShareMode.Nothing Disposition.OpenExisting), Refused TransactionalConflict)
    ∷ (p2 (CreateFile h1 (codes "\\a") Access.Read ShareMode.ReadWrite Disposition.OpenExisting), Done)
    ∷ (p2 (ReadFile h1 0 8), Contents (codes "old"))
    ∷ (p1 (OpenResourceManager h1 (manager_guid 1)), Done)
    ∷ (p1 (RecoverResourceManager h1), Done)
    ∷ (p1 (GetNotificationResourceManager h1), told Notify.Recover 1)
    ∷ (p1 (GetNotificationResourceManager h1), Notification Notify.LastRecover None)
    ∷ (p1 (OpenEnlistment h3 h1 (enlistment_guid 1)), Done)
    ∷ (p1 (RecoverEnlistment h3), Done)
    ∷ (p1 (GetNotificationResourceManager h1), told Notify.RecoverQuery 1)
    ∷ (p1 (CommitEnlistment h3), Done)
    ∷ (p1 (GetNotificationResourceManager h1), told Notify.CommitComplete 1)
    ∷ (p2 (ReadFile h1 0 8), Contents (codes "new"))
    ∷ (crash, Done)
    ∷ (restart 2, Restarted 9 0)
    ∷ []
    )
    )

-- a transaction in doubt rolls back by its superior, and holds nothing then
abbrev pub InDoubtRolledBack : Type 0
InDoubtRolledBack = Answered blank (
    left_in_doubt ++ (
    (p1 (OpenResourceManager h1 (manager_guid 1)), Done)
    ∷ (p1 (OpenEnlistment h3 h1 (enlistment_guid 1)), Done)
    ∷ (p1 (RollbackEnlistment h3), Done)
    ∷ (p1 (GetNotificationResourceManager h1), told Notify.RollbackComplete 1)
    ∷ (p2 (CreateFile h1 (codes "\\a") Access.ReadWrite ShareMode.Nothing Disposition.OpenExisting), Done)
    ∷ (p2 (ReadFile h1 0 8), Contents (codes "old"))
    ∷ (crash, Done)
    ∷ (restart 4, Restarted 8 0)
    ∷ []
    )
    )

-- the enlistments of a transaction in doubt are told its outcome once they recover, over as many restarts as it takes
abbrev pub SeveralInDoubt : Type 0
SeveralInDoubt = Answered blank (
    (p1 (CreateResourceManager h1 Durability.Durable), Guid (manager_guid 1))
    ∷ (p1 (CreateResourceManager h2 Durability.Durable), Guid (manager_guid 2))
    ∷ (p1 (CreateTransaction h3 0), Guid (transaction_guid 1))
    ∷ (p1 (CreateEnlistment h4 h1 h3 EnlistmentKind.Superior), Guid (enlistment_guid 1))
    ∷ (p1 (CreateEnlistment h5 h2 h3 EnlistmentKind.Plain), Guid (enlistment_guid 2))
    ∷ (p1 (CreateEnlistment h6 h2 h3 EnlistmentKind.Plain), Guid (enlistment_guid 3))
    ∷ (p1 (CommitTransaction h3), Pending)
    ∷ (p1 (GetNotificationResourceManager h1), told Notify.CommitRequest 1)
    ∷ (p1 (PrepareEnlistment h4), Done)
    ∷ (p1 (PrepareComplete h5), Done)
    ∷ (p1 (PrepareComplete h6), Done)
    ∷ (crash, Done)
    ∷ (restart 9, Restarted 6 1)
    ∷ (p1 (OpenResourceManager h1 (manager_guid 1)), Done)
    ∷ (p1 (OpenResourceManager h2 (manager_guid 2)), Done)
    ∷ (p1 (OpenEnlistment h4 h1 (enlistment_guid 1)), Done)
    ∷ (p1 (OpenEnlistment h5 h2 (enlistment_guid 2)), Done)
    ∷ (p1 (RecoverEnlistment h5), Done)
    ∷ (p1 (GetNotificationResourceManager h2), told Notify.Indoubt 2)
    ∷ (p1 (CommitEnlistment h4), Done)
    ∷ (p1 (GetNotificationResourceManager h2), told Notify.Commit 2)
    ∷ (p1 (GetNotificationResourceManager h2), Refused WaitTimeout)
    ∷ (crash, Done)
    ∷ (restart 10, Restarted 8 0)
    ∷ (p1 (OpenResourceManager h2 (manager_guid 2)), Done)
    ∷ (p1 (RecoverResourceManager h2), Done)
    ∷ (p1 (GetNotificationResourceManager h2), told Notify.Recover 2)
    ∷ (p1 (GetNotificationResourceManager h2), told Notify.Recover 3)
    ∷ (p1 (GetNotificationResourceManager h2), Notification Notify.LastRecover None)
    ∷ (p1 (OpenEnlistment h5 h2 (enlistment_guid 2)), Done)
    ∷ (p1 (OpenEnlistment h6 h2 (enlistment_guid 3)), Done)
    ∷ (p1 (RecoverEnlistment h5), Done)
    ∷ (p1 (RecoverEnlistment h6), Done)
    ∷ (p1 (GetNotificationResourceManager h2), told Notify.Commit 2)
    ∷ (p1 (GetNotificationResourceManager h2), told Notify.Commit 3)
    ∷ (p1 (CommitComplete h5), Done)
    ∷ (p1 (CommitComplete h6), Done)
    ∷ (crash, Done)
    ∷ (restart 11, Restarted 11 0)
    ∷ (p1 (OpenResourceManager h2 (manager_guid 2)), Done)
    ∷ (p1 (OpenEnlistment h5 h2 (enlistment_guid 2)), Refused EnlistmentNotFound)
    ∷ []
    )

-- an enlistment of a transaction that was decided before a restart is told to commit after it
abbrev pub DurableTwoPhaseCommit : Type 0
DurableTwoPhaseCommit = Answered blank (
    (p1 (CreateResourceManager h1 Durability.Durable), Guid (manager_guid 1))
    ∷ (p1 (CreateTransaction h2 0), Guid (transaction_guid 1))
    ∷ (p1 (CreateEnlistment h3 h1 h2 EnlistmentKind.Plain), Guid (enlistment_guid 1))
    ∷ (p1 (KvSet h2 (codes "k") (1 ∷ [])), Done)
    ∷ (p1 (CommitTransaction h2), Pending)
    ∷ (p1 (PrepareComplete h3), Done)
    ∷ (crash, Done)
    ∷ (restart 5, Restarted 6 0)
    ∷ (p1 (OpenResourceManager h1 (manager_guid 1)), Done)
    ∷ (p1 (RecoverResourceManager h1), Done)
    ∷ (p1 (GetNotificationResourceManager h1), told Notify.Recover 1)
    ∷ (p1 (GetNotificationResourceManager h1), Notification Notify.LastRecover None)
    ∷ (p1 (OpenEnlistment h3 h1 (enlistment_guid 1)), Done)
    ∷ (p1 (RecoverEnlistment h3), Done)
    ∷ (p1 (GetNotificationResourceManager h1), told Notify.Commit 1)
    ∷ (p1 (CommitComplete h3), Done)
    ∷ (p1 (KvGet View.Plain (codes "k")), Contents (1 ∷ []))
    ∷ (crash, Done)
    ∷ (restart 6, Restarted 8 0)
    ∷ []
    )
