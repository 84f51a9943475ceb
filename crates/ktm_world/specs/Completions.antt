-- The commands that end a transaction, or tell of its end.
use Rattle.std.specs.Prelude.{Option, Some, None}
use Rattle.ktm_world.specs.declared.command.Command.{Command}
use Rattle.ktm_world.specs.declared.command.Command.TheVariants.{CommitTransaction, RollbackTransaction, GetTransactionInformation, GetNotificationResourceManager, PrePrepareComplete, PrepareComplete, ReadOnlyEnlistment, CommitComplete, RollbackComplete, SinglePhaseReject, RollbackEnlistment, PrePrepareEnlistment, PrepareEnlistment, CommitEnlistment, CloseHandle, Exit}
use Rattle.ktm_world.specs.declared.completion.Completion.{Completion}

-- the command as a completion, if it is one
abbrev pub completion_of : Command → Option Completion
completion_of (CommitTransaction label) = Some (Completion.CommitTransaction label)
completion_of (RollbackTransaction label) = Some (Completion.RollbackTransaction label)
completion_of (GetTransactionInformation label) = Some (Completion.GetTransactionInformation label)
completion_of (GetNotificationResourceManager label) = Some (Completion.GetNotificationResourceManager label)
completion_of (PrePrepareComplete label) = Some (Completion.PrePrepareComplete label)
completion_of (PrepareComplete label) = Some (Completion.PrepareComplete label)
completion_of (ReadOnlyEnlistment label) = Some (Completion.ReadOnlyEnlistment label)
completion_of (CommitComplete label) = Some (Completion.CommitComplete label)
completion_of (RollbackComplete label) = Some (Completion.RollbackComplete label)
completion_of (SinglePhaseReject label) = Some (Completion.SinglePhaseReject label)
completion_of (RollbackEnlistment label) = Some (Completion.RollbackEnlistment label)
completion_of (PrePrepareEnlistment label) = Some (Completion.PrePrepareEnlistment label)
completion_of (PrepareEnlistment label) = Some (Completion.PrepareEnlistment label)
completion_of (CommitEnlistment label) = Some (Completion.CommitEnlistment label)
completion_of (CloseHandle label) = Some (Completion.CloseHandle label)
completion_of Exit = Some Completion.Exit
completion_of _ = None
