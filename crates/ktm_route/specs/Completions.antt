-- The commands that completions are.
use Rattle.ktm_world.specs.declared.command.Command.{Command}
use Rattle.ktm_world.specs.declared.command.Command.TheVariants.{CommitTransaction, RollbackTransaction, GetTransactionInformation, GetNotificationResourceManager, PrePrepareComplete, PrepareComplete, ReadOnlyEnlistment, CommitComplete, RollbackComplete, SinglePhaseReject, RollbackEnlistment, PrePrepareEnlistment, PrepareEnlistment, CommitEnlistment, CloseHandle, Exit}
use Rattle.ktm_world.specs.declared.completion.Completion.{Completion}

-- the command that a completion is
abbrev pub command_of : Completion → Command
command_of (Completion.CommitTransaction label) = CommitTransaction label
command_of (Completion.RollbackTransaction label) = RollbackTransaction label
command_of (Completion.GetTransactionInformation label) = GetTransactionInformation label
command_of (Completion.GetNotificationResourceManager label) = GetNotificationResourceManager label
command_of (Completion.PrePrepareComplete label) = PrePrepareComplete label
command_of (Completion.PrepareComplete label) = PrepareComplete label
command_of (Completion.ReadOnlyEnlistment label) = ReadOnlyEnlistment label
command_of (Completion.CommitComplete label) = CommitComplete label
command_of (Completion.RollbackComplete label) = RollbackComplete label
command_of (Completion.SinglePhaseReject label) = SinglePhaseReject label
command_of (Completion.RollbackEnlistment label) = RollbackEnlistment label
command_of (Completion.PrePrepareEnlistment label) = PrePrepareEnlistment label
command_of (Completion.PrepareEnlistment label) = PrepareEnlistment label
command_of (Completion.CommitEnlistment label) = CommitEnlistment label
command_of (Completion.CloseHandle label) = CloseHandle label
command_of Completion.Exit = Exit
