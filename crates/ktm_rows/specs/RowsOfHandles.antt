-- Worked rows of handles, of the end of a process, and of a machine that is down.
use Rattle.std.specs.Prelude.{[], ◌∷◌, codes}
use Rattle.ktm_base.specs.declared.refusal.Refusal.TheVariants.{InvalidHandle, TransactionNotFound, FileNotFound, MachineDown, MachineUp, BadLine}
use Rattle.ktm_world.specs.declared.command.Command.TheVariants.{CreateTransaction, CreateFileTransacted, DuplicateHandle, Exit, GetTransactionInformation, OpenTransaction, CloseHandle, CreateFile}
use Rattle.ktm_world.specs.declared.object.TransactionOutcome.{TransactionOutcome}
use Rattle.ktm_world.specs.declared.options.Access.{Access}
use Rattle.ktm_world.specs.declared.options.Disposition.{Disposition}
use Rattle.ktm_world.specs.declared.options.ShareMode.{ShareMode}
use Rattle.ktm_world.specs.declared.reply.Reply.TheVariants.{Refused, Done, Guid, Information, Restarted}
use Rattle.ktm_world.specs.declared.reply.TransactionState.{TransactionState}
use Rattle.ktm_world.specs.Scripts.{Answered, blank, p, p1, p2, time_passes, crash, restart, bad_line, h1, h2, h5, h6, transaction_guid}

-- a transaction rolls back with its last handle, also where its first process has ended
abbrev pub HandlesAndExit : Type 0
HandlesAndExit = Answered blank (
    (p1 (CreateTransaction h1 0), Guid (transaction_guid 1))
    ∷ (p1 (CreateFileTransacted h2 (codes "\\a") Access.ReadWrite ShareMode.Nothing Disposition.CreateNew h1), Done)
    ∷ (p2 (DuplicateHandle h5 (p 1) h1), Done)
    ∷ (p1 Exit, Done)
    ∷ (p2 (GetTransactionInformation h5), Information (transaction_guid 1) TransactionState.Normal TransactionOutcome.Undetermined)
    ∷ (p2 (OpenTransaction h6 (transaction_guid 1)), Done)
    ∷ (p2 (CloseHandle h5), Done)
    ∷ (p2 (CloseHandle h6), Done)
    ∷ (p2 (OpenTransaction h5 (transaction_guid 1)), Refused TransactionNotFound)
    ∷ (p2 (CreateFile h1 (codes "\\a") Access.Read ShareMode.Nothing Disposition.OpenExisting), Refused FileNotFound)
    ∷ []
    )

-- a machine that is down refuses every call, a bad line is refused first, and no label is bound after a restart
abbrev pub LinesAndMachine : Type 0
LinesAndMachine = Answered blank (
    (bad_line, Refused BadLine)
    ∷ (bad_line, Refused BadLine)
    ∷ (restart 1, Refused MachineUp)
    ∷ (crash, Done)
    ∷ (p1 Exit, Refused MachineDown)
    ∷ (bad_line, Refused BadLine)
    ∷ (time_passes 5, Refused MachineDown)
    ∷ (crash, Refused MachineDown)
    ∷ (restart 1, Restarted 1 0)
    ∷ (p1 (CloseHandle h1), Refused InvalidHandle)
    ∷ []
    )
