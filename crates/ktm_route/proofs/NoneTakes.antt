-- Calls on the way to the end of a transaction.
use Rattle.std.proofs.Common.{refl}
use Rattle.ktm_world.specs.declared.completion.Completion.TheVariants.{CommitTransaction, RollbackTransaction, GetTransactionInformation, GetNotificationResourceManager, PrePrepareComplete, PrepareComplete, ReadOnlyEnlistment, CommitComplete, RollbackComplete, SinglePhaseReject, RollbackEnlistment, PrePrepareEnlistment, PrepareEnlistment, CommitEnlistment, CloseHandle, Exit}
use Rattle.ktm_route.specs.Takes.{CompletionsLaw}

-- none takes memory for what it does
pub none_takes : CompletionsLaw
none_takes x process (CommitTransaction label) = refl
none_takes x process (RollbackTransaction label) = refl
none_takes x process (GetTransactionInformation label) = refl
none_takes x process (GetNotificationResourceManager label) = refl
none_takes x process (PrePrepareComplete label) = refl
none_takes x process (PrepareComplete label) = refl
none_takes x process (ReadOnlyEnlistment label) = refl
none_takes x process (CommitComplete label) = refl
none_takes x process (RollbackComplete label) = refl
none_takes x process (SinglePhaseReject label) = refl
none_takes x process (RollbackEnlistment label) = refl
none_takes x process (PrePrepareEnlistment label) = refl
none_takes x process (PrepareEnlistment label) = refl
none_takes x process (CommitEnlistment label) = refl
none_takes x process (CloseHandle label) = refl
none_takes x process Exit = refl
