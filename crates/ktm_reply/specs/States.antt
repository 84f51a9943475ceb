-- The names of the states and outcomes of transactions.
use Rattle.std.specs.Prelude.{ℕ, List, codes}
use Rattle.ktm_world.specs.declared.object.TransactionOutcome.{TransactionOutcome}
use Rattle.ktm_world.specs.declared.object.TransactionOutcome.TheVariants.{Undetermined, Committed, Aborted}
use Rattle.ktm_world.specs.declared.reply.TransactionState.{TransactionState}
use Rattle.ktm_world.specs.declared.reply.TransactionState.TheVariants.{Normal, Indoubt, CommittedNotify}

-- a state's name
abbrev pub state_name : TransactionState → List ℕ
state_name Normal = codes "Normal"
state_name Indoubt = codes "Indoubt"
state_name CommittedNotify = codes "CommittedNotify"

-- an outcome's name
abbrev pub outcome_name : TransactionOutcome → List ℕ
outcome_name Undetermined = codes "Undetermined"
outcome_name Committed = codes "Committed"
outcome_name Aborted = codes "Aborted"
