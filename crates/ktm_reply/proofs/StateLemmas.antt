-- A state or an outcome is read from its name alone.
use Rattle.std.proofs.Common.{◌≡◌, ℕ, List, ◌++◌, Some, codes, refl}
use Rattle.ktm_codec.specs.Word.{word_at, word_from}
use Rattle.ktm_world.specs.declared.object.TransactionOutcome.{TransactionOutcome}
use Rattle.ktm_world.specs.declared.object.TransactionOutcome.TheVariants.{Undetermined, Committed, Aborted}
use Rattle.ktm_world.specs.declared.reply.TransactionState.{TransactionState}
use Rattle.ktm_world.specs.declared.reply.TransactionState.TheVariants.{Normal, Indoubt, CommittedNotify}
use Rattle.ktm_reply.specs.declared.information.TheConstants.{OUTCOMES, STATES}
use Rattle.ktm_reply.specs.Reading.{outcome_named, state_named}
use Rattle.ktm_reply.specs.States.{outcome_name, state_name}
use Rattle.ktm_reply.proofs.Found.{name_is}

pub state_is : (text : List ℕ) (state : TransactionState) → state_named text ≡ Some state → text ≡ state_name state
unfolding state_named
state_is text state e = name_is state_name STATES text state e

pub state_again : (state : TransactionState) → state_named (state_name state) ≡ Some state
unfolding state_named
state_again Normal = refl
state_again Indoubt = refl
state_again CommittedNotify = refl

pub outcome_is : (text : List ℕ) (outcome : TransactionOutcome) → outcome_named text ≡ Some outcome → text ≡ outcome_name outcome
unfolding outcome_named
outcome_is text outcome e = name_is outcome_name OUTCOMES text outcome e

pub outcome_again : (outcome : TransactionOutcome) → outcome_named (outcome_name outcome) ≡ Some outcome
unfolding outcome_named
outcome_again Undetermined = refl
outcome_again Committed = refl
outcome_again Aborted = refl

pub word_of_state : (state : TransactionState) (rest : List ℕ) → word_at (state_name state ++ (codes " " ++ rest)) ≡ (state_name state, codes " " ++ rest)
unfolding word_from
word_of_state Normal rest = refl
word_of_state Indoubt rest = refl
word_of_state CommittedNotify rest = refl
