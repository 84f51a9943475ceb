-- What the calls of the model come to, by the tests of replies and the rows of the phase table.
use Rattle.std.specs.Prelude.{◌≡◌, Bool, List, Option, Some, None, Result, Ok, Err}
use Rattle.ktm_base.specs.declared.id.Label.{Label}
use Rattle.ktm_base.specs.declared.id.Pid.{Pid}
use Rattle.ktm_base.specs.declared.refusal.Refusal.{Refusal}
use Rattle.ktm_world.specs.declared.command.Command.{Command}
use Rattle.ktm_world.specs.declared.object.Transaction.{Transaction}
use Rattle.ktm_world.specs.declared.reply.Reply.TheVariants.{Done}
use Rattle.ktm_world.specs.declared.input.PhaseInput.{PhaseInput}
use Rattle.ktm_world.specs.Decide.{call_of}
use Rattle.ktm_world.specs.Enlistments.{Enlistment}
use Rattle.ktm_world.specs.Labels.{enlistment_named}
use Rattle.ktm_world.specs.Outcome.{Outcome, first_refusal}
use Rattle.ktm_world.specs.Phases.{Course}
use Rattle.ktm_world.specs.Present.{Present}
use Rattle.ktm_world.specs.TransactionCalls.{arrived, course_of, may_set_information as may_set_information_now, transaction_in}
use Rattle.ktm_world.specs.Steps.{led}
use Rattle.ktm_phase.specs.declared.enlistment.Vote.{Vote}
use Rattle.ktm_phase.specs.declared.superior.SuperiorCall.{SuperiorCall}
use Rattle.ktm_phase.specs.Replies.{commanded, may_set_information, recovered, replied}

-- the call by which an enlistment replies so
abbrev pub reply_call : Vote → Label → Command
reply_call Vote.PrePrepareComplete label = Command.PrePrepareComplete label
reply_call Vote.PrepareComplete label = Command.PrepareComplete label
reply_call Vote.ReadOnly label = Command.ReadOnlyEnlistment label
reply_call Vote.SinglePhaseReject label = Command.SinglePhaseReject label
reply_call Vote.CommitComplete label = Command.CommitComplete label
reply_call Vote.RollbackComplete label = Command.RollbackComplete label
reply_call Vote.Rollback label = Command.RollbackEnlistment label

-- the call of a superior
abbrev pub superior_call : SuperiorCall → Label → Command
superior_call SuperiorCall.PrePrepare label = Command.PrePrepareEnlistment label
superior_call SuperiorCall.Prepare label = Command.PrepareEnlistment label
superior_call SuperiorCall.Commit label = Command.CommitEnlistment label

-- the label of the process names the enlistment, and its transaction is there
pub record Names (x : Present) (process : Pid) (label : Label) (e : Enlistment) (t : Transaction) : Type 0 where
  pub enlistment : enlistment_named x process label ≡ Some e
  pub transaction : transaction_in x e ≡ Some t

-- the course of the transaction when the enlistment calls
abbrev pub course_by : Present → Transaction → Enlistment → Course
course_by x t e = course_of x t (Some e)

-- why it is refused, if it is
abbrev pub refusal_in : Result PhaseInput Refusal → Option Refusal
refusal_in (Ok input) = None
refusal_in (Err refusal) = Some refusal

-- a call, by its tests and its effect: it is refused where this is a refusal, and leads the transaction by the row of what came where it is none
pub record ComesTo (x : Present) (t : Transaction) (e : Enlistment) (tests : List (Bool × Refusal)) (effect : Outcome) (result : Result PhaseInput Refusal) : Type 0 where
  pub refused : first_refusal tests ≡ refusal_in result
  pub leads : (input : PhaseInput) → result ≡ Ok input → effect ≡ arrived x (led input (course_by x t e)) Done

-- each call on an enlistment comes to what is answered to it
pub record CallsLaw : Type 0 where
  pub replies : (x : Present) (process : Pid) (label : Label) (e : Enlistment) (t : Transaction) (vote : Vote) → Names x process label e t
      → ComesTo x t e (call_of x process (reply_call vote label)).0 (call_of x process (reply_call vote label)).1 (replied t.phase e vote)
  pub superiors : (x : Present) (process : Pid) (label : Label) (e : Enlistment) (t : Transaction) (call : SuperiorCall) → Names x process label e t
      → ComesTo x t e (call_of x process (superior_call call label)).0 (call_of x process (superior_call call label)).1 (commanded t.phase e call)
  pub recoveries : (x : Present) (process : Pid) (label : Label) (e : Enlistment) (t : Transaction) → Names x process label e t
      → ComesTo x t e (call_of x process (Command.RecoverEnlistment label)).0 (call_of x process (Command.RecoverEnlistment label)).1 (recovered t.phase e)
  pub informed : (x : Present) (process : Pid) (label : Label) (e : Enlistment) (t : Transaction) → Names x process label e t → may_set_information_now x e ≡ may_set_information t e
