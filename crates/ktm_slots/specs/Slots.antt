-- Where a slot is free for each notification that may still be sent, none is ever wanting.
use Rattle.std.specs.Prelude.{◌≡◌, ℕ, ◌+◌, ◌-◌, ◌*◌, ◌≤◌, ◌&&◌, not, Bool, true, false, count_by, length, Option, Some}
use Rattle.ktm_base.specs.declared.id.Id.{Id}
use Rattle.ktm_base.specs.declared.id.Pid.{Pid}
use Rattle.ktm_base.specs.declared.notify.Notify.{Notify}
use Rattle.ktm_world.specs.declared.command.Command.{Command}
use Rattle.ktm_world.specs.declared.input.PhaseInput.{PhaseInput}
use Rattle.ktm_world.specs.declared.object.Phase.{Phase}
use Rattle.ktm_world.specs.declared.object.Phase.TheVariants.{Active, PrePreparing, Preparing, InDoubt, Committing, Aborting, Ended}
use Rattle.ktm_world.specs.declared.object.Transaction.{Transaction}
use Rattle.ktm_world.specs.Decide.{decide}
use Rattle.ktm_world.specs.Enlistments.{Enlistment, Sent, is_ended, is_superior, takes_part}
use Rattle.ktm_world.specs.Labels.{holds_of}
use Rattle.ktm_world.specs.Outcome.{Outcome, apply}
use Rattle.ktm_world.specs.Phases.{is_single_phase}
use Rattle.ktm_world.specs.Present.{Present}
use Rattle.ktm_world.specs.Steps.{led}
use Rattle.ktm_world.specs.TransactionCalls.{before_pre_prepare, before_prepare, course_of, is_voting, waits_for_superior}
use Rattle.ktm_world.specs.Transactions.{change_at, same_id}
use Rattle.ktm_world.specs.World.{decide_tick}
use Rattle.txf_laws.specs.Elements.{IsIn}
use Rattle.ktm_courses.specs.SoundCourse.{IsSoundCourse}
use Rattle.ktm_slots.specs.Owed.{most_owed, owed_in, owed_slots}

-- ---- what may come

-- is nothing decided in this phase
abbrev pub is_undecided_phase : Phase → Bool
is_undecided_phase Committing = false
is_undecided_phase Aborting = false
is_undecided_phase Ended = false
is_undecided_phase _ = true

-- may this come to a transaction in this phase
abbrev pub may_come_in : PhaseInput → Phase → Bool
may_come_in PhaseInput.CommitTransaction phase = elim phase as (λ _. Bool) [ Active ↦ true | _ ↦ false ]
may_come_in PhaseInput.Rollback phase = is_undecided_phase phase
may_come_in PhaseInput.PrePrepareComplete phase = elim phase as (λ _. Bool) [ PrePreparing ↦ true | _ ↦ false ]
may_come_in PhaseInput.PrepareComplete phase = elim phase as (λ _. Bool) [ Preparing ↦ true | _ ↦ false ]
may_come_in (PhaseInput.ReadOnly share) phase = is_voting phase
may_come_in PhaseInput.SinglePhaseReject phase = is_single_phase phase
may_come_in PhaseInput.CommitComplete phase = not (is_ended phase)
may_come_in PhaseInput.RollbackComplete phase = not (is_ended phase)
may_come_in PhaseInput.PrePrepare phase = before_pre_prepare phase
may_come_in PhaseInput.Prepare phase = before_prepare phase
may_come_in PhaseInput.Commit phase = waits_for_superior phase
may_come_in PhaseInput.Recover phase = true
may_come_in PhaseInput.RecoverSuperior phase = elim phase as (λ _. Bool) [ InDoubt ↦ true | _ ↦ false ]

-- may it come to this transaction from an enlistment, or from none: that takes part where it is asked again, and that is not recovered where it recovers
abbrev pub may_come_from : PhaseInput → Id → Option Enlistment → Bool
may_come_from PhaseInput.SinglePhaseReject own caller = holds_of (takes_part own) caller
may_come_from PhaseInput.Recover own caller = holds_of (λ e. takes_part own e && not e.is_recovered) caller
may_come_from PhaseInput.RecoverSuperior own caller = holds_of (λ e. same_id e.transaction own && is_superior e && not e.is_recovered) caller
may_come_from _ own caller = true

-- a transaction of this machine to which this may come, from an enlistment of it or from none
pub record Comes (x : Present) (t : Transaction) (caller : Option Enlistment) (input : PhaseInput) : Type 0 where
  pub there : IsIn t x.transactions.items
  pub calls : (e : Enlistment) → caller ≡ Some e → IsIn e x.transactions.enlistments
  pub phase : may_come_in input t.phase ≡ true
  pub from : may_come_from input t.id caller ≡ true

-- ---- what is granted

-- is it a notification of a recovery, for which a slot is taken as it is sent
abbrev pub is_of_recovery : Sent → Bool
is_of_recovery s = elim s.note.kind as (λ _. Bool) [ Notify.Recover ↦ true | Notify.LastRecover ↦ true | _ ↦ false ]

-- so many slots more are taken ahead for this outcome: for each enlistment that it makes, and for each notification of a recovery
abbrev pub granted_in : Present → Outcome → ℕ
granted_in x o = most_owed * (length o.transactions.enlistments - length x.transactions.enlistments) + count_by is_of_recovery o.sent

-- ---- the law

-- by this outcome no more is sent, and still to be sent then, than is to be sent now and was granted
abbrev pub IsPaid : Present → Outcome → ℕ → Type 0
IsPaid x o more = length o.sent + owed_slots (apply x o) ≤ owed_slots x + more

-- what is sent was owed or granted, in a sound machine, and no enlistment is owed more than the most
pub record SlotsLaw : Type 0 where
  -- by what comes to a transaction
  pub courses : (x : Present) (t : Transaction) (caller : Option Enlistment) (input : PhaseInput) → IsSoundCourse x → Comes x t caller input
      → let d = led input (course_of x t caller) in length d.sent + owed_in (change_at x.transactions.items t.id (λ u. d.transaction)) d.enlistments ≤ owed_slots x
  -- by a command
  pub commands : (x : Present) (process : Pid) (command : Command) → IsSoundCourse x → IsPaid x (decide x process command) (granted_in x (decide x process command))
  -- by the passing of time
  pub ticks : (x : Present) (ms : ℕ) → IsSoundCourse x → IsPaid x (decide_tick x ms) 0
  -- at every time, and so after a restart
  pub few : (x : Present) → owed_slots x ≤ most_owed * length x.transactions.enlistments
