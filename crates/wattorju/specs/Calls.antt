-- What a call of the library leaves, and what its answer says.
use Rattle.std.specs.Prelude.{◌≡◌, ℕ, true, false, Option, Some, None, Result, Ok, Err, IfOk, IfSome, IsOk, OnErr}
use Rattle.ktm_base.specs.declared.fault.NoMemory.{NoMemory}
use Rattle.ktm_base.specs.declared.id.Label.{Label}
use Rattle.ktm_base.specs.declared.id.Pid.{Pid}
use Rattle.ktm_kernel.specs.Answers.{CallLeaves, IsAsItWas, IsLineAnswered}
use Rattle.ktm_kernel.specs.Stands.{KernelState}
use Rattle.ktm_laws.specs.Running.{HasEventsLeft}
use Rattle.ktm_log.specs.OnDisk.{OnDisk}
use Rattle.ktm_kernel.specs.Takes.{takes_memory}
use Rattle.ktm_world.specs.declared.command.Command.{Command}
use Rattle.ktm_world.specs.declared.command.Line.TheVariants.{Tick}
use Rattle.ktm_world.specs.declared.reply.Reply.{Reply}
use Rattle.ktm_world.specs.Values.{IsLabel}
use Rattle.ktm_world.specs.Labels.{is_bound}
use Rattle.ktm_world.specs.Present.{Present}
use Rattle.ktm_world.specs.World.{decide_tick}
use Rattle.ktm_works.specs.Works.{Commits}
use Rattle.wattorju.specs.declared.failure.Failure.{Failure}
use Rattle.wattorju.specs.declared.failure.Failure.TheVariants as failure
use Rattle.wattorju.specs.declared.failure.CompletionFault.{CompletionFault}
use Rattle.wattorju.specs.declared.failure.CompletionFault.TheVariants as completion

-- all calls of the library are of this process
abbrev pub own : Pid
own = record { 0 = 1 }

-- ---- what an answer says

-- what a failure says that the machine answered; where the image is worn, the machine was not asked
abbrev pub fault_of : Failure → Option (Result Reply NoMemory)
fault_of (failure.Refused refusal) = Some (Ok (Reply.Refused refusal))
fault_of failure.NoMemory = Some (Err (record {}))
fault_of failure.Worn = None

-- what a call says that the machine answered, where the call's value tells this
abbrev pub answer_of : {T : Type 0} → Result T Failure → (T → Reply) → Option (Result Reply NoMemory)
answer_of (Ok value) tell = Some (Ok (tell value))
answer_of (Err failed) tell = fault_of failed

-- the fact of the reply, where the machine was asked and has one
abbrev pub IfReplied : Option (Result Reply NoMemory) → (Reply → Type 0) → Type 0
IfReplied answer P = IfSome answer (λ said. IfOk said P)

-- what a call that takes no memory, or the passing of time, says that the machine replied, where it was asked and the value tells this
abbrev pub reply_of : {T : Type 0} → Result T CompletionFault → (T → Reply) → Option Reply
reply_of (Ok value) tell = Some (tell value)
reply_of (Err (completion.Refused refusal)) tell = Some (Reply.Refused refusal)
reply_of (Err completion.Worn) tell = None

-- the failure that says the same
abbrev pub failure_of : CompletionFault → Failure
failure_of (completion.Refused refusal) = failure.Refused refusal
failure_of completion.Worn = failure.Worn

-- ---- what a call leaves

-- the count of events may end with the next command, so the machine was not asked, and nothing at all has changed
pub record IsWornOut (old new : OnDisk KernelState) : Type 0 where
  pub worn : HasEventsLeft old.it.now → ⊥
  pub same : new ≡ old

-- the machine was asked, and answered so; out of memory nothing has changed, and only what takes memory may be out of it; and a loss of power
-- leaves what was committed before, or that with what the command commits
pub record IsAsked (command : Command) (old new : OnDisk KernelState) (answer : Result Reply NoMemory) : Type 0 where
  pub leaves : CallLeaves own command old new answer
  pub no_memory : OnErr answer (IsAsItWas old.it new.it)
  pub enough : takes_memory old.it.now own command ≡ false → IsOk answer
  pub commits : Commits own command old new answer

-- the machine was asked and answered so, or it was not asked
abbrev pub IsCalled : Command → OnDisk KernelState → OnDisk KernelState → Option (Result Reply NoMemory) → Type 0
IsCalled command old new (Some answer) = IsAsked command old new answer
IsCalled command old new None = IsWornOut old new

-- the machine was asked and replied so, or it was not asked; it is never out of memory
abbrev pub IsCompleted : Command → OnDisk KernelState → OnDisk KernelState → Option Reply → Type 0
IsCompleted command old new (Some reply) = IsAsked command old new (Ok reply)
IsCompleted command old new None = IsWornOut old new

-- time passed with this reply, or the machine was not asked
abbrev pub IsTicked : ℕ → OnDisk KernelState → OnDisk KernelState → Option Reply → Type 0
IsTicked ms old new (Some reply) = IsLineAnswered (Tick ms) (decide_tick old.it.now ms) old new reply
IsTicked ms old new None = IsWornOut old new

-- the label is not bound, unless each label is
abbrev pub IsFree : Present → Label → Type 0
IsFree x label = is_bound x own label ≡ true → (other : Label) → IsLabel other → is_bound x own other ≡ true

-- a command that binds a label was answered so, with a free one, and what it gives is named by that label
pub record IsBinding (command : Label → Command) (old new : OnDisk KernelState) (answer : Option (Result Reply NoMemory)) (IsNamed : Label → Type 0) : Type 0 where
  pub label : Label
  pub free : IsFree old.it.now label
  pub called : IsCalled (command label) old new answer
  pub named : IsNamed label
