-- What a command that was answered leaves.
use Rattle.std.proofs.Common.{◌≡◌, ℕ, Result, Ok, Err, IfOk, sym, subst, inl, inr}
use Rattle.ktm_base.specs.declared.fault.NoMemory.{NoMemory}
use Rattle.ktm_forms.specs.Tells.{IsTold, RepliesLaw, Telling, TickLaw, bytes, nothing, tells}
use Rattle.ktm_kernel.specs.Answers.{CallLeaves, CameOrFell, IsLineAnswered, reply_but_bytes}
use Rattle.ktm_kernel.specs.Stands.{IsReady, KernelState}
use Rattle.ktm_log.specs.OnDisk.{OnDisk}
use Rattle.ktm_world.specs.declared.command.Command.{Command}
use Rattle.ktm_world.specs.declared.command.Command.TheVariants.{ReadFile}
use Rattle.ktm_world.specs.declared.command.Line.TheVariants.{Process, Tick}
use Rattle.ktm_world.specs.declared.reply.Reply.{Reply}
use Rattle.ktm_world.specs.declared.reply.Reply.TheVariants.{Contents}
use Rattle.ktm_world.specs.Decide.{decide}
use Rattle.ktm_world.specs.Outcome.{Outcome}
use Rattle.ktm_world.specs.Present.{Present}
use Rattle.ktm_world.specs.World.{decide_tick}
use Rattle.wattorju.specs.Calls.{own}

-- without the bytes of a file a reply tells what it tells with them
told_without : (command : Command) (reply : Reply) (telling : Telling) → IsTold reply telling → IsTold (reply_but_bytes (Process own command) reply) telling
told_without (ReadFile file offset many) (Contents contents) bytes is = tt
told_without (ReadFile file offset many) (Contents contents) other is = is
told_without (ReadFile file offset many) reply telling is = is
told_without command reply telling is = is

told_with : (command : Command) (reply : Reply) (telling : Telling) → IsTold (reply_but_bytes (Process own command) reply) telling → IsTold reply telling
told_with (ReadFile file offset many) (Contents contents) bytes is = tt
told_with (ReadFile file offset many) (Contents contents) other is = is
told_with (ReadFile file offset many) reply telling is = is
told_with command reply telling is = is

-- a reply that is the outcome's but for the bytes of a file, or says that the machine is down, is told where the outcome's is
call_told : (command : Command) (o : Outcome) (old new : Present) (reply : Reply) (telling : Telling) → IsTold o.reply telling → CameOrFell (Process own command) o old new reply → IsTold reply telling
call_told command o old new reply telling is (inl came) = told_with command reply telling (subst (λ r. IsTold r telling) (sym came.0) (told_without command o.reply telling is))
call_told command o old new reply telling is (inr fell) = subst (λ r. IsTold r telling) (sym fell.0) tt

pub asked_told : RepliesLaw → (command : Command) (old new : OnDisk KernelState) (answer : Result Reply NoMemory) → CallLeaves own command old new answer
    → (telling : Telling) → tells command ≡ telling → IfOk answer (λ reply. IsTold reply telling)
asked_told law command old new (Ok reply) leaves telling is =
    subst (λ t. IsTold reply t) is (call_told command (decide old.it.now own command) old.it.now new.it.now reply (tells command) (law old.it.now own command) leaves.says)
asked_told law command old new (Err fault) leaves telling is = tt

-- where time passed, it is told that it is done
pub ticked_told : TickLaw → (ms : ℕ) (old new : OnDisk KernelState) (reply : Reply) → IsLineAnswered (Tick ms) (decide_tick old.it.now ms) old new reply → IsTold reply nothing
ticked_told law ms old new reply answered = elim answered.says [
  | inl came ↦ subst (λ r. IsTold r nothing) (sym came.0) (law old.it.now ms)
  | inr fell ↦ subst (λ r. IsTold r nothing) (sym fell.0) tt
]

-- a machine that was ready is ready then
pub asked_ready : (command : Command) (old new : OnDisk KernelState) (answer : Result Reply NoMemory) → CallLeaves own command old new answer → IsReady old.it old.told old.status → IsReady new.it new.told new.status
asked_ready command old new (Ok reply) leaves ready = leaves.ready
asked_ready command old new (Err fault) unanswered ready = unanswered.ready ready
