-- What a restart of the library leaves.
use Rattle.std.specs.Prelude.{◌≡◌, ℕ, Bool, false, Some, Result, Ok, Err, IfOk, OnErr}
use Rattle.ktm_base.specs.Count.{Rose}
use Rattle.ktm_base.specs.declared.fault.NoMemory.{NoMemory}
use Rattle.ktm_base.specs.declared.refusal.Refusal.TheVariants.{ImageWorn, MachineDown}
use Rattle.ktm_base.specs.Power.{Restored}
use Rattle.ktm_base.specs.Told.{Goes}
use Rattle.ktm_kernel.specs.Answers.{IfUnwrittenBy, says_started}
use Rattle.ktm_kernel.specs.Stands.{DoesLine, KernelAt, KernelState}
use Rattle.ktm_log.specs.OnDisk.{OnDisk}
use Rattle.ktm_kernel.specs.declared.fault.OpenFault.{OpenFault}
use Rattle.ktm_kernel.specs.declared.fault.OpenFault.TheVariants as opening
use Rattle.ktm_world.specs.declared.command.Line.TheVariants.{Restart}
use Rattle.ktm_world.specs.declared.reply.Reply.{Reply}
use Rattle.ktm_world.specs.declared.reply.Reply.TheVariants.{BadImage, Refused, Restarted}
use Rattle.ktm_world.specs.World.{World}
use Rattle.wattorju.specs.declared.restart.Found.{Found}

-- what the answer of a restart says
abbrev pub answer_of_restart : Result Found OpenFault → Result Reply NoMemory
answer_of_restart (Ok found) = Ok (Restarted found.events found.in_doubt)
answer_of_restart (Err (opening.BadImage offset)) = Ok (BadImage offset)
answer_of_restart (Err opening.Down) = Ok (Refused MachineDown)
answer_of_restart (Err opening.Worn) = Ok (Refused ImageWorn)
answer_of_restart (Err opening.NoMemory) = Err (record {})

-- did the machine start
abbrev pub has_started : Result Reply NoMemory → Bool
has_started (Ok reply) = says_started reply
has_started (Err fault) = false

-- the power is back, and nothing was written then; the machine is the one that is down
pub record IsPoweredOnly (old new : OnDisk KernelState) : Type 0 where
  pub machine : new.it ≡ old.it
  pub told : Goes Restored old.told new.told
  pub up : new.status.is_down ≡ false
  pub pending : new.status.pending ≡ 0

-- a machine that was down was answered so, for each world that it stood for; out of memory it stands for the same worlds
pub record IsRestarted (pick : ℕ) (old new : OnDisk KernelState) (answer : Result Reply NoMemory) : Type 0 where
  pub does : IfOk answer (λ reply. (w : World) → KernelAt old.it old.told w → DoesLine w (Some (Restart pick)) reply new.it new.told)
  pub no_memory : OnErr answer ((w : World) → KernelAt old.it old.told w → KernelAt new.it new.told w)
  pub cause : IfOk answer (λ reply. reply ≡ Refused MachineDown → Rose old.status.downs new.status.downs)
  pub is_up : new.it.now.machine.is_up ≡ has_started answer
  pub unwritten : IfOk answer (λ reply. IfUnwrittenBy reply (IsPoweredOnly old new))
