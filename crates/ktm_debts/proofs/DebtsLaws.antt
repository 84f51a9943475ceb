-- What transactions under way may still record has room, and what brings them to their outcomes takes no more of it than they owe less.
use Rattle.std.proofs.Common.{◌≡◌, ◌+◌, ◌≤◌, false, arith}
use Rattle.ktm_base.specs.declared.id.Pid.{Pid}
use Rattle.ktm_world.specs.declared.command.Command.{Command}
use Rattle.ktm_world.specs.Decide.{decide}
use Rattle.ktm_world.specs.Present.{Present}
use Rattle.ktm_world.specs.Sizes.{area_len}
use Rattle.ktm_records.specs.FileCallsMade.{FileCallsLaw}
use Rattle.ktm_records.specs.Kept.{IsKept}
use Rattle.ktm_room.proofs.offered.CallSizes.{few-decided}
use Rattle.ktm_debts.specs.Debts.{DebtsLaw, completes, frame_of, most_debts}
use Rattle.ktm_debts.proofs.CommandDebts.{command-rests, completion-pays, tick-pays}
use Rattle.ktm_debts.proofs.CourseDebts.{frame-most}
use Rattle.ktm_debts.proofs.MostDebts.{most}

-- what a command records that is no completion is little
fits : FileCallsLaw → (x : Present) (process : Pid) (command : Command) → IsKept x → completes command ≡ false → frame_of (decide x process command).events + most_debts x.recorded.units + 1 ≤ area_len x.recorded.units
fits calls x process command kept other =
    let few = few-decided x kept calls process command other in let frame = frame-most (decide x process command).events in omega (arith, few, frame)

pub debts_law : FileCallsLaw → DebtsLaw
debts_law calls = record {
  most = most;
  completions = λ x process command kept is. (completion-pays x kept.sound.course process command is).paid;
  ticks = λ x ms kept. (tick-pays x kept.sound.course ms).paid;
  quiet = λ x process command kept owes none. (command-rests x kept.sound.course process command owes).less;
  fits = fits calls;
}
