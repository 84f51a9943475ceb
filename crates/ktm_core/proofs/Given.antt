-- A command of the grammar is one that a machine is given.
use Rattle.ktm_world.specs.declared.command.Command.{Command}
use Rattle.ktm_world.specs.declared.command.Command.TheVariants.{WriteUnits}
use Rattle.ktm_world.specs.Values.{IsCommand, IsGiven}

pub given : (command : Command) → IsCommand command → IsGiven command
given (WriteUnits file start contents) is = absurd is
given command is = is
