-- What a call on files makes of the machine.
use Rattle.std.specs.Prelude.{Option, Some, None}
use Rattle.ktm_base.specs.declared.id.Id.{Id}
use Rattle.ktm_base.specs.declared.id.Label.{Label}
use Rattle.ktm_base.specs.declared.id.Pid.{Pid}
use Rattle.ktm_world.specs.Decide.{of_files, opening}
use Rattle.ktm_world.specs.FileOutcome.{FileOutcome}
use Rattle.ktm_world.specs.Outcome.{Outcome}
use Rattle.ktm_world.specs.Present.{Present}

-- what a call on files makes of the machine: the label, if there is one, is bound to the file that it opens
abbrev pub files_outcome : Present → Pid → Option Id → Option Label → FileOutcome → Outcome
files_outcome x process who None o = of_files x who o
files_outcome x process who (Some label) o = opening x process label who o
