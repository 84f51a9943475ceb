-- The program's exit codes.
use Rattle.std.specs.Prelude.{ℕ}
use Rattle.ktm_run.specs.declared.status.Status.{Status}
use Rattle.ktm_run.specs.declared.status.Status.TheVariants.{Done, Usage, SourceFault, SinkFault, NoMemory, BadImage, DiskFault, ScriptTooLong, Worn}

-- a run that ended well has 0, and each other end a code of its own
abbrev pub exit_code_of : Status → ℕ
exit_code_of Done = 0
exit_code_of Usage = 1
exit_code_of SourceFault = 2
exit_code_of SinkFault = 3
exit_code_of NoMemory = 4
exit_code_of BadImage = 5
exit_code_of DiskFault = 6
exit_code_of ScriptTooLong = 7
exit_code_of Worn = 9
