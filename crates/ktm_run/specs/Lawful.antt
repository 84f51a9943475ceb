-- What is so of every world that a run comes to.
use Rattle.std.specs.Prelude.{ℕ, ◌+◌, ◌≤◌, List, [], length, Option}
use Rattle.ktm_base.specs.declared.limits.TheConstants.{MOST_SCRIPT_BYTES}
use Rattle.ktm_base.specs.Disk.{DiskState}
use Rattle.ktm_kernel.specs.Restarts.{IsFreshlyCounted}
use Rattle.ktm_kernel.specs.Stands.{KernelState, KernelAt}
use Rattle.ktm_world.specs.declared.command.Line.{Line}
use Rattle.ktm_world.specs.declared.reply.Reply.{Reply}
use Rattle.ktm_world.specs.Durable.{Durable}
use Rattle.ktm_world.specs.Lawful.{IsLawful}
use Rattle.ktm_world.specs.OneOutcome.{HasOneOutcome, tellings}
use Rattle.ktm_world.specs.Transcript.{Transcript, Step}
use Rattle.ktm_world.specs.World.{World, opened}

-- the most lines of a run: a script has at most as many as it has bytes, and one more
abbrev pub most_lines : ℕ
most_lines = MOST_SCRIPT_BYTES + 1

-- from what a run begins with, each transcript of so many lines comes to a lawful world, and tells each transaction one outcome
pub record RunIsLawful (base : Durable) : Type 0 where
  pub lawful : (lines : List (Option Line)) (steps : List Step) (replies : List Reply) (new : World) → length lines ≤ most_lines → Transcript (opened base []) lines steps replies new → IsLawful new
  pub one_outcome : (lines : List (Option Line)) (steps : List Step) (replies : List Reply) (new : World) → length lines ≤ most_lines → Transcript (opened base []) lines steps replies new
      → HasOneOutcome (tellings (opened base []) lines steps replies)

-- it is so where a machine with its disk stands for the opened world, and few events more are recorded than a state that is not worn has
abbrev pub RunLaw : Type 0
RunLaw = (k : KernelState) (told : Option DiskState) (base : Durable) → KernelAt k told (opened base []) → IsFreshlyCounted k.now → RunIsLawful base
