-- What an installation leaves: all of it, or nothing.
use Rattle.std.specs.Prelude.{◌≡◌, ◌≢◌, List, [], ◌∷◌, ◌++◌, fold, Result, IfOk, IfErr}
use Rattle.ktm_base.specs.declared.id.Label.{Label}
use Rattle.ktm_base.specs.declared.refusal.Refusal.TheVariants.{MachineDown}
use Rattle.ktm_kernel.specs.Stands.{KernelState}
use Rattle.ktm_log.specs.OnDisk.{OnDisk}
use Rattle.ktm_world.specs.declared.command.Command.{Command}
use Rattle.ktm_world.specs.declared.command.Command.TheVariants.{CloseHandle, CommitTransaction, CreateFileTransacted, CreateTransaction, KvSet, WriteFile}
use Rattle.ktm_world.specs.declared.options.Access.TheVariants.{Write}
use Rattle.ktm_world.specs.declared.options.Disposition.TheVariants.{CreateAlways}
use Rattle.ktm_world.specs.declared.options.ShareMode.TheVariants.{Nothing}
use Rattle.ktm_works.specs.Works.{Contents, Keeps, contents_now}
use Rattle.ktm_world.specs.Decide.{decide}
use Rattle.ktm_world.specs.Outcome.{apply}
use Rattle.ktm_world.specs.Present.{Present}
use Rattle.ktm_world.specs.World.{present}
use Rattle.wattorju.specs.Calls.{own}
use Rattle.wattorju.specs.declared.failure.Failure.{Failure}
use Rattle.wattorju.specs.declared.failure.Failure.TheVariants.{Refused}
use Rattle.wattorju.specs.declared.told.CommitState.{CommitState}
use Rattle.wattorju.specs.declared.told.CommitState.TheVariants.{Committed}
use Rattle.ktm_example.specs.declared.install.Entry.{Entry}
use Rattle.ktm_example.specs.declared.install.Release.{Release}

-- what is so once a command is done
unfoldable pub after : Present → Command → Present
after x command = apply x (decide x own command)

-- and once all of them are, one behind another
abbrev pub after_all : Present → List Command → Present
after_all x commands = fold after x commands

-- a file has its new contents, in a transaction
abbrev pub replacing : Label → Entry → Label → List Command
replacing transaction file label =
    CreateFileTransacted label file.name.characters Write Nothing CreateAlways transaction ∷ WriteFile label 0 file.contents ∷ CloseHandle label ∷ []

-- both files have their new contents, the key has its version, and all of that is committed
abbrev pub installing : Label → Release → Label → Label → List Command
installing transaction release program manual =
    replacing transaction release.program program ++ (replacing transaction release.manual manual ++ (KvSet transaction release.version.name.characters release.version.contents ∷ CommitTransaction transaction ∷ []))

-- a loss of power leaves one of these, and this is so in the world that the machine stands for
pub record KeepsAt (cs : List Contents) (x : Present) (m : OnDisk KernelState) : Type 0 where
  pub keeps : Keeps cs m
  pub now : present keeps.world ≡ x

-- a loss of power leaves what was committed before or what is committed after, by what came of it
pub record IsAllOrNothing (before after : Contents) (new : OnDisk KernelState) (result : Result CommitState Failure) : Type 0 where
  -- in every case all of it, or nothing
  pub either : Keeps (before ∷ after ∷ []) new
  -- all of it where it has committed
  pub ok : IfOk result (λ state. state ≡ Committed → Keeps (after ∷ []) new)
  -- nothing of it where it failed, but for a machine that is down
  pub err : IfErr result (λ failure. failure ≢ Refused MachineDown → Keeps (before ∷ []) new)

-- so it is of an installation, in a transaction of its own
pub record IsInstallation (x : Present) (release : Release) (new : OnDisk KernelState) (result : Result CommitState Failure) : Type 0 where
  pub transaction : Label
  pub program : Label
  pub manual : Label
  pub leaves : IsAllOrNothing (contents_now x) (contents_now (after_all x (CreateTransaction transaction 0 ∷ installing transaction release program manual))) new result
