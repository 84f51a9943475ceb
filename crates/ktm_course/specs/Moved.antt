-- Which steps commit, and which record the changes of the files.
use Rattle.std.specs.Prelude.{Bool, true, false, List}
use Rattle.std.specs.List.{list_any}
use Rattle.ktm_world.specs.declared.step.Fact.{Fact}
use Rattle.ktm_world.specs.declared.step.Step.{Step}
use Rattle.ktm_world.specs.declared.step.Step.TheVariants.{Commit}

-- do the files and the keys commit by this step
abbrev pub is_commit : Step → Bool
is_commit Commit = true
is_commit _ = false

-- are the changes of the files recorded by this fact
abbrev pub is_of_changes : Fact → Bool
is_of_changes Fact.ReadyFiles = true
is_of_changes Fact.SingleFiles = true
is_of_changes _ = false

-- are they by this step
abbrev pub records_changes : Step → Bool
records_changes (Step.Record fact) = is_of_changes fact
records_changes _ = false

-- are they by one of these steps
abbrev pub records_files : List Step → Bool
records_files steps = list_any records_changes steps
