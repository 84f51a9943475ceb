-- No enlistment comes back to life on the way.
use Rattle.std.specs.Prelude.{◌≡◌, true, List, map}
use Rattle.ktm_world.specs.declared.step.Step.{Step}
use Rattle.ktm_world.specs.Enlistments.{Enlistment}
use Rattle.ktm_world.specs.Phases.{Course}
use Rattle.ktm_world.specs.Steps.{lasting, run}

-- what lasts of an enlistment is as it was, and it is read-only, prepared, finished and recovered where it was
pub record GoesOn (e f : Enlistment) : Type 0 where
  pub lasts : lasting f ≡ lasting e
  pub read_only : e.is_read_only ≡ true → f.is_read_only ≡ true
  pub prepared : e.is_prepared ≡ true → f.is_prepared ≡ true
  pub finished : e.is_finished ≡ true → f.is_finished ≡ true
  pub recovered : e.is_recovered ≡ true → f.is_recovered ≡ true

-- each enlistment has gone on so, and none has come
pub record Fades (c d : Course) : Type 0 where
  pub change : Enlistment → Enlistment
  pub is : d.enlistments ≡ map change c.enlistments
  pub each : (e : Enlistment) → GoesOn e (change e)

-- by steps each enlistment goes on, and none comes
abbrev pub FadingLaw : Type 0
FadingLaw = (steps : List Step) (c : Course) → Fades c (run steps c)
