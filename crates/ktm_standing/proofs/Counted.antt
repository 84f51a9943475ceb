-- What is in use of the files of a world that stands, and how far versions are counted.
use Rattle.std.proofs.Common.{◌≡◌, ◌≤◌, ◌∙◌, ap, subst, arith}
use Rattle.ktm_base.specs.declared.limits.TheConstants.{MOST_UNITS}
use Rattle.ktm_base.specs.declared.id.Pid.{Pid}
use Rattle.ktm_world.specs.declared.command.Command.{Command}
use Rattle.ktm_world.specs.Decide.{decide}
use Rattle.ktm_world.specs.Durable.{Durable}
use Rattle.ktm_world.specs.Files.{FilesNow}
use Rattle.ktm_world.specs.Laws.{StepLaw}
use Rattle.ktm_world.specs.Outcome.{apply}
use Rattle.ktm_world.specs.Present.{Present}
use Rattle.ktm_world.specs.Uses.{changes_waiting}
use Rattle.ktm_world.specs.World.{World, after, present}
use Rattle.ktm_world.proofs.offered.Durables.{stand-units}
use Rattle.ktm_laws.specs.Running.{HasEventsLeft, IsRunning, LawfulWorldsLaw}
use Rattle.ktm_records.proofs.offered.NoMore.{Fits, fits-within}
use Rattle.txf_laws.specs.FileEffects.{AreVersionsFew, CanBeCounted}
use Rattle.ktm_standing.specs.Standing.{IsStanding}

-- no event changes the units of the image
pub units_now : (w : World) → IsRunning w → w.base.units ≤ MOST_UNITS → (present w).recorded.units ≤ MOST_UNITS
units_now w run small =
    let same = stand-units w.base w.log in
    let comes = ap (λ (s : Durable). s.units) run.comes_to in
    omega (arith, same, comes)

-- what is in use can be counted, since no limit is passed
pub counted_fits : (x : Present) → Fits x → x.recorded.units ≤ MOST_UNITS → CanBeCounted x.files
unfolding changes_waiting
counted_fits x fits units =
    let a = fits.units in
    let b = fits.nodes in
    let c = fits.changes in
    record { units = omega (arith, a, units); nodes = omega (arith, b, units); names = omega (arith, c, units) }

counted_now : (w : World) → IsRunning w → w.base.units ≤ MOST_UNITS → CanBeCounted (present w).files
counted_now w run small = counted_fits (present w) (fits-within (present w) run.now.within) (units_now w run small)

-- there are few versions, since the count of events does not end
pub few_versions : (w : World) → HasEventsLeft (present w) → IsStanding w → AreVersionsFew (present w).files.versions
few_versions w left standing file = let counted = standing.counted file in omega (arith, counted, left)

module _ (step : StepLaw) (law : LawfulWorldsLaw) where
  -- what a command leaves of the files can be counted
  pub counted_after : (w : World) (process : Pid) (command : Command) (files : FilesNow) → HasEventsLeft (present w) → IsStanding w → (apply (present w) (decide (present w) process command)).files ≡ files → CanBeCounted files
  counted_after w process command files left standing leaves =
      let same : (present (after w process command)).files ≡ files
      = ap (λ (y : Present). y.files) (step.1 w process command standing.running.openings) ∙ leaves in
      subst CanBeCounted same (counted_now (after w process command) (law.commands w process command left standing.running) standing.small)
