-- A run begins with a world that stands, so that it is lawful.
use Rattle.std.proofs.Common.{◌≡◌, ℕ, ◌≤◌, [], ap, arith}
use Rattle.ktm_kernel.proofs.offered.Standing.{recorded_is}
use Rattle.ktm_kernel.specs.Restarts.{IsFreshlyCounted}
use Rattle.ktm_laws.specs.Running.{LastsFor, LawfulWorldsLaw, OneOutcomeLaw}
use Rattle.ktm_run.specs.Lawful.{RunLaw, most_lines}
use Rattle.ktm_world.specs.Durable.{Durable}
use Rattle.ktm_world.specs.Present.{Present}
use Rattle.ktm_world.specs.World.{World, opened, present}

-- the count of events of such a world lasts for its lines
lasts : (w : World) (x : Present) (lines : ℕ) → x.recorded.events ≡ (present w).recorded.events → IsFreshlyCounted x → lines ≤ most_lines → LastsFor lines w
lasts w x lines same fresh few = record { now = omega (arith, same, fresh, few); restarted = omega (arith, few) }

pub run_law : LawfulWorldsLaw → OneOutcomeLaw → RunLaw
run_law law one k told base stands fresh =
    let ((row, is), standing) = recorded_is k told (opened base []) stands in
    let begins = standing.running in
    let same = ap (λ (d : Durable). d.events) is in record {
      lawful = λ lines steps replies new few run. law.lawful new (law.transcripts (opened base []) lines steps replies new run (lasts (opened base []) k.now _ same fresh few) begins);
      one_outcome = λ lines steps replies new few run. one (opened base []) lines steps replies new begins (lasts (opened base []) k.now _ same fresh few) run;
    }
