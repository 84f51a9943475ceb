-- What became of a transaction never changes.
use Rattle.std.specs.Prelude.{◌≡◌, ℕ, false, List}
use Rattle.ktm_base.specs.declared.id.Pid.{Pid}
use Rattle.ktm_world.specs.declared.command.Command.{Command}
use Rattle.ktm_world.specs.declared.object.Transaction.{Transaction}
use Rattle.ktm_world.specs.Decide.{decide}
use Rattle.ktm_world.specs.Outcome.{apply}
use Rattle.ktm_world.specs.Present.{Present}
use Rattle.ktm_world.specs.Transactions.{is_undecided}
use Rattle.ktm_world.specs.World.{decide_tick}
use Rattle.txf_laws.specs.Elements.{IsIn}
use Rattle.ktm_courses.specs.SoundCourse.{IsSoundCourse}

-- each transaction is still there, with the outcome that it had, if that was known
pub record OutcomesStay (ts us : List Transaction) : Type 0 where
  pub each : (t : Transaction) → IsIn t ts → (u : Transaction) × IsIn u us × (u.id ≡ t.id) × (is_undecided t ≡ false → u.outcome ≡ t.outcome)

-- in a sound machine they stay, whatever command it is given, and whatever time passes
pub record OutcomesLaw : Type 0 where
  -- by a command
  pub commands : (x : Present) (process : Pid) (command : Command) → IsSoundCourse x → OutcomesStay x.transactions.items (apply x (decide x process command)).transactions.items
  -- by the passing of time
  pub ticks : (x : Present) (ms : ℕ) → IsSoundCourse x → OutcomesStay x.transactions.items (apply x (decide_tick x ms)).transactions.items
