-- What notifications that wait tell of outcomes is so.
use Rattle.std.specs.Prelude.{◌≡◌, ℕ, Bool, List, Some}
use Rattle.ktm_base.specs.declared.id.Pid.{Pid}
use Rattle.ktm_world.specs.declared.command.Command.{Command}
use Rattle.ktm_world.specs.declared.object.Transaction.{Transaction}
use Rattle.ktm_world.specs.Decide.{decide}
use Rattle.ktm_world.specs.Durable.{Durable}
use Rattle.ktm_world.specs.Enlistments.{Enlistment, Manager, Note}
use Rattle.ktm_world.specs.Logs.{Group, Power}
use Rattle.ktm_world.specs.OneOutcome.{told_by, told_outcome}
use Rattle.ktm_world.specs.Outcome.{apply}
use Rattle.ktm_world.specs.Present.{Present, Transactions}
use Rattle.ktm_world.specs.World.{World, present, opened, decide_tick}
use Rattle.txf_laws.specs.Elements.{IsIn}
use Rattle.ktm_courses.specs.SoundCourse.{IsSoundCourse}

-- the enlistment of a notification is there, and its transaction, with the outcome that is told
pub record IsToldTruly (ts : Transactions) (note : Note) (committed : Bool) : Type 0 where
  pub enlistment : Enlistment
  pub enlisted : IsIn enlistment ts.enlistments
  pub named : note.enlistment ≡ Some enlistment.id
  pub transaction : Transaction
  pub there : IsIn transaction ts.items
  pub own : transaction.id ≡ enlistment.transaction
  pub outcome : told_outcome transaction.outcome ≡ Some committed

-- each notification that waits and tells an outcome tells that of its transaction
pub record AreNotesTrue (x : Present) : Type 0 where
  pub each : (m : Manager) (note : Note) (committed : Bool) → IsIn m x.managers → IsIn note m.queue → told_by note.kind ≡ Some committed → IsToldTruly x.transactions note committed

-- in a sound machine each notification that waits still tells the outcome of its transaction
pub record NotesLaw : Type 0 where
  -- by a command
  pub commands : (x : Present) (process : Pid) (command : Command) → IsSoundCourse x → AreNotesTrue x → AreNotesTrue (apply x (decide x process command))
  -- by the passing of time
  pub ticks : (x : Present) (ms : ℕ) → IsSoundCourse x → AreNotesTrue x → AreNotesTrue (apply x (decide_tick x ms))
  -- by the loss of power
  pub falls : (w : World) (power : Power) → AreNotesTrue (present w) → AreNotesTrue (present (record w { power = power }))
  -- after a restart no notification waits
  pub restarts : (base : Durable) (log : List Group) → AreNotesTrue (present (opened base log))
