-- The handles of all processes.
use Rattle.std.specs.Prelude.{◌+◌, ◌==◌, ◌&&◌, Bool, List, [], ◌∷◌, length, nat_lt, Option, Some, None, if◌then◌else◌}
use Rattle.ktm_base.specs.declared.limits.TheConstants.{MOST_HANDLES}
use Rattle.ktm_base.specs.declared.id.Id.{Id}
use Rattle.ktm_base.specs.declared.id.Pid.{Pid}
use Rattle.ktm_base.specs.declared.id.Label.{Label}
use Rattle.ktm_world.specs.declared.object.Handle.{Handle}
use Rattle.ktm_world.specs.declared.object.Object.{Object}
use Rattle.ktm_world.specs.declared.object.Object.TheVariants.{Transaction, Manager, Enlistment, File}

-- what a label of a process names, if it is bound
abbrev pub object_at : List Handle → Pid → Label → Option Object
object_at [] process label = None
object_at (h ∷ hs) process label = if (h.process.0 == process.0) && (h.label.0 == label.0) then Some h.object else object_at hs process label

-- the transaction that a handle names, if it names one
abbrev pub transaction_id : Option Object → Option Id
transaction_id (Some (Transaction id)) = Some id
transaction_id (Some (Manager id)) = None
transaction_id (Some (Enlistment id)) = None
transaction_id (Some (File number)) = None
transaction_id None = None

-- would one handle more pass the limit over all processes
abbrev pub no_handle_left : List Handle → Bool
no_handle_left handles = nat_lt MOST_HANDLES (length handles + 1)
