-- The names under which the handles are sorted. No public clause cites this module.
use Rattle.std.specs.Prelude.{ℕ, ◌/◌, ◌%◌, List, [], ◌∷◌}
use Rattle.ktm_base.specs.declared.id.Label.{Label}
use Rattle.ktm_base.specs.declared.id.Pid.{Pid}
use Rattle.ktm_world.specs.declared.object.Object.{Object}
use Rattle.ktm_world.specs.declared.object.Object.TheVariants.{Transaction, Manager, Enlistment, File}
use Rattle.ktm_world.specs.declared.object.Handle.{Handle}
use Rattle.ktm_object.specs.declared.name.Owner.{Owner}
use Rattle.ktm_links.specs.Numbers.{number_bytes}

-- the process, and then the label, its greatest byte first
abbrev pub label_bytes : Pid → Label → List ℕ
label_bytes process label = process.0 ∷ label.0 / 256 ∷ label.0 % 256 ∷ []

-- whose handles stand together, and then these bytes
abbrev pub owner_bytes : Owner → List ℕ → List ℕ
owner_bytes owner rest = owner.kind ∷ number_bytes owner.boot (number_bytes owner.number rest)

-- the handles of one object stand together
abbrev pub object_owner : Object → Owner
object_owner (Transaction id) = record { kind = 1; boot = id.boot; number = id.number }
object_owner (Manager id) = record { kind = 2; boot = id.boot; number = id.number }
object_owner (Enlistment id) = record { kind = 3; boot = id.boot; number = id.number }
object_owner (File number) = record { kind = 4; boot = 0; number = number }

-- by which name the handle stands under its label
abbrev pub label_name : Handle → List ℕ
label_name e = label_bytes e.process e.label

-- by which name it stands under its object
abbrev pub object_name : Handle → List ℕ
object_name e = owner_bytes (object_owner e.object) (label_name e)
