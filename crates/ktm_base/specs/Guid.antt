-- The GUIDs of objects.
use Rattle.std.specs.Prelude.{ℕ, ◌≤◌, ◌<◌, ◌^◌, List, ◌++◌}
use Rattle.std.specs.Int.{w16, w32, w64, to_be_bytes}
use Rattle.ktm_base.specs.declared.id.Id.{Id}
use Rattle.ktm_base.specs.declared.id.ObjectKind.{ObjectKind}
use Rattle.ktm_base.specs.declared.id.ObjectKind.TheVariants.{Transaction, Manager, Enlistment}

-- the number by which a GUID says the kind of its object
abbrev pub kind_number : ObjectKind → ℕ
kind_number Transaction = 1
kind_number Manager = 2
kind_number Enlistment = 3

-- an Id of the system: its boot and its number are at least 1 and have 32 bits
pub record IsId (id : Id) : Type 0 where
  pub boot_from : 1 ≤ id.boot
  pub boot_fits : id.boot < 2 ^ 32
  pub number_from : 1 ≤ id.number
  pub number_fits : id.number < 2 ^ 32

-- the 16 bytes of an object's GUID: its boot, its kind, its image and its number, each with the greatest byte first
abbrev pub guid_of : ObjectKind → ℕ → Id → List ℕ
guid_of kind image id = to_be_bytes w32 id.boot ++ to_be_bytes w16 (kind_number kind) ++ to_be_bytes w16 image ++ to_be_bytes w64 id.number
