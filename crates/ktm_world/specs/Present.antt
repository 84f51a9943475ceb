-- What is so now: a record for each layer.
use Rattle.std.specs.Prelude.{ℕ, Bool, List}
use Rattle.ktm_world.specs.declared.object.Handle.{Handle}
use Rattle.ktm_world.specs.declared.object.Transaction.{Transaction}
use Rattle.ktm_world.specs.Durable.{Durable}
use Rattle.ktm_world.specs.Keys.{KeysNow}
use Rattle.ktm_world.specs.Enlistments.{Enlistment, Manager}
use Rattle.ktm_world.specs.Files.{FilesNow}

-- the machine itself
pub record Machine : Type 0 where
  pub is_up : Bool

-- the clock, and the transactions with their enlistments
pub record Transactions : Type 0 where
  -- milliseconds since the boot
  pub clock : ℕ
  -- the number of the object of each kind that was made last in this boot, or 0
  pub last_transaction : ℕ
  pub last_manager : ℕ
  pub last_enlistment : ℕ
  -- the transactions of this boot, and those that the restart brought back, in order of creation
  pub items : List Transaction
  -- their enlistments, in order of creation; those that the restart brought back by rising Id
  pub enlistments : List Enlistment

-- all that is so now
pub record Present : Type 0 where
  pub machine : Machine
  -- what the image stands for: its header, this boot, how many events were ever recorded, and what was recorded of the rest
  pub recorded : Durable
  pub transactions : Transactions
  pub managers : List Manager
  pub files : FilesNow
  pub keys : KeysNow
  pub handles : List Handle
