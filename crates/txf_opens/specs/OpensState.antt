-- What a contract sees of the open files.
use Rattle.std.specs.Prelude.{ℕ, ◌==◌, ◌&&◌, not, Bool, List, Option, is_some}
use Rattle.ktm_base.specs.declared.id.Id.{Id}
use Rattle.ktm_world.specs.declared.options.Access.{Access}
use Rattle.ktm_world.specs.declared.options.ShareMode.{ShareMode}
use Rattle.ktm_world.specs.Conflicts.{same_group, writes}
use Rattle.ktm_world.specs.Files.{OpenFile}
use Rattle.ktm_world.specs.Transactions.{is_of}

-- the open files in the order in which they were opened, the number of the one opened last, or 0, and how many can be opened without memory
pub record OpensState : Type 0 where
  pub opens : List OpenFile
  pub last : ℕ
  pub spare : ℕ

-- an open file
abbrev pub opened : ℕ → ℕ → Option Id → Access → ShareMode → OpenFile
opened number node transaction access share = record { number = number; node = node; transaction = transaction; access = access; share = share }

-- is the open file another than the one with this number
abbrev pub is_other_number : ℕ → OpenFile → Bool
is_other_number number o = not (o.number == number)

-- is the open file of the transaction
abbrev pub is_own : Id → OpenFile → Bool
is_own transaction o = is_of transaction o.transaction

-- is the open file not of the transaction
abbrev pub is_not_of : Id → OpenFile → Bool
is_not_of transaction o = not (is_of transaction o.transaction)

-- is the open file of a transaction other than this one, and may it write the node
abbrev pub is_other_writer : Option Id → ℕ → OpenFile → Bool
is_other_writer who node o = is_some o.transaction && not (same_group o.transaction who) && writes o.access && o.node == node
