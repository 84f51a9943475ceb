-- What a line leaves of what undecided transactions did to the files.
use Rattle.std.specs.Prelude.{◌≡◌, Bool, true, false}
use Rattle.ktm_base.specs.declared.id.Id.{Id}
use Rattle.ktm_world.specs.declared.command.Line.{Line}
use Rattle.ktm_world.specs.declared.command.Line.TheVariants.{Process}
use Rattle.ktm_world.specs.Present.{Present}
use Rattle.txf_laws.specs.Reservations.{IsLeft}
use Rattle.txf_laws.specs.SoundFiles.{is_undecided_in}
use Rattle.ktm_laws.specs.ReservedFiles.{closes_handles, is_by, with_opens}

-- is the line a call by which the transaction changes, opens or closes a file
abbrev pub is_by_line : Present → Line → Id → Bool
is_by_line x (Process process command) id = is_by x process command id
is_by_line x line id = false

-- is the line a call that closes handles
abbrev pub line_closes : Line → Bool
line_closes (Process process command) = closes_handles command
line_closes line = false

-- to a transaction that is undecided before and after the line is left what it changed and holds of the files, and the bytes that it sees of
-- those that it made, changed or first opened
pub record KeepsReserved (line : Line) (old new : Present) : Type 0 where
  -- where the line is not one of its own
  pub by_others : (id : Id) → is_undecided_in old.transactions.items id ≡ true → is_undecided_in new.transactions.items id ≡ true → is_by_line old line id ≡ false
      → IsLeft old.files new.files id
  -- where the line closes handles, but that of its open files it then holds those alone that are still open
  pub by_closings : (id : Id) → is_undecided_in old.transactions.items id ≡ true → is_undecided_in new.transactions.items id ≡ true → line_closes line ≡ true
      → IsLeft (with_opens old.files new.files.table.opens) new.files id
