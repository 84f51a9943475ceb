-- WriteFile of bytes that may be written at once is a put of them.
use Rattle.std.proofs.Common.{◌≡◌, ℕ, false, nat_lt, length, List, Option, refl, ◌∙◌}
use Rattle.ktm_base.specs.declared.id.Id.{Id}
use Rattle.ktm_base.specs.declared.limits.TheConstants.{MOST_AT_ONCE}
use Rattle.ktm_world.specs.FileCalls.{write_file_tests}
use Rattle.ktm_world.specs.FileOutcome.{FileOutcome, FileRoom}
use Rattle.ktm_world.specs.Files.{FilesNow}
use Rattle.txf_opens.specs.declared.file.OpenFile.{OpenFile}
use Rattle.txf_calls.specs.Calls.{file_outcome}
use Rattle.txf_calls.specs.declared.call.FileCall.TheVariants.{Write, WriteUnits}

pub at_once : (files : FilesNow) (room : FileRoom) (who : Option Id) (file : OpenFile) (offset : ℕ) (bytes : List ℕ) (o : FileOutcome) → nat_lt MOST_AT_ONCE (length bytes) ≡ false → o ≡ file_outcome files room who (WriteUnits file offset bytes)
    → o ≡ file_outcome files room who (Write file offset bytes)
unfolding write_file_tests
at_once files room who file offset bytes o few is = is ∙ rw few refl
