-- What calls leave of a file that is opened at its first use.
use Rattle.std.specs.Prelude.{◌≡◌, IsSome}
use Rattle.ktm_os.specs.declared.late_file.LateFile.{LateFile}

-- it is the same file, by its path and its access, and the same open one where it was open
pub record IsSameFile {R : Type 0} (old new : LateFile R) : Type 0 where
  pub rt : new.rt ≡ old.rt
  pub path : new.path ≡ old.path
  pub access : new.access ≡ old.access
  pub open_one : IsSome old.file → new.file ≡ old.file
