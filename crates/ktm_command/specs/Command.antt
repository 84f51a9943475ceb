-- What the words of the program name, and with which number it ends.
use Rattle.std.specs.Prelude.{ℕ, List, [], map, Option, Some, Result, Ok, Err, String, slice_get, string_bytes, unwrap_or}
use Rattle.ktm_base.specs.declared.fault.NoMemory.{NoMemory}
use Rattle.ktm_os.specs.declared.access.Access.{Access}
use Rattle.ktm_os.specs.declared.access.Access.TheVariants.{Read, Change}
use Rattle.ktm_run.specs.declared.form.Form.{Form}
use Rattle.ktm_run.specs.declared.form.Form.TheVariants.{Dump}
use Rattle.ktm_run.specs.Status.{exit_code_of}
use Rattle.ktm_run.specs.declared.status.Status.{Status}
use Rattle.ktm_run.specs.declared.status.Status.TheVariants.{NoMemory as WantOfMemory}

-- the path that the word at a place names; the empty one, which names no file, where there is no such word
abbrev pub path_at : {A : Type 0} → List (String A) → ℕ → List ℕ
path_at words place = unwrap_or (slice_get (map string_bytes words) place) []

-- what the image's file is opened for: by a dump for reading alone
abbrev pub access_of : Option Form → Access
access_of (Some Dump) = Read
access_of _ = Change

-- the number of how the run ended; where memory ran out before it, the number of that
abbrev pub number_of : Result Status NoMemory → ℕ
number_of (Ok status) = exit_code_of status
number_of (Err _) = exit_code_of WantOfMemory
