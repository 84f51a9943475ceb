-- What a call on files comes to.
use Rattle.std.specs.Prelude.{◌≡◌, ℕ, ◌+◌, ◌≤◌, max, length, Bool, true, false, List, [], ◌∷◌, Option, Some, None}
use Rattle.ktm_base.specs.declared.id.Id.{Id}
use Rattle.ktm_base.specs.declared.refusal.Refusal.{Refusal}
use Rattle.ktm_world.specs.declared.reply.Reply.TheVariants.{Refused}
use Rattle.ktm_world.specs.FileCalls.{create_file, create_file_tests, write_file, write_file_tests, write_units_tests, set_end, set_end_tests, get_size, flush_file, write_access_test, delete_file, delete_file_tests, create_directory, create_directory_tests, remove_directory, remove_directory_tests, move_file, move_file_tests, find_files, find_files_tests}
use Rattle.ktm_world.specs.FileOutcome.{FileOutcome, FileRoom, answering}
use Rattle.ktm_world.specs.Files.{FilesNow, bytes_seen}
use Rattle.ktm_world.specs.Outcome.{first_refusal}
use Rattle.txf_calls.specs.declared.call.FileCall.{FileCall}
use Rattle.txf_calls.specs.declared.call.FileCall.TheVariants.{Create, Write, WriteUnits, SetEnd, Size, Flush, Delete, MakeDirectory, RemoveDirectory, Move, Find}
use Rattle.txf_opens.specs.Acts.{open_of}
use Rattle.txf_opens.specs.declared.file.OpenFile.{OpenFile}

-- the tests of the call
abbrev pub file_tests : FilesNow → FileRoom → Option Id → FileCall → List (Bool × Refusal)
file_tests files room who (Create path access share disposition) = create_file_tests files room who path access share disposition
file_tests files room who (Write file offset bytes) = write_file_tests files room (open_of file) offset bytes
file_tests files room who (WriteUnits file start contents) = write_units_tests files room (open_of file) start contents
file_tests files room who (SetEnd file size) = set_end_tests files room (open_of file) size
file_tests files room who (Size file) = []
file_tests files room who (Flush file) = write_access_test (open_of file) ∷ []
file_tests files room who (Delete path) = delete_file_tests files room who path
file_tests files room who (MakeDirectory path) = create_directory_tests files room who path
file_tests files room who (RemoveDirectory path) = remove_directory_tests files room who path
file_tests files room who (Move source target) = move_file_tests files room who source target
file_tests files room who (Find searched) = find_files_tests files who searched

-- what it does, where it is not refused
abbrev pub file_effect : FilesNow → Option Id → FileCall → FileOutcome
file_effect files who (Create path access share disposition) = create_file files who path access share disposition
file_effect files who (Write file offset bytes) = write_file (open_of file) offset bytes
file_effect files who (WriteUnits file start contents) = write_file (open_of file) start contents
file_effect files who (SetEnd file size) = set_end (open_of file) size
file_effect files who (Size file) = get_size files (open_of file)
file_effect files who (Flush file) = flush_file
file_effect files who (Delete path) = delete_file files who path
file_effect files who (MakeDirectory path) = create_directory files who path
file_effect files who (RemoveDirectory path) = remove_directory files who path
file_effect files who (Move source target) = move_file files who source target
file_effect files who (Find searched) = find_files files who searched

-- a refusal, which changes nothing, or else what it does
abbrev pub unless_refused : Option Refusal → FileOutcome → FileOutcome
unless_refused (Some refusal) o = answering (Refused refusal)
unless_refused None o = o

-- the first of the call's tests that holds refuses it, else it does what it is for
abbrev pub file_outcome : FilesNow → FileRoom → Option Id → FileCall → FileOutcome
file_outcome files room who call = unless_refused (first_refusal (file_tests files room who call)) (file_effect files who call)

-- may the call take memory: one that has no path takes none
abbrev pub takes_memory : FileCall → Bool
takes_memory (Write file offset bytes) = false
takes_memory (WriteUnits file start contents) = false
takes_memory (SetEnd file size) = false
takes_memory (Size file) = false
takes_memory (Flush file) = false
takes_memory _ = true

-- each put of whole units that makes an open file so long is refused for this, or is not
abbrev pub IsForUnits : FilesNow → FileRoom → OpenFile → ℕ → Option Refusal → Type 0
IsForUnits files room file size refusal = (who : Option Id) (start : ℕ) (contents : List ℕ) → 1 ≤ length contents → max (length (bytes_seen files file.transaction file.node)) (start + length contents) ≡ size
    → refusal ≡ first_refusal (file_tests files room who (WriteUnits file start contents))
