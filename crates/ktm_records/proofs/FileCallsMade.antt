-- What may be relied on of every call on files that is not refused.
use Rattle.std.proofs.Common.{◌≡◌, ℕ, not, Bool, List, [], ◌∷◌, Option, Some, None, refl, sym, subst}
use Rattle.std.proofs.lemmas.Option.{none-some, same_Some}
use Rattle.ktm_base.specs.declared.id.Id.{Id}
use Rattle.ktm_base.specs.declared.id.Label.{Label}
use Rattle.ktm_base.specs.declared.id.Pid.{Pid}
use Rattle.ktm_base.specs.declared.refusal.Refusal.{Refusal}
use Rattle.ktm_base.specs.declared.refusal.Refusal.TheVariants.{MachineDown}
use Rattle.ktm_world.specs.declared.change.Change.TheVariants.{Put, Cut}
use Rattle.ktm_world.specs.declared.change.Contents.TheVariants.{Whole}
use Rattle.ktm_world.specs.declared.command.Command.{Command}
use Rattle.ktm_world.specs.declared.command.Command.TheVariants.{CreateFile, CreateFileTransacted, ReadFile, WriteFile, SetEndOfFile, WriteUnits, GetFileSizeEx, FlushFileBuffers, DeleteFile, CreateDirectory, RemoveDirectory, MoveFile, DeleteFileTransacted, CreateDirectoryTransacted, RemoveDirectoryTransacted, MoveFileTransacted, FindFiles, FindFilesTransacted}
use Rattle.ktm_world.specs.declared.reply.Reply.TheVariants.{Done}
use Rattle.ktm_world.specs.Conflicts.{writes}
use Rattle.ktm_world.specs.Decide.{caller, on_file_tests, own_tests, refusal_of, transacted}
use Rattle.ktm_world.specs.FileCalls.{create_file, create_file_tests, read_file, write_file, write_units_tests, set_end, set_end_tests, get_size, flush_file, delete_file, delete_file_tests, create_directory, create_directory_tests, remove_directory, remove_directory_tests, move_file, move_file_tests, find_files}
use Rattle.ktm_world.specs.FileOutcome.{FileOutcome}
use Rattle.ktm_world.specs.Files.{OpenFile}
use Rattle.ktm_world.specs.Labels.{file_named}
use Rattle.ktm_world.specs.Present.{Present}
use Rattle.ktm_world.specs.TransactionCalls.{bound_test}
use Rattle.ktm_world.specs.Uses.{file_room}
use Rattle.ktm_records.specs.FileCallsMade.{IsRightCall, FileCallsLaw, file_call, in_caller, on_open}
use Rattle.txf_laws.specs.Elements.{IsIn}
use Rattle.txf_laws.specs.Footprint.{ListsLaw}
use Rattle.txf_laws.specs.Formed.{FormedLaw}
use Rattle.ktm_courses.specs.SoundCourse.{IsSoundCourse}
use Rattle.txf_laws.specs.SoundFiles.{IsSoundFiles}
use Rattle.txf_laws.proofs.offered.ChangeTests.{applies-from}
use Rattle.txf_laws.proofs.offered.Elements.{not-not}
use Rattle.ktm_courses.proofs.offered.Calls.{Passes, passed}
use Rattle.ktm_courses.proofs.offered.FileSteps.{units-pass}
use Rattle.ktm_records.proofs.CallsMade.{right-answer, right-kept, right-landed, right-written}
use Rattle.ktm_owned.proofs.offered.FilesKept.{up-passes}
use Rattle.ktm_owned.proofs.offered.OpenCalls.{file-in, own-passes}
use Rattle.ktm_records.proofs.OpeningsMade.{right-created, right-created-own}
use Rattle.ktm_owned.proofs.offered.OwnCalls.{Caller, caller-may, own-deleted, own-made, own-moved, own-removed}
use Rattle.ktm_owned.proofs.offered.PlainCalls.{plain-deleted, plain-made, plain-moved, plain-removed}

-- what a command on files comes to, if it is one, is right
abbrev IsRight : Present → Option (Option Id × FileOutcome) → Type 0
IsRight x call = (who : Option Id) (o : FileOutcome) → call ≡ Some (who, o) → IsRightCall x who o

right-some : (x : Present) (who : Option Id) (o : FileOutcome) → IsRightCall x who o → IsRight x (Some (who, o))
right-some x who o right who' o' is = subst (λ (call : Option Id × FileOutcome). IsRightCall x call.0 call.1) (same_Some (who, o) (who', o') is) right

right-none : (x : Present) → IsRight x None
right-none x who o is = absurd (none-some (who, o) is)

module _ (lists : ListsLaw) (formed : FormedLaw) (x : Present) (course : IsSoundCourse x) (sound : IsSoundFiles x) (process : Pid) where
  -- a call on an open file
  on-open : (label : Label) (tests : OpenFile → List (Bool × Refusal)) (call : OpenFile → FileOutcome) → Passes (on_file_tests x process label tests)
      → ((o : OpenFile) → IsIn o x.files.table.opens → Passes (tests o) → IsRightCall x o.transaction (call o)) → IsRight x (on_open (file_named x process label) call)
  on-open label tests call passes right = go (file_named x process label) refl (own-passes lists formed x process label tests passes)
    where
      go : (o : Option OpenFile) → file_named x process label ≡ o → Passes (own_tests o tests) → IsRight x (on_open o call)
      go None found passes' = right-none x
      go (Some o) found passes' = right-some x o.transaction (call o) (right o (file-in lists formed x process label o found) passes')

  -- one that only answers
  answered : (label : Label) (call : OpenFile → FileOutcome) → ((o : OpenFile) → IsRightCall x o.transaction (call o)) → IsRight x (on_open (file_named x process label) call)
  answered label call right = go (file_named x process label)
    where
      go : (o : Option OpenFile) → IsRight x (on_open o call)
      go None = right-none x
      go (Some o) = right-some x o.transaction (call o) (right o)

  -- one that is made in a transaction
  in-one : (label : Label) (tests : Option Id → List (Bool × Refusal)) (call : Option Id → FileOutcome) → Passes (transacted x process label (tests (caller x process label)))
      → ((id : Id) → Caller x id → Passes (tests (Some id)) → IsRightCall x (Some id) (call (Some id))) → IsRight x (in_caller (caller x process label) call)
  in-one label tests call passes right =
      let may = caller-may x process label (tests (caller x process label)) course passes in
      subst (λ who. IsRight x (in_caller who call)) (sym may.1) (right-some x (Some may.0) (call (Some may.0)) (right may.0 may.2 (subst (λ who. Passes (tests who)) may.1 may.3)))

  written : (offset : ℕ) (bytes : List ℕ) (o : OpenFile) → IsIn o x.files.table.opens → Passes (write_units_tests x.files (file_room x) o offset bytes) → IsRightCall x o.transaction (write_file o offset bytes)
  unfolding write_file write_units_tests
  written offset [] o there tests = right-answer x o.transaction Done
  written offset (b ∷ bs) o there tests = let c = Put o.node offset (Whole (b ∷ bs)) in right-written lists x sound formed o there (not-not (writes o.access) (passed tests).0) c refl refl (λ tree file. applies-from tree c (file, refl))

  end-set : (size : ℕ) (o : OpenFile) → IsIn o x.files.table.opens → Passes (set_end_tests x.files (file_room x) o size) → IsRightCall x o.transaction (set_end o size)
  unfolding set_end set_end_tests
  end-set size o there tests = let c = Cut o.node size [] in right-written lists x sound formed o there (not-not (writes o.access) (passed tests).0) c refl refl (λ tree file. applies-from tree c (file, refl))

  read : (offset many : ℕ) (o : OpenFile) → IsRightCall x o.transaction (read_file x.files o offset many)
  unfolding read_file
  read offset many o = right-answer x o.transaction _

  sized : (o : OpenFile) → IsRightCall x o.transaction (get_size x.files o)
  unfolding get_size
  sized o = right-answer x o.transaction _

  found : (who : Option Id) (searched : List ℕ) → IsRightCall x who (find_files x.files who searched)
  unfolding find_files
  found who searched = right-answer x who _

  -- ---- every call

  right : (command : Command) → refusal_of x process command ≡ None → IsRight x (file_call x process command)
  right (CreateFile label path access share disposition) none =
      right-some x None _ (right-created lists formed x sound path access share disposition (passed (up-passes lists formed x process (CreateFile label path access share disposition) none)).1)
  right (CreateFileTransacted label path access share disposition transaction) none =
      in-one transaction (λ who. bound_test x process label ∷ create_file_tests x.files (file_room x) who path access share disposition) (λ who. create_file x.files who path access share disposition)
      (up-passes lists formed x process (CreateFileTransacted label path access share disposition transaction) none)
      (λ id may passes. right-created-own lists formed x sound id may.who path access share disposition (passed passes).1)
  right (ReadFile file offset many) none = answered file (λ o. read_file x.files o offset many) (read offset many)
  right (WriteFile file offset bytes) none =
      on-open file (λ o. write_units_tests x.files (file_room x) o offset bytes) (λ o. write_file o offset bytes) (units-pass x process file offset bytes (up-passes lists formed x process (WriteFile file offset bytes) none)) (written offset bytes)
  right (SetEndOfFile file size) none =
      on-open file (λ o. set_end_tests x.files (file_room x) o size) (λ o. set_end o size) (up-passes lists formed x process (SetEndOfFile file size) none) (end-set size)
  right (WriteUnits file start contents) none =
      on-open file (λ o. write_units_tests x.files (file_room x) o start contents) (λ o. write_file o start contents) (up-passes lists formed x process (WriteUnits file start contents) none) (written start contents)
  right (GetFileSizeEx file) none = answered file (λ o. get_size x.files o) sized
  right (FlushFileBuffers file) none = answered file (λ o. flush_file) (λ o. right-answer x o.transaction Done)
  right (DeleteFile path) none = right-some x None _ (right-landed lists x sound _ (plain-deleted lists formed x path (not x.machine.is_up, MachineDown) none sound))
  right (CreateDirectory path) none = right-some x None _ (right-landed lists x sound _ (plain-made lists formed x path (not x.machine.is_up, MachineDown) none sound))
  right (RemoveDirectory path) none = right-some x None _ (right-landed lists x sound _ (plain-removed lists formed x path (not x.machine.is_up, MachineDown) none sound))
  right (MoveFile source target) none = right-some x None _ (right-landed lists x sound _ (plain-moved lists formed x source target (not x.machine.is_up, MachineDown) none sound))
  right (DeleteFileTransacted path transaction) none =
      in-one transaction (λ who. delete_file_tests x.files (file_room x) who path) (λ who. delete_file x.files who path) (up-passes lists formed x process (DeleteFileTransacted path transaction) none)
      (λ id may passes. right-kept x id _ (own-deleted formed x sound id may.who path passes))
  right (CreateDirectoryTransacted path transaction) none =
      in-one transaction (λ who. create_directory_tests x.files (file_room x) who path) (λ who. create_directory x.files who path) (up-passes lists formed x process (CreateDirectoryTransacted path transaction) none)
      (λ id may passes. right-kept x id _ (own-made formed x sound id may.who path passes))
  right (RemoveDirectoryTransacted path transaction) none =
      in-one transaction (λ who. remove_directory_tests x.files (file_room x) who path) (λ who. remove_directory x.files who path) (up-passes lists formed x process (RemoveDirectoryTransacted path transaction) none)
      (λ id may passes. right-kept x id _ (own-removed formed x sound id may.who path passes))
  right (MoveFileTransacted source target transaction) none =
      in-one transaction (λ who. move_file_tests x.files (file_room x) who source target) (λ who. move_file x.files who source target) (up-passes lists formed x process (MoveFileTransacted source target transaction) none)
      (λ id may passes. right-kept x id _ (own-moved formed x sound id may.who source target passes))
  right (FindFiles searched) none = right-some x None _ (found None searched)
  right (FindFilesTransacted searched transaction) none = right-some x (caller x process transaction) _ (found (caller x process transaction) searched)
  right _ none = right-none x

pub file_calls_law : ListsLaw → FormedLaw → FileCallsLaw
file_calls_law lists formed x process command who o kept none is = right lists formed x kept.sound.course kept.sound.files process command none who o is
