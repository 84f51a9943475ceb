-- Calls on files: the open file that a label names, and from the tests of a command to those of its call.
use Rattle.std.proofs.Common.{inl, inr, ◌≡◌, ℕ, ◌≤◌, length, not, cond, Bool, true, false, List, [], ◌∷◌, ◌++◌, Option, Some, None, Result, Ok, Err, IfOk, IfErr, IsErrAnd, is_some, option_and_then, refl, sym, ◌∙◌, ap, subst}
use Rattle.ktm_base.specs.declared.id.Id.{Id}
use Rattle.ktm_base.specs.declared.id.Label.{Label}
use Rattle.ktm_base.specs.declared.id.Pid.{Pid}
use Rattle.ktm_base.specs.declared.refusal.Refusal.{Refusal}
use Rattle.ktm_base.specs.declared.refusal.Refusal.TheVariants.{HandleNoLongerValid, InvalidParameter, MachineDown, TransactionNotActive}
use Rattle.ktm_world.specs.declared.command.Command.{Command}
use Rattle.ktm_world.specs.declared.command.Command.TheVariants.{CreateFile, CreateFileTransacted, WriteFile, SetEndOfFile, WriteUnits, GetFileSizeEx, FlushFileBuffers, DeleteFile, CreateDirectory, RemoveDirectory, MoveFile, DeleteFileTransacted, CreateDirectoryTransacted, RemoveDirectoryTransacted, MoveFileTransacted, FindFiles, FindFilesTransacted}
use Rattle.ktm_world.specs.declared.object.Object.{Object}
use Rattle.ktm_world.specs.declared.object.Transaction.{Transaction}
use Rattle.ktm_world.specs.declared.reply.Reply.TheVariants.{Refused}
use Rattle.ktm_world.specs.declared.options.Access.{Access}
use Rattle.ktm_world.specs.declared.options.Disposition.{Disposition}
use Rattle.ktm_world.specs.declared.options.ShareMode.{ShareMode}
use Rattle.ktm_world.specs.Values.{IsGiven}
use Rattle.ktm_world.specs.Decide.{command_effect, command_tests, of_files, on_file, opening, own_tests, decide}
use Rattle.ktm_world.specs.FileCalls.{create_file, create_file_tests, write_access_test, write_file, write_file_tests, write_units_tests, set_end, set_end_tests, get_size, flush_file, delete_file, delete_file_tests, create_directory, create_directory_tests, remove_directory, remove_directory_tests, move_file, move_file_tests, find_files, find_files_tests}
use Rattle.ktm_world.specs.FileOutcome.{FileOutcome}
use Rattle.ktm_world.specs.Files.{OpenFile}
use Rattle.ktm_world.specs.Handles.{object_at}
use Rattle.ktm_world.specs.Labels.{file_named, file_number, file_tests as handle_tests, holds_of, id_of_named, invalid_handle, is_bound, is_dead, is_suspended, open_file_at, transaction_named, transaction_tests}
use Rattle.ktm_world.specs.Outcome.{first_refusal, only_reply, refuse_or}
use Rattle.ktm_world.specs.Present.{Present}
use Rattle.ktm_world.specs.TransactionCalls.{bound_test}
use Rattle.ktm_world.specs.Uses.{file_room}
use Rattle.ktm_laws.specs.Running.{HasEventsLeft}
use Rattle.ktm_records.specs.FileCallsMade.{file_call, in_caller, on_open}
use Rattle.ktm_standing.specs.Laws.{FilesLaw}
use Rattle.ktm_standing.specs.Standing.{IsStandingNow}
use Rattle.txf_calls.specs.Calls.{file_effect, file_outcome, file_tests, takes_memory as decision_takes_memory, unless_refused}
use Rattle.txf_calls.specs.Fits.{MayBeUsed}
use Rattle.txf_opens.specs.Acts.{open_of}
use Rattle.txf_calls.specs.declared.call.FileCall.{FileCall}
use Rattle.txf_calls.specs.declared.call.FileCall.TheVariants.{Create, Write, SetEnd, Size, Flush, Delete, MakeDirectory, RemoveDirectory as Remove, Move, Find}
use Rattle.txf_opens.specs.declared.file.OpenFile.{OpenFile as Kept}
use Rattle.ktm_owned.proofs.offered.KeysKept.{not_refused}
use Rattle.ktm_world.specs.Transactions.{is_active, transaction_at}
use Rattle.ktm_memory.specs.Routed.{IsActiveCaller, IsFreeLabel, IsReadyCall}
use Rattle.ktm_memory.specs.Units.{AreUnits, NeedsNoPages, SuitsCall}
use Rattle.ktm_memory.specs.declared.extent.Extent.{Extent}
use Rattle.ktm_route.specs.Route.{IsRouted, OfNamed, Routes, is_put_of_units}
use Rattle.ktm_memory.specs.Opening.{files_outcome}
use Rattle.ktm_memory.specs.Takes.{files_take_memory, is_quiet}
use Rattle.ktm_route.specs.Takes.{early_tests, effect_takes_memory, takes_memory}
use Rattle.ktm_memory.specs.declared.routed.Routed.{Routed}
use Rattle.ktm_memory.specs.declared.routed.Routed.TheVariants.{Files, Units}
use Rattle.ktm_route.proofs.Routes.{active_named, first_of-passed, refused_first, up_or}
use Rattle.ktm_route.proofs.Takes.{change_takes, flush_takes, passed_takes, set_end_takes, size_takes, write_takes, write_units_takes}

-- ---- the open file that a label names

module _ (x : Present) (process : Pid) (label : Label) where
  -- the tests on its handle by its number
  abbrev tests_of : Option ℕ → List (Bool × Refusal)
  tests_of n = invalid_handle n ∷ (holds_of (is_dead x.files) n, HandleNoLongerValid) ∷ (holds_of (is_suspended x) (option_and_then (open_file_at x.files.table.opens) n), TransactionNotActive) ∷ []

  module _ (number : ℕ) (named : file_number (object_at x.handles process label) ≡ Some number) where
    -- the file with its number, if there is one
    pub found_named : (o : Option OpenFile) → open_file_at x.files.table.opens number ≡ o → file_named x process label ≡ o
    found_named o found = ap (option_and_then (open_file_at x.files.table.opens)) named ∙ found

    -- a handle that is not dead goes by the transaction of its file
    pub suspended_or : (o : OpenFile) (b : Bool) → first_refusal ((is_dead x.files number, HandleNoLongerValid) ∷ []) ≡ None → open_file_at x.files.table.opens number ≡ Some o → is_suspended x o ≡ b
        → first_refusal (handle_tests x process label) ≡ cond b (Some TransactionNotActive) None
    suspended_or o b alive found is =
        ap (λ n. first_refusal (tests_of n)) named
        ∙ first_of-passed ((is_dead x.files number, HandleNoLongerValid) ∷ []) ((holds_of (is_suspended x) (open_file_at x.files.table.opens number), TransactionNotActive) ∷ []) alive
        ∙ ap (λ n. first_refusal ((holds_of (is_suspended x) n, TransactionNotActive) ∷ [])) found
        ∙ ap (λ suspended. cond suspended (Some TransactionNotActive) None) is

-- ---- from the tests of a command to those of its call

-- a refusal of the call's own tests is one of the machine
pub files_refused : (x : Present) (process : Pid) (who : Option Id) (label : Option Label) (r : Option Refusal) (o : FileOutcome) → refuse_or x r (files_outcome x process who label o) ≡ files_outcome x process who label (unless_refused r o)
files_refused x process who label None o = refl
files_refused x process None None (Some refusal) o = refl
files_refused x process (Some id) None (Some refusal) o = refl
files_refused x process None (Some l) (Some refusal) o = refl
files_refused x process (Some id) (Some l) (Some refusal) o = refl

-- a command on files whose tests on handles passed
module _ (x : Present) (process : Pid) (up : x.machine.is_up ≡ true) (law : FilesLaw) (standing : IsStandingNow x) (left : HasEventsLeft x) (command : Command) (is : IsGiven command) where
  module _ (who : Option Id) (label : Option Label) (call : FileCall) (tests : List (Bool × Refusal))
      (are : command_tests x process command ≡ tests ++ file_tests x.files (file_room x) who call) (passed : first_refusal tests ≡ None)
      (effect : command_effect x process command ≡ files_outcome x process who label (file_effect x.files who call))
      (made : file_call x process command ≡ Some (who, file_effect x.files who call)) (usable : MayBeUsed x.files call) (free : IsFreeLabel x process label) where
    abbrev own : List (Bool × Refusal)
    own = file_tests x.files (file_room x) who call

    tested : first_refusal (command_tests x process command) ≡ first_refusal own
    tested = ap first_refusal are ∙ first_of-passed tests own passed

    -- what it comes to
    pub comes_to : decide x process command ≡ files_outcome x process who label (file_outcome x.files (file_room x) who call)
    comes_to =
        up_or x (command_tests x process command) (command_effect x process command) up
        ∙ ap (λ r. refuse_or x r (command_effect x process command)) tested
        ∙ ap (λ o. refuse_or x (first_refusal own) o) effect
        ∙ files_refused x process who label (first_refusal own) (file_effect x.files who call)

    -- its call is ready, recorded by an extent, if there is one
    pub ready : (extent : Option Extent) → SuitsCall x.files who call extent → IsActiveCaller x who → IsReadyCall x process who label call extent
    ready extent suits active = record {
      usable = usable;
      free = free;
      active = active;
      may = λ none. law.calls x process command who (file_effect x.files who call) standing left is
          (ap (λ u. cond (not u) (Some MachineDown) (first_refusal (command_tests x process command))) up ∙ tested ∙ none) made;
      suits = suits;
    }

    pub routed : is_put_of_units command ≡ false → NeedsNoPages x.files who call → IsActiveCaller x who → takes_memory x process command ≡ files_take_memory x who call → IsRouted x process command (Files who label call)
    routed plain suits active takes = (comes_to, ready None suits active, takes, sym plain)

    -- a change of an open file takes memory where its command does
    pub change_taken : early_tests x process command ≡ command_tests x process command → decision_takes_memory call ≡ false
        → effect_takes_memory x process command ≡ not (is_quiet (file_effect x.files who call)) → takes_memory x process command ≡ files_take_memory x who call
    change_taken early quick takes = change_takes x process up command who call tests (early ∙ are) passed quick takes

-- ---- plain calls on paths

module _ (x : Present) (process : Pid) (up : x.machine.is_up ≡ true) (law : FilesLaw) (standing : IsStandingNow x) (left : HasEventsLeft x) where
  -- the test on the label of a file that is to be opened, which is not bound
  unbound : (label : Label) → object_at x.handles process label ≡ None → first_refusal (bound_test x process label ∷ []) ≡ None
  unbound label free = ap (λ (o : Option Object). cond (is_some o) (Some InvalidParameter) None) free

  -- the test on the label of a file that is to be opened, which is bound
  bound_first : (label : Label) (refusal : Refusal) → (refusal ≡ InvalidParameter) × (is_bound x process label ≡ true) → first_refusal (bound_test x process label ∷ []) ≡ Some refusal
  bound_first label refusal (is, bound) = ap (λ b. cond b (Some InvalidParameter) None) bound ∙ ap Some (sym is)

  module _ (label : Label) (path : List ℕ) (access : Access) (share : ShareMode) (d : Disposition) where
    pub create_routed : IsGiven (CreateFile label path access share d) → object_at x.handles process label ≡ None → IsRouted x process (CreateFile label path access share d) (Files None (Some label) (Create path access share d))
    create_routed is free =
        routed x process up law standing left (CreateFile label path access share d) is None (Some label) (Create path access share d) (bound_test x process label ∷ []) refl (unbound label free) refl refl tt free refl tt tt
        (passed_takes x process up (CreateFile label path access share d) (bound_test x process label ∷ []) refl (unbound label free))

    pub create_refused : (refusal : Refusal) → (refusal ≡ InvalidParameter) × (is_bound x process label ≡ true) → decide x process (CreateFile label path access share d) ≡ only_reply x (Refused refusal)
    create_refused refusal bound =
        refused_first x process (CreateFile label path access share d) (bound_test x process label ∷ []) (create_file_tests x.files (file_room x) None path access share d) refusal up refl (bound_first label refusal bound)

  pub delete_routed : (path : List ℕ) → IsGiven (DeleteFile path) → IsRouted x process (DeleteFile path) (Files None None (Delete path))
  delete_routed path is = routed x process up law standing left (DeleteFile path) is None None (Delete path) [] refl refl refl refl tt tt refl tt tt (passed_takes x process up (DeleteFile path) [] refl refl)

  pub make_routed : (path : List ℕ) → IsGiven (CreateDirectory path) → IsRouted x process (CreateDirectory path) (Files None None (MakeDirectory path))
  make_routed path is = routed x process up law standing left (CreateDirectory path) is None None (MakeDirectory path) [] refl refl refl refl tt tt refl tt tt (passed_takes x process up (CreateDirectory path) [] refl refl)

  pub remove_routed : (path : List ℕ) → IsGiven (RemoveDirectory path) → IsRouted x process (RemoveDirectory path) (Files None None (Remove path))
  remove_routed path is = routed x process up law standing left (RemoveDirectory path) is None None (Remove path) [] refl refl refl refl tt tt refl tt tt (passed_takes x process up (RemoveDirectory path) [] refl refl)

  pub move_routed : (source target : List ℕ) → IsGiven (MoveFile source target) → IsRouted x process (MoveFile source target) (Files None None (Move source target))
  move_routed source target is = routed x process up law standing left (MoveFile source target) is None None (Move source target) [] refl refl refl refl tt tt refl tt tt (passed_takes x process up (MoveFile source target) [] refl refl)

  pub find_routed : (searched : List ℕ) → IsGiven (FindFiles searched) → IsRouted x process (FindFiles searched) (Files None None (Find searched))
  find_routed searched is = routed x process up law standing left (FindFiles searched) is None None (Find searched) [] refl refl refl refl tt tt refl tt tt (passed_takes x process up (FindFiles searched) [] refl refl)

  -- ---- calls in a transaction

  module _ (label : Label) (t : Transaction) (named : transaction_named x process label ≡ Some t) (passed : first_refusal (transaction_tests (Some t)) ≡ None) where
    -- the tests, the effect and the call of a command by the transaction that is named
    by_named : {T : Type 0} (f : Option Transaction → T) → f (transaction_named x process label) ≡ f (Some t)
    by_named f = ap f named

    -- it is active
    is_active_caller : IsActiveCaller x (Some t.id)
    is_active_caller = active_named x process label t named passed

    module _ (handle : Label) (path : List ℕ) (access : Access) (share : ShareMode) (d : Disposition) where
      abbrev tests : List (Bool × Refusal)
      tests = transaction_tests (Some t) ++ bound_test x process handle ∷ []

      are : command_tests x process (CreateFileTransacted handle path access share d label) ≡ tests ++ create_file_tests x.files (file_room x) (Some t.id) path access share d
      are = by_named (λ n. transaction_tests n ++ bound_test x process handle ∷ create_file_tests x.files (file_room x) (id_of_named n) path access share d)

      pub create_transacted : IsGiven (CreateFileTransacted handle path access share d label) → object_at x.handles process handle ≡ None
          → IsRouted x process (CreateFileTransacted handle path access share d label) (Files (Some t.id) (Some handle) (Create path access share d))
      create_transacted is free =
          routed x process up law standing left (CreateFileTransacted handle path access share d label) is (Some t.id) (Some handle) (Create path access share d) tests are
          (first_of-passed (transaction_tests (Some t)) (bound_test x process handle ∷ []) passed ∙ unbound handle free)
          (by_named (λ n. opening x process handle (id_of_named n) (create_file x.files (id_of_named n) path access share d)))
          (by_named (λ n. in_caller (id_of_named n) (λ who. create_file x.files who path access share d))) tt free refl tt is_active_caller
          (passed_takes x process up (CreateFileTransacted handle path access share d label) tests (by_named (λ n. transaction_tests n ++ bound_test x process handle ∷ []))
          (first_of-passed (transaction_tests (Some t)) (bound_test x process handle ∷ []) passed ∙ unbound handle free))

      pub create_transacted_refused : (refusal : Refusal) → (refusal ≡ InvalidParameter) × (is_bound x process handle ≡ true)
          → decide x process (CreateFileTransacted handle path access share d label) ≡ only_reply x (Refused refusal)
      create_transacted_refused refusal bound =
          refused_first x process (CreateFileTransacted handle path access share d label) tests (create_file_tests x.files (file_room x) (Some t.id) path access share d) refusal up are
          (first_of-passed (transaction_tests (Some t)) (bound_test x process handle ∷ []) passed ∙ bound_first handle refusal bound)

    pub delete_transacted : (path : List ℕ) → IsGiven (DeleteFileTransacted path label) → IsRouted x process (DeleteFileTransacted path label) (Files (Some t.id) None (Delete path))
    delete_transacted path is =
        routed x process up law standing left (DeleteFileTransacted path label) is (Some t.id) None (Delete path) (transaction_tests (Some t))
        (by_named (λ n. transaction_tests n ++ delete_file_tests x.files (file_room x) (id_of_named n) path)) passed
        (by_named (λ n. of_files x (id_of_named n) (delete_file x.files (id_of_named n) path))) (by_named (λ n. in_caller (id_of_named n) (λ who. delete_file x.files who path))) tt tt refl tt is_active_caller (passed_takes x process up (DeleteFileTransacted path label) (transaction_tests (Some t)) (by_named transaction_tests) passed)

    pub make_transacted : (path : List ℕ) → IsGiven (CreateDirectoryTransacted path label) → IsRouted x process (CreateDirectoryTransacted path label) (Files (Some t.id) None (MakeDirectory path))
    make_transacted path is =
        routed x process up law standing left (CreateDirectoryTransacted path label) is (Some t.id) None (MakeDirectory path) (transaction_tests (Some t))
        (by_named (λ n. transaction_tests n ++ create_directory_tests x.files (file_room x) (id_of_named n) path)) passed
        (by_named (λ n. of_files x (id_of_named n) (create_directory x.files (id_of_named n) path))) (by_named (λ n. in_caller (id_of_named n) (λ who. create_directory x.files who path))) tt tt refl tt is_active_caller (passed_takes x process up (CreateDirectoryTransacted path label) (transaction_tests (Some t)) (by_named transaction_tests) passed)

    pub remove_transacted : (path : List ℕ) → IsGiven (RemoveDirectoryTransacted path label) → IsRouted x process (RemoveDirectoryTransacted path label) (Files (Some t.id) None (Remove path))
    remove_transacted path is =
        routed x process up law standing left (RemoveDirectoryTransacted path label) is (Some t.id) None (Remove path) (transaction_tests (Some t))
        (by_named (λ n. transaction_tests n ++ remove_directory_tests x.files (file_room x) (id_of_named n) path)) passed
        (by_named (λ n. of_files x (id_of_named n) (remove_directory x.files (id_of_named n) path))) (by_named (λ n. in_caller (id_of_named n) (λ who. remove_directory x.files who path))) tt tt refl tt is_active_caller (passed_takes x process up (RemoveDirectoryTransacted path label) (transaction_tests (Some t)) (by_named transaction_tests) passed)

    pub move_transacted : (source target : List ℕ) → IsGiven (MoveFileTransacted source target label) → IsRouted x process (MoveFileTransacted source target label) (Files (Some t.id) None (Move source target))
    move_transacted source target is =
        routed x process up law standing left (MoveFileTransacted source target label) is (Some t.id) None (Move source target) (transaction_tests (Some t))
        (by_named (λ n. transaction_tests n ++ move_file_tests x.files (file_room x) (id_of_named n) source target)) passed
        (by_named (λ n. of_files x (id_of_named n) (move_file x.files (id_of_named n) source target))) (by_named (λ n. in_caller (id_of_named n) (λ who. move_file x.files who source target))) tt tt refl tt is_active_caller (passed_takes x process up (MoveFileTransacted source target label) (transaction_tests (Some t)) (by_named transaction_tests) passed)

    pub find_transacted : (searched : List ℕ) → IsGiven (FindFilesTransacted searched label) → IsRouted x process (FindFilesTransacted searched label) (Files (Some t.id) None (Find searched))
    find_transacted searched is =
        routed x process up law standing left (FindFilesTransacted searched label) is (Some t.id) None (Find searched) (transaction_tests (Some t))
        (by_named (λ n. transaction_tests n ++ find_files_tests x.files (id_of_named n) searched)) passed
        (by_named (λ n. of_files x (id_of_named n) (find_files x.files (id_of_named n) searched))) (by_named (λ n. in_caller (id_of_named n) (λ who. find_files x.files who searched))) tt tt refl tt is_active_caller (passed_takes x process up (FindFilesTransacted searched label) (transaction_tests (Some t)) (by_named transaction_tests) passed)

  -- ---- calls on an open file

  module _ (label : Label) (file : Kept) (named : file_named x process label ≡ Some (open_of file)) (passed : first_refusal (handle_tests x process label) ≡ None) where
    by_file : {T : Type 0} (f : Option OpenFile → T) → f (file_named x process label) ≡ f (Some (open_of file))
    by_file f = ap f named

    -- its transaction is active, if it has one
    active_file : IsActiveCaller x file.transaction
    active_file = by-caller file.transaction (ap (λ n. holds_of (is_suspended x) n) (sym named) ∙ not_refused (handle_tests x process label) passed (holds_of (is_suspended x) (file_named x process label), TransactionNotActive) (inr (inr (inl refl))))
      where
        by-caller : (who : Option Id) → holds_of (λ u. not (is_active u)) (option_and_then (transaction_at x.transactions.items) who) ≡ false → IsActiveCaller x who
        by-caller None none = tt
        by-caller (Some id) active = active

    -- no bytes are written
    pub write_routed : (offset : ℕ) (bytes : List ℕ) → IsGiven (WriteFile label offset bytes) → bytes ≡ [] → IsRouted x process (WriteFile label offset bytes) (Files file.transaction None (Write file offset bytes))
    write_routed offset bytes is none =
        routed x process up law standing left (WriteFile label offset bytes) is file.transaction None (Write file offset bytes) (handle_tests x process label) are passed effect made usable tt refl none active_file
        (change_taken x process up law standing left (WriteFile label offset bytes) is file.transaction None (Write file offset bytes) (handle_tests x process label) are passed effect made usable tt refl refl (write_takes x process up label file offset bytes))
      where
        usable : MayBeUsed x.files (Write file offset bytes)
        usable = law.usable x process label (open_of file) standing named

        are : command_tests x process (WriteFile label offset bytes) ≡ handle_tests x process label ++ file_tests x.files (file_room x) file.transaction (Write file offset bytes)
        are = by_file (λ n. handle_tests x process label ++ own_tests n (λ o. write_file_tests x.files (file_room x) o offset bytes))

        effect : command_effect x process (WriteFile label offset bytes) ≡ files_outcome x process file.transaction None (file_effect x.files file.transaction (Write file offset bytes))
        effect = by_file (λ n. on_file x n (λ o. write_file o offset bytes))

        made : file_call x process (WriteFile label offset bytes) ≡ Some (file.transaction, file_effect x.files file.transaction (Write file offset bytes))
        made = by_file (λ n. on_open n (λ o. write_file o offset bytes))

    -- the file becomes no longer
    pub set_end_routed : (size : ℕ) → IsGiven (SetEndOfFile label size) → OfNamed x process label (λ seen. size ≤ length seen) → IsRouted x process (SetEndOfFile label size) (Files file.transaction None (SetEnd file size))
    set_end_routed size is within =
        routed x process up law standing left (SetEndOfFile label size) is file.transaction None (SetEnd file size) (handle_tests x process label) are passed effect made usable tt refl (within (open_of file) named) active_file
        (change_taken x process up law standing left (SetEndOfFile label size) is file.transaction None (SetEnd file size) (handle_tests x process label) are passed effect made usable tt refl refl (set_end_takes x process up label file size))
      where
        usable : MayBeUsed x.files (SetEnd file size)
        usable = law.usable x process label (open_of file) standing named

        are : command_tests x process (SetEndOfFile label size) ≡ handle_tests x process label ++ file_tests x.files (file_room x) file.transaction (SetEnd file size)
        are = by_file (λ n. handle_tests x process label ++ own_tests n (λ o. set_end_tests x.files (file_room x) o size))

        effect : command_effect x process (SetEndOfFile label size) ≡ files_outcome x process file.transaction None (file_effect x.files file.transaction (SetEnd file size))
        effect = by_file (λ n. on_file x n (λ o. set_end o size))

        made : file_call x process (SetEndOfFile label size) ≡ Some (file.transaction, file_effect x.files file.transaction (SetEnd file size))
        made = by_file (λ n. on_open n (λ o. set_end o size))

    module _ (start : ℕ) (contents : List ℕ) (extent : Extent) where
      abbrev putting : Command
      putting = WriteUnits label start contents

      abbrev call : FileCall
      call = FileCall.WriteUnits file start contents

      units_usable : MayBeUsed x.files call
      units_usable = law.usable x process label (open_of file) standing named

      units_are : command_tests x process putting ≡ handle_tests x process label ++ file_tests x.files (file_room x) file.transaction call
      units_are = by_file (λ n. handle_tests x process label ++ own_tests n (λ o. write_units_tests x.files (file_room x) o start contents))

      units_effect : command_effect x process putting ≡ files_outcome x process file.transaction None (file_effect x.files file.transaction call)
      units_effect = by_file (λ n. on_file x n (λ o. write_file o start contents))

      units_made : file_call x process putting ≡ Some (file.transaction, file_effect x.files file.transaction call)
      units_made = by_file (λ n. on_open n (λ o. write_file o start contents))

      pub units_routed : IsGiven putting → OfNamed x process label (λ seen. AreUnits seen start contents extent) → IsRouted x process putting (Units file.transaction file start contents extent)
      units_routed is suits = (
        comes_to x process up law standing left putting is file.transaction None call (handle_tests x process label) units_are passed units_effect units_made units_usable tt,
        ready x process up law standing left putting is file.transaction None call (handle_tests x process label) units_are passed units_effect units_made units_usable tt (Some extent) (suits (open_of file) named) active_file,
        change_taken x process up law standing left putting is file.transaction None call (handle_tests x process label) units_are passed units_effect units_made units_usable tt refl refl (write_units_takes x process up label file start contents),
        refl,
      )

    pub size_routed : IsGiven (GetFileSizeEx label) → IsRouted x process (GetFileSizeEx label) (Files file.transaction None (Size file))
    size_routed is =
        routed x process up law standing left (GetFileSizeEx label) is file.transaction None (Size file) (handle_tests x process label) refl passed
        (by_file (λ n. on_file x n (λ o. get_size x.files o))) (by_file (λ n. on_open n (λ o. get_size x.files o))) tt tt refl tt active_file (size_takes x file.transaction file)

    pub flush_routed : IsGiven (FlushFileBuffers label) → IsRouted x process (FlushFileBuffers label) (Files file.transaction None (Flush file))
    flush_routed is =
        routed x process up law standing left (FlushFileBuffers label) is file.transaction None (Flush file) (handle_tests x process label)
        (by_file (λ n. handle_tests x process label ++ own_tests n (λ o. write_access_test o ∷ []))) passed (by_file (λ n. on_file x n (λ o. flush_file)))
        (by_file (λ n. on_open n (λ o. flush_file))) tt tt refl tt active_file (flush_takes x file.transaction file)

-- ---- by what came of the labels

module _ (x : Present) (process : Pid) (command : Command) where
  -- a refusal is handed on
  pub handed_on : (r : Result Routed Refusal) (refusal : Refusal) → IsErrAnd r (λ given. given ≡ refusal) → decide x process command ≡ only_reply x (Refused refusal) → Routes x process command r
  handed_on (Ok given) refusal is comes = absurd is
  handed_on (Err given) refusal is comes = comes ∙ ap (λ r. only_reply x (Refused r)) (sym is)

  -- that of a file that is to be opened
  pub opening_routes : (who : Option Id) (label : Label) (call : FileCall) (r : Result Routed Refusal)
      → IfOk r (λ routed. (routed ≡ Files who (Some label) call) × (object_at x.handles process label ≡ None)) → IfErr r (λ refusal. (refusal ≡ InvalidParameter) × (is_some (object_at x.handles process label) ≡ true))
      → (object_at x.handles process label ≡ None → IsRouted x process command (Files who (Some label) call))
      → ((refusal : Refusal) → (refusal ≡ InvalidParameter) × (is_bound x process label ≡ true) → decide x process command ≡ only_reply x (Refused refusal))
      → Routes x process command r
  opening_routes who label call (Ok given) (is, free) err passes refuses = subst (IsRouted x process command) (sym is) (passes free)
  opening_routes who label call (Err refusal) ok bound passes refuses = refuses refusal bound

  -- that of a transaction
  pub transacted_routes : (label : Label) (call : FileCall) (more : List (Bool × Refusal)) (r : Result Routed Refusal)
      → IfOk r (λ routed. (t : Transaction) × (transaction_named x process label ≡ Some t) × (first_refusal (transaction_tests (Some t)) ≡ None) × (routed ≡ Files (Some t.id) None call))
      → IfErr r (λ refusal. first_refusal (transaction_tests (transaction_named x process label)) ≡ Some refusal)
      → x.machine.is_up ≡ true → command_tests x process command ≡ transaction_tests (transaction_named x process label) ++ more
      → ((t : Transaction) → transaction_named x process label ≡ Some t → first_refusal (transaction_tests (Some t)) ≡ None → IsRouted x process command (Files (Some t.id) None call))
      → Routes x process command r
  transacted_routes label call more (Ok given) ok err up begins passes =
      let (t, named, passed, is) = ok in subst (IsRouted x process command) (sym is) (passes t named passed)
  transacted_routes label call more (Err refusal) ok err up begins passes =
      refused_first x process command (transaction_tests (transaction_named x process label)) more refusal up begins err
