-- What a command tells of the outcome of a transaction is so then.
use Rattle.std.specs.Prelude.{if◌then◌else◌, bytes_eq, find}
use Rattle.std.proofs.Common.{◌≡◌, ℕ, ◌&&◌, ◌||◌, not, Bool, true, false, List, [], ◌∷◌, ◌++◌, Option, Some, None, is_none, option_and_then, option_map, refl, sym, ◌∙◌, ap, subst, arith, inl, inr, ◌⊎◌}
use Rattle.std.proofs.lemmas.Bool.{cases_Bool, and_parts, leb-true, or_cases, true≢false}
use Rattle.std.proofs.lemmas.Option.{none-some, same_Some}
use Rattle.std.proofs.lemmas.Slice.Eq.{bytes_eq-Decides}
use Rattle.std.specs.List.{AllByRecursion, list_all}
use Rattle.ktm_base.specs.declared.id.Id.{Id}
use Rattle.ktm_base.specs.declared.id.Label.{Label}
use Rattle.ktm_base.specs.declared.id.ObjectKind.{ObjectKind}
use Rattle.ktm_base.specs.declared.id.Pid.{Pid}
use Rattle.ktm_base.specs.declared.notify.Notify.{Notify}
use Rattle.ktm_base.specs.declared.refusal.Refusal.{Refusal}
use Rattle.ktm_base.specs.declared.refusal.Refusal.TheVariants.{MachineDown, InvalidParameter, TransactionNotActive, TransactionSuperiorExists, TransactionRequestNotValid}
use Rattle.ktm_base.specs.Guid.{IsId, guid_of}
use Rattle.ktm_base.proofs.offered.GuidLemmas.{id_read}
use Rattle.ktm_world.specs.declared.command.Command.{Command}
use Rattle.ktm_world.specs.declared.command.Command.TheVariants.{CreateTransaction, OpenTransaction, CommitTransaction, RollbackTransaction, GetTransactionInformation, CreateResourceManager, OpenResourceManager, RecoverResourceManager, GetNotificationResourceManager, CreateEnlistment, OpenEnlistment, RecoverEnlistment, PrePrepareComplete, PrepareComplete, ReadOnlyEnlistment, CommitComplete, RollbackComplete, SinglePhaseReject, RollbackEnlistment, PrePrepareEnlistment, PrepareEnlistment, CommitEnlistment, SetEnlistmentRecoveryInformation, GetEnlistmentRecoveryInformation, CreateFile, CreateFileTransacted, ReadFile, WriteFile, SetEndOfFile, WriteUnits, GetFileSizeEx, FlushFileBuffers, DeleteFile, CreateDirectory, RemoveDirectory, MoveFile, DeleteFileTransacted, CreateDirectoryTransacted, RemoveDirectoryTransacted, MoveFileTransacted, FindFiles, FindFilesTransacted, KvSet, KvUnset, KvGet, KvList, CloseHandle, DuplicateHandle, Exit}
use Rattle.ktm_world.specs.declared.command.View.{View}
use Rattle.ktm_world.specs.declared.command.View.TheVariants.{Plain, Transaction as Through}
use Rattle.ktm_world.specs.declared.input.PhaseInput.{PhaseInput}
use Rattle.ktm_world.specs.declared.object.Object.{Object}
use Rattle.ktm_world.specs.declared.object.Phase.{Phase}
use Rattle.ktm_world.specs.declared.object.Phase.TheVariants.{Ended}
use Rattle.ktm_world.specs.declared.object.Transaction.{Transaction}
use Rattle.ktm_world.specs.declared.object.TransactionOutcome.{TransactionOutcome}
use Rattle.ktm_world.specs.declared.object.TransactionOutcome.TheVariants.{Undetermined, Committed as CommittedOutcome, Aborted}
use Rattle.ktm_world.specs.declared.options.Access.{Access}
use Rattle.ktm_world.specs.declared.options.Disposition.{Disposition}
use Rattle.ktm_world.specs.declared.options.EnlistmentKind.{EnlistmentKind}
use Rattle.ktm_world.specs.declared.options.ShareMode.{ShareMode}
use Rattle.ktm_world.specs.declared.reply.Reply.{Reply}
use Rattle.ktm_world.specs.declared.reply.Reply.TheVariants.{Refused, Done, Committed, Pending, Notification}
use Rattle.ktm_world.specs.Decide.{decide, caller, command_tests, command_effect, refusal_of, of_files, opening, on_file, on_file_tests, own_tests, bound_file}
use Rattle.ktm_world.specs.Enlistments.{Enlistment, Manager, Note, is_ended}
use Rattle.ktm_world.specs.FileCalls.{create_act, create_at, create_file, create_file_tests, read_file, read_file_tests, write_file, write_file_tests, write_units_tests, set_end, set_end_tests, get_size, flush_file, delete_act, drop_at, delete_file, delete_file_tests, make_act, make_at, create_directory, create_directory_tests, remove_act, remove_directory, remove_directory_tests, move_act, move_at, move_file, move_file_tests, find_files, find_files_tests, find_path, conflict_test, write_access_test, Whereabouts, no_path, no_way, free, at_root, at_node}
use Rattle.ktm_world.specs.FileOutcome.{FileOutcome, FileRoom}
use Rattle.ktm_world.specs.Files.{FilesNow, OpenFile, tree_seen}
use Rattle.ktm_world.specs.HandleCalls.{close_handle, close_handle_tests, closed_in_turn, labels_of, exit, bind_to, duplicate_handle, duplicate_handle_tests}
use Rattle.ktm_world.specs.Handles.{object_at, transaction_id}
use Rattle.ktm_world.specs.Holds.{Act}
use Rattle.ktm_world.specs.KeyCalls.{reply_of_value, kv_set_tests, kv_unset_tests, kv_get_tests}
use Rattle.ktm_world.specs.Keys.{value_seen}
use Rattle.ktm_world.specs.Labels.{is_bound, transaction_named, manager_named, enlistment_named, file_named, transaction_tests, outcome_tests, invalid_handle, holds_of, viewer, view_tests, file_tests}
use Rattle.ktm_world.specs.OneOutcome.{told_by, told_outcome, told_of_named, transaction_label, view_label}
use Rattle.ktm_world.specs.Outcome.{Outcome, apply, only_reply, refuse_or, first_refusal}
use Rattle.ktm_world.specs.Phases.{Course}
use Rattle.ktm_world.specs.Present.{Present}
use Rattle.ktm_world.specs.Steps.{led, share_of}
use Rattle.ktm_world.specs.TransactionCalls.{course_of, has_superior, is_superior_kind, no_enlistment_left, quota_test, arrived, bound_test, guid_in, create_transaction, create_transaction_tests, transaction_with, open_to_transaction, open_transaction, open_transaction_tests, commit_of, commit_reply, commit_transaction, rollback_of, rollback_transaction, may_roll_back, information_of, get_transaction_information, create_resource_manager, create_resource_manager_tests, manager_with, open_to_manager, open_resource_manager, open_resource_manager_tests, recover_all, recover_resource_manager, note_reply, take_first, get_notification, enlist, create_enlistment, create_enlistment_tests, enlistment_with, open_to_enlistment, open_enlistment, open_enlistment_tests, answering, pre_prepare_complete, prepare_complete, read_only_enlistment, commit_complete, rollback_complete, single_phase_reject, rollback_enlistment, pre_prepare_enlistment, prepare_enlistment, commit_enlistment, recover_enlistment, keep_information, set_information, information_in, get_information, recovery_of}
use Rattle.ktm_world.specs.Transactions.{transaction_at, is_active, is_committed, is_aborted, is_undecided}
use Rattle.ktm_world.specs.Uses.{file_room, key_room}
use Rattle.ktm_steps.proofs.offered.Outcomes.{committed-led}
use Rattle.ktm_steps.proofs.offered.Staying.{stays-led}
use Rattle.txf_laws.specs.Elements.{IsIn}
use Rattle.ktm_laws.specs.Notes.{AreNotesTrue}
use Rattle.ktm_courses.specs.SoundCourse.{IsSoundCourse, is_counted, is_outcome_of}
use Rattle.ktm_courses.specs.SoundCourses.{CoursesLaw}
use Rattle.ktm_courses.proofs.offered.Arrivals.{changed_to}
use Rattle.ktm_courses.proofs.offered.Calls.{Passes, passed, transaction_at-found, and_then-found, manager-named, of-answering}
use Rattle.txf_laws.proofs.offered.Elements.{find-in, list_all-at}
use Rattle.ktm_laws.proofs.Notes.{}
use Rattle.ktm_courses.proofs.offered.NewObjects.{counted-parts}
use Rattle.ktm_courses.proofs.offered.Moves.{same-by_id}
use Rattle.ktm_courses.proofs.offered.Outcomes.{changed-itself}
use Rattle.txf_laws.proofs.offered.Tables.{same_id-from}
use Rattle.ktm_steps.proofs.offered.Ways.{if_cases}

-- ---- what is told of a transaction

-- the transaction is there, with this outcome
pub record HasOutcome (ts : List Transaction) (id : Id) (k : Bool) : Type 0 where
  pub transaction : Transaction
  pub there : IsIn transaction ts
  pub is : transaction.id ≡ id
  pub outcome : told_outcome transaction.outcome ≡ Some k

-- the Id that a label of the process is bound to, if there is a label
abbrev pub named_id : Present → Pid → Option Label → Option Id
named_id x process None = None
named_id x process (Some label) = transaction_id (object_at x.handles process label)

-- the transaction of the enlistment with a GUID
abbrev pub enlisted_in : Present → List ℕ → Option Id
enlisted_in x guid = option_and_then (λ e. Some e.transaction) (find (λ e. bytes_eq (guid_in x ObjectKind.Enlistment e.id) guid) x.transactions.enlistments)

-- is it a notification
abbrev pub is_note : Reply → Bool
is_note (Notification kind enlistment) = true
is_note _ = false

-- what the reply tells is so of the transactions then
pub record Replies (x : Present) (named : Option Id) (o : Outcome) : Type 0 where
  pub told : (id : Id) (k : Bool) → named ≡ Some id → told_of_named o.reply ≡ Some k → HasOutcome o.transactions.items id k
  pub noted : (kind : Notify) (guid : List ℕ) (id : Id) (k : Bool) → o.reply ≡ Notification kind (Some guid) → told_by kind ≡ Some k → enlisted_in x guid ≡ Some id → HasOutcome o.transactions.items id k

-- nothing is told
record Silent (o : Outcome) : Type 0 where
  told : told_of_named o.reply ≡ None
  plain : is_note o.reply ≡ false

no-note : (reply : Reply) (kind : Notify) (guid : Option (List ℕ)) → is_note reply ≡ false → reply ≡ Notification kind guid → ⊥
no-note reply kind guid plain is = true≢false (sym (ap is_note is) ∙ plain)

silent-replies : (x : Present) (named : Option Id) (o : Outcome) → Silent o → Replies x named o
silent-replies x named o silent = record {
  told = λ id k is tells. absurd (none-some k (sym silent.told ∙ tells));
  noted = λ kind guid id k is tells found. absurd (no-note o.reply kind (Some guid) silent.plain is);
}

silent-arrived : (x : Present) (d : Course) (reply : Reply) → told_of_named reply ≡ None → is_note reply ≡ false → Silent (arrived x d reply)
silent-arrived x d reply told plain = if_cases (λ o. Silent o) (is_undecided d.transaction) _ _ (λ is. record { told = told; plain = plain }) (λ is. record { told = told; plain = plain })

silent-done : (x : Present) → Silent (only_reply x Done)
silent-done x = record { told = refl; plain = refl }

silent-answering : (x : Present) (o : Option Enlistment) (input : Enlistment → PhaseInput) → Silent (answering x o input)
silent-answering x o input = of-answering Silent x o input (silent-done x) (λ e is t there own found. silent-arrived x (led (input e) (course_of x t (Some e))) Done refl refl)

silent-opening : (x : Present) (process : Pid) (label : Label) (who : Option Id) (o : FileOutcome) → told_of_named o.reply ≡ None → is_note o.reply ≡ false → Silent (opening x process label who o)
silent-opening x process label who o told plain = go o.opened
  where
    go : (opened : Option OpenFile) → Silent (bound_file process label opened (of_files x who o))
    go None = record { told = told; plain = plain }
    go (Some file) = record { told = told; plain = plain }

silent-on_file : (x : Present) (o : Option OpenFile) (call : OpenFile → FileOutcome) → ((f : OpenFile) → told_of_named (call f).reply ≡ None) → ((f : OpenFile) → is_note (call f).reply ≡ false) → Silent (on_file x o call)
silent-on_file x None call told plain = silent-done x
silent-on_file x (Some o) call told plain = record { told = told o; plain = plain o }

-- what calls on files answer
record SaysNothing (o : FileOutcome) : Type 0 where
  told : told_of_named o.reply ≡ None
  plain : is_note o.reply ≡ false

silent-file : (x : Present) (who : Option Id) (o : FileOutcome) → SaysNothing o → Silent (of_files x who o)
silent-file x who o says = record { told = says.told; plain = says.plain }

says-create : (files : FilesNow) (who : Option Id) (w : Whereabouts) (access : Access) (mode : ShareMode) (d : Disposition) → SaysNothing (create_at files who w access mode d)
says-create files who no_path access mode d = record { told = refl; plain = refl }
says-create files who no_way access mode d = record { told = refl; plain = refl }
says-create files who (free directory name) access mode d = record { told = refl; plain = refl }
says-create files who at_root access mode d = record { told = refl; plain = refl }
says-create files who (at_node node) access mode d = record { told = refl; plain = refl }

says-drop : (w : Whereabouts) → SaysNothing (drop_at w)
says-drop no_path = record { told = refl; plain = refl }
says-drop no_way = record { told = refl; plain = refl }
says-drop (free directory name) = record { told = refl; plain = refl }
says-drop at_root = record { told = refl; plain = refl }
says-drop (at_node node) = record { told = refl; plain = refl }

says-make : (files : FilesNow) (w : Whereabouts) → SaysNothing (make_at files w)
says-make files no_path = record { told = refl; plain = refl }
says-make files no_way = record { told = refl; plain = refl }
says-make files (free directory name) = record { told = refl; plain = refl }
says-make files at_root = record { told = refl; plain = refl }
says-make files (at_node node) = record { told = refl; plain = refl }

says-move : (v w : Whereabouts) → SaysNothing (move_at v w)
says-move (at_node node) (free directory name) = record { told = refl; plain = refl }
says-move (at_node node) no_path = record { told = refl; plain = refl }
says-move (at_node node) no_way = record { told = refl; plain = refl }
says-move (at_node node) at_root = record { told = refl; plain = refl }
says-move (at_node node) (at_node other) = record { told = refl; plain = refl }
says-move no_path w = record { told = refl; plain = refl }
says-move no_way w = record { told = refl; plain = refl }
says-move (free directory name) w = record { told = refl; plain = refl }
says-move at_root w = record { told = refl; plain = refl }

says-written : (o : OpenFile) (offset : ℕ) (bytes : List ℕ) → SaysNothing (write_file o offset bytes)
unfolding write_file
says-written o offset [] = record { told = refl; plain = refl }
says-written o offset (b ∷ bs) = record { told = refl; plain = refl }

file-create : (files : FilesNow) (who : Option Id) (path : List ℕ) (access : Access) (mode : ShareMode) (d : Disposition) → SaysNothing (create_file files who path access mode d)
unfolding create_file
file-create files who path access mode d = says-create files who (find_path (tree_seen files who) path) access mode d

file-delete : (files : FilesNow) (who : Option Id) (path : List ℕ) → SaysNothing (delete_file files who path)
unfolding delete_file
file-delete files who path = says-drop (find_path (tree_seen files who) path)

file-make : (files : FilesNow) (who : Option Id) (path : List ℕ) → SaysNothing (create_directory files who path)
unfolding create_directory
file-make files who path = says-make files (find_path (tree_seen files who) path)

file-remove : (files : FilesNow) (who : Option Id) (path : List ℕ) → SaysNothing (remove_directory files who path)
unfolding remove_directory
file-remove files who path = says-drop (find_path (tree_seen files who) path)

file-move : (files : FilesNow) (who : Option Id) (source target : List ℕ) → SaysNothing (move_file files who source target)
unfolding move_file
file-move files who source target = says-move (find_path (tree_seen files who) source) (find_path (tree_seen files who) target)

silent-value : (value : Option (List ℕ)) → (told_of_named (reply_of_value value) ≡ None) × (is_note (reply_of_value value) ≡ false)
silent-value None = (refl, refl)
silent-value (Some value) = (refl, refl)

silent-rollback : (x : Present) (o : Option Transaction) → Silent (rollback_of x o)
silent-rollback x None = silent-done x
silent-rollback x (Some t) = silent-arrived x (led PhaseInput.Rollback (course_of x t None)) Done refl refl

silent-open : (x : Present) (process : Pid) (label : Label) (o : Option Transaction) → Silent (open_to_transaction x process label o)
silent-open x process label None = silent-done x
silent-open x process label (Some t) = record { told = refl; plain = refl }

silent-open_manager : (x : Present) (process : Pid) (label : Label) (o : Option Manager) → Silent (open_to_manager x process label o)
silent-open_manager x process label None = silent-done x
silent-open_manager x process label (Some m) = record { told = refl; plain = refl }

silent-open_enlistment : (x : Present) (process : Pid) (label : Label) (o : Option Enlistment) → Silent (open_to_enlistment x process label o)
silent-open_enlistment x process label None = silent-done x
silent-open_enlistment x process label (Some e) = record { told = refl; plain = refl }

silent-bind : (x : Present) (process : Pid) (label : Label) (o : Option Object) → Silent (bind_to x process label o)
silent-bind x process label None = silent-done x
silent-bind x process label (Some object) = record { told = refl; plain = refl }

silent-recover : (x : Present) (o : Option Manager) → Silent (recover_all x o)
silent-recover x None = silent-done x
silent-recover x (Some m) = record { told = refl; plain = refl }

silent-enlist : (x : Present) (process : Pid) (label : Label) (m : Option Manager) (t : Option Transaction) (kind : EnlistmentKind) → Silent (enlist x process label m t kind)
silent-enlist x process label (Some m) (Some t) kind = record { told = refl; plain = refl }
silent-enlist x process label None t kind = silent-done x
silent-enlist x process label (Some m) None kind = silent-done x

silent-keep : (x : Present) (o : Option Enlistment) (information : List ℕ) → Silent (keep_information x o information)
silent-keep x None information = silent-done x
silent-keep x (Some e) information = record { told = refl; plain = refl }

silent-contents : (x : Present) (o : Option Enlistment) → Silent (only_reply x (information_in o))
silent-contents x None = silent-done x
silent-contents x (Some e) = record { told = refl; plain = refl }

-- ---- handles

silent-close : (x : Present) (process : Pid) (label : Label) → Silent (close_handle x process label)
unfolding close_handle
silent-close x process label = record { told = refl; plain = refl }

silent-exit : (x : Present) (process : Pid) → Silent (exit x process)
unfolding exit close_handle
silent-exit x process = go (labels_of x.handles process)
  where
    go : (labels : List Label) → Silent (closed_in_turn x process labels)
    go [] = record { told = refl; plain = refl }
    go (label ∷ labels) = record { told = refl; plain = refl }

-- ---- refusals

-- what a refusal tells of the transaction that is named is so
abbrev Backed : Present → Option Id → Refusal → Type 0
Backed x named refusal = (id : Id) (k : Bool) → named ≡ Some id → told_of_named (Refused refusal) ≡ Some k → HasOutcome x.transactions.items id k

-- each test that holds is backed
abbrev AllBacked : Present → Option Id → List (Bool × Refusal) → Type 0
AllBacked x named tests = AllByRecursion (λ test. test.0 ≡ true → Backed x named test.1) tests

first-backed : (x : Present) (named : Option Id) (tests : List (Bool × Refusal)) (refusal : Refusal) → AllBacked x named tests → first_refusal tests ≡ Some refusal → Backed x named refusal
first-backed x named [] refusal all e = absurd (none-some refusal e)
first-backed x named (test ∷ tests) refusal all e = elim (cases_Bool test.0) [
  | inl holds ↦ subst (Backed x named) (same_Some test.1 refusal (rw holds at e)) (all.0 holds)
  | inr fails ↦ first-backed x named tests refusal all.1 (rw fails at e)
]

backed-append : (x : Present) (named : Option Id) (a b : List (Bool × Refusal)) → AllBacked x named a → AllBacked x named b → AllBacked x named (a ++ b)
backed-append x named [] b first second = second
backed-append x named (test ∷ a) b first second = (first.0, backed-append x named a b first.1 second)

-- a refusal that tells nothing
quiet : (x : Present) (named : Option Id) (refusal : Refusal) (b : Bool) → told_of_named (Refused refusal) ≡ None → b ≡ true → Backed x named refusal
quiet x named refusal b none holds id k is tells = absurd (none-some k (sym none ∙ tells))

-- tests whose refusals tell nothing
abbrev are_silent : List (Bool × Refusal) → Bool
are_silent tests = list_all (λ test. is_none (told_of_named (Refused test.1))) tests

silent-backed : (x : Present) (named : Option Id) (tests : List (Bool × Refusal)) → are_silent tests ≡ true → AllBacked x named tests
silent-backed x named [] silent = tt
silent-backed x named (test ∷ tests) silent =
    let parts = and_parts (is_none (told_of_named (Refused test.1))) (are_silent tests) silent in
    (quiet x named test.1 test.0 (none-of (told_of_named (Refused test.1)) parts.0), silent-backed x named tests parts.1)
  where
    none-of : (o : Option Bool) → is_none o ≡ true → o ≡ None
    none-of None is = refl
    none-of (Some b) is = absurd (true≢false (sym is))

-- of the transaction that is named a test holds by which its outcome tells this
test-at : (x : Present) (named : Option Id) (test : Transaction → Bool) (j : Bool) → ((t : Transaction) → test t ≡ true → told_outcome t.outcome ≡ Some j) → holds_of test (option_and_then (transaction_at x.transactions.items) named) ≡ true
    → (id : Id) → named ≡ Some id → HasOutcome x.transactions.items id j
test-at x named test j tells holds id is = go (transaction_at x.transactions.items id) refl (subst (λ n. holds_of test (option_and_then (transaction_at x.transactions.items) n) ≡ true) is holds)
  where
    go : (t : Option Transaction) → transaction_at x.transactions.items id ≡ t → holds_of test t ≡ true → HasOutcome x.transactions.items id j
    go None found holds = absurd (true≢false (sym holds))
    go (Some t) found holds = let at = transaction_at-found x.transactions.items id t found in record { transaction = t; there = at.0; is = at.1; outcome = tells t holds }

committed-tells : (t : Transaction) → is_committed t ≡ true → told_outcome t.outcome ≡ Some true
committed-tells t = go t.outcome
  where
    go : (outcome : TransactionOutcome) → is_committed (record t { outcome = outcome }) ≡ true → told_outcome outcome ≡ Some true
    go CommittedOutcome is = refl
    go Undetermined is = absurd (true≢false (sym is))
    go Aborted is = absurd (true≢false (sym is))

aborted-tells : (t : Transaction) → is_aborted t ≡ true → told_outcome t.outcome ≡ Some false
aborted-tells t = go t.outcome
  where
    go : (outcome : TransactionOutcome) → is_aborted (record t { outcome = outcome }) ≡ true → told_outcome outcome ≡ Some false
    go Aborted is = refl
    go Undetermined is = absurd (true≢false (sym is))
    go CommittedOutcome is = absurd (true≢false (sym is))

undecided-tells : (t : Transaction) → is_committed t ≡ false → is_aborted t ≡ false → told_outcome t.outcome ≡ None
undecided-tells t = go t.outcome
  where
    go : (outcome : TransactionOutcome) → is_committed (record t { outcome = outcome }) ≡ false → is_aborted (record t { outcome = outcome }) ≡ false → told_outcome outcome ≡ None
    go Undetermined not_committed not_aborted = refl
    go CommittedOutcome not_committed not_aborted = absurd (true≢false not_committed)
    go Aborted not_committed not_aborted = absurd (true≢false not_aborted)

module _ (x : Present) where
  -- the tests on the label of a transaction and on its outcome, and others
  outcome-backed : (named : Option Id) (more : List (Bool × Refusal)) → AllBacked x named more
      → AllBacked x named (invalid_handle (option_and_then (transaction_at x.transactions.items) named) ∷ outcome_tests (option_and_then (transaction_at x.transactions.items) named) ++ more)
  outcome-backed named more rest = (
    λ holds id k is tells. absurd (none-some k tells),
    (
      λ holds id k is tells. subst (HasOutcome x.transactions.items id) (same_Some true k tells) (test-at x named is_committed true committed-tells holds id is),
      (λ holds id k is tells. subst (HasOutcome x.transactions.items id) (same_Some false k tells) (test-at x named is_aborted false aborted-tells holds id is), rest),
    ),
  )

  active-backed : (process : Pid) (label : Label) (more : List (Bool × Refusal)) → AllBacked x (named_id x process (Some label)) more → AllBacked x (named_id x process (Some label)) (transaction_tests (transaction_named x process label) ++ more)
  active-backed process label more rest = outcome-backed (named_id x process (Some label)) ((holds_of (λ t. not (is_active t)) (transaction_named x process label), TransactionNotActive) ∷ more) (λ holds id k is tells. absurd (none-some k tells), rest)

  act-silent : (files : FilesNow) (who : Option Id) (act : Option Act) → told_of_named (Refused (conflict_test files who act).1) ≡ None
  act-silent files who None = refl
  act-silent files who (Some act) = refl

  -- the tests of a plain call and of one in a transaction
  abbrev S : Option Id → List (Bool × Refusal) → Type 0
  S named tests = AllBacked x named tests

  create-backed : (named : Option Id) (files : FilesNow) (room : FileRoom) (who : Option Id) (path : List ℕ) (access : Access) (mode : ShareMode) (d : Disposition) → S named (create_file_tests files room who path access mode d)
  unfolding create_file_tests
  create-backed named files room who path access mode d =
      let act = create_act (find_path (tree_seen files who) path) access d in
      (λ holds id k is tells. absurd (none-some k tells), (λ holds id k is tells. absurd (none-some k tells), (λ holds id k is tells. absurd (none-some k tells), (λ holds id k is tells. absurd (none-some k tells), (λ holds id k is tells. absurd (none-some k tells), (λ holds id k is tells. absurd (none-some k tells), (quiet x named (conflict_test files who act).1 (conflict_test files who act).0 (act-silent files who act), (λ holds id k is tells. absurd (none-some k tells), (λ holds id k is tells. absurd (none-some k tells), (λ holds id k is tells. absurd (none-some k tells), tt))))))))))

  delete-backed : (named : Option Id) (files : FilesNow) (room : FileRoom) (who : Option Id) (path : List ℕ) → S named (delete_file_tests files room who path)
  unfolding delete_file_tests
  delete-backed named files room who path =
      let act = delete_act (find_path (tree_seen files who) path) in
      (λ holds id k is tells. absurd (none-some k tells), (λ holds id k is tells. absurd (none-some k tells), (λ holds id k is tells. absurd (none-some k tells), (λ holds id k is tells. absurd (none-some k tells), (quiet x named (conflict_test files who act).1 (conflict_test files who act).0 (act-silent files who act), (λ holds id k is tells. absurd (none-some k tells), (λ holds id k is tells. absurd (none-some k tells), tt)))))))

  make-backed : (named : Option Id) (files : FilesNow) (room : FileRoom) (who : Option Id) (path : List ℕ) → S named (create_directory_tests files room who path)
  unfolding create_directory_tests
  make-backed named files room who path =
      let act = make_act (find_path (tree_seen files who) path) in
      (λ holds id k is tells. absurd (none-some k tells), (λ holds id k is tells. absurd (none-some k tells), (λ holds id k is tells. absurd (none-some k tells), (quiet x named (conflict_test files who act).1 (conflict_test files who act).0 (act-silent files who act), (λ holds id k is tells. absurd (none-some k tells), (λ holds id k is tells. absurd (none-some k tells), tt))))))

  remove-backed : (named : Option Id) (files : FilesNow) (room : FileRoom) (who : Option Id) (path : List ℕ) → S named (remove_directory_tests files room who path)
  unfolding remove_directory_tests
  remove-backed named files room who path =
      let act = remove_act (find_path (tree_seen files who) path) in
      (λ holds id k is tells. absurd (none-some k tells), (λ holds id k is tells. absurd (none-some k tells), (λ holds id k is tells. absurd (none-some k tells), (λ holds id k is tells. absurd (none-some k tells), (λ holds id k is tells. absurd (none-some k tells), (λ holds id k is tells. absurd (none-some k tells), (quiet x named (conflict_test files who act).1 (conflict_test files who act).0 (act-silent files who act), (λ holds id k is tells. absurd (none-some k tells), tt))))))))

  move-backed : (named : Option Id) (files : FilesNow) (room : FileRoom) (who : Option Id) (source target : List ℕ) → S named (move_file_tests files room who source target)
  unfolding move_file_tests
  move-backed named files room who source target =
      let act = move_act (find_path (tree_seen files who) source) (find_path (tree_seen files who) target) in
      (λ holds id k is tells. absurd (none-some k tells), (λ holds id k is tells. absurd (none-some k tells), (λ holds id k is tells. absurd (none-some k tells), (λ holds id k is tells. absurd (none-some k tells), (λ holds id k is tells. absurd (none-some k tells), (quiet x named (conflict_test files who act).1 (conflict_test files who act).0 (act-silent files who act), (λ holds id k is tells. absurd (none-some k tells), (λ holds id k is tells. absurd (none-some k tells), tt))))))))

  find-backed : (named : Option Id) (files : FilesNow) (who : Option Id) (searched : List ℕ) → S named (find_files_tests files who searched)
  unfolding find_files_tests
  find-backed named files who searched = silent-backed x named (find_files_tests files who searched) refl

  file-backed : (named : Option Id) (process : Pid) (label : Label) (tests : OpenFile → List (Bool × Refusal)) → ((o : OpenFile) → are_silent (tests o) ≡ true) → S named (on_file_tests x process label tests)
  file-backed named process label tests silent = backed-append x named (file_tests x process label) (own_tests (file_named x process label) tests) (silent-backed x named (file_tests x process label) refl) (go (file_named x process label))
    where
      go : (o : Option OpenFile) → S named (own_tests o tests)
      go None = tt
      go (Some o) = silent-backed x named (tests o) (silent o)

  view-backed : (process : Pid) (view : View) (more : List (Bool × Refusal)) → ((named : Option Id) → S named more) → S (named_id x process (view_label view)) (view_tests x process view ++ more)
  view-backed process Plain more rest = rest None
  view-backed process (Through label) more rest = active-backed process label more (rest (named_id x process (Some label)))

  view-alone : (process : Pid) (view : View) → S (named_id x process (view_label view)) (view_tests x process view)
  view-alone process Plain = tt
  view-alone process (Through label) = outcome-backed (named_id x process (Some label)) ((holds_of (λ t. not (is_active t)) (transaction_named x process label), TransactionNotActive) ∷ []) (λ holds id k is tells. absurd (none-some k tells), tt)

  tests-backed : (process : Pid) (command : Command) → S (named_id x process (transaction_label command)) (command_tests x process command)
  unfolding create_transaction_tests open_transaction_tests create_resource_manager_tests open_resource_manager_tests create_enlistment_tests open_enlistment_tests duplicate_handle_tests read_file_tests write_file_tests write_units_tests set_end_tests
  tests-backed process (CreateTransaction label timeout) = silent-backed x None (create_transaction_tests x process label) refl
  tests-backed process (OpenTransaction label guid) = silent-backed x None (open_transaction_tests x process label guid) refl
  tests-backed process (CommitTransaction label) = outcome-backed (named_id x process (Some label)) ((holds_of (λ t. not (is_active t)) (transaction_named x process label), TransactionNotActive) ∷ []) (λ holds id k is tells. absurd (none-some k tells), tt)
  tests-backed process (RollbackTransaction label) = outcome-backed (named_id x process (Some label)) ((holds_of (λ t. not (may_roll_back t)) (transaction_named x process label), TransactionRequestNotValid) ∷ []) (λ holds id k is tells. absurd (none-some k tells), tt)
  tests-backed process (GetTransactionInformation label) = silent-backed x _ (command_tests x process (GetTransactionInformation label)) refl
  tests-backed process (CreateResourceManager label durability) = silent-backed x None (create_resource_manager_tests x process label) refl
  tests-backed process (OpenResourceManager label guid) = silent-backed x None (open_resource_manager_tests x process label guid) refl
  tests-backed process (RecoverResourceManager label) = silent-backed x None (command_tests x process (RecoverResourceManager label)) refl
  tests-backed process (GetNotificationResourceManager label) = silent-backed x None (command_tests x process (GetNotificationResourceManager label)) refl
  tests-backed process (CreateEnlistment label manager transaction kind) = (
    λ holds id k is tells. absurd (none-some k tells),
    active-backed process transaction
        ((is_bound x process label || (is_superior_kind kind && holds_of (λ m. not m.is_durable) (manager_named x process manager)), InvalidParameter)
        ∷ (is_superior_kind kind && holds_of (has_superior x) (transaction_named x process transaction), TransactionSuperiorExists)
        ∷ quota_test x (no_enlistment_left x.transactions) ∷ [])
        (λ holds id k is tells. absurd (none-some k tells), (λ holds id k is tells. absurd (none-some k tells), (λ holds id k is tells. absurd (none-some k tells), tt))),
  )
  tests-backed process (OpenEnlistment label manager guid) = silent-backed x None (open_enlistment_tests x process label (manager_named x process manager) guid) refl
  tests-backed process (RecoverEnlistment label) = silent-backed x None (command_tests x process (RecoverEnlistment label)) refl
  tests-backed process (PrePrepareComplete label) = silent-backed x None (command_tests x process (PrePrepareComplete label)) refl
  tests-backed process (PrepareComplete label) = silent-backed x None (command_tests x process (PrepareComplete label)) refl
  tests-backed process (ReadOnlyEnlistment label) = silent-backed x None (command_tests x process (ReadOnlyEnlistment label)) refl
  tests-backed process (CommitComplete label) = silent-backed x None (command_tests x process (CommitComplete label)) refl
  tests-backed process (RollbackComplete label) = silent-backed x None (command_tests x process (RollbackComplete label)) refl
  tests-backed process (SinglePhaseReject label) = silent-backed x None (command_tests x process (SinglePhaseReject label)) refl
  tests-backed process (RollbackEnlistment label) = silent-backed x None (command_tests x process (RollbackEnlistment label)) refl
  tests-backed process (PrePrepareEnlistment label) = silent-backed x None (command_tests x process (PrePrepareEnlistment label)) refl
  tests-backed process (PrepareEnlistment label) = silent-backed x None (command_tests x process (PrepareEnlistment label)) refl
  tests-backed process (CommitEnlistment label) = silent-backed x None (command_tests x process (CommitEnlistment label)) refl
  tests-backed process (SetEnlistmentRecoveryInformation label information) = silent-backed x None (command_tests x process (SetEnlistmentRecoveryInformation label information)) refl
  tests-backed process (GetEnlistmentRecoveryInformation label) = silent-backed x None (command_tests x process (GetEnlistmentRecoveryInformation label)) refl
  tests-backed process (CreateFile label path access share disposition) = (λ holds id k is tells. absurd (none-some k tells), create-backed None x.files (file_room x) None path access share disposition)
  tests-backed process (CreateFileTransacted label path access share disposition transaction) =
      let named = named_id x process (Some transaction) in
      active-backed process transaction (bound_test x process label ∷ create_file_tests x.files (file_room x) (caller x process transaction) path access share disposition)
      (λ holds id k is tells. absurd (none-some k tells), create-backed named x.files (file_room x) (caller x process transaction) path access share disposition)
  tests-backed process (ReadFile file offset many) = file-backed None process file (λ o. read_file_tests o many) (λ o. refl)
  tests-backed process (WriteFile file offset bytes) = file-backed None process file (λ o. write_file_tests x.files (file_room x) o offset bytes) (λ o. refl)
  tests-backed process (SetEndOfFile file size) = file-backed None process file (λ o. set_end_tests x.files (file_room x) o size) (λ o. refl)
  tests-backed process (WriteUnits file start contents) = file-backed None process file (λ o. write_units_tests x.files (file_room x) o start contents) (λ o. refl)
  tests-backed process (GetFileSizeEx file) = silent-backed x None (file_tests x process file) refl
  tests-backed process (FlushFileBuffers file) = file-backed None process file (λ o. write_access_test o ∷ []) (λ o. refl)
  tests-backed process (DeleteFile path) = delete-backed None x.files (file_room x) None path
  tests-backed process (CreateDirectory path) = make-backed None x.files (file_room x) None path
  tests-backed process (RemoveDirectory path) = remove-backed None x.files (file_room x) None path
  tests-backed process (MoveFile source target) = move-backed None x.files (file_room x) None source target
  tests-backed process (DeleteFileTransacted path transaction) =
      active-backed process transaction (delete_file_tests x.files (file_room x) (caller x process transaction) path) (delete-backed (named_id x process (Some transaction)) x.files (file_room x) (caller x process transaction) path)
  tests-backed process (CreateDirectoryTransacted path transaction) =
      active-backed process transaction (create_directory_tests x.files (file_room x) (caller x process transaction) path) (make-backed (named_id x process (Some transaction)) x.files (file_room x) (caller x process transaction) path)
  tests-backed process (RemoveDirectoryTransacted path transaction) =
      active-backed process transaction (remove_directory_tests x.files (file_room x) (caller x process transaction) path) (remove-backed (named_id x process (Some transaction)) x.files (file_room x) (caller x process transaction) path)
  tests-backed process (MoveFileTransacted source target transaction) =
      active-backed process transaction (move_file_tests x.files (file_room x) (caller x process transaction) source target) (move-backed (named_id x process (Some transaction)) x.files (file_room x) (caller x process transaction) source target)
  tests-backed process (FindFiles searched) = find-backed None x.files None searched
  tests-backed process (FindFilesTransacted searched transaction) =
      active-backed process transaction (find_files_tests x.files (caller x process transaction) searched) (find-backed (named_id x process (Some transaction)) x.files (caller x process transaction) searched)
  tests-backed process (KvSet transaction key value) =
      active-backed process transaction (kv_set_tests x.keys (key_room x) (caller x process transaction) key value) (silent-backed x (named_id x process (Some transaction)) (kv_set_tests x.keys (key_room x) (caller x process transaction) key value) refl)
  tests-backed process (KvUnset transaction key) =
      active-backed process transaction (kv_unset_tests x.keys (key_room x) (caller x process transaction) key) (silent-backed x (named_id x process (Some transaction)) (kv_unset_tests x.keys (key_room x) (caller x process transaction) key) refl)
  tests-backed process (KvGet view key) = view-backed process view (kv_get_tests x.keys (viewer x process view) key) (λ named. silent-backed x named (kv_get_tests x.keys (viewer x process view) key) refl)
  tests-backed process (KvList view) = view-alone process view
  tests-backed process (CloseHandle label) = silent-backed x None (close_handle_tests x process label) refl
  tests-backed process (DuplicateHandle label from source) = silent-backed x None (duplicate_handle_tests x process label from source) refl
  tests-backed process Exit = tt

-- ---- what each command tells

-- may the command tell an outcome once it is not refused
abbrev is_silent : Command → Bool
is_silent (CommitTransaction label) = false
is_silent (GetTransactionInformation label) = false
is_silent (GetNotificationResourceManager label) = false
is_silent _ = true

silent-effect : (x : Present) (process : Pid) (command : Command) → is_silent command ≡ true → Silent (command_effect x process command)
unfolding create_transaction open_transaction rollback_transaction create_resource_manager open_resource_manager recover_resource_manager create_enlistment open_enlistment pre_prepare_complete prepare_complete read_only_enlistment commit_complete rollback_complete single_phase_reject rollback_enlistment pre_prepare_enlistment prepare_enlistment commit_enlistment recover_enlistment set_information get_information duplicate_handle read_file set_end get_size find_files
silent-effect x process (CreateTransaction label timeout) is = record { told = refl; plain = refl }
silent-effect x process (OpenTransaction label guid) is = silent-open x process label (transaction_with x guid)
silent-effect x process (RollbackTransaction label) is = silent-rollback x (transaction_named x process label)
silent-effect x process (CreateResourceManager label durability) is = record { told = refl; plain = refl }
silent-effect x process (OpenResourceManager label guid) is = silent-open_manager x process label (manager_with x guid)
silent-effect x process (RecoverResourceManager label) is = silent-recover x (manager_named x process label)
silent-effect x process (CreateEnlistment label manager transaction kind) is = silent-enlist x process label (manager_named x process manager) (transaction_named x process transaction) kind
silent-effect x process (OpenEnlistment label manager guid) is = silent-open_enlistment x process label (enlistment_with x (manager_named x process manager) guid)
silent-effect x process (RecoverEnlistment label) is = silent-answering x (enlistment_named x process label) recovery_of
silent-effect x process (PrePrepareComplete label) is = silent-answering x (enlistment_named x process label) (λ e. PhaseInput.PrePrepareComplete)
silent-effect x process (PrepareComplete label) is = silent-answering x (enlistment_named x process label) (λ e. PhaseInput.PrepareComplete)
silent-effect x process (ReadOnlyEnlistment label) is = silent-answering x (enlistment_named x process label) (λ e. PhaseInput.ReadOnly (share_of e))
silent-effect x process (CommitComplete label) is = silent-answering x (enlistment_named x process label) (λ e. PhaseInput.CommitComplete)
silent-effect x process (RollbackComplete label) is = silent-answering x (enlistment_named x process label) (λ e. PhaseInput.RollbackComplete)
silent-effect x process (SinglePhaseReject label) is = silent-answering x (enlistment_named x process label) (λ e. PhaseInput.SinglePhaseReject)
silent-effect x process (RollbackEnlistment label) is = silent-answering x (enlistment_named x process label) (λ e. PhaseInput.Rollback)
silent-effect x process (PrePrepareEnlistment label) is = silent-answering x (enlistment_named x process label) (λ e. PhaseInput.PrePrepare)
silent-effect x process (PrepareEnlistment label) is = silent-answering x (enlistment_named x process label) (λ e. PhaseInput.Prepare)
silent-effect x process (CommitEnlistment label) is = silent-answering x (enlistment_named x process label) (λ e. PhaseInput.Commit)
silent-effect x process (SetEnlistmentRecoveryInformation label information) is = silent-keep x (enlistment_named x process label) information
silent-effect x process (GetEnlistmentRecoveryInformation label) is = silent-contents x (enlistment_named x process label)
silent-effect x process (CreateFile label path access share disposition) is = let says = file-create x.files None path access share disposition in silent-opening x process label None (create_file x.files None path access share disposition) says.told says.plain
silent-effect x process (CreateFileTransacted label path access share disposition transaction) is =
    let who = caller x process transaction in
    let says = file-create x.files who path access share disposition in
    silent-opening x process label who (create_file x.files who path access share disposition) says.told says.plain
silent-effect x process (ReadFile file offset many) is = silent-on_file x (file_named x process file) (λ o. read_file x.files o offset many) (λ o. refl) (λ o. refl)
silent-effect x process (WriteFile file offset bytes) is = silent-on_file x (file_named x process file) (λ o. write_file o offset bytes) (λ o. (says-written o offset bytes).told) (λ o. (says-written o offset bytes).plain)
silent-effect x process (SetEndOfFile file size) is = silent-on_file x (file_named x process file) (λ o. set_end o size) (λ o. refl) (λ o. refl)
silent-effect x process (WriteUnits file start contents) is = silent-on_file x (file_named x process file) (λ o. write_file o start contents) (λ o. (says-written o start contents).told) (λ o. (says-written o start contents).plain)
silent-effect x process (GetFileSizeEx file) is = silent-on_file x (file_named x process file) (λ o. get_size x.files o) (λ o. refl) (λ o. refl)
silent-effect x process (FlushFileBuffers file) is = silent-on_file x (file_named x process file) (λ o. flush_file) (λ o. refl) (λ o. refl)
silent-effect x process (DeleteFile path) is = silent-file x None (delete_file x.files None path) (file-delete x.files None path)
silent-effect x process (CreateDirectory path) is = silent-file x None (create_directory x.files None path) (file-make x.files None path)
silent-effect x process (RemoveDirectory path) is = silent-file x None (remove_directory x.files None path) (file-remove x.files None path)
silent-effect x process (MoveFile source target) is = silent-file x None (move_file x.files None source target) (file-move x.files None source target)
silent-effect x process (DeleteFileTransacted path transaction) is = let who = caller x process transaction in silent-file x who (delete_file x.files who path) (file-delete x.files who path)
silent-effect x process (CreateDirectoryTransacted path transaction) is = let who = caller x process transaction in silent-file x who (create_directory x.files who path) (file-make x.files who path)
silent-effect x process (RemoveDirectoryTransacted path transaction) is = let who = caller x process transaction in silent-file x who (remove_directory x.files who path) (file-remove x.files who path)
silent-effect x process (MoveFileTransacted source target transaction) is = let who = caller x process transaction in silent-file x who (move_file x.files who source target) (file-move x.files who source target)
silent-effect x process (FindFiles searched) is = record { told = refl; plain = refl }
silent-effect x process (FindFilesTransacted searched transaction) is = record { told = refl; plain = refl }
silent-effect x process (KvSet transaction key value) is = record { told = refl; plain = refl }
silent-effect x process (KvUnset transaction key) is = record { told = refl; plain = refl }
silent-effect x process (KvGet view key) is = let value = silent-value (value_seen x.keys (viewer x process view) key) in record { told = value.0; plain = value.1 }
silent-effect x process (KvList view) is = record { told = refl; plain = refl }
silent-effect x process (CloseHandle label) is = silent-close x process label
silent-effect x process (DuplicateHandle label from source) is = silent-bind x process label (object_at x.handles from source)
silent-effect x process Exit is = silent-exit x process
silent-effect x process _ is = absurd (true≢false (sym is))

-- an Id that was counted is one of the system
counted-id : (x : Present) → IsSoundCourse x → (e : Enlistment) → IsIn e x.transactions.enlistments → IsId e.id
counted-id x sound e there =
    let parts = counted-parts x.recorded.boots x.transactions.last_enlistment e.id (list_all-at (λ (e : Enlistment). is_counted x.recorded.boots x.transactions.last_enlistment e.id) x.transactions.enlistments sound.enlistments.counted e there) in
    let boots = leb-true _ _ parts.1 in
    let number = leb-true _ _ parts.3 in
    let fits = sound.numbers.boots_fit in
    record { boot_from = leb-true _ _ parts.0; boot_fits = omega (arith, boots, fits); number_from = leb-true _ _ parts.2; number_fits = omega (arith, number) }

-- two Ids with one GUID are one
guid-one : (kind : ObjectKind) (image : ℕ) (a b : Id) → IsId a → IsId b → guid_of kind image a ≡ guid_of kind image b → a ≡ b
guid-one kind image a b is is' same = sym (id_read kind image a (guid_of kind image b) _ _ is same refl refl) ∙ id_read kind image b (guid_of kind image b) _ _ is' refl refl refl

module _ (x : Present) (sound : IsSoundCourse x) where
  -- the first notification that waits
  takes-replies : (m : Option Manager) (named : Option Id) → ((n : Manager) → m ≡ Some n → IsIn n x.managers) → AreNotesTrue x → Replies x named (take_first x m)
  takes-replies None named there notes = silent-replies x named (only_reply x Done) (silent-done x)
  takes-replies (Some m) named there notes = go m.queue (λ note first. first)
    where
      go : (queue : List Note) → ((note : Note) → IsIn note queue → IsIn note m.queue) → Replies x named (record (only_reply x (note_reply x queue)) { took = Some m.id })
      go [] all = record {
        told = λ id k is tells. absurd (none-some k tells);
        noted = λ kind guid id k is tells found. absurd (no-note Done kind (Some guid) refl is);
      }
      go (note ∷ rest) all = record {
        told = λ id k is tells. absurd (none-some k tells);
        noted = λ kind guid id k is tells found. noted note.enlistment refl kind guid id k is tells found;
      }
        where
          noted : (o : Option Id) → note.enlistment ≡ o → (kind : Notify) (guid : List ℕ) (id : Id) (k : Bool) → Notification note.kind (option_map (guid_in x ObjectKind.Enlistment) o) ≡ Notification kind (Some guid) → told_by kind ≡ Some k
              → enlisted_in x guid ≡ Some id → HasOutcome x.transactions.items id k
          noted None at kind guid id k is tells found = absurd cc
          noted (Some a) at kind guid id k is tells found =
              let kinds : note.kind ≡ kind = cc in
              let guids : guid_in x ObjectKind.Enlistment a ≡ guid = cc in
              let truly = notes.each m note k (there m refl) (all note (inl refl)) (ap told_by kinds ∙ tells) in
              let of : (e : Enlistment) × (find (λ (e : Enlistment). bytes_eq (guid_in x ObjectKind.Enlistment e.id) guid) x.transactions.enlistments ≡ Some e) × (Some e.transaction ≡ Some id) =
              and_then-found (λ (e : Enlistment). Some e.transaction) (find (λ (e : Enlistment). bytes_eq (guid_in x ObjectKind.Enlistment e.id) guid) x.transactions.enlistments) id found in
              let at' = find-in (λ (e : Enlistment). bytes_eq (guid_in x ObjectKind.Enlistment e.id) guid) x.transactions.enlistments of.0 of.1 in
              let a_is : a ≡ truly.enlistment.id = same_Some a truly.enlistment.id (sym at ∙ truly.named) in
              let one : of.0.id ≡ truly.enlistment.id = guid-one ObjectKind.Enlistment x.recorded.image of.0.id truly.enlistment.id (counted-id x sound of.0 at'.0) (counted-id x sound truly.enlistment truly.enlisted)
              ((bytes_eq-Decides (guid_in x ObjectKind.Enlistment of.0.id) guid).0 at'.1 ∙ sym guids ∙ ap (guid_in x ObjectKind.Enlistment) a_is) in
              let same : of.0 ≡ truly.enlistment = same-by_id (λ (e : Enlistment). e.id) x.transactions.enlistments sound.enlistments.rise of.0 truly.enlistment at'.0 truly.enlisted one in
              record { transaction = truly.transaction; there = truly.there; is = truly.own ∙ sym (ap (λ (e : Enlistment). e.transaction) same) ∙ same_Some of.0.transaction id of.2; outcome = truly.outcome }

  information-replies : (id : Option Id) → Replies x id (only_reply x (information_of x (option_and_then (transaction_at x.transactions.items) id)))
  information-replies None = silent-replies x None (only_reply x Done) (silent-done x)
  information-replies (Some named) = go (transaction_at x.transactions.items named) refl
    where
      go : (t : Option Transaction) → transaction_at x.transactions.items named ≡ t → Replies x (Some named) (only_reply x (information_of x t))
      go None found = silent-replies x (Some named) (only_reply x Done) (silent-done x)
      go (Some t) found =
          let at = transaction_at-found x.transactions.items named t found in
          record {
            told = λ id k is tells. record { transaction = t; there = at.0; is = at.1 ∙ same_Some named id is; outcome = tells };
            noted = λ kind guid id k is tells found. absurd (no-note (information_of x (Some t)) kind (Some guid) refl is);
          }

  commit-replies : (id : Option Id) → Passes (transaction_tests (option_and_then (transaction_at x.transactions.items) id)) → IsSoundCourse (apply x (commit_of x (option_and_then (transaction_at x.transactions.items) id)))
      → Replies x id (commit_of x (option_and_then (transaction_at x.transactions.items) id))
  commit-replies None passes after' = silent-replies x None (only_reply x Done) (silent-done x)
  commit-replies (Some named) passes after' = go (transaction_at x.transactions.items named) refl passes after'
    where
      go : (o : Option Transaction) → transaction_at x.transactions.items named ≡ o → Passes (transaction_tests o) → IsSoundCourse (apply x (commit_of x o)) → Replies x (Some named) (commit_of x o)
      go None found passes after' = silent-replies x (Some named) (only_reply x Done) (silent-done x)
      go (Some t) found passes after' =
          let at = transaction_at-found x.transactions.items named t found in
          let here = passed passes in let committed = passed here.1 in let aborted = passed committed.1 in
          commits t at.0 at.1 (undecided-tells t committed.0 aborted.0) after'
        where
          ended : (phase : Phase) → is_ended phase ≡ true → phase ≡ Ended
          ended Ended is = refl
          ended _ is = absurd (true≢false (sym is))

          -- where it has ended, it has committed
          over : (d : Course) → (told_outcome d.transaction.outcome ≡ None) ⊎ (told_outcome d.transaction.outcome ≡ Some true) → is_outcome_of d.transaction.phase d.transaction ≡ true → is_ended d.transaction.phase ≡ true
              → told_outcome d.transaction.outcome ≡ Some true
          over d (inr is) fits end = is
          over d (inl none) fits end = absurd (not-none (or_cases _ _ (subst (λ phase. is_outcome_of phase d.transaction ≡ true) (ended d.transaction.phase end) fits)))
            where
              not-none : (is_committed d.transaction ≡ true) ⊎ (is_aborted d.transaction ≡ true) → ⊥
              not-none (inl is) = none-some true (sym none ∙ committed-tells d.transaction is)
              not-none (inr is) = none-some false (sym none ∙ aborted-tells d.transaction is)

          arrived-replies : (d : Course) → (told_outcome d.transaction.outcome ≡ None) ⊎ (told_outcome d.transaction.outcome ≡ Some true) → IsIn d.transaction (changed_to x.transactions.items d.transaction) → d.transaction.id ≡ named
              → IsSoundCourse (apply x (arrived x d (commit_reply d))) → Replies x (Some named) (arrived x d (commit_reply d))
          arrived-replies d outcome there is after' =
              let reply : (arrived x d (commit_reply d)).reply ≡ commit_reply d = if_cases (λ (o : Outcome). o.reply ≡ commit_reply d) (is_undecided d.transaction) _ _ (λ is. refl) (λ is. refl) in
              let items : (arrived x d (commit_reply d)).transactions.items ≡ changed_to x.transactions.items d.transaction =
              if_cases (λ (o : Outcome). o.transactions.items ≡ changed_to x.transactions.items d.transaction) (is_undecided d.transaction) _ _ (λ is. refl) (λ is. refl) in
              let fits = list_all-at (λ (t : Transaction). is_outcome_of t.phase t) (arrived x d (commit_reply d)).transactions.items after'.transactions.outcomes d.transaction (subst (IsIn d.transaction) (sym items) there) in
              record {
                told = λ id k same tells. subst (λ ts. HasOutcome ts id k) (sym items) (committed id k same (sym (ap told_of_named reply) ∙ tells) fits (cases_Bool (is_ended d.transaction.phase)));
                noted = λ kind guid id k same tells found. absurd (no-note (commit_reply d) kind (Some guid) (plain (is_ended d.transaction.phase)) (sym reply ∙ same));
              }
            where
              plain : (b : Bool) → is_note (if b then Committed else Pending) ≡ false
              plain true = refl
              plain false = refl

              committed : (id : Id) (k : Bool) → Some named ≡ Some id → told_of_named (commit_reply d) ≡ Some k → is_outcome_of d.transaction.phase d.transaction ≡ true → (is_ended d.transaction.phase ≡ true) ⊎ (is_ended d.transaction.phase ≡ false)
                  → HasOutcome (changed_to x.transactions.items d.transaction) id k
              committed id k same tells fits (inr pending) = absurd (none-some k (sym (ap (λ b. told_of_named (if b then Committed else Pending)) pending) ∙ tells))
              committed id k same tells fits (inl end) = record {
                transaction = d.transaction;
                there = there;
                is = is ∙ same_Some named id same;
                outcome = over d outcome fits end ∙ sym (ap (λ b. told_of_named (if b then Committed else Pending)) end) ∙ tells;
              }

          commits : (t : Transaction) → IsIn t x.transactions.items → t.id ≡ named → told_outcome t.outcome ≡ None → IsSoundCourse (apply x (commit_of x (Some t))) → Replies x (Some named) (commit_of x (Some t))
          commits t there is none after' =
              let c = course_of x t None in
              let d = led PhaseInput.CommitTransaction c in
              let id = (stays-led PhaseInput.CommitTransaction c).id in
              let in_items = changed-itself x.transactions.items d.transaction t there (same_id-from t.id d.transaction.id (sym id)) in
              arrived-replies d (subst (λ n. (told_outcome d.transaction.outcome ≡ n) ⊎ (told_outcome d.transaction.outcome ≡ Some true)) none (committed-led c)) in_items (id ∙ is) after'

  effect-replies : (process : Pid) (command : Command) → AreNotesTrue x → Passes (command_tests x process command) → IsSoundCourse (apply x (command_effect x process command)) → Replies x (named_id x process (transaction_label command)) (command_effect x process command)
  unfolding commit_transaction get_transaction_information get_notification
  effect-replies process (CommitTransaction label) notes passes after' = commit-replies (named_id x process (Some label)) passes after'
  effect-replies process (GetTransactionInformation label) notes passes after' = information-replies (named_id x process (Some label))
  effect-replies process (GetNotificationResourceManager label) notes passes after' = takes-replies (manager_named x process label) None (manager-named x process label) notes
  effect-replies process command notes passes after' = silent-replies x (named_id x process (transaction_label command)) (command_effect x process command) (silent-effect x process command refl)

-- ---- every command

module _ (courses : CoursesLaw) (x : Present) (sound : IsSoundCourse x) (notes : AreNotesTrue x) where
  refused-replies : (named : Option Id) (refusal : Option Refusal) (effect : Outcome) → ((r : Refusal) → refusal ≡ Some r → Backed x named r) → (refusal ≡ None → Replies x named effect) → Replies x named (refuse_or x refusal effect)
  refused-replies named None effect backed after' = after' refl
  refused-replies named (Some refusal) effect backed after' = record {
    told = λ id k is tells. backed refusal refl id k is tells;
    noted = λ kind guid id k is tells found. absurd (no-note (Refused refusal) kind (Some guid) refl is);
  }

  pub decided-replies : (process : Pid) (command : Command) → Replies x (named_id x process (transaction_label command)) (decide x process command)
  decided-replies process command =
      let named = named_id x process (transaction_label command) in
      let tests = (not x.machine.is_up, MachineDown) ∷ command_tests x process command in
      refused-replies named (refusal_of x process command) (command_effect x process command)
      (λ r is. first-backed x named tests r (quiet x named MachineDown (not x.machine.is_up) refl, tests-backed x process command) is)
      (λ none.
      let all : Passes tests = record { none = none } in
      effect-replies x sound process command notes (passed all).1
      (subst (λ refusal. IsSoundCourse (apply x (refuse_or x refusal (command_effect x process command)))) none (courses.commands x process command sound)))
