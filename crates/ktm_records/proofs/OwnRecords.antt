-- What each command records: at most six events of what it changes or of what one transaction has to commit, or rollbacks alone; and the keys that
-- transactions have set and commit stay texts.
use Rattle.std.specs.Prelude.{⊤}
use Rattle.std.proofs.Common.{◌≡◌, ℕ, ◌≤◌, ◌<◌, ◌^◌, not, Bool, true, List, [], ◌∷◌, length, Option, Some, None, refl, sym, subst, arith, inl, inr, ◌⊎◌, ap}
use Rattle.std.proofs.lemmas.Bool.{ltb-false}
use Rattle.std.specs.List.{AllByRecursion, list_all}
use Rattle.ktm_base.specs.declared.id.Id.{Id}
use Rattle.ktm_base.specs.declared.id.Label.{Label}
use Rattle.ktm_base.specs.declared.id.Pid.{Pid}
use Rattle.ktm_base.specs.declared.refusal.Refusal.{Refusal}
use Rattle.ktm_base.specs.declared.refusal.Refusal.TheVariants.{MachineDown}
use Rattle.ktm_world.specs.declared.change.Change.{Change}
use Rattle.ktm_world.specs.declared.change.Change.TheVariants.{Cut}
use Rattle.ktm_world.specs.declared.command.Command.{Command}
use Rattle.ktm_world.specs.declared.command.Command.TheVariants.{CreateTransaction, OpenTransaction, CommitTransaction, RollbackTransaction, GetTransactionInformation, CreateResourceManager, OpenResourceManager, RecoverResourceManager, GetNotificationResourceManager, CreateEnlistment, OpenEnlistment, RecoverEnlistment, PrePrepareComplete, PrepareComplete, ReadOnlyEnlistment, CommitComplete, RollbackComplete, SinglePhaseReject, RollbackEnlistment, PrePrepareEnlistment, PrepareEnlistment, CommitEnlistment, SetEnlistmentRecoveryInformation, GetEnlistmentRecoveryInformation, CreateFile, CreateFileTransacted, ReadFile, WriteFile, SetEndOfFile, WriteUnits, GetFileSizeEx, FlushFileBuffers, DeleteFile, CreateDirectory, RemoveDirectory, MoveFile, DeleteFileTransacted, CreateDirectoryTransacted, RemoveDirectoryTransacted, MoveFileTransacted, FindFiles, FindFilesTransacted, KvSet, KvUnset, KvGet, KvList, CloseHandle, DuplicateHandle, Exit}
use Rattle.ktm_world.specs.declared.event.Event.{Event}
use Rattle.ktm_world.specs.declared.object.Object.{Object}
use Rattle.ktm_world.specs.declared.object.Transaction.{Transaction}
use Rattle.ktm_world.specs.declared.options.Access.{Access}
use Rattle.ktm_world.specs.declared.options.Disposition.{Disposition}
use Rattle.ktm_world.specs.declared.options.Durability.{Durability}
use Rattle.ktm_world.specs.declared.options.EnlistmentKind.{EnlistmentKind}
use Rattle.ktm_world.specs.declared.options.ShareMode.{ShareMode}
use Rattle.ktm_world.specs.declared.reply.Reply.{Reply}
use Rattle.ktm_world.specs.declared.reply.Reply.TheVariants.{Done, Refused}
use Rattle.ktm_world.specs.Values.{IsGiven, IsText}
use Rattle.ktm_world.specs.declared.input.PhaseInput.{PhaseInput}
use Rattle.ktm_world.specs.Decide.{bound_file, caller, command_effect, command_tests, decide, events_of, of_files, of_keys, on_file, on_file_tests, opening, own_tests}
use Rattle.ktm_world.specs.Committed.{Work}
use Rattle.ktm_world.specs.Enlistments.{Enlistment, Manager}
use Rattle.ktm_world.specs.FileCalls.{Whereabouts, no_path, no_way, free, at_root, at_node, create_at, create_directory, create_file, delete_file, drop_at, empties, find_files, find_path, flush_file, get_size, make_at, move_at, move_file, read_file, remove_directory, set_end, write_file, write_file_tests}
use Rattle.ktm_world.specs.FileOutcome.{FileOutcome, works_of}
use Rattle.ktm_world.specs.Files.{OpenFile, own_changes, tree_seen}
use Rattle.ktm_world.specs.HandleCalls.{bind_to, duplicate_handle}
use Rattle.ktm_world.specs.Handles.{object_at}
use Rattle.ktm_world.specs.KeyCalls.{with_setting}
use Rattle.ktm_world.specs.Keys.{OwnSettings, own_settings}
use Rattle.ktm_world.specs.Labels.{enlistment_named, file_named, file_tests, manager_named, transaction_named}
use Rattle.ktm_world.specs.Outcome.{Outcome, apply, first_refusal, only_reply, refuse_or}
use Rattle.ktm_world.specs.Phases.{Course}
use Rattle.ktm_world.specs.Present.{Present}
use Rattle.ktm_world.specs.TransactionCalls.{answering, arrived, commit_complete, commit_enlistment, commit_of, commit_reply, commit_transaction, course_of, create_enlistment, create_resource_manager, create_transaction, enlist, enlistment_with, get_information, get_notification, get_transaction_information, keep_information, manager_with, open_enlistment, open_resource_manager, open_to_enlistment, open_to_manager, open_to_transaction, open_transaction, pre_prepare_complete, pre_prepare_enlistment, prepare_complete, prepare_enlistment, read_only_enlistment, recover_all, recover_enlistment, recover_resource_manager, rollback_complete, rollback_enlistment, rollback_of, rollback_transaction, set_information, single_phase_reject, take_first, tick, transaction_with, recovery_of}
use Rattle.ktm_world.specs.Steps.{led, share_of}
use Rattle.ktm_world.specs.Transactions.{is_undecided}
use Rattle.ktm_world.specs.Uses.{file_room}
use Rattle.ktm_world.specs.World.{decide_tick}
use Rattle.ktm_steps.proofs.offered.Recorded.{all-append}
use Rattle.ktm_courses.proofs.offered.Calls.{Passes, passed, of-answering}
use Rattle.ktm_courses.proofs.offered.FileSteps.{passes-right}
use Rattle.ktm_records.specs.Spelling.{HaveTextKeys}
use Rattle.ktm_records.proofs.offered.AgreementOfCourses.{arrival}
use Rattle.ktm_records.proofs.OwnEvents.{IsOwnEvent, IsSpelledPut, few-led, own-led}
use Rattle.ktm_records.proofs.CommittedTexts.{TextWorks, texts-led}
use Rattle.ktm_records.proofs.OwnTexts.{Texts, texts-none, texts-own_settings, texts-with_own, texts-without_own}
use Rattle.ktm_records.proofs.offered.AgreementOfRollbacks.{is_undo, undoes-aborted, undoes-closing}
use Rattle.ktm_courses.proofs.offered.HandlesAndTime.{Closes, close_handle-so, exit-so, tick-so}
use Rattle.ktm_steps.proofs.offered.Ways.{if_cases}

-- ---- texts

-- the keys that transactions have set are texts after an outcome, and so are those that it commits
pub record HasTexts (o : Outcome) : Type 0 where
  pub own : Texts o.own
  pub works : TextWorks o.works

-- an outcome leaves the keys that transactions have set texts, and commits texts
abbrev pub KeepsTexts : Present → Outcome → Type 0
KeepsTexts x o = Texts x.keys.own → HasTexts o

own-arrived : (x : Present) (d : Course) (reply : Reply) → Texts x.keys.own → Texts (arrived x d reply).own
own-arrived x d reply texts = if_cases (λ (o : Outcome). Texts o.own) (is_undecided d.transaction) _ _ (λ is. texts) (λ known. texts-without_own x.keys.own d.transaction.id texts)

texts-arrived : (x : Present) (input : PhaseInput) (t : Transaction) (caller : Option Enlistment) (reply : Reply) → KeepsTexts x (arrived x (led input (course_of x t caller)) reply)
texts-arrived x input t caller reply texts =
    let c = course_of x t caller in
    record {
      own = own-arrived x (led input c) reply texts;
      works = subst TextWorks (sym (arrival x (led input c) reply).works) (texts-led input c (texts-own_settings x.keys.own t.id texts) tt);
    }

texts-setting : (x : Present) (who : Option Id) (key : List ℕ) (value : Option (List ℕ)) → IsText key → Texts x.keys.own → Texts (with_setting x.keys.own who key value)
texts-setting x None key value text texts = texts
texts-setting x (Some id) key value text texts = texts-with_own x.keys.own id key value text texts

-- ---- rollbacks

-- an outcome records rollbacks alone
record Rolls (x : Present) (o : Outcome) : Type 0 where
  texts : KeepsTexts x o
  undos : list_all is_undo o.events ≡ true

rolls-same : (x : Present) (o : Outcome) → o.own ≡ x.keys.own → o.works ≡ [] → o.events ≡ [] → Rolls x o
rolls-same x o own works none = record {
  texts = λ texts. record { own = subst Texts (sym own) texts; works = subst TextWorks (sym works) tt };
  undos = ap (list_all is_undo) none;
}

rolls-reply : (x : Present) (reply : Reply) → Rolls x (only_reply x reply)
rolls-reply x reply = rolls-same x (only_reply x reply) refl refl refl

rolls-back : (x : Present) (t : Transaction) (caller : Option Enlistment) (reply : Reply) → Rolls x (arrived x (led PhaseInput.Rollback (course_of x t caller)) reply)
rolls-back x t caller reply = record {
  texts = texts-arrived x PhaseInput.Rollback t caller reply;
  undos = undoes-aborted x t caller reply;
}

rolls-closing : Closes (λ x. ⊤) Rolls
rolls-closing = record {
  rolls = record {
    reply = λ x asked. rolls-reply x Done;
    rolls = λ x t asked there can. rolls-back x t None Done;
    goes_on = λ x a next first second. let rest = second tt in record {
      texts = λ texts.
          let before = first.texts texts in let after = rest.texts before.own in
          record { own = after.own; works = all-append (λ (w : Work). HaveTextKeys w.settings) a.works (next (apply x a)).works before.works after.works };
      undos = undoes-closing.rolls.goes_on x a next first.undos (λ asked. rest.undos);
    };
  };
  unbinds = λ x process label asked. rolls-same x _ refl refl refl;
  ends = λ x number asked. rolls-same x _ refl refl refl;
}

rolls-tick : (x : Present) (ms : ℕ) → Rolls x (tick x ms)
rolls-tick x ms = let rest = tick-so _ _ rolls-closing.rolls x ms tt in record { texts = rest.texts; undos = rest.undos }

-- ---- what an outcome records

-- the contents of a change, if there is one, have bytes
abbrev IsPut : Option Change → Type 0
IsPut None = ⊤
IsPut (Some change) = IsSpelledPut change

module _ (Files : List Change → Type 0) (Keys : OwnSettings → Type 0) where
  -- what each transaction has to commit is so
  pub record Owned (x : Present) : Type 0 where
    pub files : (id : Id) → Files (own_changes x.files.table.own id)
    pub keys : (id : Id) → Keys (own_settings x.keys.own id)

-- the keys stay texts where this is so, by which a command has texts, and few enough bytes
module _ (Files : List Change → Type 0) (Keys : OwnSettings → Type 0) (Asked : Type 0) where
  -- rollbacks alone, or at most six events that are so
  abbrev pub IsShortGroup : List Event → Type 0
  IsShortGroup events = (list_all is_undo events ≡ true) ⊎ (AllByRecursion (IsOwnEvent Files Keys Asked) events × (length events ≤ 6))

  -- an outcome records such a group, and leaves the keys texts
  pub record Does (x : Present) (o : Outcome) : Type 0 where
    pub texts : Asked → KeepsTexts x o
    pub group : IsShortGroup o.events

  does-rolled : (x : Present) (o : Outcome) → Rolls x o → Does x o
  does-rolled x o rolls = record { texts = λ asked. rolls.texts; group = inl rolls.undos }

  does-same : (x : Present) (o : Outcome) → o.own ≡ x.keys.own → o.works ≡ [] → o.events ≡ [] → Does x o
  does-same x o own works none = does-rolled x o (rolls-same x o own works none)

  does-reply : (x : Present) (reply : Reply) → Does x (only_reply x reply)
  does-reply x reply = does-same x (only_reply x reply) refl refl refl

  module _ (x : Present) (owned : Owned Files Keys x) where
    -- a row of any transaction
    does-led : (input : PhaseInput) (t : Transaction) (caller : Option Enlistment) (reply : Reply) → Does x (arrived x (led input (course_of x t caller)) reply)
    does-led input t caller reply =
        let c = course_of x t caller in
        record {
          texts = λ asked. texts-arrived x input t caller reply;
          group = subst IsShortGroup (sym (arrival x (led input c) reply).events) (inr (own-led Files Keys Asked input c refl (owned.files t.id) (owned.keys t.id), few-led input c refl));
        }

    does-commit : (o : Option Transaction) → Does x (commit_of x o)
    does-commit None = does-reply x Done
    does-commit (Some t) = does-led PhaseInput.CommitTransaction t None (commit_reply (led PhaseInput.CommitTransaction (course_of x t None)))

    does-rollback : (o : Option Transaction) → Does x (rollback_of x o)
    does-rollback None = does-reply x Done
    does-rollback (Some t) = does-rolled x _ (rolls-back x t None Done)

    does-answering : (o : Option Enlistment) (input : Enlistment → PhaseInput) → Does x (answering x o input)
    does-answering o input = of-answering (Does x) x o input (does-reply x Done) (λ e is t there own found. does-led (input e) t (Some e) Done)

    -- ---- objects

    opened-transaction : (process : Pid) (label : Label) (t : Option Transaction) → Does x (open_to_transaction x process label t)
    opened-transaction process label None = does-reply x Done
    opened-transaction process label (Some t) = does-same x _ refl refl refl

    opened-manager : (process : Pid) (label : Label) (m : Option Manager) → Does x (open_to_manager x process label m)
    opened-manager process label None = does-reply x Done
    opened-manager process label (Some m) = does-same x _ refl refl refl

    opened-enlistment : (process : Pid) (label : Label) (e : Option Enlistment) → Does x (open_to_enlistment x process label e)
    opened-enlistment process label None = does-reply x Done
    opened-enlistment process label (Some e) = does-same x _ refl refl refl

    enlisted : (process : Pid) (label : Label) (m : Option Manager) (t : Option Transaction) (kind : EnlistmentKind) → Does x (enlist x process label m t kind)
    enlisted process label (Some m) (Some t) kind = does-same x _ refl refl refl
    enlisted process label None t kind = does-reply x Done
    enlisted process label (Some m) None kind = does-reply x Done

    told : (m : Option Manager) → Does x (recover_all x m)
    told None = does-reply x Done
    told (Some m) = does-same x _ refl refl refl

    taken : (m : Option Manager) → Does x (take_first x m)
    taken None = does-reply x Done
    taken (Some m) = does-same x _ refl refl refl

    bound : (process : Pid) (label : Label) (object : Option Object) → Does x (bind_to x process label object)
    bound process label None = does-reply x Done
    bound process label (Some object) = does-same x _ refl refl refl

    informed : (e : Option Enlistment) (information : List ℕ) → Does x (keep_information x e information)
    informed None information = does-reply x Done
    informed (Some e) information = does-same x _ refl refl refl

    made : (process : Pid) (label : Label) (durability : Durability) → Does x (create_resource_manager x process label durability)
    unfolding create_resource_manager
    made process label Durability.Volatile = does-same x _ refl refl refl
    made process label Durability.Durable = record { texts = λ asked texts. record { own = texts; works = tt }; group = inr ((tt, tt), omega arith) }

    -- ---- files

    does-of_files : (who : Option Id) (o : FileOutcome) → (Asked → IsPut o.change) → Does x (of_files x who o)
    does-of_files (Some id) o put = does-same x _ refl refl refl
    does-of_files None o put = record { texts = λ asked texts. record { own = texts; works = works o.change }; group = go o.change put }
      where
        works : (change : Option Change) → TextWorks (works_of None change)
        works None = tt
        works (Some change) = (texts-none, tt)

        go : (change : Option Change) → (Asked → IsPut change) → IsShortGroup (events_of None change)
        go None put' = inl refl
        go (Some change) put' = inr ((put', tt), omega arith)

    does-files : (who : Option Id) (o : FileOutcome) → IsPut o.change → Does x (of_files x who o)
    does-files who o put = does-of_files who o (λ asked. put)

    does-opening : (process : Pid) (label : Label) (who : Option Id) (o : FileOutcome) → IsPut o.change → Does x (opening x process label who o)
    does-opening process label who o put = go o.opened
      where
        files : Does x (of_files x who o)
        files = does-files who o put

        go : (opened : Option OpenFile) → Does x (bound_file process label opened (of_files x who o))
        go None = files
        go (Some file) = record { texts = λ asked texts. let has = files.texts asked texts in record { own = has.own; works = has.works }; group = files.group }

    does-on_file : (o : Option OpenFile) (call : OpenFile → FileOutcome) → ((f : OpenFile) → o ≡ Some f → IsPut (call f).change) → Does x (on_file x o call)
    does-on_file None call put = does-reply x Done
    does-on_file (Some f) call put = does-files f.transaction (call f) (put f refl)

    put-created : (who : Option Id) (path : List ℕ) (access : Access) (mode : ShareMode) (d : Disposition) → IsPut (create_file x.files who path access mode d).change
    unfolding create_file
    put-created who path access mode d = go (find_path (tree_seen x.files who) path)
      where
        go : (w : Whereabouts) → IsPut (create_at x.files who w access mode d).change
        go (free directory name) = tt
        go (at_node node) = if_cases IsPut (empties d) (Some (Cut node.number 0 [])) None (λ is. tt) (λ other. tt)
        go no_path = tt
        go no_way = tt
        go at_root = tt

    put-dropped : (w : Whereabouts) → IsPut (drop_at w).change
    put-dropped (at_node node) = tt
    put-dropped (free directory name) = tt
    put-dropped no_path = tt
    put-dropped no_way = tt
    put-dropped at_root = tt

    put-deleted : (who : Option Id) (path : List ℕ) → IsPut (delete_file x.files who path).change
    unfolding delete_file
    put-deleted who path = put-dropped (find_path (tree_seen x.files who) path)

    put-removed : (who : Option Id) (path : List ℕ) → IsPut (remove_directory x.files who path).change
    unfolding remove_directory
    put-removed who path = put-dropped (find_path (tree_seen x.files who) path)

    put-directory : (who : Option Id) (path : List ℕ) → IsPut (create_directory x.files who path).change
    unfolding create_directory
    put-directory who path = go (find_path (tree_seen x.files who) path)
      where
        go : (w : Whereabouts) → IsPut (make_at x.files w).change
        go (free directory name) = tt
        go (at_node node) = tt
        go no_path = tt
        go no_way = tt
        go at_root = tt

    put-moved : (who : Option Id) (source target : List ℕ) → IsPut (move_file x.files who source target).change
    unfolding move_file
    put-moved who source target = go (find_path (tree_seen x.files who) source) (find_path (tree_seen x.files who) target)
      where
        go : (from to : Whereabouts) → IsPut (move_at from to).change
        go (at_node node) (free directory name) = tt
        go (at_node node) (at_node other) = tt
        go (at_node node) no_path = tt
        go (at_node node) no_way = tt
        go (at_node node) at_root = tt
        go (free directory name) to = tt
        go no_path to = tt
        go no_way to = tt
        go at_root to = tt

    put-read : (o : OpenFile) (offset many : ℕ) → IsPut (read_file x.files o offset many).change
    unfolding read_file
    put-read o offset many = tt

    put-sized : (o : OpenFile) → IsPut (get_size x.files o).change
    unfolding get_size
    put-sized o = tt

    put-found : (who : Option Id) (searched : List ℕ) → IsPut (find_files x.files who searched).change
    unfolding find_files
    put-found who searched = tt

    put-cut : (o : OpenFile) (size : ℕ) → IsPut (set_end o size).change
    unfolding set_end
    put-cut o size = tt

    put-written : (o : OpenFile) (offset : ℕ) (bytes : List ℕ) → length bytes < 2 ^ 32 → IsPut (write_file o offset bytes).change
    unfolding write_file
    put-written o offset [] few = tt
    put-written o offset (b ∷ bs) few = (omega arith, few)

    does-write : (o : Option OpenFile) (offset : ℕ) (bytes : List ℕ) → ((f : OpenFile) → o ≡ Some f → Asked → length bytes < 2 ^ 32) → Does x (on_file x o (λ f. write_file f offset bytes))
    does-write None offset bytes few = does-reply x Done
    does-write (Some f) offset bytes few = does-of_files f.transaction (write_file f offset bytes) (λ asked. put-written f offset bytes (few f refl asked))

    -- what WriteFile writes at once
    few-written : (process : Pid) (label : Label) (offset : ℕ) (bytes : List ℕ) → Passes (on_file_tests x process label (λ o. write_file_tests x.files (file_room x) o offset bytes))
        → (o : OpenFile) → file_named x process label ≡ Some o → length bytes < 2 ^ 32
    unfolding write_file_tests
    few-written process label offset bytes passes o named =
        let tests : Passes (own_tests (Some o) (λ o. write_file_tests x.files (file_room x) o offset bytes)) = rw named at (passes-right (file_tests x process label) _ passes) in
        let few = ltb-false 65536 (length bytes) (passed tests).0 in
        omega (arith, few)

    -- ---- keys

    does-setting : (who : Option Id) (key : List ℕ) (value : Option (List ℕ)) → (Asked → IsText key) → Does x (of_keys x (record { reply = Done; own = with_setting x.keys.own who key value }))
    does-setting who key value text = record { texts = λ asked texts. record { own = texts-setting x who key value (text asked) texts; works = tt }; group = inl refl }

    -- ---- every call

    does-command : (process : Pid) (command : Command) → (Asked → IsGiven command) → Passes (command_tests x process command) → Does x (command_effect x process command)
    unfolding create_transaction open_transaction commit_transaction rollback_transaction get_transaction_information open_resource_manager recover_resource_manager get_notification create_enlistment open_enlistment recover_enlistment pre_prepare_complete prepare_complete read_only_enlistment commit_complete rollback_complete single_phase_reject rollback_enlistment pre_prepare_enlistment prepare_enlistment commit_enlistment set_information get_information duplicate_handle
    does-command process (CreateTransaction label timeout) is passes = does-same x _ refl refl refl
    does-command process (OpenTransaction label guid) is passes = opened-transaction process label (transaction_with x guid)
    does-command process (CommitTransaction label) is passes = does-commit (transaction_named x process label)
    does-command process (RollbackTransaction label) is passes = does-rollback (transaction_named x process label)
    does-command process (GetTransactionInformation label) is passes = does-same x _ refl refl refl
    does-command process (CreateResourceManager label durability) is passes = made process label durability
    does-command process (OpenResourceManager label guid) is passes = opened-manager process label (manager_with x guid)
    does-command process (RecoverResourceManager label) is passes = told (manager_named x process label)
    does-command process (GetNotificationResourceManager label) is passes = taken (manager_named x process label)
    does-command process (CreateEnlistment label manager transaction kind) is passes = enlisted process label (manager_named x process manager) (transaction_named x process transaction) kind
    does-command process (OpenEnlistment label manager guid) is passes = opened-enlistment process label (enlistment_with x (manager_named x process manager) guid)
    does-command process (RecoverEnlistment label) is passes = does-answering (enlistment_named x process label) recovery_of
    does-command process (PrePrepareComplete label) is passes = does-answering (enlistment_named x process label) (λ e. PhaseInput.PrePrepareComplete)
    does-command process (PrepareComplete label) is passes = does-answering (enlistment_named x process label) (λ e. PhaseInput.PrepareComplete)
    does-command process (ReadOnlyEnlistment label) is passes = does-answering (enlistment_named x process label) (λ e. PhaseInput.ReadOnly (share_of e))
    does-command process (CommitComplete label) is passes = does-answering (enlistment_named x process label) (λ e. PhaseInput.CommitComplete)
    does-command process (RollbackComplete label) is passes = does-answering (enlistment_named x process label) (λ e. PhaseInput.RollbackComplete)
    does-command process (SinglePhaseReject label) is passes = does-answering (enlistment_named x process label) (λ e. PhaseInput.SinglePhaseReject)
    does-command process (RollbackEnlistment label) is passes = does-answering (enlistment_named x process label) (λ e. PhaseInput.Rollback)
    does-command process (PrePrepareEnlistment label) is passes = does-answering (enlistment_named x process label) (λ e. PhaseInput.PrePrepare)
    does-command process (PrepareEnlistment label) is passes = does-answering (enlistment_named x process label) (λ e. PhaseInput.Prepare)
    does-command process (CommitEnlistment label) is passes = does-answering (enlistment_named x process label) (λ e. PhaseInput.Commit)
    does-command process (SetEnlistmentRecoveryInformation label information) is passes = informed (enlistment_named x process label) information
    does-command process (GetEnlistmentRecoveryInformation label) is passes = does-same x _ refl refl refl
    does-command process (CreateFile label path access share disposition) is passes = does-opening process label None (create_file x.files None path access share disposition) (put-created None path access share disposition)
    does-command process (CreateFileTransacted label path access share disposition transaction) is passes =
        let who = caller x process transaction in does-opening process label who (create_file x.files who path access share disposition) (put-created who path access share disposition)
    does-command process (ReadFile file offset many) is passes = does-on_file (file_named x process file) (λ o. read_file x.files o offset many) (λ o found. put-read o offset many)
    does-command process (WriteFile file offset bytes) is passes = does-write (file_named x process file) offset bytes (λ o named asked. few-written process file offset bytes passes o named)
    does-command process (SetEndOfFile file size) is passes = does-on_file (file_named x process file) (λ o. set_end o size) (λ o found. put-cut o size)
    does-command process (WriteUnits file start contents) is passes = does-write (file_named x process file) start contents (λ o named asked. (is asked).2)
    does-command process (GetFileSizeEx file) is passes = does-on_file (file_named x process file) (λ o. get_size x.files o) (λ o found. put-sized o)
    does-command process (FlushFileBuffers file) is passes = does-on_file (file_named x process file) (λ o. flush_file) (λ o found. tt)
    does-command process (DeleteFile path) is passes = does-files None (delete_file x.files None path) (put-deleted None path)
    does-command process (CreateDirectory path) is passes = does-files None (create_directory x.files None path) (put-directory None path)
    does-command process (RemoveDirectory path) is passes = does-files None (remove_directory x.files None path) (put-removed None path)
    does-command process (MoveFile source target) is passes = does-files None (move_file x.files None source target) (put-moved None source target)
    does-command process (DeleteFileTransacted path transaction) is passes = let who = caller x process transaction in does-files who (delete_file x.files who path) (put-deleted who path)
    does-command process (CreateDirectoryTransacted path transaction) is passes = let who = caller x process transaction in does-files who (create_directory x.files who path) (put-directory who path)
    does-command process (RemoveDirectoryTransacted path transaction) is passes = let who = caller x process transaction in does-files who (remove_directory x.files who path) (put-removed who path)
    does-command process (MoveFileTransacted source target transaction) is passes = let who = caller x process transaction in does-files who (move_file x.files who source target) (put-moved who source target)
    does-command process (FindFiles searched) is passes = does-files None (find_files x.files None searched) (put-found None searched)
    does-command process (FindFilesTransacted searched transaction) is passes = let who = caller x process transaction in does-files who (find_files x.files who searched) (put-found who searched)
    does-command process (KvSet transaction key value) is passes = does-setting (caller x process transaction) key (Some value) (λ asked. (is asked).1)
    does-command process (KvUnset transaction key) is passes = does-setting (caller x process transaction) key None (λ asked. (is asked).1)
    does-command process (KvGet view key) is passes = does-same x _ refl refl refl
    does-command process (KvList view) is passes = does-same x _ refl refl refl
    does-command process (CloseHandle label) is passes = does-rolled x _ (close_handle-so _ _ rolls-closing x process label tt)
    does-command process (DuplicateHandle label from source) is passes = bound process label (object_at x.handles from source)
    does-command process Exit is passes = does-rolled x _ (exit-so _ _ rolls-closing x process tt)

    -- refused or not
    does-refuse_or : (tests : List (Bool × Refusal)) (effect : Outcome) → (Passes tests → Does x effect) → Does x (refuse_or x (first_refusal tests) effect)
    does-refuse_or tests effect is = go (first_refusal tests) refl
      where
        go : (refusal : Option Refusal) → first_refusal tests ≡ refusal → Does x (refuse_or x refusal effect)
        go (Some refusal) refused = does-reply x (Refused refusal)
        go None none = is (record { none = none })

    pub does-decided : (process : Pid) (command : Command) → (Asked → IsGiven command) → Does x (decide x process command)
    does-decided process command is = does-refuse_or ((not x.machine.is_up, MachineDown) ∷ command_tests x process command) (command_effect x process command) (λ passes. does-command process command is (passed passes).1)

    pub does-tick : (ms : ℕ) → Does x (decide_tick x ms)
    does-tick ms = does-refuse_or ((not x.machine.is_up, MachineDown) ∷ []) (tick x ms) (λ passes. does-rolled x _ (rolls-tick x ms))
