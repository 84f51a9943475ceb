-- Every command of others and the passing of time leave to an undecided transaction what it did to the files.
use Rattle.std.proofs.Common.{◌≡◌, ℕ, ◌==◌, ◌&&◌, not, true, false, List, [], ◌∷◌, ◌++◌, filter, map, Option, Some, None, refl, sym, ◌∙◌, ap, subst, inl, inr}
use Rattle.std.proofs.lemmas.Bool.{cases_Bool, eqb-true, eq-eqb, not_from_false, true≢false}
use Rattle.std.proofs.lemmas.Option.{none-some}
use Rattle.std.specs.Prelude.{option_and_then}
use Rattle.ktm_base.specs.declared.id.Id.{Id}
use Rattle.ktm_base.specs.declared.id.Label.{Label}
use Rattle.ktm_base.specs.declared.id.Pid.{Pid}
use Rattle.ktm_base.specs.declared.refusal.Refusal.{Refusal}
use Rattle.ktm_base.specs.declared.refusal.Refusal.TheVariants.{MachineDown}
use Rattle.ktm_world.specs.declared.change.Change.{Change}
use Rattle.ktm_world.specs.declared.command.Command.{Command}
use Rattle.ktm_world.specs.declared.command.Command.TheVariants.{CreateTransaction, OpenTransaction, CommitTransaction, RollbackTransaction, GetTransactionInformation, CreateResourceManager, OpenResourceManager, RecoverResourceManager, GetNotificationResourceManager, CreateEnlistment, OpenEnlistment, RecoverEnlistment, PrePrepareComplete, PrepareComplete, ReadOnlyEnlistment, CommitComplete, RollbackComplete, SinglePhaseReject, RollbackEnlistment, PrePrepareEnlistment, PrepareEnlistment, CommitEnlistment, SetEnlistmentRecoveryInformation, GetEnlistmentRecoveryInformation, CreateFile, CreateFileTransacted, ReadFile, WriteFile, SetEndOfFile, WriteUnits, GetFileSizeEx, FlushFileBuffers, DeleteFile, CreateDirectory, RemoveDirectory, MoveFile, DeleteFileTransacted, CreateDirectoryTransacted, RemoveDirectoryTransacted, MoveFileTransacted, FindFiles, FindFilesTransacted, KvSet, KvUnset, KvGet, KvList, CloseHandle, DuplicateHandle, Exit}
use Rattle.ktm_world.specs.declared.object.Handle.{Handle}
use Rattle.ktm_world.specs.declared.object.Object.{Object}
use Rattle.ktm_world.specs.declared.object.Object.TheVariants.{Transaction as TransactionObject, Manager as ManagerObject, Enlistment as EnlistmentObject, File as FileObject}
use Rattle.ktm_world.specs.declared.object.Transaction.{Transaction}
use Rattle.ktm_world.specs.declared.options.EnlistmentKind.{EnlistmentKind}
use Rattle.ktm_world.specs.declared.reply.Reply.{Reply}
use Rattle.ktm_world.specs.declared.reply.Reply.TheVariants.{Done, Refused}
use Rattle.ktm_world.specs.Committed.{versions_after}
use Rattle.ktm_world.specs.Changes.{changed}
use Rattle.ktm_world.specs.Conflicts.{written_by, writes}
use Rattle.ktm_world.specs.Decide.{bound_file, caller, command_effect, decide, of_files, on_file, opening, refusal_of}
use Rattle.ktm_world.specs.Enlistments.{Enlistment, Manager}
use Rattle.ktm_world.specs.FileCalls.{create_file, find_files, get_size, read_file, set_end, write_file}
use Rattle.ktm_world.specs.FileOutcome.{FileOutcome, answering, files_after, next_node_after, openings_of, own_after, table_after, with_open, works_of}
use Rattle.ktm_world.specs.Files.{FileTable, FilesNow, OpenFile, Opening, changes_with, committed_files, first_open, own_changes}
use Rattle.ktm_world.specs.HandleCalls.{bind_to, duplicate_handle, has_handle, is_handle, is_of_process, same_object}
use Rattle.ktm_world.specs.Handles.{object_at}
use Rattle.ktm_world.specs.Keys.{OwnSettings, own_settings}
use Rattle.ktm_world.specs.Labels.{enlistment_named, file_named, file_number, manager_named, open_file_at, transaction_named}
use Rattle.ktm_world.specs.Outcome.{Outcome, apply, committed_now, first_refusal, only_reply, refuse_or}
use Rattle.ktm_world.specs.Present.{Present}
use Rattle.ktm_world.specs.TransactionCalls.{arrived, create_enlistment, create_resource_manager, create_transaction, enlist, enlistment_with, get_information, get_notification, get_transaction_information, keep_information, manager_with, open_enlistment, open_resource_manager, open_to_enlistment, open_to_manager, open_to_transaction, open_transaction, recover_all, recover_resource_manager, set_information, take_first, tick, transaction_with}
use Rattle.ktm_world.specs.Transactions.{is_of, is_undecided, same_id}
use Rattle.ktm_world.specs.World.{decide_tick, present}
use Rattle.txf_laws.specs.Elements.{IsIn}
use Rattle.txf_laws.specs.Footprint.{AreFootprintsApart, ListsLaw, footprint}
use Rattle.txf_laws.specs.Formed.{FormedLaw}
use Rattle.txf_laws.specs.Reservations.{IsLeft}
use Rattle.txf_laws.specs.SoundFiles.{IsSoundFiles, is_undecided_in}
use Rattle.ktm_records.specs.FileCallsMade.{FileCallsLaw, IsRightCall, file_call, on_open}
use Rattle.ktm_records.specs.Kept.{IsKept}
use Rattle.ktm_laws.specs.ReservedFiles.{ReservedFilesLaw, closes_handles, is_by, name_file_of, with_opens}
use Rattle.ktm_laws.proofs.LeftFiles.{IsStill, handle-bound, left-committed, left-idle, left-same, left-written, not-of, spared-all, spared-any, still-close, still-exit, still-tick, untouched-without, was-so, was-undecided}
use Rattle.ktm_laws.proofs.Notes.{ByCourse, Comes, comes-effect}
use Rattle.ktm_owned.proofs.offered.EndedTransactions.{AreInOrder, spares-end}
use Rattle.ktm_owned.proofs.offered.OpenCalls.{file-in}
use Rattle.ktm_owned.proofs.offered.OwnedAfterCourses.{bare, end-files, gone, of_one}
use Rattle.ktm_records.proofs.offered.NoMore.{files-left}
use Rattle.ktm_steps.proofs.offered.Ways.{if_cases}
use Rattle.txf_laws.proofs.offered.CommitsOfOthers.{undecided-entry}
use Rattle.txf_laws.proofs.offered.Elements.{IsIn-kept, filter-true, find-in, list_any-from}
use Rattle.txf_laws.proofs.offered.OwnChange.{with-other}
use Rattle.txf_laws.proofs.offered.Reservations.{tree-of}
use Rattle.txf_laws.proofs.offered.Tables.{same_id-sym}

-- ---- open files

-- a file of another one is open too
written-behind : (opens : List OpenFile) (f : OpenFile) (id : Id) → is_of id f.transaction ≡ false → written_by (opens ++ f ∷ []) id ≡ written_by opens id
written-behind [] f id other = rw other refl
written-behind (g ∷ gs) f id other = elim (cases_Bool (is_of id g.transaction && writes g.access)) [
  | inl is ↦ rw is (ap (λ ns. g.node ∷ ns) (written-behind gs f id other))
  | inr not' ↦ rw not' (written-behind gs f id other)
]

written-open : (table : FileTable) (opened : Option OpenFile) (id : Id) → ((f : OpenFile) → opened ≡ Some f → is_of id f.transaction ≡ false) → written_by (with_open table opened).opens id ≡ written_by table.opens id
written-open table None id other = refl
written-open table (Some f) id other = written-behind table.opens f id (other f refl)

own-open : (table : FileTable) (opened : Option OpenFile) → (with_open table opened).own ≡ table.own
own-open table None = refl
own-open table (Some f) = refl

-- what a plain call makes of the files
files-of : (x : Present) (o : FileOutcome) → (apply x (of_files x None o)).files ≡ files_after x.files None o
files-of x o = go o.change
  where
    firsts : filter (λ f. true) (x.files.first_opens ++ map (first_open (committed_now x)) (openings_of None o.first)) ≡ x.files.first_opens ++ map (first_open (committed_files x.files [])) (openings_of None o.first)
    firsts = filter-true (x.files.first_opens ++ map (first_open (committed_now x)) (openings_of None o.first))

    go : (change : Option Change) → (apply x (of_files x None (record o { change = change }))).files ≡ files_after x.files None (record o { change = change })
    go None i = record { tree = x.files.tree; versions = x.files.versions; first_opens = firsts i; table = table_after x.files None (record o { change = None }) }
    go (Some c) i = record { tree = changed x.files.tree c; versions = versions_after x.files.versions c; first_opens = firsts i; table = table_after x.files None (record o { change = Some c }) }

-- no call that is made in another transaction opens a file in this one
other-openings : (id : Id) (who : Option Id) (first : Option ℕ) → is_of id who ≡ false → (f : Opening) → IsIn f (openings_of who first) → same_id f.transaction id ≡ false
other-openings id None None other f there = absurd there
other-openings id None (Some file) other f there = absurd there
other-openings id (Some i) None other f there = absurd there
other-openings id (Some i) (Some file) other f (inl e) = subst (λ (g : Opening). same_id g.transaction id ≡ false) e (same_id-sym id i other)
other-openings id (Some i) (Some file) other f (inr none) = absurd none

-- a file that a label names is not open in the transaction where the label's handle names none of its files
named-other : (lists : ListsLaw) (formed : FormedLaw) (x : Present) (id : Id) (process : Pid) (label : Label) → name_file_of x id (filter (is_handle process label) x.handles) ≡ false → (f : OpenFile) → file_named x process label ≡ Some f
    → is_of id f.transaction ≡ false
named-other lists formed x id process label none f found = not-of x id (filter (is_handle process label) x.handles) none f (file-in lists formed x process label f found) (go (object_at x.handles process label) refl found)
  where
    go : (o : Option Object) → object_at x.handles process label ≡ o → option_and_then (open_file_at x.files.table.opens) (file_number o) ≡ Some f → has_handle (filter (is_handle process label) x.handles) (FileObject f.number) ≡ true
    go None bound is = absurd (none-some f is)
    go (Some (TransactionObject t)) bound is = absurd (none-some f is)
    go (Some (ManagerObject m)) bound is = absurd (none-some f is)
    go (Some (EnlistmentObject e)) bound is = absurd (none-some f is)
    go (Some (FileObject n)) bound is =
        let h = handle-bound x.handles process label (FileObject n) bound in
        list_any-from (λ (g : Handle). same_object g.object (FileObject f.number)) (filter (is_handle process label) x.handles) h.0 (IsIn-kept (is_handle process label) x.handles h.0 h.1 h.2)
        (subst (λ (o : Object). same_object o (FileObject f.number) ≡ true) (sym h.3) (eq-eqb n f.number (sym (eqb-true _ _ (find-in (λ o. o.number == n) x.files.table.opens f is).1))))

module _ (lists : ListsLaw) (formed : FormedLaw) (calls : FileCallsLaw) (x : Present) (kept : IsKept x) (id : Id) (before : is_undecided_in x.transactions.items id ≡ true) where
  sound : IsSoundFiles x
  sound = kept.sound.files

  -- all is left by an outcome after which the transaction is undecided
  abbrev Leaves : Outcome → Type 0
  Leaves o = is_undecided_in o.transactions.items id ≡ true → IsLeft x.files (apply x o).files id

  leaves : (o : Outcome) → o.works ≡ [] → o.openings ≡ [] → o.forgotten ≡ [] → o.table ≡ x.files.table → IsLeft x.files (apply x o).files id
  leaves o works openings forgotten table = left-same x sound (apply x o).files id (files-left x o works openings forgotten table)

  replies : (reply : Reply) → IsLeft x.files (apply x (only_reply x reply)).files id
  replies reply = leaves (only_reply x reply) refl refl refl refl

  -- ---- courses

  arrives : {o : Outcome} (by : ByCourse x o) → Leaves (arrived x by.course by.reply)
  arrives by = if_cases Leaves (is_undecided by.course.transaction) the_bare the_gone
      (λ now after. leaves the_bare (went now) refl refl refl)
      (λ decided after.
      let was = was-undecided x.transactions.items order.transactions_rise by.transaction by.course.transaction by.there by.own.id (was-so by.transaction mine ss by.course by.own) id after in
      let other = was.1 decided in
      let ended = untouched-without id x the_gone by.course.transaction.id other refl refl refl in
      left-written x.files (apply x the_gone).files id ended.1 (elim by.own.works [
        | inl none ↦ left-idle lists x sound id the_gone ended.0 none
        | inr (w, one, changes, settings) ↦
            let spares = spares-end lists formed x order sound by.transaction by.there in
            let v = undecided-entry x.transactions.items id before in
            left-committed lists x sound id the_gone ended.0 mine spares.all
            (subst (λ i. AreFootprintsApart (footprint x.files.tree mine) (footprint x.files.tree (own_changes x.files.table.own i))) v.2 (spares.apart v.0 v.1
            (not_from_false _ (subst (λ i. same_id by.transaction.id i ≡ false) (sym v.2) (subst (λ i. same_id i id ≡ false) by.own.id other)))))
            (ap (λ (fs : FilesNow). fs.tree) (end-files lists formed x order sound by.transaction by.there ss by.course by.reply by.own mine (of_one x by.course.works w mine one changes)) ∙ tree-of mine (committed_files x.files []))
      ]))
    where
      order : AreInOrder x
      order = record { transactions_rise = kept.sound.course.transactions.rise; labels_differ = kept.sound.course.handles.labels_differ }

      mine : List Change
      mine = own_changes x.files.table.own by.transaction.id

      ss : OwnSettings
      ss = own_settings x.keys.own by.transaction.id

      the_bare : Outcome
      the_bare = bare lists formed x order sound by.transaction by.there ss by.course by.reply by.own

      the_gone : Outcome
      the_gone = gone lists formed x order sound by.transaction by.there ss by.course by.reply by.own

      went : is_undecided by.course.transaction ≡ true → by.course.works ≡ []
      went now = elim by.own.outcome [ inl decided ↦ absurd (true≢false (sym now ∙ decided)) | inr (none, was) ↦ none ]

  comes : (o : Outcome) → Comes x o → Leaves o
  comes o (inl (reply, is)) = subst Leaves (sym is) (λ after. replies reply)
  comes o (inr by) = subst Leaves (sym by.is) (arrives by)

  -- ---- calls on files

  -- a call of another one that commits nothing
  keeps-apart : (who : Option Id) (o : FileOutcome) → is_of id who ≡ false → IsRightCall x who o → works_of who o.change ≡ [] → own_changes (own_after x.files who o.change) id ≡ own_changes x.files.table.own id
      → IsLeft x.files (apply x (of_files x who o)).files id
  keeps-apart who o other right works own =
      let table : FileTable = record x.files.table { own = own_after x.files who o.change; next_node = next_node_after x.files.table.next_node o.change } in
      left-written x.files (apply x (of_files x who o)).files id
      (written-open table o.opened id (λ f is. ap (is_of id) (right.opened f is).0 ∙ other))
      (left-idle lists x sound id (of_files x who o) (record { openings = other-openings id who o.first other; forgotten = refl; own = ap (λ os. own_changes os id) (own-open table o.opened) ∙ own }) works)

  plain-leaves : (o : FileOutcome) → IsRightCall x None o → IsLeft x.files (apply x (of_files x None o)).files id
  plain-leaves o right = go o.change refl
    where
      go : (change : Option Change) → o.change ≡ change → IsLeft x.files (apply x (of_files x None o)).files id
      go None is = keeps-apart None o refl right (ap (works_of None) is) (ap (λ c. own_changes (own_after x.files None c) id) is)
      go (Some c) is =
          let v = undecided-entry x.transactions.items id before in
          subst (λ fs. IsLeft x.files fs id) (sym (files-of x o)) (subst (λ i. IsLeft x.files (files_after x.files None o) i) v.2 (right.leaves c v.0 refl is v.1))

  other-leaves : (other : Id) (o : FileOutcome) → same_id id other ≡ false → IsRightCall x (Some other) o → IsLeft x.files (apply x (of_files x (Some other) o)).files id
  other-leaves other o apart right = go o.change refl
    where
      go : (change : Option Change) → o.change ≡ change → IsLeft x.files (apply x (of_files x (Some other) o)).files id
      go None is = keeps-apart (Some other) o apart right (ap (works_of (Some other)) is) (ap (λ c. own_changes (own_after x.files (Some other) c) id) is)
      go (Some c) is = keeps-apart (Some other) o apart right (ap (works_of (Some other)) is)
          (ap (λ c. own_changes (own_after x.files (Some other) c) id) is ∙ with-other x.files.table.own other (changes_with x.files other c) id (same_id-sym id other apart))

  call-leaves : (who : Option Id) (o : FileOutcome) → is_of id who ≡ false → IsRightCall x who o → IsLeft x.files (apply x (of_files x who o)).files id
  call-leaves None o apart right = plain-leaves o right
  call-leaves (Some other) o apart right = other-leaves other o apart right

  opening-leaves : (process : Pid) (label : Label) (who : Option Id) (o : FileOutcome) → IsLeft x.files (apply x (of_files x who o)).files id → IsLeft x.files (apply x (opening x process label who o)).files id
  opening-leaves process label who o left = go o.opened
    where
      go : (opened : Option OpenFile) → IsLeft x.files (apply x (bound_file process label opened (of_files x who o))).files id
      go None = left
      go (Some f) = left

  open-leaves : (o : Option OpenFile) (call : OpenFile → FileOutcome) → ((f : OpenFile) → o ≡ Some f → (is_of id f.transaction ≡ false) × IsRightCall x f.transaction (call f)) → IsLeft x.files (apply x (on_file x o call)).files id
  open-leaves None call other = replies Done
  open-leaves (Some f) call other = call-leaves f.transaction (call f) (other f refl).0 (other f refl).1

  -- a call that only answers
  answers : (who : Option Id) (reply : Reply) → IsLeft x.files (apply x (of_files x who (answering reply))).files id
  answers None reply = leaves (of_files x None (answering reply)) refl refl refl refl
  answers (Some i) reply = leaves (of_files x (Some i) (answering reply)) refl refl refl refl

  asks : (o : Option OpenFile) (call : OpenFile → Reply) → IsLeft x.files (apply x (on_file x o (λ f. answering (call f)))).files id
  asks None call = replies Done
  asks (Some f) call = answers f.transaction (call f)

  -- ---- objects

  opens_transaction : (process : Pid) (label : Label) (t : Option Transaction) → IsLeft x.files (apply x (open_to_transaction x process label t)).files id
  opens_transaction process label None = replies Done
  opens_transaction process label (Some t) = leaves (open_to_transaction x process label (Some t)) refl refl refl refl

  opens_manager : (process : Pid) (label : Label) (m : Option Manager) → IsLeft x.files (apply x (open_to_manager x process label m)).files id
  opens_manager process label None = replies Done
  opens_manager process label (Some m) = leaves (open_to_manager x process label (Some m)) refl refl refl refl

  opens_enlistment : (process : Pid) (label : Label) (e : Option Enlistment) → IsLeft x.files (apply x (open_to_enlistment x process label e)).files id
  opens_enlistment process label None = replies Done
  opens_enlistment process label (Some e) = leaves (open_to_enlistment x process label (Some e)) refl refl refl refl

  binds : (process : Pid) (label : Label) (object : Option Object) → IsLeft x.files (apply x (bind_to x process label object)).files id
  binds process label None = replies Done
  binds process label (Some object) = leaves (bind_to x process label (Some object)) refl refl refl refl

  recovers : (m : Option Manager) → IsLeft x.files (apply x (recover_all x m)).files id
  recovers None = replies Done
  recovers (Some m) = leaves (recover_all x (Some m)) refl refl refl refl

  takes : (m : Option Manager) → IsLeft x.files (apply x (take_first x m)).files id
  takes None = replies Done
  takes (Some m) = leaves (take_first x (Some m)) refl refl refl refl

  enlists : (process : Pid) (label : Label) (m : Option Manager) (t : Option Transaction) (kind : EnlistmentKind) → IsLeft x.files (apply x (enlist x process label m t kind)).files id
  enlists process label (Some m) (Some t) kind = leaves (enlist x process label (Some m) (Some t) kind) refl refl refl refl
  enlists process label None t kind = replies Done
  enlists process label (Some m) None kind = replies Done

  keeps_information : (e : Option Enlistment) (information : List ℕ) → IsLeft x.files (apply x (keep_information x e information)).files id
  keeps_information None information = replies Done
  keeps_information (Some e) information = leaves (keep_information x (Some e) information) refl refl refl refl

  -- ---- every call

  stays : (o : Outcome) → IsStill true id x o → Leaves o
  stays o still after = let q = still.quiet kept.sound.course.transactions.rise after in left-written x.files (apply x o).files id (q.written refl) (left-idle lists x sound id o q.untouched q.works)

  module _ (process : Pid) where
    -- a call on a file that a label names
    by-label : (label : Label) (command : Command) (call : OpenFile → FileOutcome) → ((f : OpenFile) → file_named x process label ≡ Some f → file_call x process command ≡ Some (f.transaction, call f)) → refusal_of x process command ≡ None
        → name_file_of x id (filter (is_handle process label) x.handles) ≡ false → IsLeft x.files (apply x (on_file x (file_named x process label) call)).files id
    by-label label command call made none other = open-leaves (file_named x process label) call (λ f found. (
      named-other lists formed x id process label other f found,
      calls x process command f.transaction (call f) kept none (made f found),
    ))

    effect : (command : Command) → refusal_of x process command ≡ None → is_by x process command id ≡ false → Leaves (command_effect x process command)
    unfolding create_transaction open_transaction get_transaction_information create_resource_manager open_resource_manager recover_resource_manager get_notification create_enlistment open_enlistment set_information get_information duplicate_handle read_file get_size find_files
    effect (CreateTransaction label timeout) none other after = leaves (command_effect x process (CreateTransaction label timeout)) refl refl refl refl
    effect (OpenTransaction label guid) none other after = opens_transaction process label (transaction_with x guid)
    effect (CommitTransaction label) none other after = comes _ (comes-effect x kept.sound.course process (CommitTransaction label) refl) after
    effect (RollbackTransaction label) none other after = comes _ (comes-effect x kept.sound.course process (RollbackTransaction label) refl) after
    effect (GetTransactionInformation label) none other after = leaves (command_effect x process (GetTransactionInformation label)) refl refl refl refl
    effect (CreateResourceManager label durability) none other after = leaves (command_effect x process (CreateResourceManager label durability)) refl refl refl refl
    effect (OpenResourceManager label guid) none other after = opens_manager process label (manager_with x guid)
    effect (RecoverResourceManager label) none other after = recovers (manager_named x process label)
    effect (GetNotificationResourceManager label) none other after = takes (manager_named x process label)
    effect (CreateEnlistment label manager transaction kind) none other after = enlists process label (manager_named x process manager) (transaction_named x process transaction) kind
    effect (OpenEnlistment label manager guid) none other after = opens_enlistment process label (enlistment_with x (manager_named x process manager) guid)
    effect (RecoverEnlistment label) none other after = comes _ (comes-effect x kept.sound.course process (RecoverEnlistment label) refl) after
    effect (PrePrepareComplete label) none other after = comes _ (comes-effect x kept.sound.course process (PrePrepareComplete label) refl) after
    effect (PrepareComplete label) none other after = comes _ (comes-effect x kept.sound.course process (PrepareComplete label) refl) after
    effect (ReadOnlyEnlistment label) none other after = comes _ (comes-effect x kept.sound.course process (ReadOnlyEnlistment label) refl) after
    effect (CommitComplete label) none other after = comes _ (comes-effect x kept.sound.course process (CommitComplete label) refl) after
    effect (RollbackComplete label) none other after = comes _ (comes-effect x kept.sound.course process (RollbackComplete label) refl) after
    effect (SinglePhaseReject label) none other after = comes _ (comes-effect x kept.sound.course process (SinglePhaseReject label) refl) after
    effect (RollbackEnlistment label) none other after = comes _ (comes-effect x kept.sound.course process (RollbackEnlistment label) refl) after
    effect (PrePrepareEnlistment label) none other after = comes _ (comes-effect x kept.sound.course process (PrePrepareEnlistment label) refl) after
    effect (PrepareEnlistment label) none other after = comes _ (comes-effect x kept.sound.course process (PrepareEnlistment label) refl) after
    effect (CommitEnlistment label) none other after = comes _ (comes-effect x kept.sound.course process (CommitEnlistment label) refl) after
    effect (SetEnlistmentRecoveryInformation label information) none other after = keeps_information (enlistment_named x process label) information
    effect (GetEnlistmentRecoveryInformation label) none other after = leaves (command_effect x process (GetEnlistmentRecoveryInformation label)) refl refl refl refl
    effect (CreateFile label path access share disposition) none other after =
        let o = create_file x.files None path access share disposition in
        opening-leaves process label None o (call-leaves None o refl (calls x process (CreateFile label path access share disposition) None o kept none refl))
    effect (CreateFileTransacted label path access share disposition transaction) none other after =
        let who = caller x process transaction in
        let o = create_file x.files who path access share disposition in
        opening-leaves process label who o (call-leaves who o other (calls x process (CreateFileTransacted label path access share disposition transaction) who o kept none refl))
    effect (ReadFile file offset many) none other after = asks (file_named x process file) _
    effect (WriteFile file offset bytes) none other after = by-label file (WriteFile file offset bytes) (λ f. write_file f offset bytes) (λ f found. ap (λ o. on_open o (λ f. write_file f offset bytes)) found) none other
    effect (SetEndOfFile file size) none other after = by-label file (SetEndOfFile file size) (λ f. set_end f size) (λ f found. ap (λ o. on_open o (λ f. set_end f size)) found) none other
    effect (WriteUnits file start contents) none other after = by-label file (WriteUnits file start contents) (λ f. write_file f start contents) (λ f found. ap (λ o. on_open o (λ f. write_file f start contents)) found) none other
    effect (GetFileSizeEx file) none other after = asks (file_named x process file) _
    effect (FlushFileBuffers file) none other after = asks (file_named x process file) _
    effect (DeleteFile path) none other after = call-leaves None _ refl (calls x process (DeleteFile path) None _ kept none refl)
    effect (CreateDirectory path) none other after = call-leaves None _ refl (calls x process (CreateDirectory path) None _ kept none refl)
    effect (RemoveDirectory path) none other after = call-leaves None _ refl (calls x process (RemoveDirectory path) None _ kept none refl)
    effect (MoveFile source target) none other after = call-leaves None _ refl (calls x process (MoveFile source target) None _ kept none refl)
    effect (DeleteFileTransacted path transaction) none other after = call-leaves (caller x process transaction) _ other (calls x process (DeleteFileTransacted path transaction) _ _ kept none refl)
    effect (CreateDirectoryTransacted path transaction) none other after = call-leaves (caller x process transaction) _ other (calls x process (CreateDirectoryTransacted path transaction) _ _ kept none refl)
    effect (RemoveDirectoryTransacted path transaction) none other after = call-leaves (caller x process transaction) _ other (calls x process (RemoveDirectoryTransacted path transaction) _ _ kept none refl)
    effect (MoveFileTransacted source target transaction) none other after = call-leaves (caller x process transaction) _ other (calls x process (MoveFileTransacted source target transaction) _ _ kept none refl)
    effect (FindFiles searched) none other after = answers None (find_files x.files None searched).reply
    effect (FindFilesTransacted searched transaction) none other after = answers (caller x process transaction) (find_files x.files (caller x process transaction) searched).reply
    effect (KvSet transaction key value) none other after = leaves (command_effect x process (KvSet transaction key value)) refl refl refl refl
    effect (KvUnset transaction key) none other after = leaves (command_effect x process (KvUnset transaction key)) refl refl refl refl
    effect (KvGet view key) none other after = leaves (command_effect x process (KvGet view key)) refl refl refl refl
    effect (KvList view) none other after = leaves (command_effect x process (KvList view)) refl refl refl refl
    effect (CloseHandle label) none other after = stays _ (still-close true id x process label (spared-all true id x (is_handle process label) other)) after
    effect (DuplicateHandle label from source) none other after = binds process label (object_at x.handles from source)
    effect Exit none other after = stays _ (still-exit true id x process (spared-all true id x (is_of_process process) other)) after

    -- all is left to it but that it may write the files that end
    abbrev LeavesRest : Outcome → Type 0
    LeavesRest o = is_undecided_in o.transactions.items id ≡ true → IsLeft (with_opens x.files o.table.opens) (apply x o).files id

    ends : (o : Outcome) → IsStill false id x o → LeavesRest o
    ends o still after = let q = still.quiet kept.sound.course.transactions.rise after in left-idle lists x sound id o q.untouched q.works

    closing : (command : Command) → closes_handles command ≡ true → LeavesRest (command_effect x process command)
    closing (CloseHandle label) is = ends _ (still-close false id x process label (spared-any false id x (is_handle process label) refl))
    closing Exit is = ends _ (still-exit false id x process (spared-any false id x (is_of_process process) refl))
    closing _ is = absurd (true≢false (sym is))

  -- ---- what is decided

  -- where a call is refused, the files are as they were
  decided : (P : Outcome → Type 0) → ((reply : Reply) → P (only_reply x reply)) → (refusal : Option Refusal) (effect : Outcome) → (refusal ≡ None → P effect) → P (refuse_or x refusal effect)
  decided P left (Some refusal) effect is = left (Refused refusal)
  decided P left None effect is = is refl

  left-command : (process : Pid) (command : Command) → is_by x process command id ≡ false → Leaves (decide x process command)
  left-command process command other = decided Leaves (λ reply after. replies reply) (refusal_of x process command) (command_effect x process command) (λ none. effect process command none other)

  left-closing : (process : Pid) (command : Command) → closes_handles command ≡ true → LeavesRest process (decide x process command)
  left-closing process command closes = decided (LeavesRest process) (λ reply after. replies reply) (refusal_of x process command) (command_effect x process command) (λ none. closing process command closes)

  left-tick : (ms : ℕ) → Leaves (decide_tick x ms)
  left-tick ms = decided Leaves (λ reply after. replies reply) (first_refusal ((not x.machine.is_up, MachineDown) ∷ [])) (tick x ms) (λ none after.
      let q = (still-tick true id x ms).quiet kept.sound.course.transactions.rise after in
      left-written x.files (apply x (tick x ms)).files id (q.written refl)
      (left-idle lists x sound id (tick x ms) (record { openings = q.untouched.openings; forgotten = q.untouched.forgotten; own = q.untouched.own }) q.works))

pub reserved_files_law : ListsLaw → FormedLaw → FileCallsLaw → ReservedFilesLaw
reserved_files_law lists formed calls = record {
  commands = λ x process command id kept stays other. left-command lists formed calls x kept id stays.before process command other stays.after;
  closings = λ x process command id kept stays closes. left-closing lists formed calls x kept id stays.before process command closes stays.after;
  ticks = λ x ms id kept stays. left-tick lists formed calls x kept id stays.before ms stays.after;
  falls = λ w power id kept. left-same (present w) kept.sound.files (present (record w { power = power })).files id refl;
}
