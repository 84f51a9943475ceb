-- What a command commits applies to what is committed, and what it records puts no empty contents.
use Rattle.std.specs.Prelude.{if◌then◌else◌, ⊤}
use Rattle.std.proofs.Common.{◌≡◌, ℕ, ◌==◌, not, Bool, true, false, List, [], ◌∷◌, ◌++◌, filter, Option, Some, None, refl, sym, ◌∙◌, ap, subst, inl, inr, ◌⊎◌}
use Rattle.std.proofs.lemmas.Bool.{and_from, eq-eqb, not-true, true≢false}
use Rattle.std.proofs.lemmas.List.Folds.{list_all-append}
use Rattle.std.proofs.lemmas.Option.{none-some, same_Some}
use Rattle.std.specs.List.{list_all}
use Rattle.ktm_base.specs.declared.id.Id.{Id}
use Rattle.ktm_base.specs.declared.id.Label.{Label}
use Rattle.ktm_base.specs.declared.id.Pid.{Pid}
use Rattle.ktm_base.specs.declared.refusal.Refusal.{Refusal}
use Rattle.ktm_base.specs.declared.refusal.Refusal.TheVariants.{MachineDown}
use Rattle.ktm_world.specs.declared.change.Change.{Change}
use Rattle.ktm_world.specs.declared.change.Change.TheVariants.{Make, Put, Cut, Move, Drop}
use Rattle.ktm_world.specs.declared.change.Contents.TheVariants.{Whole}
use Rattle.ktm_world.specs.declared.change.NodeKind.TheVariants.{File, Directory}
use Rattle.ktm_world.specs.declared.command.Command.{Command}
use Rattle.ktm_world.specs.declared.command.Command.TheVariants.{CreateTransaction, OpenTransaction, CommitTransaction, RollbackTransaction, GetTransactionInformation, CreateResourceManager, OpenResourceManager, RecoverResourceManager, GetNotificationResourceManager, CreateEnlistment, OpenEnlistment, RecoverEnlistment, PrePrepareComplete, PrepareComplete, ReadOnlyEnlistment, CommitComplete, RollbackComplete, SinglePhaseReject, RollbackEnlistment, PrePrepareEnlistment, PrepareEnlistment, CommitEnlistment, SetEnlistmentRecoveryInformation, GetEnlistmentRecoveryInformation, CreateFile, CreateFileTransacted, ReadFile, WriteFile, SetEndOfFile, WriteUnits, GetFileSizeEx, FlushFileBuffers, DeleteFile, CreateDirectory, RemoveDirectory, MoveFile, DeleteFileTransacted, CreateDirectoryTransacted, RemoveDirectoryTransacted, MoveFileTransacted, FindFiles, FindFilesTransacted, KvSet, KvUnset, KvGet, KvList, CloseHandle, DuplicateHandle, Exit}
use Rattle.ktm_world.specs.declared.event.Event.{Event}
use Rattle.ktm_world.specs.declared.event.Event.TheVariants.{MadeRm, Undo}
use Rattle.ktm_world.specs.declared.input.PhaseInput.{PhaseInput}
use Rattle.ktm_world.specs.declared.object.Object.{Object}
use Rattle.ktm_world.specs.declared.object.Object.TheVariants.{File as FileObject}
use Rattle.ktm_world.specs.declared.object.Transaction.{Transaction}
use Rattle.ktm_world.specs.declared.options.Access.{Access}
use Rattle.ktm_world.specs.declared.options.Disposition.{Disposition}
use Rattle.ktm_world.specs.declared.options.Durability.{Durability}
use Rattle.ktm_world.specs.declared.options.EnlistmentKind.{EnlistmentKind}
use Rattle.ktm_world.specs.declared.options.ShareMode.{ShareMode}
use Rattle.ktm_world.specs.declared.reply.Reply.{Reply}
use Rattle.ktm_world.specs.declared.reply.Reply.TheVariants.{Refused, Done}
use Rattle.ktm_world.specs.Changes.{applies, changes_apply, is_make, node_of, changes_bytes}
use Rattle.ktm_world.specs.Committed.{Work}
use Rattle.ktm_world.specs.Conflicts.{writes}
use Rattle.ktm_world.specs.Decide.{decide, caller, transacted, command_tests, command_effect, refusal_of, of_files, opening, on_file, on_file_tests, own_tests, bound_file}
use Rattle.ktm_world.specs.Enlistments.{Enlistment, Manager}
use Rattle.ktm_world.specs.FileCalls.{Whereabouts, no_path, no_way, free, at_root, at_node, find_path, empties, create_at, create_file, create_file_tests, read_file, write_file, write_units_tests, set_end, set_end_tests, get_size, flush_file, drop_at, delete_file, delete_file_tests, make_at, create_directory, create_directory_tests, remove_directory, remove_directory_tests, move_at, move_file, move_file_tests, find_files}
use Rattle.ktm_world.specs.FileOutcome.{FileOutcome, answering, changing}
use Rattle.ktm_world.specs.Files.{FirstOpen, OpenFile, OwnChanges, own_changes, FilesNow}
use Rattle.ktm_world.specs.HandleCalls.{close_handle, exit, bind_to, duplicate_handle}
use Rattle.ktm_world.specs.Handles.{object_at}
use Rattle.ktm_world.specs.Holds.{is_in}
use Rattle.ktm_world.specs.Labels.{transaction_named, manager_named, enlistment_named, file_named, binding}
use Rattle.ktm_world.specs.Outcome.{Outcome, apply, only_reply, refuse_or, first_refusal}
use Rattle.ktm_world.specs.Phases.{event_if}
use Rattle.ktm_world.specs.Present.{Present}
use Rattle.ktm_world.specs.Steps.{led}
use Rattle.ktm_world.specs.TransactionCalls.{course_of, new_id, create_transaction, transaction_with, open_to_transaction, open_transaction, aborted_by, get_transaction_information, tick, bound_test, is_durable, create_resource_manager, manager_with, open_to_manager, open_resource_manager, recover_all, recover_resource_manager, take_first, get_notification, enlist, create_enlistment, enlistment_with, open_to_enlistment, open_enlistment, keep_information, set_information, get_information}
use Rattle.ktm_world.specs.Transactions.{is_undecided}
use Rattle.ktm_world.specs.Tree.{Tree, is_file}
use Rattle.ktm_world.specs.Uses.{file_room}
use Rattle.ktm_world.specs.World.{decide_tick}
use Rattle.txf_laws.specs.Elements.{IsIn}
use Rattle.txf_laws.specs.Footprint.{ListsLaw}
use Rattle.txf_laws.specs.Formed.{FormedLaw}
use Rattle.txf_laws.specs.Contents.{puts_some}
use Rattle.ktm_courses.specs.SoundCourse.{IsSoundCourse}
use Rattle.txf_laws.specs.SoundFiles.{IsSoundFiles, is_drawn_node, numbers_made}
use Rattle.ktm_records.proofs.offered.AgreementOfRollbacks.{rollback-undone}
use Rattle.ktm_records.proofs.offered.PlainFacts.{MayLand, lands-none, lands-one, lands-created, may-land}
use Rattle.txf_laws.proofs.offered.ChangeTests.{applies-from}
use Rattle.ktm_courses.proofs.offered.Calls.{Passes, passed}
use Rattle.ktm_courses.proofs.offered.FileSteps.{units-pass}
use Rattle.txf_laws.proofs.offered.Elements.{IsIn-flat_map, IsIn-kept, list_all-at, list_any-from, not-not}
use Rattle.ktm_laws.proofs.Notes.{Comes, comes-effect}
use Rattle.ktm_owned.proofs.offered.OpenCalls.{file-in, own-passes, lands-written}
use Rattle.ktm_owned.proofs.offered.OwnCalls.{caller-may}
use Rattle.ktm_owned.proofs.offered.PlainCalls.{plain-deleted, plain-removed, plain-made, plain-moved}
use Rattle.txf_laws.proofs.offered.Reservations.{own-apply, own_changes-by}
use Rattle.ktm_laws.proofs.Sayings.{puts_all}
use Rattle.ktm_owned.proofs.offered.SeenFiles.{below-next}
use Rattle.ktm_courses.proofs.offered.HandlesAndTime.{Closes, close_handle-so, exit-so, tick-so}
use Rattle.ktm_steps.proofs.offered.Ways.{if_cases}

-- ---- what is committed

-- no change makes a node that a transaction has first opened
pub record MakesNone (x : Present) (cs : List Change) : Type 0 where
  pub none : (o : FirstOpen) → IsIn o x.files.first_opens → (c : Change) → IsIn c cs → is_make c ≡ true → node_of c ≡ o.file → ⊥

-- at most one work is committed, which applies
pub record IsWritten (x : Present) (o : Outcome) : Type 0 where
  pub works : (o.works ≡ []) ⊎ ((w : Work) × (o.works ≡ w ∷ []) × (changes_apply x.files.tree w.changes ≡ true) × MakesNone x w.changes)
  pub openings : (o.openings ≡ []) ⊎ (o.works ≡ [])
  pub puts : list_all puts_all o.events ≡ true

-- nothing is committed
pub record IsIdle (o : Outcome) : Type 0 where
  pub works : o.works ≡ []
  pub openings : o.openings ≡ []
  pub puts : list_all puts_all o.events ≡ true

written-idle : (x : Present) (o : Outcome) → IsIdle o → IsWritten x o
written-idle x o idle = record { works = inl idle.works; openings = inl idle.openings; puts = idle.puts }

written-reply : (x : Present) (reply : Reply) → IsWritten x (only_reply x reply)
written-reply x reply = record { works = inl refl; openings = inl refl; puts = refl }

written-bound : (x : Present) (process : Pid) (label : Label) (object : Object) (o : Outcome) → IsWritten x o → IsWritten x (binding process label object o)
written-bound x process label object o is = record { works = is.works; openings = is.openings; puts = is.puts }

-- ---- handles and time

idle-reply : (x : Present) (reply : Reply) → IsIdle (only_reply x reply)
idle-reply x reply = record { works = refl; openings = refl; puts = refl }

idle-aborted : (x : Present) (t : Transaction) → IsIdle (aborted_by x t None Done)
idle-aborted x t = if_cases (λ o. IsIdle o) (is_undecided (led PhaseInput.Rollback (course_of x t None)).transaction) _ _ (λ is. record { works = same.0; openings = refl; puts = puts }) (λ is. record { works = same.0; openings = refl; puts = puts })
  where
    same : ((led PhaseInput.Rollback (course_of x t None)).works ≡ []) × ((led PhaseInput.Rollback (course_of x t None)).events ≡ event_if t.is_recorded (Undo t.id))
    same = let undone = rollback-undone (course_of x t None) in (undone.works, undone.events)

    undone : (b : Bool) → list_all puts_all (event_if b (Undo t.id)) ≡ true
    undone true = refl
    undone false = refl

    puts : list_all puts_all (led PhaseInput.Rollback (course_of x t None)).events ≡ true
    puts = ap (list_all puts_all) same.1 ∙ undone t.is_recorded

idle-closing : Closes (λ x. ⊤) (λ x o. IsIdle o)
idle-closing = record {
  rolls = record {
    reply = λ x asked. idle-reply x Done;
    rolls = λ x t asked there can. idle-aborted x t;
    goes_on = λ x a next first second. let rest = second tt in record {
      works = (λ i. first.works i ++ rest.works i);
      openings = (λ i. first.openings i ++ rest.openings i);
      puts = list_all-append puts_all a.events (next (apply x a)).events ∙ and_from _ _ first.puts rest.puts;
    };
  };
  unbinds = λ x process label asked. record { works = refl; openings = refl; puts = refl };
  ends = λ x number asked. record { works = refl; openings = refl; puts = refl };
}

-- ---- calls on files, and courses

-- contents that a change puts are not empty, where there is a change
abbrev PutsSome : Option Change → Type 0
PutsSome o = (c : Change) → o ≡ Some c → puts_some c ≡ true

puts-none : PutsSome None
puts-none c none = absurd (none-some c none)

puts-one : (c : Change) → puts_some c ≡ true → PutsSome (Some c)
puts-one c puts d is = ap puts_some (sym (same_Some c d is)) ∙ puts

puts-dropped : (w : Whereabouts) → PutsSome (drop_at w).change
puts-dropped (at_node node) = puts-one (Drop node.number) refl
puts-dropped no_path = puts-none
puts-dropped no_way = puts-none
puts-dropped (free directory name) = puts-none
puts-dropped at_root = puts-none

puts-made : (files : FilesNow) (w : Whereabouts) → PutsSome (make_at files w).change
puts-made files (free directory name) = puts-one (Make files.table.next_node directory Directory name) refl
puts-made files (at_node node) = puts-none
puts-made files no_path = puts-none
puts-made files no_way = puts-none
puts-made files at_root = puts-none

puts-moved : (v w : Whereabouts) → PutsSome (move_at v w).change
puts-moved (at_node node) (free directory name) = puts-one (Move node.number directory name) refl
puts-moved (at_node node) no_path = puts-none
puts-moved (at_node node) no_way = puts-none
puts-moved (at_node node) at_root = puts-none
puts-moved (at_node node) (at_node other) = puts-none
puts-moved no_path w = puts-none
puts-moved no_way w = puts-none
puts-moved (free directory name) w = puts-none
puts-moved at_root w = puts-none

puts-created : (files : FilesNow) (w : Whereabouts) (access : Access) (mode : ShareMode) (d : Disposition) → PutsSome (create_at files None w access mode d).change
puts-created files (free directory name) access mode d = puts-one (Make files.table.next_node directory File name) refl
puts-created files (at_node node) access mode d = go (empties d)
  where
    go : (b : Bool) → PutsSome (if b then Some (Cut node.number 0 []) else None)
    go true = puts-one (Cut node.number 0 []) refl
    go false = puts-none
puts-created files no_path access mode d = puts-none
puts-created files no_way access mode d = puts-none
puts-created files at_root access mode d = puts-none

module _ (lists : ListsLaw) (formed : FormedLaw) (x : Present) (course : IsSoundCourse x) (sound : IsSoundFiles x) where
  -- what a transaction keeps
  written-own : (id : Id) (o : FileOutcome) → IsWritten x (of_files x (Some id) o)
  written-own id o = go o.change
    where
      go : (change : Option Change) → IsWritten x (of_files x (Some id) (record o { change = change }))
      go None = record { works = inl refl; openings = inr refl; puts = refl }
      go (Some c) = record { works = inl refl; openings = inr refl; puts = refl }

  -- what a plain call commits
  written-plain : (o : FileOutcome) → MayLand x o.change → PutsSome o.change → IsWritten x (of_files x None o)
  written-plain o may puts = go o.change may puts
    where
      go : (change : Option Change) → MayLand x change → PutsSome change → IsWritten x (of_files x None (record o { change = change }))
      go None may puts = record { works = inl refl; openings = inl refl; puts = refl }
      go (Some c) may puts =
          let lands = may c refl in
          record {
            works = inr (
              record { transaction = None; changes = c ∷ []; settings = [] },
              refl,
              and_from _ _ lands.applies refl,
              record {
                none = λ f there d here make at. elim here [
                  | inl e ↦ below-next x f.file (list_all-at (λ (p : FirstOpen). is_drawn_node x.files p.file) x.files.first_opens sound.first_drawn f there)
                      (sym at ∙ sym (ap node_of e) ∙ lands.fresh (ap is_make e ∙ make))
                  | inr none ↦ absurd none
                ];
              },
            );
            openings = inl refl;
            puts = and_from _ _ (and_from _ _ (puts c refl) refl) refl;
          }

  written-opening : (process : Pid) (label : Label) (who : Option Id) (o : FileOutcome) → IsWritten x (of_files x who o) → IsWritten x (opening x process label who o)
  written-opening process label who o is = go o.opened
    where
      go : (opened : Option OpenFile) → IsWritten x (bound_file process label opened (of_files x who o))
      go None = is
      go (Some file) = written-bound x process label (FileObject file.number) (of_files x who o) is

  deletes : (path : List ℕ) (test : Bool × Refusal) → first_refusal (test ∷ delete_file_tests x.files (file_room x) None path) ≡ None → IsWritten x (of_files x None (delete_file x.files None path))
  unfolding delete_file
  deletes path test none = written-plain (delete_file x.files None path) (may-land x _ (plain-deleted lists formed x path test none sound)) (puts-dropped (find_path x.files.tree path))

  removes : (path : List ℕ) (test : Bool × Refusal) → first_refusal (test ∷ remove_directory_tests x.files (file_room x) None path) ≡ None → IsWritten x (of_files x None (remove_directory x.files None path))
  unfolding remove_directory
  removes path test none = written-plain (remove_directory x.files None path) (may-land x _ (plain-removed lists formed x path test none sound)) (puts-dropped (find_path x.files.tree path))

  creates-directory : (path : List ℕ) (test : Bool × Refusal) → first_refusal (test ∷ create_directory_tests x.files (file_room x) None path) ≡ None → IsWritten x (of_files x None (create_directory x.files None path))
  unfolding create_directory
  creates-directory path test none = written-plain (create_directory x.files None path) (may-land x _ (plain-made lists formed x path test none sound)) (puts-made x.files (find_path x.files.tree path))

  moves : (source target : List ℕ) (test : Bool × Refusal) → first_refusal (test ∷ move_file_tests x.files (file_room x) None source target) ≡ None → IsWritten x (of_files x None (move_file x.files None source target))
  unfolding move_file
  moves source target test none =
      written-plain (move_file x.files None source target) (may-land x _ (plain-moved lists formed x source target test none sound)) (puts-moved (find_path x.files.tree source) (find_path x.files.tree target))

  creates : (path : List ℕ) (access : Access) (mode : ShareMode) (d : Disposition) → Passes (create_file_tests x.files (file_room x) None path access mode d) → IsWritten x (of_files x None (create_file x.files None path access mode d))
  unfolding create_file
  creates path access mode d passes =
      written-plain (create_file x.files None path access mode d) (lands-created lists formed x sound path access mode d passes) (puts-created x.files (find_path x.files.tree path) access mode d)

  -- what a plain handle writes
  written-open : (o : OpenFile) (out : FileOutcome) → (o.transaction ≡ None → MayLand x out.change) → PutsSome out.change → IsWritten x (of_files x o.transaction out)
  written-open o out may puts = go o.transaction may
    where
      go : (who : Option Id) → (who ≡ None → MayLand x out.change) → IsWritten x (of_files x who out)
      go None is = written-plain out (is refl) puts
      go (Some id) is = written-own id out

  -- it puts or cuts bytes of a file that is open, and may be written
  written-bytes : (o : OpenFile) → IsIn o x.files.table.opens → writes o.access ≡ true → (c : Change) → changes_bytes c ≡ true → node_of c ≡ o.node → puts_some c ≡ true → ((tree : Tree) → is_file tree o.node ≡ true → applies tree c ≡ true)
      → IsWritten x (of_files x o.transaction (changing c))
  written-bytes o there may c bytes at puts applies = written-open o (changing c) (λ plain. lands-one x c (lands-written lists formed x sound o there may c bytes at applies plain)) (puts-one c puts)

  writes-file : (process : Pid) (label : Label) (offset : ℕ) (bytes : List ℕ) → Passes (on_file_tests x process label (λ o. write_units_tests x.files (file_room x) o offset bytes))
      → IsWritten x (on_file x (file_named x process label) (λ o. write_file o offset bytes))
  unfolding write_file write_units_tests
  writes-file process label offset bytes passes = go (file_named x process label) refl (own-passes lists formed x process label _ passes)
    where
      put : (o : OpenFile) → IsIn o x.files.table.opens → writes o.access ≡ true → (bytes : List ℕ) → IsWritten x (of_files x o.transaction (write_file o offset bytes))
      put o there may [] = written-open o (answering Done) (λ plain. lands-none x) puts-none
      put o there may (b ∷ bs) = written-bytes o there may (Put o.node offset (Whole (b ∷ bs))) refl refl refl (λ tree file. applies-from tree (Put o.node offset (Whole (b ∷ bs))) (file, refl))

      go : (o : Option OpenFile) → file_named x process label ≡ o → Passes (own_tests o (λ o. write_units_tests x.files (file_room x) o offset bytes)) → IsWritten x (on_file x o (λ o. write_file o offset bytes))
      go None found tests = written-reply x Done
      go (Some o) found tests = put o (file-in lists formed x process label o found) (not-not (writes o.access) (passed tests).0) bytes

  sets-end : (process : Pid) (label : Label) (size : ℕ) → Passes (on_file_tests x process label (λ o. set_end_tests x.files (file_room x) o size)) → IsWritten x (on_file x (file_named x process label) (λ o. set_end o size))
  unfolding set_end set_end_tests
  sets-end process label size passes = go (file_named x process label) refl (own-passes lists formed x process label _ passes)
    where
      go : (o : Option OpenFile) → file_named x process label ≡ o → Passes (own_tests o (λ o. set_end_tests x.files (file_room x) o size)) → IsWritten x (on_file x o (λ o. set_end o size))
      go None found tests = written-reply x Done
      go (Some o) found tests = written-bytes o (file-in lists formed x process label o found) (not-not (writes o.access) (passed tests).0) (Cut o.node size []) refl refl refl (λ tree file. applies-from tree (Cut o.node size []) (file, refl))

  -- a call on an open file that changes nothing
  written-asks : (o : Option OpenFile) (call : OpenFile → FileOutcome) → ((f : OpenFile) → (call f).change ≡ None) → IsWritten x (on_file x o call)
  written-asks None call none = written-reply x Done
  written-asks (Some o) call none = written-open o (call o) (λ plain c is. absurd (none-some c (sym (none o) ∙ is))) (λ c is. absurd (none-some c (sym (none o) ∙ is)))

  -- a call that is made in a transaction
  written-in : (process : Pid) (label : Label) (tests : List (Bool × Refusal)) (call : Option Id → Outcome) → Passes (transacted x process label tests) → ((id : Id) → IsWritten x (call (Some id))) → IsWritten x (call (caller x process label))
  written-in process label tests call passes is = let may = caller-may x process label tests course passes in subst (λ who. IsWritten x (call who)) (sym may.1) (is may.0)

  -- a call that may be plain, and changes nothing
  written-asked : (who : Option Id) (o : FileOutcome) → o.change ≡ None → IsWritten x (of_files x who o)
  written-asked None o none = written-plain o (λ c is. absurd (none-some c (sym none ∙ is))) (λ c is. absurd (none-some c (sym none ∙ is)))
  written-asked (Some id) o none = written-own id o

  -- ---- courses

  own-puts : (id : Id) → list_all puts_some (own_changes x.files.table.own id) ≡ true
  own-puts id = own_changes-by (λ cs. list_all puts_some cs ≡ true) x.files.table.own id refl (λ o there is. list_all-at (λ (o : OwnChanges). list_all puts_some o.changes) x.files.table.own sound.own_puts o there)

  number-made : (c : Change) (cs : List Change) → IsIn c cs → is_make c ≡ true → IsIn (node_of c) (numbers_made cs)
  number-made c cs there make = IsIn-flat_map (λ change. filter (λ n. is_make change) (node_of change ∷ [])) cs c (node_of c) there (IsIn-kept (λ n. is_make c) (node_of c ∷ []) (node_of c) (inl refl) make)

  own-makes : (id : Id) → MakesNone x (own_changes x.files.table.own id)
  own-makes id = record {
    none = λ f there. own_changes-by (λ cs. (c : Change) → IsIn c cs → is_make c ≡ true → node_of c ≡ f.file → ⊥) x.files.table.own id (λ c none. absurd none) (λ o o-there is c c-there make at.
        true≢false (sym (list_any-from (λ m. m == f.file) (numbers_made o.changes) (node_of c) (number-made c o.changes c-there make) (eq-eqb _ _ at))
        ∙ not-true _ (list_all-at (λ (p : OwnChanges). not (is_in (numbers_made p.changes) f.file)) x.files.table.own
        (list_all-at (λ (o : FirstOpen). list_all (λ p. not (is_in (numbers_made p.changes) o.file)) x.files.table.own) x.files.first_opens sound.first_not_made f there) o o-there)));
  }

  written-course : (o : Outcome) → Comes x o → IsWritten x o
  written-course o (inl (reply, is)) = subst (λ p. IsWritten x p) (sym is) (written-reply x reply)
  written-course o (inr by) = subst (λ p. IsWritten x p) (sym by.is) (if_cases (λ o. IsWritten x o) (is_undecided by.course.transaction) _ _
      (λ undecided. record { works = works; openings = inl refl; puts = puts }) (λ decided. record { works = works; openings = inl refl; puts = puts }))
    where
      works : (by.course.works ≡ []) ⊎ ((w : Work) × (by.course.works ≡ w ∷ []) × (changes_apply x.files.tree w.changes ≡ true) × MakesNone x w.changes)
      works = elim by.own.works [
        | inl none ↦ inl none
        | inr (w, one, changes, settings) ↦ inr (
          w,
          one,
          subst (λ cs. changes_apply x.files.tree cs ≡ true) (sym changes) (own-apply x sound by.transaction.id),
          subst (λ cs. MakesNone x cs) (sym changes) (own-makes by.transaction.id),
        )
      ]

      puts : list_all puts_all by.course.events ≡ true
      puts = by.says.events (ap (list_all puts_some) by.own.changes ∙ own-puts by.transaction.id)

  -- ---- objects

  written-create : (process : Pid) (label : Label) (timeout : ℕ) → IsWritten x (create_transaction x process label timeout)
  unfolding create_transaction
  written-create process label timeout = record { works = inl refl; openings = inl refl; puts = refl }

  written-open_transaction : (process : Pid) (label : Label) (o : Option Transaction) → IsWritten x (open_to_transaction x process label o)
  written-open_transaction process label None = written-reply x Done
  written-open_transaction process label (Some t) = record { works = inl refl; openings = inl refl; puts = refl }

  written-open_manager : (process : Pid) (label : Label) (o : Option Manager) → IsWritten x (open_to_manager x process label o)
  written-open_manager process label None = written-reply x Done
  written-open_manager process label (Some m) = record { works = inl refl; openings = inl refl; puts = refl }

  written-open_enlistment : (process : Pid) (label : Label) (o : Option Enlistment) → IsWritten x (open_to_enlistment x process label o)
  written-open_enlistment process label None = written-reply x Done
  written-open_enlistment process label (Some e) = record { works = inl refl; openings = inl refl; puts = refl }

  written-bind : (process : Pid) (label : Label) (o : Option Object) → IsWritten x (bind_to x process label o)
  written-bind process label None = written-reply x Done
  written-bind process label (Some object) = record { works = inl refl; openings = inl refl; puts = refl }

  written-create_manager : (process : Pid) (label : Label) (durability : Durability) → IsWritten x (create_resource_manager x process label durability)
  unfolding create_resource_manager
  written-create_manager process label durability = record {
    works = inl refl;
    openings = inl refl;
    puts = if_cases (λ (events : List Event). list_all puts_all events ≡ true) (is_durable durability) (MadeRm (new_id x x.transactions.last_manager) ∷ []) [] (λ is. refl) (λ is. refl);
  }

  written-recover : (o : Option Manager) → IsWritten x (recover_all x o)
  written-recover None = written-reply x Done
  written-recover (Some m) = record { works = inl refl; openings = inl refl; puts = refl }

  written-take : (o : Option Manager) → IsWritten x (take_first x o)
  written-take None = written-reply x Done
  written-take (Some m) = record { works = inl refl; openings = inl refl; puts = refl }

  written-enlist : (process : Pid) (label : Label) (m : Option Manager) (t : Option Transaction) (kind : EnlistmentKind) → IsWritten x (enlist x process label m t kind)
  written-enlist process label (Some m) (Some t) kind = record { works = inl refl; openings = inl refl; puts = refl }
  written-enlist process label None t kind = written-reply x Done
  written-enlist process label (Some m) None kind = written-reply x Done

  written-keep : (o : Option Enlistment) (information : List ℕ) → IsWritten x (keep_information x o information)
  written-keep None information = written-reply x Done
  written-keep (Some e) information = record { works = inl refl; openings = inl refl; puts = refl }

  -- ---- every call

  by-course : (process : Pid) (command : Command) → (is : Comes x (command_effect x process command)) → IsWritten x (command_effect x process command)
  by-course process command is = written-course (command_effect x process command) is

  up-passes : (process : Pid) (command : Command) → refusal_of x process command ≡ None → Passes (command_tests x process command)
  up-passes process command none = let all : Passes ((not x.machine.is_up, MachineDown) ∷ command_tests x process command) = record { none = none } in (passed all).1

  written-effect : (process : Pid) (command : Command) → refusal_of x process command ≡ None → IsWritten x (command_effect x process command)
  unfolding open_transaction get_transaction_information open_resource_manager recover_resource_manager get_notification create_enlistment open_enlistment set_information get_information duplicate_handle read_file get_size find_files
  written-effect process (CreateTransaction label timeout) none = written-create process label timeout
  written-effect process (OpenTransaction label guid) none = written-open_transaction process label (transaction_with x guid)
  written-effect process (CommitTransaction label) none = by-course process (CommitTransaction label) (comes-effect x course process (CommitTransaction label) refl)
  written-effect process (RollbackTransaction label) none = by-course process (RollbackTransaction label) (comes-effect x course process (RollbackTransaction label) refl)
  written-effect process (GetTransactionInformation label) none = written-reply x _
  written-effect process (CreateResourceManager label durability) none = written-create_manager process label durability
  written-effect process (OpenResourceManager label guid) none = written-open_manager process label (manager_with x guid)
  written-effect process (RecoverResourceManager label) none = written-recover (manager_named x process label)
  written-effect process (GetNotificationResourceManager label) none = written-take (manager_named x process label)
  written-effect process (CreateEnlistment label manager transaction kind) none = written-enlist process label (manager_named x process manager) (transaction_named x process transaction) kind
  written-effect process (OpenEnlistment label manager guid) none = written-open_enlistment process label (enlistment_with x (manager_named x process manager) guid)
  written-effect process (RecoverEnlistment label) none = by-course process (RecoverEnlistment label) (comes-effect x course process (RecoverEnlistment label) refl)
  written-effect process (PrePrepareComplete label) none = by-course process (PrePrepareComplete label) (comes-effect x course process (PrePrepareComplete label) refl)
  written-effect process (PrepareComplete label) none = by-course process (PrepareComplete label) (comes-effect x course process (PrepareComplete label) refl)
  written-effect process (ReadOnlyEnlistment label) none = by-course process (ReadOnlyEnlistment label) (comes-effect x course process (ReadOnlyEnlistment label) refl)
  written-effect process (CommitComplete label) none = by-course process (CommitComplete label) (comes-effect x course process (CommitComplete label) refl)
  written-effect process (RollbackComplete label) none = by-course process (RollbackComplete label) (comes-effect x course process (RollbackComplete label) refl)
  written-effect process (SinglePhaseReject label) none = by-course process (SinglePhaseReject label) (comes-effect x course process (SinglePhaseReject label) refl)
  written-effect process (RollbackEnlistment label) none = by-course process (RollbackEnlistment label) (comes-effect x course process (RollbackEnlistment label) refl)
  written-effect process (PrePrepareEnlistment label) none = by-course process (PrePrepareEnlistment label) (comes-effect x course process (PrePrepareEnlistment label) refl)
  written-effect process (PrepareEnlistment label) none = by-course process (PrepareEnlistment label) (comes-effect x course process (PrepareEnlistment label) refl)
  written-effect process (CommitEnlistment label) none = by-course process (CommitEnlistment label) (comes-effect x course process (CommitEnlistment label) refl)
  written-effect process (SetEnlistmentRecoveryInformation label information) none = written-keep (enlistment_named x process label) information
  written-effect process (GetEnlistmentRecoveryInformation label) none = written-reply x _
  written-effect process (CreateFile label path access share disposition) none = written-opening process label None (create_file x.files None path access share disposition) (creates path access share disposition (passed (up-passes process (CreateFile label path access share disposition) none)).1)
  written-effect process (CreateFileTransacted label path access share disposition transaction) none =
      written-in process transaction (bound_test x process label ∷ create_file_tests x.files (file_room x) (caller x process transaction) path access share disposition) (λ who. opening x process label who (create_file x.files who path access share disposition))
      (up-passes process (CreateFileTransacted label path access share disposition transaction) none)
      (λ id. written-opening process label (Some id) (create_file x.files (Some id) path access share disposition) (written-own id (create_file x.files (Some id) path access share disposition)))
  written-effect process (ReadFile file offset many) none = written-asks (file_named x process file) (λ o. read_file x.files o offset many) (λ o. refl)
  written-effect process (WriteFile file offset bytes) none = writes-file process file offset bytes (units-pass x process file offset bytes (up-passes process (WriteFile file offset bytes) none))
  written-effect process (SetEndOfFile file size) none = sets-end process file size (up-passes process (SetEndOfFile file size) none)
  written-effect process (WriteUnits file start contents) none = writes-file process file start contents (up-passes process (WriteUnits file start contents) none)
  written-effect process (GetFileSizeEx file) none = written-asks (file_named x process file) (λ o. get_size x.files o) (λ o. refl)
  written-effect process (FlushFileBuffers file) none = written-asks (file_named x process file) (λ o. flush_file) (λ o. refl)
  written-effect process (DeleteFile path) none = deletes path _ none
  written-effect process (CreateDirectory path) none = creates-directory path _ none
  written-effect process (RemoveDirectory path) none = removes path _ none
  written-effect process (MoveFile source target) none = moves source target _ none
  written-effect process (DeleteFileTransacted path transaction) none =
      written-in process transaction (delete_file_tests x.files (file_room x) (caller x process transaction) path) (λ who. of_files x who (delete_file x.files who path)) (up-passes process (DeleteFileTransacted path transaction) none) (λ id. written-own id (delete_file x.files (Some id) path))
  written-effect process (CreateDirectoryTransacted path transaction) none =
      written-in process transaction (create_directory_tests x.files (file_room x) (caller x process transaction) path) (λ who. of_files x who (create_directory x.files who path)) (up-passes process (CreateDirectoryTransacted path transaction) none) (λ id. written-own id (create_directory x.files (Some id) path))
  written-effect process (RemoveDirectoryTransacted path transaction) none =
      written-in process transaction (remove_directory_tests x.files (file_room x) (caller x process transaction) path) (λ who. of_files x who (remove_directory x.files who path)) (up-passes process (RemoveDirectoryTransacted path transaction) none) (λ id. written-own id (remove_directory x.files (Some id) path))
  written-effect process (MoveFileTransacted source target transaction) none =
      written-in process transaction (move_file_tests x.files (file_room x) (caller x process transaction) source target) (λ who. of_files x who (move_file x.files who source target)) (up-passes process (MoveFileTransacted source target transaction) none) (λ id. written-own id (move_file x.files (Some id) source target))
  written-effect process (FindFiles searched) none = written-asked None (find_files x.files None searched) refl
  written-effect process (FindFilesTransacted searched transaction) none = written-asked (caller x process transaction) (find_files x.files (caller x process transaction) searched) refl
  written-effect process (KvSet transaction key value) none = record { works = inl refl; openings = inl refl; puts = refl }
  written-effect process (KvUnset transaction key) none = record { works = inl refl; openings = inl refl; puts = refl }
  written-effect process (KvGet view key) none = record { works = inl refl; openings = inl refl; puts = refl }
  written-effect process (KvList view) none = record { works = inl refl; openings = inl refl; puts = refl }
  written-effect process (CloseHandle label) none = written-idle x (close_handle x process label) (close_handle-so _ _ idle-closing x process label tt)
  written-effect process (DuplicateHandle label from source) none = written-bind process label (object_at x.handles from source)
  written-effect process Exit none = written-idle x (exit x process) (exit-so _ _ idle-closing x process tt)

  written-refused : (refusal : Option Refusal) (effect : Outcome) → (refusal ≡ None → IsWritten x effect) → IsWritten x (refuse_or x refusal effect)
  written-refused (Some refusal) effect is = written-reply x (Refused refusal)
  written-refused None effect is = is refl

  pub written-decided : (process : Pid) (command : Command) → IsWritten x (decide x process command)
  written-decided process command = written-refused (refusal_of x process command) (command_effect x process command) (written-effect process command)

  pub written-ticked : (ms : ℕ) → IsWritten x (decide_tick x ms)
  written-ticked ms = written-refused (first_refusal ((not x.machine.is_up, MachineDown) ∷ [])) (tick x ms) (λ none. written-idle x (tick x ms) (tick-so _ _ idle-closing.rolls x ms tt))
