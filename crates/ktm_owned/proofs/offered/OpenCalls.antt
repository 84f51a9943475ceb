-- Calls that open and write files keep sound what undecided transactions own of the files.
use Rattle.std.proofs.Common.{◌≡◌, ℕ, ◌+◌, ◌==◌, ◌&&◌, ◌||◌, not, Bool, true, false, is_none, is_some, if◌then◌else◌, filter, map, max, List, [], ◌∷◌, ◌++◌, Option, Some, None, refl, sym, ◌∙◌, ap, subst, arith, inl, inr}
use Rattle.std.proofs.lemmas.Bool.{cases_Bool, eq-eqb, eqb-true, eqb-false, lt-ltb, le-leb, and_parts, and_from, or_parts, or_cases, or_from, or_left, or_right, not-true, not_from_false, true≢false, false_from_ne_true}
use Rattle.std.proofs.lemmas.List.{append-nil}
use Rattle.std.proofs.lemmas.Option.{none-some}
use Rattle.std.specs.List.{list_all, list_any}
use Rattle.std.specs.Prelude.{option_and_then}
use Rattle.ktm_base.specs.declared.id.Id.{Id}
use Rattle.ktm_base.specs.declared.id.Label.{Label}
use Rattle.ktm_base.specs.declared.id.Pid.{Pid}
use Rattle.ktm_base.specs.declared.refusal.Refusal.{Refusal}
use Rattle.ktm_world.specs.declared.change.Change.{Change}
use Rattle.ktm_world.specs.declared.change.Change.TheVariants.{Make, Put, Cut}
use Rattle.ktm_world.specs.declared.change.Contents.TheVariants.{Whole}
use Rattle.ktm_world.specs.declared.change.NodeKind.TheVariants.{File}
use Rattle.ktm_world.specs.declared.object.Handle.{Handle}
use Rattle.ktm_world.specs.declared.object.Object.{Object}
use Rattle.ktm_world.specs.declared.object.Transaction.{Transaction}
use Rattle.ktm_world.specs.declared.options.Access.{Access}
use Rattle.ktm_world.specs.declared.options.Disposition.{Disposition}
use Rattle.ktm_world.specs.declared.options.ShareMode.{ShareMode}
use Rattle.ktm_world.specs.declared.recorded.Node.{Node}
use Rattle.ktm_world.specs.declared.reply.Reply.TheVariants.{Done}
use Rattle.ktm_world.specs.Changes.{changed, applies, changes_bytes, is_drop, is_make, node_of, has_made}
use Rattle.ktm_world.specs.Conflicts.{conflicts, holds_now, writes}
use Rattle.ktm_world.specs.Decide.{of_files, on_file, on_file_tests, opening, own_tests}
use Rattle.ktm_world.specs.FileCalls.{Whereabouts, no_path, no_way, free, at_root, at_node, find_path, conflict_test, create_act, create_at, create_file, create_file_tests, emptying, empties, is_at_directory, new_open, write_file, write_units_tests, set_end, set_end_tests}
use Rattle.ktm_world.specs.FileOutcome.{FileOutcome, FileRoom, answering, changing, lacks_quota, openings_of}
use Rattle.ktm_world.specs.Files.{FilesNow, FirstOpen, OpenFile, OwnChanges, own_changes, first_open_of, is_last_version, tree_of, tree_seen, with_own_changes, bytes_with, changes_with, committed_files, first_open}
use Rattle.ktm_world.specs.HandleCalls.{has_handle, same_object}
use Rattle.ktm_world.specs.Holds.{Holds, is_in, makes, meet_in, meets, opens, place}
use Rattle.ktm_world.specs.Labels.{file_named, file_number, open_file_at, with_handle}
use Rattle.ktm_world.specs.Handles.{object_at}
use Rattle.ktm_world.specs.Lawful.{is_touched_by}
use Rattle.ktm_world.specs.Outcome.{apply}
use Rattle.ktm_world.specs.Present.{Present}
use Rattle.ktm_world.specs.Transactions.{is_of, same_id}
use Rattle.ktm_world.specs.Tree.{Tree, root, content_of, is_directory, is_file, is_there, node_at}
use Rattle.ktm_world.specs.Uses.{file_room}
use Rattle.txf_laws.specs.FirstOpening.{MayOpenFirst}
use Rattle.txf_laws.specs.Elements.{IsIn}
use Rattle.txf_laws.specs.Footprint.{ListsLaw}
use Rattle.txf_laws.specs.Formed.{FormedLaw}
use Rattle.txf_laws.specs.Contents.{puts_some}
use Rattle.txf_laws.specs.Openings.{with_file}
use Rattle.txf_laws.specs.OwnChange.{Owns, owned}
use Rattle.txf_laws.specs.PlainChange.{Lands}
use Rattle.txf_laws.specs.SoundFiles.{IsSoundFiles, has_dropped, is_drawn_node, is_gone, is_undecided_in, made_or_opened, may_use, opens_no_directory}
use Rattle.txf_laws.proofs.offered.ChangeTests.{Applies-from, Fits-from, applies-from}
use Rattle.ktm_courses.proofs.offered.Calls.{Passes, passed}
use Rattle.txf_laws.proofs.offered.Diamonds.{IsIn-right, IsIn-map, no_test, none-from}
use Rattle.txf_laws.proofs.offered.Elements.{find-in, list_all-at, list_any-at, list_any-from, not-not, filter-true}
use Rattle.txf_laws.proofs.offered.FirstOpening.{first-sound, changes-same}
use Rattle.ktm_owned.proofs.offered.KeysKept.{not_refused}
use Rattle.txf_laws.proofs.offered.PlainChange.{holder-user, lands-sound, write-lands}
use Rattle.ktm_owned.proofs.offered.Paths.{Leads, find_path-leads}
use Rattle.ktm_owned.proofs.UnchangedFiles.{answers_file, more-handles}
use Rattle.txf_laws.proofs.offered.Lists.{IsIn-cases}
use Rattle.ktm_world.proofs.offered.Lookups.{node_at-there}
use Rattle.ktm_courses.proofs.offered.NewObjects.{list_any-last}
use Rattle.ktm_owned.proofs.offered.OwnCalls.{Caller, next-first, next-plain, owned-call, owns-make, owns-write}
use Rattle.txf_laws.proofs.offered.Openings.{opened-sound, some-of}
use Rattle.txf_laws.proofs.offered.OwnChange.{own-itself, others-hold, made-or-opened-still, name-final, not-dropped, owned-sound, seen-after, file-still}
use Rattle.txf_laws.proofs.offered.CommitsOfOthers.{drawn-node, in-tree-drawn, own-drawn, spares-none}
use Rattle.ktm_owned.proofs.offered.PlainCalls.{acts-at, enough-numbers, file-at, lands-call, make-applies, some-from}
use Rattle.ktm_owned.proofs.offered.EndedTransactions.{AreInOrder, unchanged}
use Rattle.txf_laws.proofs.offered.Reservations.{misses, own_changes-found, named}
use Rattle.ktm_owned.proofs.offered.SeenFiles.{below-next, clear-from, committed-file, held-drawn, holds-nothing, not-written, seen-formed, still-last, transaction-of, used-in}
use Rattle.txf_laws.proofs.offered.Tables.{same_id-equal, same_id-from, same_id-sym}
use Rattle.txf_laws.proofs.offered.Versions.{is_file-kept}

-- ---- files

-- a file is there, and no directory
pub file-there : (tree : Tree) (n : ℕ) → is_file tree n ≡ true → is_there tree n ≡ true
file-there tree n file = or_right (n == root) _ (go (node_at tree n) file)
  where
    go : (o : Option Node) → is_some (content_of o) ≡ true → is_some o ≡ true
    go None file = absurd (true≢false (sym file))
    go (Some node) file = refl

pub file-no-directory : (tree : Tree) (n : ℕ) → is_file tree n ≡ true → not (is_directory tree n) ≡ true
file-no-directory tree n file = not_from_false _ (false_from_ne_true _ (λ dir. true≢false (sym file ∙ not-true _ (and_parts (is_there tree n) (not (is_file tree n)) dir).1)))

-- the file that is made is one
pub made-file : (tree : Tree) (n directory : ℕ) (name : List ℕ) → applies tree (Make n directory File name) ≡ true → is_file (changed tree (Make n directory File name)) n ≡ true
made-file tree n directory name is =
    let c = Make n directory File name in ap (λ o. is_some (content_of o)) (node_at-there tree c (Fits-from tree c (Applies-from tree c is)))

-- a file that may be cut is
pub cut-applies : (tree : Tree) (n : ℕ) → is_file tree n ≡ true → applies tree (Cut n 0 []) ≡ true
cut-applies tree n file = applies-from tree (Cut n 0 []) (file, refl)

-- ---- what another transaction holds

-- a node that a call changes no other transaction holds
pub not-held : (x : Present) (who : Option Id) (n : ℕ) → conflicts x.files who (opens n true) ≡ false → (v : Id) → is_of v who ≡ false → is_in (holds_now x.files v).nodes n ≡ false
unfolding meets
not-held x who n none v other = elim (cases_Bool (is_in (holds_now x.files v).nodes n)) [
  | inr free' ↦ free'
  | inl held ↦
      let d = or_parts _ _ (misses x.files who (opens n true) none v (holder-user x.files v n held) other) in
      let c = or_parts _ _ d.0 in
      let b = or_parts _ _ c.0 in
      let a = or_parts (meet_in (n ∷ []) (holds_now x.files v).nodes) _ b.0 in
      absurd (true≢false (sym held ∙ no_test (is_in (holds_now x.files v).nodes) n (n ∷ []) a.0 (inl refl)))
]

-- a node that an undecided transaction has open, as the transaction of an open file
opened-node : (x : Present) (v : Id) (n : ℕ) → ((o : OpenFile) → IsIn o x.files.table.opens → is_of v o.transaction ≡ true → o.node ≡ n → ⊥) → list_any (λ (o : OpenFile). is_of v o.transaction && o.node == n) x.files.table.opens ≡ false
opened-node x v n none = none-from (λ (o : OpenFile). is_of v o.transaction && o.node == n) x.files.table.opens (λ o there. false_from_ne_true _ (λ both.
    let parts = and_parts (is_of v o.transaction) (o.node == n) both in none o there parts.0 (eqb-true _ _ parts.1)))

-- where a plain call may write a file, no undecided transaction is on it
untouched : (x : Present) (n : ℕ) → conflicts x.files None (opens n true) ≡ false → (v : Transaction) → is_touched_by x n v ≡ false
untouched x n none v = or_from _ _ (not-held x None n none v.id refl)
    (opened-node x v.id n (λ o there of at. true≢false (sym (and_from _ _ (some-of v.id o.transaction of) (list_any-from (λ m. m == o.node) (n ∷ []) n (inl refl) (eq-eqb _ _ (sym at))))
    ∙ no_test (λ o. is_some o.transaction && is_in (n ∷ []) o.node) o x.files.table.opens (clear-from x.files None (opens n true) none).opened there)))

-- no undecided transaction is on the next number
untouched-next : (x : Present) → IsSoundFiles x → (v : Transaction) → is_touched_by x x.files.table.next_node v ≡ false
untouched-next x sound v = or_from _ _ (none-from (λ m. m == x.files.table.next_node) (holds_now x.files v.id).nodes (λ m held. false_from_ne_true _ (λ same. below-next x m (held-drawn x sound v.id m held) (eqb-true _ _ same))))
    (opened-node x v.id x.files.table.next_node (λ o there of at. below-next x o.node (drawn-node x sound v.id o.node (used-in x sound o there v.id (transaction-of v.id o of)).made) at))

-- ---- what is opened

-- the handles once a file is open
abbrev handled : Present → Pid → Label → OpenFile → List Handle
handled x process label o = with_handle x.handles process label (Object.File o.number)

handled-named : (handles : List Handle) (process : Pid) (label : Label) (number : ℕ) → has_handle (with_handle handles process label (Object.File number)) (Object.File number) ≡ true
handled-named handles process label number = list_any-last (λ (h : Handle). same_object h.object (Object.File number)) handles _ (eq-eqb number number refl)

-- the act by which a file is opened that may be written then, or is emptied
changing-act : (files : FilesNow) (who : Option Id) (n : ℕ) (changes : Bool) → changes ≡ true → conflicts files who (opens n changes) ≡ false → conflicts files who (opens n true) ≡ false
changing-act files who n changes is none = subst (λ b. conflicts files who (opens n b) ≡ false) is none

module _ (lists : ListsLaw) (formed : FormedLaw) where
  -- ---- writing

  -- a plain handle that may write its file puts or cuts it
  pub lands-written : (x : Present) → IsSoundFiles x → (o : OpenFile) → IsIn o x.files.table.opens → writes o.access ≡ true → (c : Change) → changes_bytes c ≡ true → node_of c ≡ o.node
      → ((tree : Tree) → is_file tree o.node ≡ true → applies tree c ≡ true) → o.transaction ≡ None → Lands x c
  lands-written x sound o there may c bytes at applies of =
      let plain : is_none o.transaction ≡ true = ap is_none of in
      write-lands x c o sound there plain may (applies x.files.tree ((spares-none x (λ t. true) sound).plain o there plain may)) bytes at

  -- what is open and may be written is written
  writes-change : (x : Present) → IsSoundFiles x → (o : OpenFile) → IsIn o x.files.table.opens → writes o.access ≡ true → (c : Change) → changes_bytes c ≡ true → node_of c ≡ o.node → puts_some c ≡ true
      → ((tree : Tree) → is_file tree o.node ≡ true → applies tree c ≡ true) → IsSoundFiles (apply x (of_files x o.transaction (changing c)))
  writes-change x sound o there may c bytes at puts applies = go o.transaction refl
    where
      go : (t : Option Id) → o.transaction ≡ t → IsSoundFiles (apply x (of_files x t (changing c)))
      go None of = lands-sound lists formed x c sound (lands-written x sound o there may c bytes at applies of)
      go (Some id) of =
          let used = used-in x sound o there id of in
          owned-call lists formed x id c sound (owns-write formed x sound id used.who c o there of may bytes at puts (applies (tree_seen x.files (Some id)) (used.sees may)))

  pub file-in : (x : Present) (process : Pid) (label : Label) (o : OpenFile) → file_named x process label ≡ Some o → IsIn o x.files.table.opens
  file-in x process label o found = go (file_number (object_at x.handles process label)) found
    where
      go : (number : Option ℕ) → option_and_then (open_file_at x.files.table.opens) number ≡ Some o → IsIn o x.files.table.opens
      go None found = absurd (none-some o found)
      go (Some number) found = (find-in (λ p. p.number == number) x.files.table.opens o found).0

  -- the tests of a call on an open file are those on its handle, and its own
  pub own-passes : (x : Present) (process : Pid) (label : Label) (tests : OpenFile → List (Bool × Refusal)) → Passes (on_file_tests x process label tests) → Passes (own_tests (file_named x process label) tests)
  own-passes x process label tests passes = (passed (passed (passed passes).1).1).1

  pub writes-file : (x : Present) (process : Pid) (label : Label) (offset : ℕ) (bytes : List ℕ) → AreInOrder x → IsSoundFiles x → Passes (on_file_tests x process label (λ o. write_units_tests x.files (file_room x) o offset bytes))
      → IsSoundFiles (apply x (on_file x (file_named x process label) (λ o. write_file o offset bytes)))
  unfolding write_file write_units_tests
  writes-file x process label offset bytes order sound passes = go (file_named x process label) refl (own-passes x process label _ passes)
    where
      put : (o : OpenFile) → IsIn o x.files.table.opens → writes o.access ≡ true → (bytes : List ℕ) → IsSoundFiles (apply x (of_files x o.transaction (write_file o offset bytes)))
      put o there may [] = answers_file lists formed x o.transaction (answering Done) refl refl refl order sound
      put o there may (b ∷ bs) = writes-change x sound o there may (Put o.node offset (Whole (b ∷ bs))) refl refl refl (λ tree file. applies-from tree (Put o.node offset (Whole (b ∷ bs))) (file, refl))

      go : (o : Option OpenFile) → file_named x process label ≡ o → Passes (own_tests o (λ o. write_units_tests x.files (file_room x) o offset bytes)) → IsSoundFiles (apply x (on_file x o (λ o. write_file o offset bytes)))
      go None found tests = answers_file lists formed x None (answering Done) refl refl refl order sound
      go (Some o) found tests = put o (file-in x process label o found) (not-not (writes o.access) (passed tests).0) bytes

  pub sets-end : (x : Present) (process : Pid) (label : Label) (size : ℕ) → AreInOrder x → IsSoundFiles x → Passes (on_file_tests x process label (λ o. set_end_tests x.files (file_room x) o size))
      → IsSoundFiles (apply x (on_file x (file_named x process label) (λ o. set_end o size)))
  unfolding set_end set_end_tests
  sets-end x process label size order sound passes = go (file_named x process label) refl (own-passes x process label _ passes)
    where
      go : (o : Option OpenFile) → file_named x process label ≡ o → Passes (own_tests o (λ o. set_end_tests x.files (file_room x) o size)) → IsSoundFiles (apply x (on_file x o (λ o. set_end o size)))
      go None found tests = answers_file lists formed x None (answering Done) refl refl refl order sound
      go (Some o) found tests = writes-change x sound o (file-in x process label o found) (not-not (writes o.access) (passed tests).0) (Cut o.node size []) refl refl refl (λ tree file. applies-from tree (Cut o.node size []) (file, refl))

  -- ---- opening a plain file

  -- a file is made under a free name
  pub lands-new : (x : Present) → IsSoundFiles x → (room : FileRoom) (directory : ℕ) (name : List ℕ) (access : Access) (mode : ShareMode) (d : Disposition) → Leads x.files.tree (free directory name) → conflicts x.files None (makes (place directory name)) ≡ false
      → lacks_quota x.files room None (create_at x.files None (free directory name) access mode d) ≡ false → Lands x (Make x.files.table.next_node directory File name)
  lands-new x sound room directory name access mode d leads none fits =
      let c = Make x.files.table.next_node directory File name in
      let limit = enough-numbers x.files room None (create_at x.files None (free directory name) access mode d) c refl fits in
      lands-call lists formed x c (makes (place directory name)) sound (make-applies x File directory name sound leads limit) (λ make. refl) refl none (λ drop. absurd (true≢false (sym drop))) limit

  -- one that is there is emptied
  pub lands-emptied : (x : Present) → IsSoundFiles x → (node : Node) (access : Access) (d : Disposition) → Leads x.files.tree (at_node node) → is_some node.content ≡ true → conflicts x.files None (opens node.number (writes access || empties d)) ≡ false
      → empties d ≡ true → Lands x (Cut node.number 0 [])
  lands-emptied x sound node access d leads some none emptied =
      lands-call lists formed x (Cut node.number 0 []) (opens node.number true) sound (cut-applies x.files.tree node.number (file-at x.files.tree node leads.0 some)) (λ make. absurd (true≢false (sym make)))
      (acts-at x.files.tree node (Cut node.number 0 []) leads.0 refl refl) (changing-act x.files None node.number (writes access || empties d) (or_right (writes access) _ emptied) none) (λ drop. absurd (true≢false (sym drop))) sound.next_to

  module _ (x : Present) (order : AreInOrder x) (sound : IsSoundFiles x) (process : Pid) (label : Label) where
    -- a plain file is opened in what its call makes of the machine
    plain-open : (y : Present) → IsSoundFiles y → (o : OpenFile) → o.transaction ≡ None → o.number ≡ y.files.table.last_open + 1 → is_drawn_node y.files o.node ≡ true → (writes o.access ≡ true → is_file y.files.tree o.node ≡ true)
        → (writes o.access ≡ true → (v : Transaction) → is_touched_by y o.node v ≡ false) → IsSoundFiles (with_file y o (handled y process label o))
    plain-open y sound' o plain number drawn file free' = opened-sound y o (handled y process label o) sound' record {
      number = number;
      named = handled-named y.handles process label o.number;
      still = λ object has. more-handles lists formed y.handles process label (Object.File o.number) object has;
      plain = or_right _ _ (and_from _ _ drawn (elim (cases_Bool (writes o.access)) [ inl may ↦ or_right _ _ (file may) | inr not' ↦ or_left _ _ (not_from_false _ not') ]));
      own = ap (may_use y o) plain;
      file = ap (opens_no_directory y.files o.node) plain;
      held = λ may id of. absurd (true≢false (sym of ∙ ap (is_of id) plain));
      last = λ may f there of. absurd (true≢false (sym of ∙ ap (is_of f.transaction) plain));
      alone = λ none may v there. free' may v;
      writers = λ some. absurd (true≢false (sym some ∙ ap is_some plain));
    }

    -- under a free name
    new-plain : (room : FileRoom) (directory : ℕ) (name : List ℕ) (access : Access) (mode : ShareMode) (d : Disposition) → Leads x.files.tree (free directory name) → conflicts x.files None (makes (place directory name)) ≡ false
        → lacks_quota x.files room None (create_at x.files None (free directory name) access mode d) ≡ false → IsSoundFiles (apply x (opening x process label None (create_at x.files None (free directory name) access mode d)))
    new-plain room directory name access mode d leads none fits =
        let n = x.files.table.next_node in
        let c = Make n directory File name in
        let limit = enough-numbers x.files room None (create_at x.files None (free directory name) access mode d) c refl fits in
        let applies = make-applies x File directory name sound leads limit in
        let y = apply x (of_files x None (changing c)) in
        plain-open y (lands-sound lists formed x c sound (lands-new x sound room directory name access mode d leads none fits))
        (new_open x.files None n access mode) refl refl (and_from _ _ (le-leb 2 n sound.next_from) (lt-ltb n (max n (n + 1)) (omega arith))) (λ may. made-file x.files.tree n directory name applies) (λ may v. untouched-next x sound v)

    -- where a file is
    node-plain : (node : Node) (access : Access) (mode : ShareMode) (d : Disposition) → Leads x.files.tree (at_node node) → is_some node.content ≡ true → conflicts x.files None (opens node.number (writes access || empties d)) ≡ false
        → IsSoundFiles (apply x (opening x process label None (create_at x.files None (at_node node) access mode d)))
    node-plain node access mode d leads some none = go (empties d) refl
      where
        n : ℕ
        n = node.number

        file : is_file x.files.tree n ≡ true
        file = file-at x.files.tree node leads.0 some

        o : OpenFile
        o = new_open x.files None n access mode

        drawn : is_drawn_node x.files n ≡ true
        drawn = in-tree-drawn x sound n (ap is_some leads.0)

        free' : writes access ≡ true → (v : Transaction) → is_touched_by x n v ≡ false
        free' may v = untouched x n (changing-act x.files None n (writes access || empties d) (or_left _ _ may) none) v

        result : Option Change → FileOutcome
        result change = record { reply = Done; change = change; first = None; opened = Some o }

        go : (b : Bool) → empties d ≡ b → IsSoundFiles (apply x (opening x process label None (result (if b then Some (Cut n 0 []) else None))))
        go false kept = plain-open (apply x (of_files x None (answering Done))) (answers_file lists formed x None (answering Done) refl refl refl order sound) o refl refl drawn (λ may. file) free'
        go true emptied =
            plain-open (apply x (of_files x None (changing (Cut n 0 [])))) (lands-sound lists formed x (Cut n 0 []) sound (lands-emptied x sound node access d leads some none emptied)) o refl refl drawn (λ may. is_file-kept x.files.tree (Cut n 0 []) (cut-applies x.files.tree n file) refl n file) free'

    pub creates-file : (path : List ℕ) (access : Access) (mode : ShareMode) (d : Disposition) → Passes (create_file_tests x.files (file_room x) None path access mode d) → IsSoundFiles (apply x (opening x process label None (create_file x.files None path access mode d)))
    unfolding create_file create_file_tests
    creates-file path access mode d passes =
        let no = not_refused (create_file_tests x.files (file_room x) None path access mode d) passes.none in
        at (find_path x.files.tree path) (find_path-leads x.files.tree sound.formed path)
        (no _ (inr (inr (inr (inr (inr (inl refl))))))) (no _ (inr (inr (inr (inr (inr (inr (inl refl)))))))) (no _ (inr (inr (inr (inr (inr (inr (inr (inr (inl refl))))))))))
      where
        answers : IsSoundFiles (apply x (of_files x None (answering Done)))
        answers = answers_file lists formed x None (answering Done) refl refl refl order sound

        at : (w : Whereabouts) → Leads x.files.tree w → is_at_directory w ≡ false → (conflict_test x.files None (create_act w access d)).0 ≡ false → lacks_quota x.files (file_room x) None (create_at x.files None w access mode d) ≡ false
            → IsSoundFiles (apply x (opening x process label None (create_at x.files None w access mode d)))
        at no_path leads file none fits = answers
        at no_way leads file none fits = answers
        at at_root leads file none fits = answers
        at (free directory name) leads file none fits = new-plain (file_room x) directory name access mode d leads none fits
        at (at_node node) leads file none fits = node-plain node access mode d leads (some-from node.content file) none

  -- ---- opening a file in a transaction

  -- a file is made under a free name
  pub owns-new : (x : Present) → IsSoundFiles x → (id : Id) → is_undecided_in x.transactions.items id ≡ true → (room : FileRoom) (directory : ℕ) (name : List ℕ) (access : Access) (mode : ShareMode) (d : Disposition)
      → Leads (tree_seen x.files (Some id)) (free directory name) → conflicts x.files (Some id) (makes (place directory name)) ≡ false
      → lacks_quota x.files room (Some id) (create_at x.files (Some id) (free directory name) access mode d) ≡ false → Owns x id (Make x.files.table.next_node directory File name)
  owns-new x sound id who room directory name access mode d leads none fits =
      owns-make formed x sound id who File directory name leads none (enough-numbers x.files room (Some id) (create_at x.files (Some id) (free directory name) access mode d) (Make x.files.table.next_node directory File name) refl fits)

  module _ (x : Present) (order : AreInOrder x) (sound : IsSoundFiles x) (process : Pid) (label : Label) (id : Id) (may-call : Caller x id) where
    abbrev seen : Tree
    seen = tree_seen x.files (Some id)

    abbrev mine : List Change
    mine = own_changes x.files.table.own id

    -- what a file has to be that it opens, in what its call makes of the machine
    record Opens (y : Present) (n : ℕ) (access : Access) : Type 0 where
      who : is_undecided_in y.transactions.items id ≡ true
      boot : (id.boot == y.recorded.boots) ≡ true
      made : made_or_opened y.files id n ≡ true
      kept : has_dropped (own_changes y.files.table.own id) n ≡ false
      file : is_file (tree_seen y.files (Some id)) n ≡ true
      held : writes access ≡ true → (v : Transaction) → same_id id v.id ≡ false → IsIn n (holds_now y.files v.id).nodes → ⊥
      last : writes access ≡ true → (f : FirstOpen) → IsIn f y.files.first_opens → f.transaction ≡ id → n ≡ f.file → is_last_version y.files f ≡ true
      writers : (p : OpenFile) → IsIn p y.files.table.opens → is_none p.transaction ≡ true → writes p.access ≡ true → n ≡ p.node → ⊥

    own-open : (y : Present) → IsSoundFiles y → (n : ℕ) (access : Access) (mode : ShareMode) → Opens y n access → IsSoundFiles (with_file y (new_open y.files (Some id) n access mode) (handled y process label (new_open y.files (Some id) n access mode)))
    own-open y sound' n access mode is = let o = new_open y.files (Some id) n access mode in opened-sound y o (handled y process label o) sound' record {
      number = refl;
      named = handled-named y.handles process label o.number;
      still = λ object has. more-handles lists formed y.handles process label (Object.File o.number) object has;
      plain = refl;
      own = and_from _ _ (and_from _ _ (and_from _ _ (and_from _ _ is.who is.boot) is.made) (not_from_false _ is.kept)) (or_right _ _ is.file);
      file = file-no-directory (tree_seen y.files (Some id)) n is.file;
      held = λ may i of v there other. is.held may v (subst (λ j. same_id j v.id ≡ false) (same_id-equal i id of) other);
      last = λ may f there of. is.last may f there (same_id-equal f.transaction id of);
      alone = λ none. absurd (true≢false (sym none));
      writers = λ some. is.writers;
    }

    -- a file that it sees it has not dropped
    not-gone : (n : ℕ) → is_file seen n ≡ true → has_dropped mine n ≡ false
    not-gone n file = false_from_ne_true _ (λ dropped.
        let found = list_any-at (λ change. is_drop change && node_of change == n) mine dropped in
        let is = and_parts (is_drop found.0) (node_of found.0 == n) found.2 in
        elim (own_changes-found x.files.table.own id) [
          | inl none ↦ subst (IsIn found.0) none found.1
          | inr (o, there, of, changes) ↦ elim (or_cases (not (o.transaction.boot == x.recorded.boots)) (list_all (is_gone (tree_of x.files o.transaction)) o.changes)
              (list_all-at (λ (p : OwnChanges). not (p.transaction.boot == x.recorded.boots) || list_all (is_gone (tree_of x.files p.transaction)) p.changes) x.files.table.own sound.own_gone o there)) [
                | inl back ↦ true≢false (sym (subst (λ i. (i.boot == x.recorded.boots) ≡ true) (sym of) may-call.boot) ∙ not-true _ back)
                | inr gone ↦ elim (or_cases (not (is_drop found.0)) (not (is_there (tree_of x.files o.transaction) (node_of found.0))) (list_all-at (is_gone (tree_of x.files o.transaction)) o.changes gone found.0 (subst (IsIn found.0) (sym changes) found.1))) [
                  | inl other ↦ true≢false (sym is.0 ∙ not-true _ other)
                  | inr away ↦ true≢false (sym (file-there seen n file) ∙ ap (is_there seen) (sym (eqb-true _ _ is.1)) ∙ ap (λ i. is_there (tree_of x.files i) (node_of found.0)) (sym of) ∙ not-true _ away)
                ]
              ]
        ])

    -- under a free name
    module _ (room : FileRoom) (directory : ℕ) (name : List ℕ) (access : Access) (mode : ShareMode) (d : Disposition) (leads : Leads seen (free directory name)) (none : conflicts x.files (Some id) (makes (place directory name)) ≡ false)
        (fits : lacks_quota x.files room (Some id) (create_at x.files (Some id) (free directory name) access mode d) ≡ false) where
      abbrev next : ℕ
      next = x.files.table.next_node

      abbrev c : Change
      c = Make x.files.table.next_node directory File name

      owns : Owns x id (Make x.files.table.next_node directory File name)
      owns = owns-new x sound id may-call.who room directory name access mode d leads none fits

      abbrev y : Present
      y = record x { files = owned x.files id (Make x.files.table.next_node directory File name) }

      abbrev o : OpenFile
      o = new_open y.files (Some id) x.files.table.next_node access mode

      free' : has_dropped mine next ≡ false
      free' = none-from (λ change. is_drop change && node_of change == next) mine (λ d there. false_from_ne_true _ (λ is.
          below-next x (node_of d) (own-drawn x sound id (node_of d) (IsIn-map node_of d mine there)) (eqb-true _ _ (and_parts (is_drop d) (node_of d == next) is).1)))

      opened : IsSoundFiles (with_file y o (handled y process label o))
      opened = own-open y (owned-sound x id c sound owns) next access mode record {
        who = may-call.who;
        boot = may-call.boot;
        made = or_left _ _ (ap (λ ds. has_made ds next) (own-itself x id c sound owns) ∙ list_any-from (λ change. is_make change && node_of change == next) (changes_with x.files id c) c
            (name-final (mine ++ c ∷ []) (bytes_with x.files id (mine ++ c ∷ [])) c (IsIn-right c mine (c ∷ []) (inl refl)) refl) (and_from _ _ refl (eq-eqb next next refl)));
        kept = ap (λ ds. has_dropped ds next) (own-itself x id c sound owns) ∙ not-dropped x id c sound owns next free' (λ drop. absurd (true≢false (sym drop)));
        file = subst (λ t. is_file t next ≡ true) (sym (seen-after x id c sound owns tt)) (made-file seen next directory name owns.applies);
        held = λ may v other there. below-next x next (held-drawn x sound v.id next (subst (λ (h : Holds). IsIn next h.nodes) (others-hold x id c sound owns v.id other) there)) refl;
        last = λ may f there of at. absurd (next-first formed x sound id may-call.who next refl f there at);
        writers = λ p there plain may at. next-plain formed x sound id may-call.who next refl p there plain at;
      }

      new-own : IsSoundFiles (apply x (opening x process label (Some id) (create_at x.files (Some id) (free directory name) access mode d)))
      new-own =
          unchanged lists formed (with_file y o (handled y process label o)) (apply x (opening x process label (Some id) (create_at x.files (Some id) (free directory name) access mode d)))
          (λ i. record (with_file y o (handled y process label o)).files { first_opens = (filter-true (x.files.first_opens ++ []) ∙ append-nil x.files.first_opens) i }) refl
          (λ p there. named (with_file y o (handled y process label o)) opened p there) (λ i was. was) (λ u there. (u, there, refl)) opened

    -- where a file is
    module _ (node : Node) (access : Access) (mode : ShareMode) (d : Disposition) (leads : Leads seen (at_node node)) (some : is_some node.content ≡ true) (none : conflicts x.files (Some id) (opens node.number (writes access || empties d)) ≡ false) where
      abbrev n : ℕ
      n = node.number

      file : is_file seen n ≡ true
      file = file-at seen node leads.0 some

      writing : writes access ≡ true → conflicts x.files (Some id) (opens n true) ≡ false
      writing may = changing-act x.files (Some id) n (writes access || empties d) (or_left _ _ may) none

      emptying' : empties d ≡ true → conflicts x.files (Some id) (opens n true) ≡ false
      emptying' yes' = changing-act x.files (Some id) n (writes access || empties d) (or_right (writes access) _ yes') none

      held-by-none : conflicts x.files (Some id) (opens n true) ≡ false → (v : Transaction) → same_id id v.id ≡ false → IsIn n (holds_now x.files v.id).nodes → ⊥
      held-by-none act v other there = eqb-false n n (no_test (λ m. m == n) n (holds_now x.files v.id).nodes (not-held x (Some id) n act v.id (same_id-sym id v.id other)) there) refl

      -- with these first opens
      abbrev opened_by : List FirstOpen → Present
      opened_by fs = record x { files = record x.files { first_opens = fs } }

      -- what is so of them
      record Firsts (fs : List FirstOpen) : Type 0 where
        sound' : IsSoundFiles (opened_by fs)
        made : made_or_opened (opened_by fs).files id n ≡ true
        last : conflicts x.files (Some id) (opens n true) ≡ false → (f : FirstOpen) → IsIn f fs → f.transaction ≡ id → n ≡ f.file → is_last_version x.files f ≡ true
        changes : (c : Change) → changes_with (opened_by fs).files id c ≡ changes_with x.files id c

      abbrev result : Option Change → Option ℕ → FileOutcome
      result change first = record { reply = Done; change = change; first = first; opened = Some (new_open x.files (Some id) n access mode) }

      -- it is left as it is, or emptied
      then-opened : (fs : List FirstOpen) (firsts : Option ℕ) → Firsts fs
          → filter (λ (f : FirstOpen). true) (x.files.first_opens ++ map (first_open (committed_files x.files [])) (openings_of (Some id) firsts)) ≡ fs
          → (b : Bool) → empties d ≡ b → IsSoundFiles (apply x (opening x process label (Some id) (result (if b then Some (Cut n 0 []) else None) firsts)))
      then-opened fs firsts is are false kept =
          let y = opened_by fs in
          let o = new_open y.files (Some id) n access mode in
          let opened : IsSoundFiles (with_file y o (handled y process label o)) = own-open y is.sound' n access mode record {
            who = may-call.who;
            boot = may-call.boot;
            made = is.made;
            kept = not-gone n file;
            file = file;
            held = λ may v other there. held-by-none (writing may) v other there;
            last = λ may. is.last (writing may);
            writers = not-written x.files id (opens n (writes access || empties d)) none n (inl refl);
          } in
          unchanged lists formed (with_file y o (handled y process label o)) (apply x (opening x process label (Some id) (result None firsts)))
          (λ i. record (with_file y o (handled y process label o)).files { first_opens = are i }) refl (λ p there. named (with_file y o (handled y process label o)) opened p there) (λ i was. was) (λ u there. (u, there, refl)) opened
      then-opened fs firsts is are true emptied =
          let y = opened_by fs in
          let c = Cut n 0 [] in
          let act = emptying' emptied in
          let owns : Owns y id c = record {
            who = may-call.who;
            applies = cut-applies seen n file;
            opened = λ bytes. is.made;
            puts = refl;
            fresh = λ make. absurd (true≢false (sym make));
            alone = λ v there other. holds-nothing formed x sound id c (opens n true) (cut-applies seen n file) (acts-at seen node c leads.0 refl refl) act (λ make. absurd (true≢false (sym make))) v other;
            plain = not-written x.files id (opens n true) act n (inl refl);
            last = λ f there of at. is.last act f there of at;
            kept = λ drop. absurd (true≢false (sym drop));
            limit = sound.next_to;
          } in
          let z = record y { files = owned y.files id c } in
          let o = new_open z.files (Some id) n access mode in
          let opened : IsSoundFiles (with_file z o (handled z process label o)) = own-open z (owned-sound y id c is.sound' owns) n access mode record {
            who = may-call.who;
            boot = may-call.boot;
            made = made-or-opened-still y id c is.sound' owns n is.made;
            kept = ap (λ ds. has_dropped ds n) (own-itself y id c is.sound' owns) ∙ not-dropped y id c is.sound' owns n (not-gone n file) (λ drop. absurd (true≢false (sym drop)));
            file = file-still y id c is.sound' owns n (λ drop. absurd (true≢false (sym drop))) file;
            held = λ may v other there. held-by-none act v other (subst (λ (h : Holds). IsIn n h.nodes) (others-hold y id c is.sound' owns v.id other) there);
            last = λ may. is.last act;
            writers = not-written x.files id (opens n true) act n (inl refl);
          } in
          unchanged lists formed (with_file z o (handled z process label o)) (apply x (opening x process label (Some id) (result (Some (Cut n 0 [])) firsts)))
          (λ i. record (with_file z o (handled z process label o)).files { first_opens = are i; table = record (with_file z o (handled z process label o)).files.table { own = with_own_changes x.files.table.own id (sym (is.changes c) i) } }) refl
          (λ p there. named (with_file z o (handled z process label o)) opened p there) (λ i was. was) (λ u there. (u, there, refl)) opened

      -- it made it or opened it before, or opens it first
      first : (b : Bool) → (has_made mine n || is_some (first_open_of x.files.first_opens id n)) ≡ b
          → IsSoundFiles (apply x (opening x process label (Some id) (result (emptying d n) (if b then None else Some n))))
      first true known = then-opened x.files.first_opens None record {
        sound' = sound;
        made = known;
        last = λ act f there of at. still-last x sound id (opens n true) act n (inl refl) f there of at;
        changes = λ c. refl;
      } (filter-true (x.files.first_opens ++ []) ∙ append-nil x.files.first_opens) (empties d) refl
      first false new =
          let may : MayOpenFirst x id n = record {
            who = may-call.who;
            boot = may-call.boot;
            there = committed-file formed x sound id n (or_parts (has_made mine n) _ new).0 file;
            seen = file-no-directory seen n file;
            new = new;
          } in
          let f = first_open (committed_files x.files []) (record { transaction = id; file = n }) in
          then-opened (x.files.first_opens ++ f ∷ []) (Some n) record {
            sound' = first-sound x id n sound may;
            made = or_right (has_made mine n) _ (found-last x.files.first_opens);
            last = λ act g there of at. elim (IsIn-cases g x.files.first_opens (f ∷ []) there) [
              | inl old ↦ still-last x sound id (opens n true) act n (inl refl) g old of at
              | inr (inl e) ↦ subst (λ (h : FirstOpen). is_last_version x.files h ≡ true) e (and_from _ _ may.there (eq-eqb f.version f.version refl))
              | inr (inr none) ↦ absurd none
            ];
            changes = λ c. changes-same x id n sound may c;
          } (filter-true (x.files.first_opens ++ f ∷ [])) (empties d) refl
        where
          found-last : (fs : List FirstOpen) → is_some (first_open_of (fs ++ first_open (committed_files x.files []) (record { transaction = id; file = n }) ∷ []) id n) ≡ true
          found-last [] = rw (and_from (same_id id id) (n == n) (same_id-from id id refl) (eq-eqb n n refl)) refl
          found-last (g ∷ gs) = elim (cases_Bool (same_id g.transaction id && g.file == n)) [
            | inl here ↦ rw here refl
            | inr later ↦ rw later (found-last gs)
          ]

      node-own : IsSoundFiles (apply x (opening x process label (Some id) (create_at x.files (Some id) (at_node node) access mode d)))
      node-own = first (has_made mine n || is_some (first_open_of x.files.first_opens id n)) refl

    pub creates-own : (path : List ℕ) (access : Access) (mode : ShareMode) (d : Disposition) → Passes (create_file_tests x.files (file_room x) (Some id) path access mode d)
        → IsSoundFiles (apply x (opening x process label (Some id) (create_file x.files (Some id) path access mode d)))
    unfolding create_file create_file_tests
    creates-own path access mode d passes =
        let no = not_refused (create_file_tests x.files (file_room x) (Some id) path access mode d) passes.none in
        at (find_path seen path) (find_path-leads seen (seen-formed formed x sound id) path)
        (no _ (inr (inr (inr (inr (inr (inl refl))))))) (no _ (inr (inr (inr (inr (inr (inr (inl refl)))))))) (no _ (inr (inr (inr (inr (inr (inr (inr (inr (inl refl))))))))))
      where
        answers : IsSoundFiles (apply x (of_files x (Some id) (answering Done)))
        answers = answers_file lists formed x (Some id) (answering Done) refl refl refl order sound

        at : (w : Whereabouts) → Leads seen w → is_at_directory w ≡ false → (conflict_test x.files (Some id) (create_act w access d)).0 ≡ false → lacks_quota x.files (file_room x) (Some id) (create_at x.files (Some id) w access mode d) ≡ false
            → IsSoundFiles (apply x (opening x process label (Some id) (create_at x.files (Some id) w access mode d)))
        at no_path leads is none fits = answers
        at no_way leads is none fits = answers
        at at_root leads is none fits = answers
        at (free directory name) leads is none fits = new-own (file_room x) directory name access mode d leads none fits
        at (at_node node) leads is none fits = node-own node access mode d leads (some-from node.content is) none
