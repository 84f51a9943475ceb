-- Plain calls that make, drop and move names keep sound what undecided transactions own of the files.
use Rattle.std.proofs.Common.{◌≡◌, ◌⊎◌, ℕ, ◌≤◌, ◌^◌, ◌==◌, ◌&&◌, not, Bool, true, false, is_none, is_some, if◌then◌else◌, List, [], ◌∷◌, Option, Some, None, refl, sym, ◌∙◌, ap, subst, arith, inl, inr}
use Rattle.std.proofs.lemmas.Bool.{eq-eqb, eqb-true, ltb-false, lt-ltb, le-leb, and_parts, and_from, or_right, or_parts, not-true, true≢false, false_from_ne_true}
use Rattle.std.specs.Prelude.{nat_lt}
use Rattle.ktm_base.specs.declared.id.Id.{Id}
use Rattle.ktm_base.specs.declared.refusal.Refusal.{Refusal}
use Rattle.ktm_world.specs.declared.change.Change.{Change}
use Rattle.ktm_world.specs.declared.change.Change.TheVariants.{Make, Put, Cut, Move, Drop}
use Rattle.ktm_world.specs.declared.change.NodeKind.{NodeKind}
use Rattle.ktm_world.specs.declared.change.NodeKind.TheVariants.{Directory}
use Rattle.ktm_world.specs.declared.recorded.Node.{Node}
use Rattle.ktm_world.specs.declared.reply.Reply.TheVariants.{Done}
use Rattle.ktm_world.specs.Changes.{applies, is_drop, is_make, next_after, node_of}
use Rattle.ktm_world.specs.Conflicts.{conflicts, is_open_in, opened_in, same_group, writes}
use Rattle.ktm_world.specs.Decide.{of_files}
use Rattle.ktm_world.specs.Durable.{acts_of, act_of_node}
use Rattle.ktm_world.specs.FileCalls.{Whereabouts, no_path, no_way, free, at_root, at_node, find_path, conflict_test, delete_act, make_act, remove_act, move_act, drop_at, make_at, move_at, is_open_at, is_into_itself, is_at_directory, is_at_file, is_not_empty, delete_file, delete_file_tests, create_directory, create_directory_tests, remove_directory, remove_directory_tests, move_file, move_file_tests}
use Rattle.ktm_world.specs.FileOutcome.{FileOutcome, FileRoom, answering, changing, lacks_quota, files_after, with_open, own_after, next_node_after}
use Rattle.ktm_world.specs.Files.{FilesNow, OpenFile}
use Rattle.ktm_world.specs.Holds.{Act, place, makes, deletes, drops_directory, moves_file, moves_directory}
use Rattle.ktm_world.specs.Outcome.{apply, first_refusal}
use Rattle.ktm_world.specs.Present.{Present}
use Rattle.ktm_world.specs.Tree.{Tree, IsWellFormed, root, node_at, is_there, is_file, is_directory, content_of, has_entries, is_at_or_below}
use Rattle.ktm_world.specs.Uses.{file_room}
use Rattle.txf_laws.specs.Elements.{IsIn}
use Rattle.txf_laws.specs.Footprint.{ListsLaw}
use Rattle.txf_laws.specs.Formed.{FormedLaw}
use Rattle.txf_laws.specs.PlainChange.{Lands}
use Rattle.txf_laws.specs.SoundFiles.{IsSoundFiles}
use Rattle.txf_laws.proofs.offered.ChangeTests.{applies-from}
use Rattle.txf_laws.proofs.offered.Diamonds.{no_test, none-from}
use Rattle.txf_laws.proofs.offered.Elements.{IsIn-kept}
use Rattle.ktm_owned.proofs.offered.KeysKept.{not_refused}
use Rattle.txf_laws.proofs.offered.PlainChange.{call-clear, lands-sound}
use Rattle.ktm_owned.proofs.offered.Paths.{Leads, find_path-leads}
use Rattle.ktm_owned.proofs.UnchangedFiles.{KeepsFiles, answers_file}
use Rattle.txf_laws.proofs.offered.CommitsOfOthers.{All-in, spares-none, not-root, next-free}
use Rattle.txf_laws.proofs.offered.Reservations.{call-apart}

-- ---- what is at a path

pub some-from : (o : Option (List ℕ)) → is_none o ≡ false → is_some o ≡ true
some-from None is = absurd (true≢false is)
some-from (Some bytes) is = refl

-- what is so of the node that a lookup finds
pub file-at : (tree : Tree) (node : Node) → node_at tree node.number ≡ Some node → is_some node.content ≡ true → is_file tree node.number ≡ true
file-at tree node found file = ap (λ o. is_some (content_of o)) found ∙ file

pub there-at : (tree : Tree) (node : Node) → node_at tree node.number ≡ Some node → is_there tree node.number ≡ true
there-at tree node found = or_right (node.number == root) _ (ap is_some found)

-- a file has no entries
pub file-empty : (tree : Tree) → IsWellFormed tree → (n : ℕ) → is_file tree n ≡ true → has_entries tree n ≡ false
file-empty tree formed n file = none-from (λ (e : Node). e.parent == n) tree (λ e there. false_from_ne_true _ (λ inside.
    let dir : is_directory tree n ≡ true = subst (λ m. is_directory tree m ≡ true) (eqb-true _ _ inside) (All-in (λ (d : Node). is_directory tree d.parent ≡ true) tree formed.parents e there) in
    true≢false (sym file ∙ not-true _ (and_parts (is_there tree n) (not (is_file tree n)) dir).1)))

-- what a change of a node does, as calls
pub acts-at : (tree : Tree) (node : Node) (change : Change) → node_at tree node.number ≡ Some node → node_of change ≡ node.number → is_make change ≡ false → acts_of tree change ≡ act_of_node tree (Some node) change
acts-at tree node (Make number parent kind name) found of other = absurd (true≢false other)
acts-at tree node (Put number offset contents) found of other = ap (λ o. act_of_node tree o (Put number offset contents)) (ap (node_at tree) of ∙ found)
acts-at tree node (Cut number size pages) found of other = ap (λ o. act_of_node tree o (Cut number size pages)) (ap (node_at tree) of ∙ found)
acts-at tree node (Move number parent name) found of other = ap (λ o. act_of_node tree o (Move number parent name)) (ap (node_at tree) of ∙ found)
acts-at tree node (Drop number) found of other = ap (λ o. act_of_node tree o (Drop number)) (ap (node_at tree) of ∙ found)

-- ---- changes that apply

pub delete-applies : (tree : Tree) → IsWellFormed tree → (node : Node) → Leads tree (at_node node) → is_some node.content ≡ true → applies tree (Drop node.number) ≡ true
delete-applies tree formed node leads file =
    applies-from tree (Drop node.number) (not-root node.number leads.1, there-at tree node leads.0, file-empty tree formed node.number (file-at tree node leads.0 file))

pub remove-applies : (tree : Tree) (node : Node) → Leads tree (at_node node) → has_entries tree node.number ≡ false → applies tree (Drop node.number) ≡ true
remove-applies tree node leads empty = applies-from tree (Drop node.number) (not-root node.number leads.1, there-at tree node leads.0, empty)

pub move-applies : (tree : Tree) (node : Node) (directory : ℕ) (name : List ℕ) → Leads tree (at_node node) → Leads tree (free directory name) → is_at_or_below tree directory node.number ≡ false
    → applies tree (Move node.number directory name) ≡ true
move-applies tree node directory name leads leads' outside =
    applies-from tree (Move node.number directory name) (not-root node.number leads.1, there-at tree node leads.0, leads'.0, outside, leads'.1, leads'.2)

pub delete-acts : (tree : Tree) (node : Node) → Leads tree (at_node node) → is_some node.content ≡ true → acts_of tree (Drop node.number) ≡ deletes node.number (place node.parent node.name) ∷ []
delete-acts tree node leads file = acts-at tree node (Drop node.number) leads.0 refl refl ∙ ap (λ b. (if b then deletes node.number (place node.parent node.name) else drops_directory node.number (place node.parent node.name)) ∷ []) file

pub remove-acts : (tree : Tree) (node : Node) → Leads tree (at_node node) → is_some node.content ≡ false → acts_of tree (Drop node.number) ≡ drops_directory node.number (place node.parent node.name) ∷ []
remove-acts tree node leads dir = acts-at tree node (Drop node.number) leads.0 refl refl ∙ ap (λ b. (if b then deletes node.number (place node.parent node.name) else drops_directory node.number (place node.parent node.name)) ∷ []) dir

-- the numbers of nodes have not come to their end
pub enough-numbers : (files : FilesNow) (room : FileRoom) (who : Option Id) (o : FileOutcome) (change : Change) → o.change ≡ Some change → lacks_quota files room who o ≡ false → next_after files.table.next_node change ≤ 2 ^ 63
unfolding lacks_quota
enough-numbers files room who o change is fits =
    let last = (or_parts _ (nat_lt (2 ^ 63) (files_after files who o).table.next_node) fits).1 in
    let e : (files_after files who o).table.next_node ≡ next_after files.table.next_node change = same o.opened ∙ ap (next_node_after files.table.next_node) is in
    omega (arith, e, ltb-false _ _ last)
  where
    same : (opened : Option OpenFile) → (with_open (record files.table { own = own_after files who o.change; next_node = next_node_after files.table.next_node o.change }) opened).next_node ≡ next_node_after files.table.next_node o.change
    same None = refl
    same (Some f) = refl

pub make-applies : (x : Present) (kind : NodeKind) (directory : ℕ) (name : List ℕ) → IsSoundFiles x → Leads x.files.tree (free directory name) → next_after x.files.table.next_node (Make x.files.table.next_node directory kind name) ≤ 2 ^ 63
    → applies x.files.tree (Make x.files.table.next_node directory kind name) ≡ true
make-applies x kind directory name sound leads fits =
    applies-from x.files.tree (Make x.files.table.next_node directory kind name)
    (and_from _ _ (le-leb 2 x.files.table.next_node sound.next_from) (lt-ltb x.files.table.next_node (2 ^ 63) (omega (arith, fits))), next-free x sound, leads.0, leads.1, leads.2)

-- ---- the calls

-- a plain call only answers, or commits one change that it may
abbrev pub IsPlain : Present → FileOutcome → Type 0
IsPlain x o = (o ≡ answering Done) ⊎ ((change : Change) × (o ≡ changing change) × Lands x change)

module _ (lists : ListsLaw) (formed : FormedLaw) where
  -- a change that a plain call makes, which meets nothing
  pub lands-call : (x : Present) (change : Change) (act : Act) → IsSoundFiles x → applies x.files.tree change ≡ true → (is_make change ≡ true → node_of change ≡ x.files.table.next_node) → acts_of x.files.tree change ≡ act ∷ []
      → conflicts x.files None act ≡ false
      → (is_drop change ≡ true → (o : OpenFile) → IsIn o x.files.table.opens → is_none o.transaction ≡ true → writes o.access ≡ true → node_of change ≡ o.node → ⊥)
      → next_after x.files.table.next_node change ≤ 2 ^ 63 → Lands x change
  lands-call x change act sound applies fresh acts none plain limit = record {
    applies = applies;
    apart = λ v there. call-apart x sound None change act v.id refl applies fresh acts none;
    clear = λ v there found. call-clear x None change act v.id refl applies acts none found;
    fresh = fresh;
    plain = plain;
    limit = limit;
  }

  -- a file that is open nowhere is dropped
  pub not-open : (x : Present) (n : ℕ) → is_open_in x.files.table.opens None n ≡ false → (o : OpenFile) → IsIn o x.files.table.opens → is_none o.transaction ≡ true → n ≡ o.node → ⊥
  not-open x n closed o there plain at =
      true≢false (no_test (λ (p : OpenFile). true) o (opened_in x.files.table.opens None n) closed
      (IsIn-kept (λ (p : OpenFile). same_group p.transaction None && p.node == n) x.files.table.opens o there (and_from _ _ (grouped o.transaction plain) (eq-eqb _ _ (sym at)))))
    where
      grouped : (t : Option Id) → is_none t ≡ true → same_group t None ≡ true
      grouped None is = refl
      grouped (Some id) is = absurd (true≢false (sym is))

  -- so what undecided transactions own stays sound
  keeps-plain : (x : Present) (o : FileOutcome) → (IsSoundFiles x → IsPlain x o) → KeepsFiles x (of_files x None o)
  keeps-plain x o plain order sound = elim (plain sound) [
    | inl answers ↦ subst (λ o. IsSoundFiles (apply x (of_files x None o))) (sym answers) (answers_file lists formed x None (answering Done) refl refl refl order sound)
    | inr (change, changes, lands) ↦ subst (λ o. IsSoundFiles (apply x (of_files x None o))) (sym changes) (lands-sound lists formed x change sound lands)
  ]

  delete-at : (x : Present) (w : Whereabouts) → Leads x.files.tree w → is_at_directory w ≡ false → (conflict_test x.files None (delete_act w)).0 ≡ false → is_open_at x.files None w ≡ false → IsSoundFiles x → IsPlain x (drop_at w)
  delete-at x (at_node node) leads file none closed sound =
      let is = some-from node.content file in
      inr (
        Drop node.number,
        refl,
        lands-call x (Drop node.number) (deletes node.number (place node.parent node.name)) sound
            (delete-applies x.files.tree sound.formed node leads is) (λ make. absurd (true≢false (sym make))) (delete-acts x.files.tree node leads is) none
            (λ drop o there plain may at. not-open x node.number (rw is at closed) o there plain at) sound.next_to,
      )
  delete-at x no_path leads file none closed sound = inl refl
  delete-at x no_way leads file none closed sound = inl refl
  delete-at x (free directory name) leads file none closed sound = inl refl
  delete-at x at_root leads file none closed sound = inl refl

  pub plain-deleted : (x : Present) (path : List ℕ) (test : Bool × Refusal) → first_refusal (test ∷ delete_file_tests x.files (file_room x) None path) ≡ None → IsSoundFiles x → IsPlain x (delete_file x.files None path)
  unfolding delete_file delete_file_tests
  plain-deleted x path test none sound =
      let no = not_refused (test ∷ delete_file_tests x.files (file_room x) None path) none in
      delete-at x (find_path x.files.tree path) (find_path-leads x.files.tree sound.formed path)
      (no _ (inr (inr (inr (inr (inl refl)))))) (no _ (inr (inr (inr (inr (inr (inl refl))))))) (no _ (inr (inr (inr (inr (inr (inr (inl refl)))))))) sound

  pub deletes-file : (x : Present) (path : List ℕ) (test : Bool × Refusal) → first_refusal (test ∷ delete_file_tests x.files (file_room x) None path) ≡ None → KeepsFiles x (of_files x None (delete_file x.files None path))
  deletes-file x path test none = keeps-plain x (delete_file x.files None path) (plain-deleted x path test none)

  remove-at : (x : Present) (w : Whereabouts) → Leads x.files.tree w → is_at_file w ≡ false → is_not_empty x.files.tree w ≡ false → (conflict_test x.files None (remove_act w)).0 ≡ false → IsSoundFiles x → IsPlain x (drop_at w)
  remove-at x (at_node node) leads dir empty none sound =
      inr (
        Drop node.number,
        refl,
        lands-call x (Drop node.number) (drops_directory node.number (place node.parent node.name)) sound
            (remove-applies x.files.tree node leads empty) (λ make. absurd (true≢false (sym make))) (remove-acts x.files.tree node leads dir) none
            (λ drop o there plain may at.
            true≢false (sym ((spares-none x (λ t. true) sound).plain o there plain may) ∙ subst (λ n. is_file x.files.tree n ≡ false) at (ap (λ n. is_some (content_of n)) leads.0 ∙ dir))) sound.next_to,
      )
  remove-at x no_path leads dir empty none sound = inl refl
  remove-at x no_way leads dir empty none sound = inl refl
  remove-at x (free directory name) leads dir empty none sound = inl refl
  remove-at x at_root leads dir empty none sound = inl refl

  pub plain-removed : (x : Present) (path : List ℕ) (test : Bool × Refusal) → first_refusal (test ∷ remove_directory_tests x.files (file_room x) None path) ≡ None → IsSoundFiles x → IsPlain x (remove_directory x.files None path)
  unfolding remove_directory remove_directory_tests
  plain-removed x path test none sound =
      let no = not_refused (test ∷ remove_directory_tests x.files (file_room x) None path) none in
      remove-at x (find_path x.files.tree path) (find_path-leads x.files.tree sound.formed path)
      (no _ (inr (inr (inr (inr (inr (inl refl))))))) (no _ (inr (inr (inr (inr (inr (inr (inl refl)))))))) (no _ (inr (inr (inr (inr (inr (inr (inr (inl refl))))))))) sound

  pub removes-directory : (x : Present) (path : List ℕ) (test : Bool × Refusal) → first_refusal (test ∷ remove_directory_tests x.files (file_room x) None path) ≡ None → KeepsFiles x (of_files x None (remove_directory x.files None path))
  removes-directory x path test none = keeps-plain x (remove_directory x.files None path) (plain-removed x path test none)

  make-at : (x : Present) (room : FileRoom) (w : Whereabouts) → Leads x.files.tree w → (conflict_test x.files None (make_act w)).0 ≡ false → lacks_quota x.files room None (make_at x.files w) ≡ false → IsSoundFiles x → IsPlain x (make_at x.files w)
  make-at x room (free directory name) leads none fits sound =
      let change = Make x.files.table.next_node directory Directory name in
      let limit = enough-numbers x.files room None (changing change) change refl fits in
      inr (change, refl, lands-call x change (makes (place directory name)) sound (make-applies x Directory directory name sound leads limit) (λ make. refl) refl none (λ drop. absurd (true≢false (sym drop))) limit)
  make-at x room no_path leads none fits sound = inl refl
  make-at x room no_way leads none fits sound = inl refl
  make-at x room at_root leads none fits sound = inl refl
  make-at x room (at_node node) leads none fits sound = inl refl

  pub plain-made : (x : Present) (path : List ℕ) (test : Bool × Refusal) → first_refusal (test ∷ create_directory_tests x.files (file_room x) None path) ≡ None → IsSoundFiles x → IsPlain x (create_directory x.files None path)
  unfolding create_directory create_directory_tests
  plain-made x path test none sound =
      let no = not_refused (test ∷ create_directory_tests x.files (file_room x) None path) none in
      make-at x (file_room x) (find_path x.files.tree path) (find_path-leads x.files.tree sound.formed path)
      (no _ (inr (inr (inr (inr (inl refl)))))) (no _ (inr (inr (inr (inr (inr (inl refl))))))) sound

  pub creates-directory : (x : Present) (path : List ℕ) (test : Bool × Refusal) → first_refusal (test ∷ create_directory_tests x.files (file_room x) None path) ≡ None → KeepsFiles x (of_files x None (create_directory x.files None path))
  creates-directory x path test none = keeps-plain x (create_directory x.files None path) (plain-made x path test none)

  move-at : (x : Present) (w v : Whereabouts) → Leads x.files.tree w → Leads x.files.tree v → is_into_itself x.files.tree w v ≡ false → (conflict_test x.files None (move_act w v)).0 ≡ false → IsSoundFiles x → IsPlain x (move_at w v)
  move-at x (at_node node) (free directory name) leads leads' outside none sound =
      let change = Move node.number directory name in
      let act = if is_some node.content then moves_file node.number (place node.parent node.name) (place directory name) else moves_directory node.number (place node.parent node.name) (place directory name) in
      inr (
        change,
        refl,
        lands-call x change act sound (move-applies x.files.tree node directory name leads leads' outside) (λ make. absurd (true≢false (sym make)))
            (acts-at x.files.tree node change leads.0 refl refl) none (λ drop. absurd (true≢false (sym drop))) sound.next_to,
      )
  move-at x (at_node node) no_path leads leads' outside none sound = inl refl
  move-at x (at_node node) no_way leads leads' outside none sound = inl refl
  move-at x (at_node node) at_root leads leads' outside none sound = inl refl
  move-at x (at_node node) (at_node other) leads leads' outside none sound = inl refl
  move-at x no_path v leads leads' outside none sound = inl refl
  move-at x no_way v leads leads' outside none sound = inl refl
  move-at x (free directory name) v leads leads' outside none sound = inl refl
  move-at x at_root v leads leads' outside none sound = inl refl

  pub plain-moved : (x : Present) (source target : List ℕ) (test : Bool × Refusal) → first_refusal (test ∷ move_file_tests x.files (file_room x) None source target) ≡ None → IsSoundFiles x → IsPlain x (move_file x.files None source target)
  unfolding move_file move_file_tests
  plain-moved x source target test none sound =
      let no = not_refused (test ∷ move_file_tests x.files (file_room x) None source target) none in
      move-at x (find_path x.files.tree source) (find_path x.files.tree target) (find_path-leads x.files.tree sound.formed source) (find_path-leads x.files.tree sound.formed target)
      (or_parts _ _ (no _ (inr (inr (inr (inr (inr (inl refl)))))))).1 (no _ (inr (inr (inr (inr (inr (inr (inl refl)))))))) sound

  pub moves-file : (x : Present) (source target : List ℕ) (test : Bool × Refusal) → first_refusal (test ∷ move_file_tests x.files (file_room x) None source target) ≡ None → KeepsFiles x (of_files x None (move_file x.files None source target))
  moves-file x source target test none = keeps-plain x (move_file x.files None source target) (plain-moved x source target test none)
