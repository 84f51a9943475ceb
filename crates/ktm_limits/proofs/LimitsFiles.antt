-- Calls on files and directories pass no limit, and leave the versions fixed that were first opened.
use Rattle.std.specs.Prelude.{if◌then◌else◌}
use Rattle.std.proofs.Common.{◌≡◌, ℕ, ◌+◌, ◌-◌, ◌≤◌, ◌==◌, ◌&&◌, ◌||◌, Bool, true, false, List, [], ◌∷◌, ◌++◌, map, length, sum_by, nat_lt, Option, Some, None, is_some, refl, sym, ◌∙◌, ap, subst, arith, inl, inr, ◌⊎◌, length-append}
use Rattle.std.proofs.lemmas.Bool.{and_parts, eqb-true, eqb-false, ltb-false, or_parts, true≢false, not-true}
use Rattle.std.proofs.lemmas.List.{append-nil}
use Rattle.ktm_base.specs.declared.limits.TheConstants.{MOST_HANDLES, MOST_NUMBER, END_OF_NODES}
use Rattle.ktm_base.specs.declared.id.Id.{Id}
use Rattle.ktm_base.specs.declared.id.Label.{Label}
use Rattle.ktm_base.specs.declared.id.Pid.{Pid}
use Rattle.ktm_world.specs.declared.change.Change.{Change}
use Rattle.ktm_world.specs.declared.change.Change.TheVariants.{Make, Put, Cut, Move, Drop}
use Rattle.ktm_world.specs.declared.change.Contents.TheVariants.{Whole}
use Rattle.ktm_world.specs.declared.change.NodeKind.TheVariants.{Directory}
use Rattle.ktm_world.specs.declared.object.Handle.{Handle}
use Rattle.ktm_world.specs.declared.object.Object.{Object}
use Rattle.ktm_world.specs.declared.options.Access.{Access}
use Rattle.ktm_world.specs.declared.options.Disposition.{Disposition}
use Rattle.ktm_world.specs.declared.options.ShareMode.{ShareMode}
use Rattle.ktm_world.specs.declared.reply.Reply.{Reply}
use Rattle.ktm_world.specs.declared.reply.Reply.TheVariants.{Done}
use Rattle.ktm_world.specs.declared.recorded.Node.{Node}
use Rattle.ktm_world.specs.Changes.{changes_bytes, has_made, is_make, next_after, nodes_made}
use Rattle.ktm_world.specs.Committed.{committed_with, version_of}
use Rattle.ktm_world.specs.Decide.{bound_file, events_of, of_files, on_file, on_file_tests, opening, own_tests}
use Rattle.ktm_world.specs.FileCalls.{Whereabouts, no_path, no_way, free, at_root, at_node, find_path, is_at_directory, create_at, create_file, create_file_tests, create_directory, create_directory_tests, drop_at, delete_file, delete_file_tests, make_at, remove_directory, remove_directory_tests, move_at, move_file, move_file_tests, write_file, write_units_tests, set_end, set_end_tests}
use Rattle.ktm_world.specs.FileOutcome.{FileOutcome, answering, changing, files_after, lacks_quota, lacks_disk, openings_of, table_after, works_of}
use Rattle.ktm_world.specs.Files.{FilesNow, FirstOpen, OpenFile, committed_files, first_open, first_open_of, own_changes, tree_seen}
use Rattle.ktm_world.specs.FileUses.{own_units, units_used, nodes_used, file_changes_waiting}
use Rattle.ktm_world.specs.Keys.{keys_used, changes_pending as keys_unset}
use Rattle.ktm_world.specs.Labels.{file_named, with_handle}
use Rattle.ktm_world.specs.Outcome.{apply, committed_now}
use Rattle.ktm_world.specs.Present.{Present}
use Rattle.ktm_world.specs.Tree.{bytes_of, is_file}
use Rattle.ktm_world.specs.Uses.{changes_waiting, file_room}
use Rattle.txf_laws.specs.Elements.{IsIn}
use Rattle.txf_laws.specs.Formed.{FormedLaw}
use Rattle.txf_laws.specs.SoundFiles.{IsSoundFiles}
use Rattle.ktm_courses.proofs.offered.Calls.{Passes, passed}
use Rattle.txf_laws.proofs.offered.CommittedUnits.{gains-names, is_older, nodes-all, units-after}
use Rattle.ktm_owned.proofs.offered.KeysKept.{not_refused}
use Rattle.ktm_owned.proofs.offered.Paths.{Leads, find_path-leads}
use Rattle.ktm_limits.proofs.LimitsCalls.{Stays, stays-reply}
use Rattle.txf_laws.proofs.offered.Lists.{IsIn-cases}
use Rattle.txf_laws.proofs.offered.NormalForms.{names_only}
use Rattle.ktm_records.proofs.offered.NoMore.{Fits, managers-served, units-events}
use Rattle.txf_laws.proofs.offered.OlderVersions.{AreFixed, older-is, older_units, version_units}
use Rattle.ktm_limits.proofs.OwnedUnits.{units-owned, nodes-owned, changes-owned}
use Rattle.ktm_owned.proofs.offered.PlainCalls.{file-at, some-from}
use Rattle.txf_laws.proofs.offered.Elements.{filter-true}
use Rattle.ktm_owned.proofs.offered.SeenFiles.{committed-file, seen-formed}
use Rattle.txf_laws.proofs.offered.Sums.{sum-same}
use Rattle.ktm_records.proofs.offered.UnitsPassed.{own-now, own_units-same, rests-now, shown}
use Rattle.ktm_world.specs.FileUses.{same_version}

-- the store is no part of what a call on files changes
pub store-same : (x : Present) (who : Option Id) (change : Option Change) → (committed_with (committed_now x) (works_of who change)).store ≡ x.keys.store
store-same x None None = refl
store-same x None (Some change) = refl
store-same x (Some id) change = refl

-- what is committed of the files does not depend on the store
pub tree-same : (x : Present) (who : Option Id) (change : Option Change) → (committed_with (committed_now x) (works_of who change)).tree ≡ (committed_with (committed_files x.files []) (works_of who change)).tree
tree-same x None None = refl
tree-same x None (Some change) = refl
tree-same x (Some id) change = refl

pub versions-same : (x : Present) (who : Option Id) (change : Option Change) → (committed_with (committed_now x) (works_of who change)).versions ≡ (committed_with (committed_files x.files []) (works_of who change)).versions
versions-same x None None = refl
versions-same x None (Some change) = refl
versions-same x (Some id) change = refl

-- what a call on files makes of the files is what the machine has then
pub files-of : (x : Present) (who : Option Id) (o : FileOutcome) → (apply x (of_files x who o)).files ≡ files_after x.files who o
files-of x who o i = record {
  tree = tree-same x who o.change i;
  versions = versions-same x who o.change i;
  first_opens = filter-true (x.files.first_opens ++ map (first_open (committed_files x.files [])) (openings_of who o.first)) i;
  table = table_after x.files who o;
}

module _ (formed : FormedLaw) (x : Present) (sound : IsSoundFiles x) (fits : Fits x) where
  -- files as they are after a call, within the limits
  record FilesFit (g : FilesNow) : Type 0 where
    changes : file_changes_waiting g + keys_unset x.keys ≤ x.recorded.units
    last_open : g.table.last_open ≤ MOST_NUMBER
    next_node : g.table.next_node ≤ END_OF_NODES
    units : units_used g ≤ x.recorded.units
    nodes : nodes_used g ≤ x.recorded.units

  fits-of_files : (who : Option Id) (o : FileOutcome) (handles : List Handle) → FilesFit (files_after x.files who o) → length handles ≤ MOST_HANDLES → Fits (apply x (record (of_files x who o) { handles = handles }))
  unfolding changes_waiting
  fits-of_files who o handles fit few =
      let same = files-of x who o in
      let room = units-events (events_of who o.change) x.recorded in
      let keys : (apply x (of_files x who o)).keys ≡ x.keys = λ i. record { store = store-same x who o.change i; own = x.keys.own } in
      record {
        changes = (let a = ap file_changes_waiting same in let b = ap keys_unset keys in let c = fit.changes in omega arith);
        live = fits.live;
        enlisted = fits.enlisted;
        managers = (let a = managers-served None [] x.managers in let b = fits.managers in omega arith);
        handles = few;
        last_transaction = fits.last_transaction;
        last_manager = fits.last_manager;
        last_enlistment = fits.last_enlistment;
        last_open = (let a = ap (λ (f : FilesNow). f.table.last_open) same in let b = fit.last_open in omega arith);
        next_node = (let a = ap (λ (f : FilesNow). f.table.next_node) same in let b = fit.next_node in omega arith);
        units = (let a = ap units_used same in let b = fit.units in omega arith);
        nodes = (let a = ap nodes_used same in let b = fit.nodes in omega arith);
        keys = (let a = ap keys_used keys in let b = fits.keys in omega arith);
      }

  -- as they are
  files-fit : FilesFit x.files
  unfolding changes_waiting
  files-fit = record { changes = fits.changes; last_open = fits.last_open; next_node = fits.next_node; units = fits.units; nodes = fits.nodes }

  -- ---- what the tests say

  quota-says : (who : Option Id) (o : FileOutcome) → lacks_quota x.files (file_room x) who o ≡ false
      → (file_changes_waiting (files_after x.files who o) + keys_unset x.keys ≤ x.recorded.units) × ((is_some o.opened && (MOST_HANDLES - length x.handles == 0)) ≡ false)
      × ((files_after x.files who o).table.last_open ≤ MOST_NUMBER) × ((files_after x.files who o).table.next_node ≤ END_OF_NODES)
  unfolding lacks_quota file_room changes_waiting
  quota-says who o none =
      let g = files_after x.files who o in
      let d = or_parts _ (nat_lt END_OF_NODES g.table.next_node) none in
      let c = or_parts _ (nat_lt MOST_NUMBER g.table.last_open) d.0 in
      let b = or_parts (nat_lt (x.recorded.units - keys_unset x.keys) (file_changes_waiting g)) (is_some o.opened && (MOST_HANDLES - length x.handles == 0)) c.0 in
      let few = ltb-false (x.recorded.units - keys_unset x.keys) (file_changes_waiting g) b.0 in
      let had = fits.changes in
      (omega arith, b.1, ltb-false _ _ c.1, ltb-false _ _ d.1)

  disk-says : (who : Option Id) (o : FileOutcome) → lacks_disk x.files (file_room x) who o ≡ false → (units_used (files_after x.files who o) ≤ x.recorded.units) × (nodes_used (files_after x.files who o) ≤ x.recorded.units)
  unfolding lacks_disk file_room
  disk-says who o none =
      let g = files_after x.files who o in
      let b = or_parts (nat_lt x.recorded.units (units_used g)) (nat_lt x.recorded.units (nodes_used g)) none in
      (ltb-false _ _ b.0, ltb-false _ _ b.1)

  -- ---- first opens

  fixed-more : (who : Option Id) (o : FileOutcome) → AreFixed (x.files.first_opens ++ map (first_open (committed_files x.files [])) (openings_of who o.first)) → AreFixed (apply x (of_files x who o)).files.first_opens
  fixed-more who o more = subst (λ (f : FilesNow). AreFixed f.first_opens) (sym (files-of x who o)) more

  fixed-none : (who : Option Id) (o : FileOutcome) → o.first ≡ None → AreFixed x.files.first_opens → AreFixed (apply x (of_files x who o)).files.first_opens
  fixed-none who o none fixed = fixed-more who o (subst AreFixed (sym (ap (λ f. x.files.first_opens ++ map (first_open (committed_files x.files [])) (openings_of who f)) none
      ∙ ap (λ os. x.files.first_opens ++ map (first_open (committed_files x.files [])) os) (no-openings who) ∙ append-nil x.files.first_opens)) fixed)
    where
      no-openings : (who : Option Id) → openings_of who None ≡ []
      no-openings None = refl
      no-openings (Some id) = refl

  -- one of a committed file more
  fixed-first : AreFixed x.files.first_opens → (id : Id) (file : ℕ) → is_file x.files.tree file ≡ true → AreFixed (x.files.first_opens ++ first_open (committed_files x.files []) (record { transaction = id; file = file }) ∷ [])
  fixed-first fixed id file there a b in_a in_b same = go (IsIn-cases a x.files.first_opens (new ∷ []) in_a) (IsIn-cases b x.files.first_opens (new ∷ []) in_b)
    where
      new : FirstOpen
      new = first_open (committed_files x.files []) (record { transaction = id; file = file })

      old-new : (f : FirstOpen) → IsIn f x.files.first_opens → f.file ≡ new.file → f.version ≡ new.version → f.bytes ≡ new.bytes
      old-new f has file version = (shown x sound f has).bytes (subst (λ n. is_file x.files.tree n ≡ true) (sym file) there) (version ∙ ap (version_of x.files.versions) (sym file)) ∙ ap (bytes_of x.files.tree) file

      are : (p q : FirstOpen) → same_version p q ≡ true → (p.file ≡ q.file) × (p.version ≡ q.version)
      are p q is = let parts = and_parts (p.file == q.file) (p.version == q.version) is in (eqb-true _ _ parts.0, eqb-true _ _ parts.1)

      go : IsIn a x.files.first_opens ⊎ IsIn a (new ∷ []) → IsIn b x.files.first_opens ⊎ IsIn b (new ∷ []) → a.bytes ≡ b.bytes
      go (inl here) (inl here') = fixed a b here here' same
      go (inl here) (inr (inl e)) = let is = are a new (subst (λ q. same_version a q ≡ true) (sym e) same) in old-new a here is.0 is.1 ∙ ap (λ (f : FirstOpen). f.bytes) e
      go (inl here) (inr (inr none)) = absurd none
      go (inr (inl e)) (inl here') = let is = are new b (subst (λ q. same_version q b ≡ true) (sym e) same) in sym (ap (λ (f : FirstOpen). f.bytes) e) ∙ sym (old-new b here' (sym is.0) (sym is.1))
      go (inr (inl e)) (inr (inl e')) = ap (λ (f : FirstOpen). f.bytes) (sym e ∙ e')
      go (inr (inl e)) (inr (inr none)) = absurd none
      go (inr (inr none)) there' = absurd none

  -- ---- calls

  stays-of_files : (who : Option Id) (o : FileOutcome) → o.first ≡ None → FilesFit (files_after x.files who o) → Stays x (of_files x who o)
  stays-of_files who o first fit = record { fits = fits-of_files who o x.handles fit fits.handles; fixed = fixed-none who o first }

  -- that only answers
  pub stays-answers : (who : Option Id) (reply : Reply) → Stays x (of_files x who (answering reply))
  stays-answers who reply = stays-of_files who (answering reply) refl (subst FilesFit (sym (same who)) files-fit)
    where
      same : (who : Option Id) → files_after x.files who (answering reply) ≡ x.files
      same None i = record x.files { first_opens = append-nil x.files.first_opens i }
      same (Some id) i = record x.files { first_opens = append-nil x.files.first_opens i }

  -- that opens a file
  opened-stays : (process : Pid) (label : Label) (who : Option Id) (o : FileOutcome) → lacks_quota x.files (file_room x) who o ≡ false → lacks_disk x.files (file_room x) who o ≡ false
      → (AreFixed x.files.first_opens → AreFixed (apply x (of_files x who o)).files.first_opens) → Stays x (opening x process label who o)
  opened-stays process label who o quota disk fixed' = go o.opened refl
    where
      says : (file_changes_waiting (files_after x.files who o) + keys_unset x.keys ≤ x.recorded.units) × ((is_some o.opened && (MOST_HANDLES - length x.handles == 0)) ≡ false)
          × ((files_after x.files who o).table.last_open ≤ MOST_NUMBER) × ((files_after x.files who o).table.next_node ≤ END_OF_NODES)
      says = quota-says who o quota

      fit : FilesFit (files_after x.files who o)
      fit = record { changes = says.0; last_open = says.2; next_node = says.3; units = (disk-says who o disk).0; nodes = (disk-says who o disk).1 }

      go : (p : Option OpenFile) → o.opened ≡ p → Stays x (bound_file process label p (of_files x who o))
      go None is = record { fits = fits-of_files who o x.handles fit fits.handles; fixed = fixed' }
      go (Some file) is =
          let free' : (MOST_HANDLES - length x.handles == 0) ≡ false = subst (λ q. (is_some q && (MOST_HANDLES - length x.handles == 0)) ≡ false) is says.1 in
          let some = eqb-false (MOST_HANDLES - length x.handles) 0 free' in
          let more = length-append x.handles (record { process = process; label = label; object = Object.File file.number } ∷ []) in
          record { fits = fits-of_files who o (with_handle x.handles process label (Object.File file.number)) fit (omega arith); fixed = fixed' }

  pub stays-create_file : (process : Pid) (label : Label) (path : List ℕ) (access : Access) (mode : ShareMode) (d : Disposition) → Passes (create_file_tests x.files (file_room x) None path access mode d)
      → Stays x (opening x process label None (create_file x.files None path access mode d))
  unfolding create_file create_file_tests
  stays-create_file process label path access mode d passes =
      let no = not_refused (create_file_tests x.files (file_room x) None path access mode d) passes.none in
      let o = create_at x.files None (find_path x.files.tree path) access mode d in
      opened-stays process label None o (no _ (inr (inr (inr (inr (inr (inr (inr (inr (inl refl)))))))))) (no _ (inr (inr (inr (inr (inr (inr (inr (inr (inr (inl refl)))))))))))
      (fixed-none None o (first (find_path x.files.tree path)))
    where
      first : (w : Whereabouts) → (create_at x.files None w access mode d).first ≡ None
      first no_path = refl
      first no_way = refl
      first (free directory name) = refl
      first at_root = refl
      first (at_node node) = refl

  pub stays-create_own : (process : Pid) (label : Label) (id : Id) (path : List ℕ) (access : Access) (mode : ShareMode) (d : Disposition) → Passes (create_file_tests x.files (file_room x) (Some id) path access mode d)
      → Stays x (opening x process label (Some id) (create_file x.files (Some id) path access mode d))
  unfolding create_file create_file_tests
  stays-create_own process label id path access mode d passes =
      let no = not_refused (create_file_tests x.files (file_room x) (Some id) path access mode d) passes.none in
      let seen = tree_seen x.files (Some id) in
      let o = create_at x.files (Some id) (find_path seen path) access mode d in
      opened-stays process label (Some id) o (no _ (inr (inr (inr (inr (inr (inr (inr (inr (inl refl)))))))))) (no _ (inr (inr (inr (inr (inr (inr (inr (inr (inr (inl refl)))))))))))
      (first (find_path seen path) (find_path-leads seen (seen-formed formed x sound id) path) (no _ (inr (inr (inr (inr (inr (inl refl))))))))
    where
      known : AreFixed x.files.first_opens → (node : Node) (b : Bool) → (b ≡ false → is_file x.files.tree node.number ≡ true)
          → AreFixed (x.files.first_opens ++ map (first_open (committed_files x.files [])) (openings_of (Some id) (if b then None else Some node.number)))
      known fixed node true there = subst AreFixed (sym (append-nil x.files.first_opens)) fixed
      known fixed node false there = fixed-first fixed id node.number (there refl)

      first : (w : Whereabouts) → Leads (tree_seen x.files (Some id)) w → is_at_directory w ≡ false → AreFixed x.files.first_opens → AreFixed (apply x (of_files x (Some id) (create_at x.files (Some id) w access mode d))).files.first_opens
      first no_path leads file = fixed-none (Some id) (create_at x.files (Some id) no_path access mode d) refl
      first no_way leads file = fixed-none (Some id) (create_at x.files (Some id) no_way access mode d) refl
      first (free directory name) leads file = fixed-none (Some id) (create_at x.files (Some id) (free directory name) access mode d) refl
      first at_root leads file = fixed-none (Some id) (create_at x.files (Some id) at_root access mode d) refl
      first (at_node node) leads file = λ fixed. fixed-more (Some id) (create_at x.files (Some id) (at_node node) access mode d)
          (known fixed node (has_made (own_changes x.files.table.own id) node.number || is_some (first_open_of x.files.first_opens id node.number)) (λ new.
          committed-file formed x sound id node.number (or_parts (has_made (own_changes x.files.table.own id) node.number) _ new).0 (file-at (tree_seen x.files (Some id)) node leads.0 (some-from node.content file))))

  -- ---- names that are moved or dropped

  -- a plain change of a name
  plain-fit : (c : Change) → names_only c ≡ true → is_make c ≡ false → FilesFit (files_after x.files None (changing c))
  unfolding units_used nodes_used file_changes_waiting changes_waiting
  plain-fit c name found =
      let z = files_after x.files None (changing c) in
      let own = sum-same (own_units z) (own_units x.files) x.files.table.own (λ o there. own_units-same x z sound o there (own-now x sound o there).0) in
      let step = units-after x.files.tree x.files.versions c x.files.first_opens record { fits = λ make. absurd (true≢false (sym make ∙ found)); file = λ bytes. absurd (true≢false (sym bytes ∙ not-true _ name)) }
      (rests-now x sound x.files.first_opens (λ o there. there)) (λ o there make. absurd (true≢false (sym make ∙ found))) in
      let none = gains-names x.files.tree (c ∷ []) (λ d there. elim there [ inl e ↦ subst (λ d. names_only d ≡ true) e name | inr nothing ↦ absurd nothing ]) in
      let older = ap (sum_by version_units) (older-is z z.first_opens) in
      let older' = ap (sum_by version_units) (older-is x.files x.files.first_opens) in
      let same = ap (older_units (is_older z.tree z.versions)) (append-nil x.files.first_opens) in
      let nodes = nodes-all (c ∷ []) x.files.tree in
      let made : nodes_made (c ∷ []) ≡ 0 = rw found refl in
      let next : next_after x.files.table.next_node c ≡ x.files.table.next_node = stays c found in
      let had = fits.changes in
      let had' = fits.units in
      let had'' = fits.nodes in
      let had''' = fits.next_node in
      record { changes = omega arith; last_open = fits.last_open; next_node = omega arith; units = omega arith; nodes = omega arith }
    where
      stays : (c : Change) → is_make c ≡ false → next_after x.files.table.next_node c ≡ x.files.table.next_node
      stays (Make node parent kind name) found = absurd (true≢false found)
      stays (Put node offset contents) found = refl
      stays (Cut node size pages) found = refl
      stays (Move node parent name) found = refl
      stays (Drop node) found = refl

  -- one of a transaction
  own-fit : (id : Id) (c : Change) → names_only c ≡ true → is_make c ≡ false → lacks_quota x.files (file_room x) (Some id) (changing c) ≡ false → FilesFit (files_after x.files (Some id) (changing c))
  own-fit id c name found quota =
      let says = quota-says (Some id) (changing c) quota in
      record {
        changes = says.0;
        last_open = says.2;
        next_node = says.3;
        units = (let less = units-owned x sound id c name found in let had = fits.units in omega arith);
        nodes = (let less = nodes-owned x sound id c name found in let had = fits.nodes in omega arith);
      }

  name-stays : (who : Option Id) (c : Change) → names_only c ≡ true → is_make c ≡ false → lacks_quota x.files (file_room x) who (changing c) ≡ false → Stays x (of_files x who (changing c))
  name-stays None c name found quota = stays-of_files None (changing c) refl (plain-fit c name found)
  name-stays (Some id) c name found quota = stays-of_files (Some id) (changing c) refl (own-fit id c name found quota)

  drop-stays : (who : Option Id) (w : Whereabouts) → lacks_quota x.files (file_room x) who (drop_at w) ≡ false → Stays x (of_files x who (drop_at w))
  drop-stays who (at_node node) quota = name-stays who (Drop node.number) refl refl quota
  drop-stays who no_path quota = stays-answers who Done
  drop-stays who no_way quota = stays-answers who Done
  drop-stays who (free directory name) quota = stays-answers who Done
  drop-stays who at_root quota = stays-answers who Done

  pub stays-delete : (who : Option Id) (path : List ℕ) → Passes (delete_file_tests x.files (file_room x) who path) → Stays x (of_files x who (delete_file x.files who path))
  unfolding delete_file delete_file_tests
  stays-delete who path passes =
      let no = not_refused (delete_file_tests x.files (file_room x) who path) passes.none in drop-stays who (find_path (tree_seen x.files who) path) (no _ (inr (inr (inr (inr (inr (inr (inl refl))))))))

  pub stays-remove : (who : Option Id) (path : List ℕ) → Passes (remove_directory_tests x.files (file_room x) who path) → Stays x (of_files x who (remove_directory x.files who path))
  unfolding remove_directory remove_directory_tests
  stays-remove who path passes =
      let no = not_refused (remove_directory_tests x.files (file_room x) who path) passes.none in drop-stays who (find_path (tree_seen x.files who) path) (no _ (inr (inr (inr (inr (inr (inr (inr (inl refl)))))))))

  move-stays : (who : Option Id) (from to : Whereabouts) → lacks_quota x.files (file_room x) who (move_at from to) ≡ false → Stays x (of_files x who (move_at from to))
  move-stays who (at_node node) (free directory name) quota = name-stays who (Move node.number directory name) refl refl quota
  move-stays who (at_node node) no_path quota = stays-answers who Done
  move-stays who (at_node node) no_way quota = stays-answers who Done
  move-stays who (at_node node) at_root quota = stays-answers who Done
  move-stays who (at_node node) (at_node other) quota = stays-answers who Done
  move-stays who no_path to quota = stays-answers who Done
  move-stays who no_way to quota = stays-answers who Done
  move-stays who at_root to quota = stays-answers who Done
  move-stays who (free directory name) to quota = stays-answers who Done

  pub stays-move : (who : Option Id) (source target : List ℕ) → Passes (move_file_tests x.files (file_room x) who source target) → Stays x (of_files x who (move_file x.files who source target))
  unfolding move_file move_file_tests
  stays-move who source target passes =
      let no = not_refused (move_file_tests x.files (file_room x) who source target) passes.none in
      move-stays who (find_path (tree_seen x.files who) source) (find_path (tree_seen x.files who) target) (no _ (inr (inr (inr (inr (inr (inr (inr (inl refl)))))))))

  -- ---- what is made

  make-stays : (who : Option Id) (w : Whereabouts) → lacks_quota x.files (file_room x) who (make_at x.files w) ≡ false → lacks_disk x.files (file_room x) who (make_at x.files w) ≡ false → Stays x (of_files x who (make_at x.files w))
  make-stays who (free directory name) quota disk =
      let o = changing (Make x.files.table.next_node directory Directory name) in
      let says = quota-says who o quota in
      let room = disk-says who o disk in
      stays-of_files who o refl record { changes = says.0; last_open = says.2; next_node = says.3; units = room.0; nodes = room.1 }
  make-stays who no_path quota disk = stays-answers who Done
  make-stays who no_way quota disk = stays-answers who Done
  make-stays who at_root quota disk = stays-answers who Done
  make-stays who (at_node node) quota disk = stays-answers who Done

  pub stays-create_directory : (who : Option Id) (path : List ℕ) → Passes (create_directory_tests x.files (file_room x) who path) → Stays x (of_files x who (create_directory x.files who path))
  unfolding create_directory create_directory_tests
  stays-create_directory who path passes =
      let no = not_refused (create_directory_tests x.files (file_room x) who path) passes.none in
      make-stays who (find_path (tree_seen x.files who) path) (no _ (inr (inr (inr (inr (inl refl)))))) (no _ (inr (inr (inr (inr (inr (inl refl)))))))

  -- ---- bytes

  bytes-stays : (who : Option Id) (c : Change) → changes_bytes c ≡ true → lacks_disk x.files (file_room x) who (changing c) ≡ false → Stays x (of_files x who (changing c))
  unfolding file_changes_waiting changes_waiting
  bytes-stays who c bytes disk =
      let room = disk-says who (changing c) disk in
      let next = same c bytes in
      let had = fits.next_node in
      stays-of_files who (changing c) refl record { changes = changes who; last_open = fits.last_open; next_node = omega arith; units = room.0; nodes = room.1 }
    where
      same : (c : Change) → changes_bytes c ≡ true → next_after x.files.table.next_node c ≡ x.files.table.next_node
      same (Make node parent kind name) bytes = absurd (true≢false (sym bytes))
      same (Put node offset contents) bytes = refl
      same (Cut node size pages) bytes = refl
      same (Move node parent name) bytes = absurd (true≢false (sym bytes))
      same (Drop node) bytes = absurd (true≢false (sym bytes))

      changes : (who : Option Id) → file_changes_waiting (files_after x.files who (changing c)) + keys_unset x.keys ≤ x.recorded.units
      changes None = let had = fits.changes in omega arith
      changes (Some id) = let less = changes-owned x sound id c bytes in let had = fits.changes in omega arith

  pub stays-write : (process : Pid) (label : Label) (offset : ℕ) (bytes : List ℕ) → Passes (on_file_tests x process label (λ o. write_units_tests x.files (file_room x) o offset bytes)) → Stays x (on_file x (file_named x process label) (λ o. write_file o offset bytes))
  unfolding write_file write_units_tests
  stays-write process label offset bytes passes = go (file_named x process label) (passed (passed (passed passes).1).1).1
    where
      put : (o : OpenFile) (bytes : List ℕ) → lacks_disk x.files (file_room x) o.transaction (write_file o offset bytes) ≡ false → Stays x (of_files x o.transaction (write_file o offset bytes))
      put o [] disk = stays-answers o.transaction Done
      put o (b ∷ bs) disk = bytes-stays o.transaction (Put o.node offset (Whole (b ∷ bs))) refl disk

      go : (o : Option OpenFile) → Passes (own_tests o (λ o. write_units_tests x.files (file_room x) o offset bytes)) → Stays x (on_file x o (λ o. write_file o offset bytes))
      go None tests = stays-reply x fits Done
      go (Some o) tests = put o bytes (passed (passed tests).1).0

  pub stays-set_end : (process : Pid) (label : Label) (size : ℕ) → Passes (on_file_tests x process label (λ o. set_end_tests x.files (file_room x) o size)) → Stays x (on_file x (file_named x process label) (λ o. set_end o size))
  unfolding set_end set_end_tests
  stays-set_end process label size passes = go (file_named x process label) (passed (passed (passed passes).1).1).1
    where
      go : (o : Option OpenFile) → Passes (own_tests o (λ o. set_end_tests x.files (file_room x) o size)) → Stays x (on_file x o (λ o. set_end o size))
      go None tests = stays-reply x fits Done
      go (Some o) tests = bytes-stays o.transaction (Cut o.node size []) refl (passed (passed tests).1).0

  pub stays-on_file : (o : Option OpenFile) (reply : OpenFile → Reply) → Stays x (on_file x o (λ o. answering (reply o)))
  stays-on_file None reply = stays-reply x fits Done
  stays-on_file (Some o) reply = stays-answers o.transaction (reply o)
