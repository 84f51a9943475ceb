-- A file that is made so long has as many units in use.
use Rattle.std.proofs.Common.{◌≡◌, ℕ, ◌+◌, ◌-◌, ◌*◌, ◌/◌, ◌<◌, ◌≤◌, ◌==◌, true, List, [], ◌∷◌, ◌++◌, filter, length, sum_by, take, replicate, Option, Some, None, refl, sym, ◌∙◌, ap, subst, arith, inl, inr, length-append, length-take}
use Rattle.std.proofs.lemmas.Bool.{cases_Bool, eq-eqb, eqb-true, true≢false, lt-ltb}
use Rattle.std.proofs.lemmas.List.{length-replicate}
use Rattle.std.proofs.lemmas.List.Sums.{fold-append}
use Rattle.ktm_base.specs.declared.id.Id.{Id}
use Rattle.ktm_world.specs.declared.change.Change.{Change}
use Rattle.ktm_world.specs.declared.change.Change.TheVariants.{Make, Put, Cut, Move, Drop}
use Rattle.ktm_world.specs.declared.recorded.Node.{Node}
use Rattle.ktm_world.specs.Changes.{bytes_in, changed, changed_all}
use Rattle.ktm_world.specs.Committed.{written_after, written_files}
use Rattle.ktm_world.specs.Conflicts.{writes}
use Rattle.ktm_world.specs.FileCalls.{set_end}
use Rattle.ktm_world.specs.FileOutcome.{FileRoom, files_after, lacks_disk}
use Rattle.ktm_world.specs.Files.{FilesNow, OpenFile, OwnChanges, bytes_after, bytes_seen, bytes_with, changes_with, first_bytes, own_changes, with_own_changes}
use Rattle.ktm_world.specs.FileUses.{own_units, units_used}
use Rattle.ktm_world.specs.Transactions.{same_id}
use Rattle.ktm_world.specs.Tree.{Tree, bytes_of, bytes_or_none, cut_to, is_file, put_over, units_of}
use Rattle.txf_laws.specs.Elements.{IsIn}
use Rattle.txf_laws.proofs.offered.NormalForms.{IsIn-with_number-new, bytes-final, changed_all-append, filter-append, is_of_file, written-final}
use Rattle.txf_laws.proofs.offered.Sums.{sum-one}
use Rattle.txf_laws.proofs.offered.Tables.{same_id-equal, same_id-from}
use Rattle.txf_calls.specs.Fits.{IsOnFile}

pub length-cut_to : (old : List ℕ) (size : ℕ) → length (cut_to old size) ≡ size
length-cut_to old size = omega (arith, length-append (take size old) (replicate (size - length old) 0), length-take size old, length-replicate {A = ℕ} (size - length old) 0)

-- the units of so many bytes
abbrev units : ℕ → ℕ
units size = (size + 4095) / 4096

-- ---- one file alone

module _ (file : ℕ) where
  abbrev alone : List ℕ → Tree
  alone bytes = record { number = file; parent = 1; name = []; content = Some bytes } ∷ []

  one : (bytes : List ℕ) (c : Change) → is_of_file file c ≡ true → (b : List ℕ) × (changed (alone bytes) c ≡ alone b)
  one bytes (Make node parent kind name) its = absurd (true≢false (sym its))
  one bytes (Put node offset contents) its = (put_over bytes offset (bytes_in contents), rw (eq-eqb file node (sym (eqb-true node file its))) refl)
  one bytes (Cut node size pages) its = (cut_to bytes size, rw (eq-eqb file node (sym (eqb-true node file its))) refl)
  one bytes (Move node parent name) its = absurd (true≢false (sym its))
  one bytes (Drop node) its = absurd (true≢false (sym its))

  -- it stays there, with some bytes
  stays : (cs : List Change) (bytes : List ℕ) → (b : List ℕ) × (changed_all (alone bytes) (filter (is_of_file file) cs) ≡ alone b)
  stays [] bytes = (bytes, refl)
  stays (c ∷ cs) bytes = elim (cases_Bool (is_of_file file c)) [
    | inl its ↦
        let (b, is) = one bytes c its in
        let (d, then) = stays cs b in
        (d, rw its (ap (λ tree. changed_all tree (filter (is_of_file file) cs)) is ∙ then))
    | inr other ↦ let (d, then) = stays cs bytes in (d, rw other then)
  ]

  -- the last cut makes it so long
  cut-last : (cs : List Change) (bytes : List ℕ) (size : ℕ) → length (bytes_after bytes file (cs ++ Cut file size [] ∷ [])) ≡ size
  cut-last cs bytes size =
      let (b, is) = stays cs bytes in
      ap (λ (l : List Change). length (bytes_of (changed_all (alone bytes) l) file)) (filter-append (is_of_file file) cs (Cut file size [] ∷ []) ∙ its)
      ∙ ap (λ (t : Tree). length (bytes_of t file)) (changed_all-append (alone bytes) (filter (is_of_file file) cs) (Cut file size [] ∷ []) ∙ ap (λ t. changed t (Cut file size [])) is)
      ∙ alone-cut b
    where
      its : filter (is_of_file file) cs ++ filter (is_of_file file) (Cut file size [] ∷ []) ≡ filter (is_of_file file) cs ++ Cut file size [] ∷ []
      its = rw (eq-eqb file file refl) refl

      alone-cut : (b : List ℕ) → length (bytes_of (changed (alone b) (Cut file size [])) file) ≡ size
      alone-cut b = rw (eq-eqb file file refl, eq-eqb file file refl) (length-cut_to b size)

-- ---- a transaction's own changes

own-new : (own : List OwnChanges) (id : Id) (new : List Change) → own_changes (with_own_changes own id new) id ≡ new
own-new [] id new = rw (same_id-from id id refl) refl
own-new (o ∷ os) id new = elim (cases_Bool (same_id o.transaction id)) [
  | inl same ↦ rw (same, same) refl
  | inr other ↦ rw (other, other) (own-new os id new)
]

entry-there : (own : List OwnChanges) (id : Id) (new : List Change) → IsIn (record { transaction = id; changes = new }) (with_own_changes own id new)
entry-there [] id new = inl refl
entry-there (o ∷ os) id new = elim (cases_Bool (same_id o.transaction id)) [
  | inl same ↦ rw same (inl (λ i. record { transaction = same_id-equal o.transaction id same i; changes = new }))
  | inr other ↦ rw other (inr (entry-there os id new))
]

module _ (files : FilesNow) (size : ℕ) where
  own-filled : (id : Id) (o : OpenFile) → o.transaction ≡ Some id → units size ≤ units_used (files_after files (Some id) (set_end o size))
  unfolding set_end units_used
  own-filled id o within =
      let in-sum : own_units after entry ≤ sum_by (own_units after) after.table.own = sum-one (own_units after) after.table.own entry (entry-there files.table.own id new) in
      let in-entry : units_of (bytes_seen after (Some id) o.node) ≤ own_units after entry = sum-one (λ file. units_of (bytes_seen after (Some id) file)) (written_files new) o.node (subst (IsIn o.node) (sym (written-final all by)) there) in
      let long : length (bytes_seen after (Some id) o.node) ≡ size = ap length seen ∙ cut-last o.node (own_changes files.table.own id) (first_bytes files id all o.node) size in
      omega (arith, in-sum, in-entry, long)
    where
      c : Change
      c = Cut o.node size []

      all : List Change
      all = own_changes files.table.own id ++ c ∷ []

      by : ℕ → List ℕ
      by = bytes_with files id all

      new : List Change
      new = changes_with files id c

      entry : OwnChanges
      entry = record { transaction = id; changes = new }

      after : FilesNow
      after = files_after files (Some id) (set_end o size)

      there : IsIn o.node (written_files all)
      there = subst (IsIn o.node) (sym (fold-append written_after [] (own_changes files.table.own id) (c ∷ []))) (IsIn-with_number-new (written_files (own_changes files.table.own id)) o.node)

      seen : bytes_seen after (Some id) o.node ≡ by o.node
      seen =
          ap (λ cs. bytes_after (first_bytes after id cs o.node) o.node cs) (own-new files.table.own id new)
          ∙ bytes-final all by (first_bytes after id new o.node) o.node there

  -- ---- a committed file

  cut-there : (tree : Tree) (number : ℕ) → is_file tree number ≡ true → (n : Node) × IsIn n (changed tree (Cut number size [])) × (length (bytes_or_none n.content) ≡ size)
  cut-there [] number there = absurd (true≢false (sym there))
  cut-there (x ∷ xs) number there = elim (cases_Bool (x.number == number)) [
    | inl its ↦ (record x { content = Some (cut_to (bytes_or_none x.content) size) }, rw its (inl refl), length-cut_to (bytes_or_none x.content) size)
    | inr other ↦ let (n, is-in, long) = cut-there xs number (rw other at there) in (n, rw other (inr is-in), long)
  ]

  plain-filled : (o : OpenFile) → is_file files.tree o.node ≡ true → units size ≤ units_used (files_after files None (set_end o size))
  unfolding set_end units_used
  plain-filled o there =
      let (n, is-in, long) = cut-there files.tree o.node there in
      let in-sum = sum-one (λ node. units_of (bytes_or_none node.content)) (changed files.tree (Cut o.node size [])) n is-in in
      omega (arith, in-sum, long)

  filled : (who : Option Id) (o : OpenFile) → o.transaction ≡ who → writes o.access ≡ true → IsOnFile files o → units size ≤ units_used (files_after files who (set_end o size))
  filled None o who may on = plain-filled o (on who may)
  filled (Some id) o who may on = own-filled id o who

  -- it is more than there is room for
  pub too-long : (room : FileRoom) (o : OpenFile) → writes o.access ≡ true → IsOnFile files o → room.units * 4096 < size → lacks_disk files room o.transaction (set_end o size) ≡ true
  unfolding lacks_disk
  too-long room o may on long =
      let in-use = filled o.transaction o refl may on in
      rw (lt-ltb room.units (units_used (files_after files o.transaction (set_end o size))) (omega (arith, in-use, long))) refl
