-- The units, the nodes and the changes that wait, where a transaction makes one change more.
use Rattle.std.proofs.Common.{◌≡◌, ℕ, ◌+◌, ◌≤◌, ◌==◌, ◌&&◌, not, Bool, true, false, List, [], ◌∷◌, ◌++◌, filter, length, sum_by, count_by, Some, refl, sym, ◌∙◌, ap, subst, arith, inl, inr}
use Rattle.std.proofs.lemmas.Bool.{cases_Bool, and_parts, true≢false, not-true}
use Rattle.std.proofs.lemmas.List.{append-nil}
use Rattle.std.proofs.lemmas.List.Sums.{fold-append, length-filter, sum_by-cons}
use Rattle.std.specs.List.{list_any, list_all}
use Rattle.ktm_base.specs.declared.id.Id.{Id}
use Rattle.ktm_world.specs.declared.change.Change.{Change}
use Rattle.ktm_world.specs.declared.change.Change.TheVariants.{Make, Put, Cut, Move, Drop}
use Rattle.ktm_world.specs.declared.recorded.Node.{Node}
use Rattle.ktm_world.specs.Changes.{changed_all, changes_bytes, is_drop, is_make, node_of, nodes_made}
use Rattle.ktm_world.specs.Committed.{changes_to_commit, written_after, written_files}
use Rattle.ktm_world.specs.FileOutcome.{changing, files_after}
use Rattle.ktm_world.specs.Files.{FilesNow, OwnChanges, bytes_after, bytes_seen, bytes_with, changes_with, first_bytes, own_changes, with_own_changes}
use Rattle.ktm_world.specs.FileUses.{own_units, units_used, nodes_used, file_changes_waiting}
use Rattle.ktm_world.specs.Present.{Present}
use Rattle.ktm_world.specs.Transactions.{same_id}
use Rattle.ktm_world.specs.Tree.{bytes_of, units_of}
use Rattle.txf_laws.specs.FinalChanges.{names_of}
use Rattle.txf_laws.specs.Elements.{IsIn, each_pair}
use Rattle.txf_laws.specs.SoundFiles.{IsSoundFiles, changed_by_two}
use Rattle.txf_laws.proofs.offered.CommittedUnits.{is_older}
use Rattle.txf_laws.proofs.offered.Elements.{IsIn-filter, list_all-at}
use Rattle.txf_laws.proofs.offered.NormalForms.{AllBytes, bytes-final, ends-bytes, ends_of, filter-append, is-final, names_only, names-final, written-final}
use Rattle.txf_laws.proofs.offered.OlderVersions.{older-is, older_units, version_units}
use Rattle.txf_laws.proofs.offered.OwnChange.{entry, with-itself, with-other}
use Rattle.txf_laws.proofs.offered.CommitsOfOthers.{own-final}
use Rattle.txf_laws.proofs.offered.Sums.{sum-filter-less, sum-same}
use Rattle.txf_laws.proofs.offered.Tables.{same_id-equal, same_id-sym}
use Rattle.ktm_records.proofs.offered.UnitsPassed.{bytes-seen, own-now, own_units-same}

-- ---- sums over own changes

sum-with_own : (f g : OwnChanges → ℕ) (own : List OwnChanges) (id : Id) (new : List Change) → each_pair changed_by_two own ≡ true → ((o : OwnChanges) → IsIn o own → same_id o.transaction id ≡ false → g o ≡ f o)
    → g (entry id new) ≤ f (entry id (own_changes own id)) → f (entry id []) ≡ 0 → sum_by g (with_own_changes own id new) ≤ sum_by f own
sum-with_own f g [] id new once same itself none = omega arith
sum-with_own f g (o ∷ os) id new once same itself none =
    let parts = and_parts (list_all (changed_by_two o) os) (each_pair changed_by_two os) once in
    let old = sum_by-cons f o os in
    elim (cases_Bool (same_id o.transaction id)) [
      | inl here ↦
          let e : o.transaction ≡ id = same_id-equal o.transaction id here in
          let mine : g (entry id new) ≤ f (entry id o.changes) = rw here at itself in
          let left : g (record o { changes = new }) ≡ g (entry id new) = ap (λ i. g (entry i new)) e in
          let right : f o ≡ f (entry id o.changes) = ap (λ i. f (entry i o.changes)) e in
          let rest = sum-same g f os (λ p there. same p (inr there) (subst (λ i. same_id p.transaction i ≡ false) e (same_id-sym o.transaction p.transaction (not-true _ (list_all-at (changed_by_two o) os parts.0 p there))))) in
          rw here (let new' = sum_by-cons g (record o { changes = new }) os in omega arith)
      | inr other ↦
          let rest = sum-with_own f g os id new parts.1 (λ p there. same p (inr there)) (rw other at itself) none in
          let first = same o (inl refl) other in
          rw other (let new' = sum_by-cons g o (with_own_changes os id new) in omega arith)
    ]

-- ---- nodes that changes make and leave

abbrev drops_after : Change → List Change → Bool
drops_after c cs = list_any (λ later. is_drop later && node_of later == node_of c) cs

any-append : {X : Type 0} (test : X → Bool) (xs ys : List X) → list_any test xs ≡ true → list_any test (xs ++ ys) ≡ true
any-append test [] ys is = absurd (true≢false (sym is))
any-append test (x ∷ xs) ys is = elim (cases_Bool (test x)) [ inl first ↦ rw first refl | inr later ↦ rw later (any-append test xs ys (rw later at is)) ]

nodes-append : (as' bs : List Change) → nodes_made (as' ++ bs) ≤ nodes_made as' + nodes_made bs
nodes-append [] bs = omega arith
nodes-append (a ∷ as') bs =
    let rest = nodes-append as' bs in
    elim (cases_Bool (is_make a)) [
      | inr no_make ↦ rw no_make (omega arith)
      | inl make ↦ elim (cases_Bool (drops_after a as')) [
        | inl dropped ↦ rw (make, dropped, any-append (λ later. is_drop later && node_of later == node_of a) as' bs dropped) (omega arith)
        | inr left ↦ elim (cases_Bool (drops_after a (as' ++ bs))) [ inl later ↦ rw (make, left, later) (omega arith) | inr still ↦ rw (make, left, still) (omega arith) ]
      ]
    ]

any-bytes : (n : ℕ) (bs : List Change) → AllBytes bs → list_any (λ later. is_drop later && node_of later == n) bs ≡ false
any-bytes n [] all = refl
any-bytes n (b ∷ bs) all = let parts = and_parts (changes_bytes b) (list_all changes_bytes bs) all in rw (none b parts.0) (any-bytes n bs parts.1)
  where
    none : (b : Change) → changes_bytes b ≡ true → is_drop b ≡ false
    none (Make node parent kind name) bytes = absurd (true≢false (sym bytes))
    none (Put node offset contents) bytes = refl
    none (Cut node size pages) bytes = refl
    none (Move node parent name) bytes = absurd (true≢false (sym bytes))
    none (Drop node) bytes = absurd (true≢false (sym bytes))

nodes-bytes : (bs : List Change) → AllBytes bs → nodes_made bs ≡ 0
nodes-bytes [] all = refl
nodes-bytes (b ∷ bs) all = let parts = and_parts (changes_bytes b) (list_all changes_bytes bs) all in rw (none b parts.0) (let rest = nodes-bytes bs parts.1 in omega arith)
  where
    none : (b : Change) → changes_bytes b ≡ true → is_make b ≡ false
    none (Make node parent kind name) bytes = absurd (true≢false (sym bytes))
    none (Put node offset contents) bytes = refl
    none (Cut node size pages) bytes = refl
    none (Move node parent name) bytes = absurd (true≢false (sym bytes))
    none (Drop node) bytes = absurd (true≢false (sym bytes))

any-before : (test : Change → Bool) (as' bs : List Change) → list_any test bs ≡ false → list_any test (as' ++ bs) ≡ list_any test as'
any-before test [] bs none = none
any-before test (a ∷ as') bs none = elim (cases_Bool (test a)) [ inl is ↦ rw is refl | inr not' ↦ rw not' (any-before test as' bs none) ]

-- bytes at the end make none
nodes-names : (as' bs : List Change) → AllBytes bs → nodes_made (as' ++ bs) ≡ nodes_made as'
nodes-names [] bs all = nodes-bytes bs all
nodes-names (a ∷ as') bs all =
    let rest = nodes-names as' bs all in
    rw (any-before (λ later. is_drop later && node_of later == node_of a) as' bs (any-bytes (node_of a) bs all)) (omega arith)

nodes-final : (cs : List Change) (by : ℕ → List ℕ) → nodes_made (changes_to_commit cs by) ≡ nodes_made (names_of cs)
nodes-final cs by = nodes-names (names_of cs) (ends_of by (written_files cs)) (ends-bytes by (written_files cs))

-- ---- one change more

module _ (x : Present) (sound : IsSoundFiles x) (id : Id) (c : Change) where
  abbrev z : FilesNow
  z = files_after x.files (Some id) (changing c)

  abbrev mine : List Change
  mine = own_changes x.files.table.own id

  abbrev more : List Change
  more = mine ++ c ∷ []

  abbrev by : ℕ → List ℕ
  by = bytes_seen x.files (Some id)

  abbrev by' : ℕ → List ℕ
  by' = bytes_with x.files id more

  abbrev new : List Change
  new = changes_with x.files id c

  others-same : (o : OwnChanges) → IsIn o x.files.table.own → same_id o.transaction id ≡ false → own_units z o ≡ own_units x.files o
  others-same o there other = own_units-same x z sound o there (with-other x.files.table.own id new o.transaction (same_id-sym o.transaction id other) ∙ (own-now x sound o there).0)

  -- the bytes of a file that the change leaves as they were
  bytes-left : names_only c ≡ true → (f : ℕ) → IsIn f (written_files mine) → by' f ≡ by f
  bytes-left name f there =
      let test : Change → Bool = λ change. changes_bytes change && node_of change == f in
      let none : filter test (c ∷ []) ≡ [] = rw (not-true _ name) refl in
      let same : filter test more ≡ filter test mine = filter-append test mine (c ∷ []) ∙ ap (λ ds. filter test mine ++ ds) none ∙ append-nil (filter test mine) in
      let old : Node = record { number = f; parent = 1; name = []; content = Some (first_bytes x.files id more f) } in
      ap (λ ds. bytes_of (changed_all (old ∷ []) ds) f) same
      ∙ ap (bytes_after (first_bytes x.files id more f) f) (sym (own-final x sound id)) ∙ bytes-final mine by (first_bytes x.files id more f) f there

  written-left : names_only c ≡ true → is_make c ≡ false → (f : ℕ) → IsIn f (written_files more) → IsIn f (written_files mine)
  written-left name found f there = go c name found (subst (IsIn f) (fold-append written_after [] mine (c ∷ [])) there)
    where
      go : (c : Change) → names_only c ≡ true → is_make c ≡ false → IsIn f (written_after (written_files mine) c) → IsIn f (written_files mine)
      go (Make node parent kind name) only none there = absurd (true≢false none)
      go (Put node offset contents) only none there = absurd (true≢false (sym only))
      go (Cut node size pages) only none there = absurd (true≢false (sym only))
      go (Move node parent name) only none there = there
      go (Drop node) only none there = (IsIn-filter (λ m. not (m == node)) (written_files mine) f there).0

  written-less : (g : ℕ → ℕ) → names_only c ≡ true → is_make c ≡ false → sum_by g (written_files more) ≤ sum_by g (written_files mine)
  written-less g only none = let e = ap (sum_by g) (fold-append written_after [] mine (c ∷ [])) in let low = go c only none in omega arith
    where
      go : (c : Change) → names_only c ≡ true → is_make c ≡ false → sum_by g (written_after (written_files mine) c) ≤ sum_by g (written_files mine)
      go (Make node parent kind name) only none = absurd (true≢false none)
      go (Put node offset contents) only none = absurd (true≢false (sym only))
      go (Cut node size pages) only none = absurd (true≢false (sym only))
      go (Move node parent name) only none = omega arith
      go (Drop node) only none = sum-filter-less g (λ m. not (m == node)) (written_files mine)

  itself-units : names_only c ≡ true → is_make c ≡ false → own_units z (entry id new) ≤ own_units x.files (entry id mine)
  itself-units name found =
      let written : written_files new ≡ written_files more = written-final more by' in
      let seen : sum_by (λ f. units_of (bytes_seen z (Some id) f)) (written_files new) ≡ sum_by (λ f. units_of (by f)) (written_files new) = sum-same _ _ (written_files new) (λ f there.
      let in_more = subst (IsIn f) written there in
      ap units_of (bytes-seen z id new by' (with-itself x.files.table.own id new) ((is-final more by').again by' (λ g has. refl)) f there ∙ bytes-left name f (written-left name found f in_more))) in
      let e = ap (sum_by (λ f. units_of (by f))) written in
      let less = written-less (λ f. units_of (by f)) name found in
      omega arith

  itself-nodes : names_only c ≡ true → is_make c ≡ false → nodes_made new ≤ nodes_made mine
  itself-nodes name found =
      let a = nodes-final more by' in
      let b : names_of more ≡ names_of mine ++ c ∷ [] = filter-append names_only mine (c ∷ []) ∙ ap (λ ds. names_of mine ++ ds) (rw name refl) in
      let b' = ap nodes_made b in
      let d = nodes-append (names_of mine) (c ∷ []) in
      let e : nodes_made (c ∷ []) ≡ 0 = rw found refl in
      let f = sym (ap nodes_made (own-final x sound id)) ∙ nodes-final mine by in
      omega arith

  same-first : z.first_opens ≡ x.files.first_opens
  same-first = append-nil x.files.first_opens

  pub units-owned : names_only c ≡ true → is_make c ≡ false → units_used z ≤ units_used x.files
  unfolding units_used
  units-owned name found =
      let own = sum-with_own (own_units x.files) (own_units z) x.files.table.own id new sound.own_once others-same (itself-units name found) refl in
      let older = ap (sum_by version_units) (older-is z z.first_opens) in
      let older' = ap (sum_by version_units) (older-is x.files x.files.first_opens) in
      let same = ap (older_units (is_older x.files.tree x.files.versions)) same-first in
      omega arith

  pub nodes-owned : names_only c ≡ true → is_make c ≡ false → nodes_used z ≤ nodes_used x.files
  unfolding nodes_used
  nodes-owned name found =
      let own = sum-with_own (λ (o : OwnChanges). nodes_made o.changes) (λ (o : OwnChanges). nodes_made o.changes) x.files.table.own id new sound.own_once (λ o there other. refl) (itself-nodes name found) refl in
      omega arith

  -- no more changes wait where bytes are put or cut
  pub changes-owned : changes_bytes c ≡ true → file_changes_waiting z ≤ file_changes_waiting x.files
  unfolding file_changes_waiting
  changes-owned bytes =
      let counted : count_by names_only new ≤ count_by names_only mine =
      let a = length-filter names_only new in
      let b = length-filter names_only mine in
      let e : names_of new ≡ names_of mine = names-final more by' ∙ filter-append names_only mine (c ∷ []) ∙ ap (λ ds. names_of mine ++ ds) (rw bytes refl) ∙ append-nil (names_of mine) in
      let e' = ap length e in
      omega arith in
      sum-with_own (λ (o : OwnChanges). count_by names_only o.changes) (λ (o : OwnChanges). count_by names_only o.changes) x.files.table.own id new sound.own_once (λ o there other. refl) counted refl
