-- The units, the nodes and the changes that wait, of the files, while changes are committed and what ended transactions had is left out.
use Rattle.std.proofs.Common.{◌≡◌, ℕ, ◌+◌, ◌≤◌, ◌&&◌, ◌||◌, not, Bool, true, List, [], filter, length, sum_by, count_by, Option, Some, sym, ◌∙◌, ap, subst, arith, inl, inr}
use Rattle.std.proofs.lemmas.Bool.{and_parts, and_from, eq-eqb, leb-true, or_cases, not-true, true≢false}
use Rattle.ktm_base.specs.declared.id.Id.{Id}
use Rattle.ktm_world.specs.declared.change.Change.{Change}
use Rattle.ktm_world.specs.Changes.{changes_apply, changes_bytes, is_make, node_of, nodes_made}
use Rattle.ktm_world.specs.Committed.{Version, version_of, written_files, changes_to_commit}
use Rattle.ktm_world.specs.Files.{FilesNow, FirstOpen, OwnChanges, own_changes, is_last_version, bytes_seen, bytes_after, first_bytes, committed_files}
use Rattle.ktm_world.specs.FileUses.{own_units, units_used, nodes_used, file_changes_waiting}
use Rattle.ktm_world.specs.Present.{Present}
use Rattle.ktm_world.specs.Tree.{is_file, bytes_of, units_of}
use Rattle.std.specs.Prelude.{nat_le}
use Rattle.txf_laws.specs.Elements.{IsIn}
use Rattle.txf_laws.specs.SoundFiles.{IsSoundFiles}
use Rattle.txf_laws.proofs.offered.CommittedUnits.{Rests, gains, is_older, nodes-all, units-all}
use Rattle.txf_laws.proofs.offered.Elements.{IsIn-filter, list_all-at}
use Rattle.ktm_world.proofs.offered.Lookups.{Rises-from}
use Rattle.txf_laws.proofs.offered.NormalForms.{bytes-final}
use Rattle.txf_laws.proofs.offered.OlderVersions.{AreFixed, older-filter, older-is, version_units}
use Rattle.txf_laws.proofs.offered.CommitsOfOthers.{All-in, own_changes-of, passed}
use Rattle.txf_laws.proofs.offered.Reservations.{own_changes-left, tree-of}
use Rattle.txf_laws.proofs.offered.Sums.{sum-filter-less, sum-same, sum-split}
use Rattle.txf_laws.proofs.offered.Tables.{same_id-equal}
use Rattle.txf_laws.proofs.offered.Versions.{FitVersions, Shows}

-- ---- what is so of first opens and versions

pub versions-fit : (x : Present) → IsSoundFiles x → FitVersions x.files.tree x.files.versions
versions-fit x sound = record {
  rise = sound.versions_rise;
  each = λ v there. let parts = and_parts (is_file x.files.tree v.file) (nat_le 1 v.count) (list_all-at (λ (u : Version). is_file x.files.tree u.file && nat_le 1 u.count) x.files.versions sound.versions_there v there) in (parts.0, leb-true 1 v.count parts.1);
}

pub shown : (x : Present) → IsSoundFiles x → (o : FirstOpen) → IsIn o x.files.first_opens → Shows x.files.tree x.files.versions o
shown x sound o there = record {
  was = λ file. elim (or_cases (not (is_file x.files.tree o.file)) _ (list_all-at (λ (p : FirstOpen). not (is_file x.files.tree p.file) || nat_le p.version (version_of x.files.versions p.file)) x.files.first_opens sound.first_versions o there)) [
    | inl none ↦ absurd (true≢false (sym file ∙ not-true _ none))
    | inr is ↦ leb-true _ _ is
  ];
  bytes = λ file last. All-in (λ (p : FirstOpen). is_last_version x.files p ≡ true → p.bytes ≡ bytes_of x.files.tree p.file) x.files.first_opens sound.first_bytes o there (and_from _ _ file (eq-eqb _ _ last));
}

pub rests-now : (x : Present) → IsSoundFiles x → (os : List FirstOpen) → ((o : FirstOpen) → IsIn o os → IsIn o x.files.first_opens) → Rests x.files.tree x.files.versions os
rests-now x sound os within = record { rises = Rises-from x.files.tree sound.formed.rise; fit = versions-fit x sound; shows = λ o there. shown x sound o (within o there) }

-- ---- the bytes of what transactions wrote

-- changes in the form in which they are committed give each file its bytes, whatever else is so
pub bytes-seen : (files : FilesNow) (id : Id) (cs : List Change) (by : ℕ → List ℕ) → own_changes files.table.own id ≡ cs → changes_to_commit cs by ≡ cs
    → (f : ℕ) → IsIn f (written_files cs) → bytes_seen files (Some id) f ≡ by f
bytes-seen files id cs by own final f there =
    ap (λ ds. bytes_after (first_bytes files id ds f) f ds) own ∙ ap (bytes_after (first_bytes files id cs f) f) (sym final) ∙ bytes-final cs by (first_bytes files id cs f) f there

-- the units of what changes write
abbrev pub final_units : List Change → (ℕ → List ℕ) → ℕ
final_units cs by = sum_by (λ f. units_of (by f)) (written_files cs)

pub own_units-final : (files : FilesNow) (o : OwnChanges) (by : ℕ → List ℕ) → own_changes files.table.own o.transaction ≡ o.changes → changes_to_commit o.changes by ≡ o.changes
    → own_units files o ≡ final_units o.changes by
own_units-final files o by own final = sum-same (λ f. units_of (bytes_seen files (Some o.transaction) f)) (λ f. units_of (by f)) (written_files o.changes) (λ f there. ap units_of (bytes-seen files o.transaction o.changes by own final f there))

-- as it is now
pub own-now : (x : Present) → IsSoundFiles x → (o : OwnChanges) → IsIn o x.files.table.own
    → (own_changes x.files.table.own o.transaction ≡ o.changes) × (changes_to_commit o.changes (bytes_seen x.files (Some o.transaction)) ≡ o.changes)
own-now x sound o there = (
  own_changes-of x.files.table.own sound.own_once o there,
  All-in (λ (p : OwnChanges). changes_to_commit p.changes (bytes_seen x.files (Some p.transaction)) ≡ p.changes) x.files.table.own sound.own_final o there,
)

-- where its changes are the same, an undecided transaction has as many units
pub own_units-same : (x : Present) (files : FilesNow) → IsSoundFiles x → (o : OwnChanges) → IsIn o x.files.table.own → own_changes files.table.own o.transaction ≡ o.changes → own_units files o ≡ own_units x.files o
own_units-same x files sound o there own = own_units-final files o (bytes_seen x.files (Some o.transaction)) own (own-now x sound o there).1

-- ---- what is left

-- no more changes wait, and no more is in use
pub record NoMoreFiles (f g : FilesNow) : Type 0 where
  pub changes : file_changes_waiting g ≤ file_changes_waiting f
  pub last_open : g.table.last_open ≤ f.table.last_open
  pub next_node : g.table.next_node ≤ f.table.next_node
  pub units : units_used g ≤ units_used f
  pub nodes : nodes_used g ≤ nodes_used f

pub files-same : (f g : FilesNow) → g ≡ f → NoMoreFiles f g
files-same f g same = subst (NoMoreFiles f) (sym same) (record { changes = omega arith; last_open = omega arith; next_node = omega arith; units = omega arith; nodes = omega arith })

pub files-then : (f g h : FilesNow) → NoMoreFiles f g → NoMoreFiles g h → NoMoreFiles f h
files-then f g h a b = record {
  changes = omega (arith, a.changes, b.changes);
  last_open = omega (arith, a.last_open, b.last_open);
  next_node = omega (arith, a.next_node, b.next_node);
  units = omega (arith, a.units, b.units);
  nodes = omega (arith, a.nodes, b.nodes);
}

module _ (x : Present) (sound : IsSoundFiles x) (fixed : AreFixed x.files.first_opens) (cs : List Change) (keep : Option Id → Bool) (next : ℕ) (all : changes_apply x.files.tree cs ≡ true)
    (fresh : (o : FirstOpen) → IsIn o x.files.first_opens → keep (Some o.transaction) ≡ true → (c : Change) → IsIn c cs → is_make c ≡ true → node_of c ≡ o.file → ⊥) where
  abbrev z : FilesNow
  z = passed x.files cs keep next

  -- is it of a transaction that is kept
  abbrev keeps : OwnChanges → Bool
  keeps o = keep (Some o.transaction)

  -- what is not kept
  abbrev gone : List OwnChanges
  gone = filter (λ o. not (keeps o)) x.files.table.own

  own-left : sum_by (own_units z) (filter keeps x.files.table.own) ≡ sum_by (own_units x.files) (filter keeps x.files.table.own)
  own-left = sum-same (own_units z) (own_units x.files) (filter keeps x.files.table.own) (λ o there.
      let kept = IsIn-filter keeps x.files.table.own o there in
      own_units-same x z sound o kept.0 (own_changes-left keeps x.files.table.own o.transaction (λ p same. subst (λ i. keep (Some i) ≡ true) (sym (same_id-equal p.transaction o.transaction same)) kept.1)
      ∙ (own-now x sound o kept.0).0))

  -- the first opens that are kept
  abbrev left : List FirstOpen
  left = filter (λ f. keep (Some f.transaction)) x.files.first_opens

  pub units-passed : units_used z + sum_by (own_units x.files) gone ≤ units_used x.files + gains x.files.tree cs
  unfolding units_used
  units-passed =
      let older = ap (sum_by version_units) (older-is z left) in
      let older' = ap (sum_by version_units) (older-is x.files x.files.first_opens) in
      let kept = older-filter (λ (f : FirstOpen). keep (Some f.transaction)) x.files.first_opens (is_older x.files.tree x.files.versions) fixed in
      let step = units-all cs (committed_files x.files []) left all (rests-now x sound left (λ o there. (IsIn-filter (λ (f : FirstOpen). keep (Some f.transaction)) x.files.first_opens o there).0)) (λ c in_cs o there make at.
      let has = IsIn-filter (λ (f : FirstOpen). keep (Some f.transaction)) x.files.first_opens o there in fresh o has.0 has.1 c in_cs make at) in
      let own = own-left in
      let parts = sum-split (own_units x.files) keeps x.files.table.own in
      omega arith

  pub nodes-passed : nodes_used z + sum_by (λ o. nodes_made o.changes) gone ≤ nodes_used x.files + nodes_made cs
  unfolding nodes_used
  nodes-passed =
      let tree = ap length (tree-of cs (committed_files x.files [])) in
      let low = nodes-all cs x.files.tree in
      let parts = sum-split (λ (o : OwnChanges). nodes_made o.changes) keeps x.files.table.own in
      omega arith

  pub changes-passed : file_changes_waiting z ≤ file_changes_waiting x.files
  unfolding file_changes_waiting
  changes-passed = sum-filter-less (λ (o : OwnChanges). count_by (λ change. not (changes_bytes change)) o.changes) keeps x.files.table.own
