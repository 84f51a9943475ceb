-- What is in use of the files in memory, by what is counted.
use Rattle.std.proofs.Common.{◌≡◌, ℕ, ◌+◌, ◌<◌, ◌≤◌, ◌&&◌, true, false, find, map, is_some, length, count_by, List, [], ◌∷◌, ◌++◌, sum_by, Option, Some, None, All, refl, sym, ◌∙◌, ap, subst, arith, inl, inr}
use Rattle.std.proofs.lemmas.Bool.{cases_Bool, and_parts, and_from, eq-eqb, ne_eqb, lt-ltb, not-true, true≢false}
use Rattle.std.proofs.lemmas.List.{append-nil}
use Rattle.std.proofs.lemmas.List.Elements.{All-cons, All-nil}
use Rattle.std.proofs.lemmas.List.Sums.{sum_by-cons}
use Rattle.std.specs.List.{flat_map, list_all}
use Rattle.std.specs.Option.{option_map}
use Rattle.std.specs.Prelude.{nat_lt}
use Rattle.ktm_world.specs.declared.change.Change.{Change}
use Rattle.ktm_world.specs.Changes.{nodes_made}
use Rattle.ktm_world.specs.Committed.{Version, version_of, final_bytes, changes_to_commit}
use Rattle.ktm_world.specs.Files.{FirstOpen, OwnChanges, bytes_seen, is_last_version}
use Rattle.ktm_world.specs.FileUses.{own_units, older_versions, units_used, nodes_used, file_changes_waiting}
use Rattle.ktm_world.specs.Tree.{bytes_of, is_file, units_of}
use Rattle.txf_overlay.specs.Written.{AreOver, AreFilesRising}
use Rattle.txf_overlay.specs.OverlayState.{is_of_names}
use Rattle.txf_overlay.specs.Laws.{IsOwn, number_of}
use Rattle.txf_overlay.specs.OverlayState.{OverlayState, Written, final_of, own_of}
use Rattle.txf_overlay.specs.Written.{bytes_at, bytes_or, units_in}
use Rattle.txf_tree.specs.TreeState.{NodeNow, plain, tree_of, versions_in, versions_of}
use Rattle.txf_versions.specs.VersionsState.{AreHeld, is_version, older_units as kept_units}
use Rattle.txf_versions.specs.declared.kept.Older.{Older}
use Rattle.txf_versions.specs.declared.opened.Opened.{Opened}
use Rattle.txf_volume.specs.Held.{FilesHeld, OwnHeld, changes_held, files_of, first_held, names_held, overlay_in, own_held, version_bytes}
use Rattle.txf_volume.specs.Ties.{AreFew, AreTied, IsKeptOpen, IsOver, held_by_two, is_last, nodes_held, units_held}
use Rattle.txf_volume.specs.declared.counts.Counts.{Counts}
use Rattle.txf_laws.specs.SoundFiles.{changed_by_two, files_rise}
use Rattle.txf_volume.specs.Uses.{IsSteady}
use Rattle.txf_laws.specs.FileEffects.{CanBeCounted}
use Rattle.txf_laws.specs.Elements.{IsIn, each_pair}
use Rattle.txf_laws.proofs.offered.Elements.{list_all-at}
use Rattle.txf_laws.proofs.offered.CommitsOfOthers.{All-in}
use Rattle.txf_laws.proofs.offered.NormalForms.{AllBytes, names_only}
use Rattle.txf_laws.proofs.offered.NormalForms.{ends_of, filter-append, no-names}
use Rattle.txf_laws.specs.FinalChanges.{names_of}
use Rattle.ktm_world.proofs.offered.Lookups.{Above, Rises, Rises-from}
use Rattle.txf_volume.proofs.NodesMade.{made-append, made-bytes, drops-bytes, waiting-bytes}
use Rattle.txf_volume.proofs.OlderKept.{older-kept}
use Rattle.txf_laws.proofs.offered.OlderVersions.{older-is, version_units}
use Rattle.txf_laws.proofs.offered.Tables.{same_id-from}
use Rattle.txf_laws.proofs.offered.CommittedUnits.{is_older}
use Rattle.txf_volume.proofs.Seen.{seen-some}
use Rattle.txf_laws.proofs.offered.Sums.{count-append, one_where, count-cons}
use Rattle.txf_laws.proofs.offered.Sums.{sum-same}

-- ---- lists

pub All-map : {X Y : Type 0} (P : Y → Type 0) (f : X → Y) (xs : List X) → ((x : X) → IsIn x xs → P (f x)) → All P (map f xs)
All-map P f [] each = All-nil P
All-map P f (x ∷ xs) each = All-cons P (f x) (map f xs) (each x (inl refl)) (All-map P f xs (λ y there. each y (inr there)))

pub sum-map : {X Y : Type 0} (g : Y → ℕ) (f : X → Y) (xs : List X) → sum_by g (map f xs) ≡ sum_by (λ x. g (f x)) xs
sum-map g f [] = refl
sum-map g f (x ∷ xs) = let rest = sum-map g f xs in let a = sum_by-cons g (f x) (map f xs) in let b = sum_by-cons (λ x. g (f x)) x xs in omega arith

pairs-held : (overlays : List OwnHeld) → each_pair changed_by_two (own_held overlays) ≡ each_pair held_by_two overlays
pairs-held [] = refl
pairs-held (o ∷ os) = λ i. all os i && pairs-held os i
  where
    all : (ps : List OwnHeld) → list_all (changed_by_two (changes_held o)) (own_held ps) ≡ list_all (held_by_two o) ps
    all [] = refl
    all (p ∷ ps) = ap (λ b. held_by_two o p && b) (all ps)

-- what a transaction changed is found
pub overlay-at : (overlays : List OwnHeld) → each_pair held_by_two overlays ≡ true → (o : OwnHeld) → IsIn o overlays → overlay_in overlays o.transaction ≡ Some o.overlay
overlay-at [] once o there = absurd there
overlay-at (p ∷ ps) once o (inl e) = rw (same_id-from p.transaction o.transaction (ap (λ (q : OwnHeld). q.transaction) e)) (ap (λ (q : OwnHeld). Some q.overlay) e)
overlay-at (p ∷ ps) once o (inr there) =
    let parts = and_parts (list_all (held_by_two p) ps) (each_pair held_by_two ps) once in
    rw (not-true _ (list_all-at (held_by_two p) ps parts.0 o there)) (overlay-at ps parts.1 o there)

-- ---- the form of own changes

over-all : (n : ℕ) (ws : List Written) → AreOver n ws → (w : Written) → IsIn w ws → n < w.file
over-all n [] over w there = absurd there
over-all n (v ∷ vs) over w (inl e) = subst (λ (u : Written). n < u.file) e over.0
over-all n (v ∷ vs) over w (inr there) = over-all n vs over.1 w there

bytes-at : (ws : List Written) → AreFilesRising ws → (w : Written) → IsIn w ws → bytes_at ws w.file ≡ Some w.bytes
bytes-at [] rises w there = absurd there
bytes-at (v ∷ vs) rises w (inl e) = rw (eq-eqb v.file w.file (ap (λ (u : Written). u.file) e)) (ap (λ (u : Written). Some u.bytes) e)
bytes-at (v ∷ vs) rises w (inr there) = rw (ne_eqb v.file w.file (λ e. omega (arith, over-all v.file vs rises.0 w there, e))) (bytes-at vs rises.1 w there)

final-bytes : (f : ℕ) (bs : List ℕ) (rest : List Change) → AllBytes rest → AllBytes (final_bytes f bs ++ rest)
final-bytes f [] rest all = all
final-bytes f (b ∷ bs) rest all = all

pub finals-bytes : (ws : List Written) → AllBytes (flat_map final_of ws)
finals-bytes [] = refl
finals-bytes (w ∷ ws) = final-bytes w.file w.bytes (flat_map final_of ws) (finals-bytes ws)

names-all : (cs : List Change) → list_all is_of_names cs ≡ true → names_of cs ≡ cs
names-all [] only = refl
names-all (c ∷ cs) only = let parts = and_parts (is_of_names c) (list_all is_of_names cs) only in rw parts.0 (ap (λ ds. c ∷ ds) (names-all cs parts.1))

pub names-own : (o : OverlayState) → IsOwn o → names_of (own_of o) ≡ o.names
names-own o own =
    filter-append names_only o.names (flat_map final_of o.written)
    ∙ (λ i. names-all o.names own.only i ++ no-names (flat_map final_of o.written) (finals-bytes o.written) i) ∙ append-nil o.names

ends-same : (by : ℕ → List ℕ) (ws : List Written) → ((w : Written) → IsIn w ws → by w.file ≡ w.bytes) → ends_of by (map number_of ws) ≡ flat_map final_of ws
ends-same by [] same = refl
ends-same by (w ∷ ws) same = λ i. final_bytes w.file (same w (inl refl) i) ++ ends-same by ws (λ v there. same v (inr there)) i

-- ---- versions

later : (n : ℕ) (ns : List NodeNow) → Above n (map plain ns) → list_all (λ (v : Version). nat_lt n v.file) (versions_in ns) ≡ true
later n [] above = refl
later n (m ∷ ms) above = elim (cases_Bool (nat_lt 0 m.version)) [
  | inl has ↦ rw has (and_from _ _ (lt-ltb n m.number above.0) (later n ms above.1))
  | inr none ↦ rw none (later n ms above.1)
]

pub versions-rise : (ns : List NodeNow) → Rises (map plain ns) → each_pair files_rise (versions_in ns) ≡ true
versions-rise [] rises = refl
versions-rise (m ∷ ms) rises = elim (cases_Bool (nat_lt 0 m.version)) [
  | inl has ↦ rw has (and_from _ _ (later m.number ms rises.0) (versions-rise ms rises.1))
  | inr none ↦ rw none (versions-rise ms rises.1)
]

-- changes of names

nodes-own : (o : OverlayState) → nodes_made (own_of o) ≡ nodes_made o.names
nodes-own o =
    let bytes = finals-bytes o.written in
    made-append o.names (flat_map final_of o.written) (λ n. drops-bytes n (flat_map final_of o.written) bytes) ∙ (let none = made-bytes (flat_map final_of o.written) bytes in omega arith)

count-all : (cs : List Change) → list_all is_of_names cs ≡ true → count_by names_only cs ≡ length cs
count-all [] only = refl
count-all (c ∷ cs) only =
    let parts = and_parts (is_of_names c) (list_all is_of_names cs) only in
    let rest = count-all cs parts.1 in
    let all = count-cons names_only c cs in
    let one : one_where names_only c ≡ 1 = rw parts.0 refl in
    omega arith

-- what transactions changed, in the form in which it is committed, each in one entry
module _ (h : FilesHeld) (once : each_pair held_by_two h.overlays ≡ true) (owns : (o : OwnHeld) → IsIn o h.overlays → IsOwn o.overlay) where
  -- a transaction sees what it wrote
  sees : (o : OwnHeld) → IsIn o h.overlays → (w : Written) → IsIn w o.overlay.written → bytes_seen (files_of h) (Some o.transaction) w.file ≡ w.bytes
  sees o there w has = seen-some h o.transaction w.file o.overlay (overlay-at h.overlays once o there) (owns o there) ∙ ap (bytes_or _) (bytes-at o.overlay.written (owns o there).rise w has)

  own-is : (o : OwnHeld) → IsIn o h.overlays → own_units (files_of h) (changes_held o) ≡ units_held o
  own-is o there =
      ap (sum_by (λ f. units_of (bytes_seen (files_of h) (Some o.transaction) f))) (owns o there).files
      ∙ sum-map (λ f. units_of (bytes_seen (files_of h) (Some o.transaction) f)) number_of o.overlay.written
      ∙ sum-same (λ (w : Written). units_of (bytes_seen (files_of h) (Some o.transaction) w.file)) units_in o.overlay.written (λ w has. ap units_of (sees o there w has))

  own-sum : sum_by (own_units (files_of h)) (own_held h.overlays) ≡ sum_by units_held h.overlays
  own-sum = sum-map (own_units (files_of h)) changes_held h.overlays ∙ sum-same (λ (o : OwnHeld). own_units (files_of h) (changes_held o)) units_held h.overlays own-is

  nodes-sum : sum_by (λ o. nodes_made o.changes) (own_held h.overlays) ≡ sum_by nodes_held h.overlays
  nodes-sum = sum-map (λ (o : OwnChanges). nodes_made o.changes) changes_held h.overlays ∙ sum-same (λ (o : OwnHeld). nodes_made (own_of o.overlay)) nodes_held h.overlays (λ o there. nodes-own o.overlay)

  waiting-own : (o : OwnHeld) → IsIn o h.overlays → count_by names_only (own_of o.overlay) ≡ names_held o
  waiting-own o there =
      let all = count-append names_only o.overlay.names (flat_map final_of o.overlay.written) in
      let names = count-all o.overlay.names (owns o there).only in
      let none = waiting-bytes (flat_map final_of o.overlay.written) (finals-bytes o.overlay.written) in
      omega arith

  waiting-sum : sum_by (λ o. count_by names_only o.changes) (own_held h.overlays) ≡ sum_by names_held h.overlays
  waiting-sum = sum-map (λ (o : OwnChanges). count_by names_only o.changes) changes_held h.overlays ∙ sum-same (λ (o : OwnHeld). count_by names_only (own_of o.overlay)) names_held h.overlays waiting-own

  -- where all of the files can be counted, so can what transactions changed
  pub few-counted : CanBeCounted (files_of h) → AreFew h.overlays
  unfolding units_used nodes_used file_changes_waiting
  few-counted counted = record {
    units = let own = own-sum in let all = counted.units in omega arith;
    nodes = let own = nodes-sum in let all = counted.nodes in omega arith;
    names = let own = waiting-sum in let all = counted.names in omega arith;
  }

module _ (h : FilesHeld) (units : ℕ) (counts : Counts) (tied : AreTied h units counts) where
  owns : (o : OwnHeld) → IsIn o h.overlays → IsOwn o.overlay
  owns o there = (All-in (λ (p : OwnHeld). IsOver (tree_of h.tree) p.overlay) h.overlays tied.over o there).own

  final-own : (o : OwnHeld) → IsIn o h.overlays → changes_to_commit (own_of o.overlay) (bytes_seen (files_of h) (Some o.transaction)) ≡ own_of o.overlay
  final-own o there =
      (λ i. names-own o.overlay (owns o there) i ++ ends_of (bytes_seen (files_of h) (Some o.transaction)) ((owns o there).files i))
      ∙ ap (λ ds. o.overlay.names ++ ds) (ends-same (bytes_seen (files_of h) (Some o.transaction)) o.overlay.written (sees h tied.once owns o there))

  -- ---- first opens

  first : Opened → FirstOpen
  first = first_held (tree_of h.tree) h.versions.older

  kept-open : (o : Opened) → IsIn o h.versions.opens → IsKeptOpen h.tree h.versions.older o
  kept-open o there = All-in (IsKeptOpen h.tree h.versions.older) h.versions.opens tied.opened o there

  none-found : {X : Type 0} (o : Option X) → is_some o ≡ false → o ≡ None
  none-found None e = refl
  none-found (Some x) e = absurd (true≢false e)

  last-bytes : (o : Opened) → IsIn o h.versions.opens → is_last h.tree o ≡ true → version_bytes (tree_of h.tree) h.versions.older o.file o.version ≡ bytes_of (tree_of h.tree) o.file
  last-bytes o there last =
      let none : is_some (find (is_version o.file o.version) h.versions.older) ≡ false = (kept-open o there).kept ∙ rw last refl in
      ap (λ f. bytes_or (bytes_of (tree_of h.tree) o.file) (option_map (λ (v : Older). v.bytes) f)) (none-found (find (is_version o.file o.version) h.versions.older) none)

  pub steady : IsSteady (files_of h)
  steady = record {
    once = pairs-held h.overlays ∙ tied.once;
    final = All-map (λ (o : OwnChanges). changes_to_commit o.changes (bytes_seen (files_of h) (Some o.transaction)) ≡ o.changes) changes_held h.overlays final-own;
    rise = tied.formed.rise;
    versions = versions-rise h.tree.nodes (Rises-from (tree_of h.tree) tied.formed.rise);
    first_versions = All-map (λ (o : FirstOpen). is_file (tree_of h.tree) o.file ≡ true → o.version ≤ version_of (versions_of h.tree) o.file) (first_held (tree_of h.tree) h.versions.older) h.versions.opens (λ o there. (kept-open o there).was);
    first_bytes = All-map (λ (o : FirstOpen). is_last_version (files_of h) o ≡ true → o.bytes ≡ bytes_of (tree_of h.tree) o.file) (first_held (tree_of h.tree) h.versions.older) h.versions.opens last-bytes;
  }

  -- ---- units

  older-sum : AreHeld h.versions.opens h.versions.older → sum_by (λ o. units_of o.bytes) (older_versions (files_of h) (files_of h).first_opens) ≡ kept_units h.versions.older
  older-sum held =
      ap (sum_by version_units) (older-is (files_of h) (files_of h).first_opens)
      ∙ older-kept (first_held (tree_of h.tree) h.versions.older) (λ o. refl) (λ o. refl) (is_older (tree_of h.tree) (versions_of h.tree)) h.versions.opens h.versions.older held
      (λ o there. record { kept = (kept-open o there).kept; bytes = λ v found. ap (λ f. bytes_or (bytes_of (tree_of h.tree) o.file) (option_map (λ (v : Older). v.bytes) f)) found })

  pub units-now : AreHeld h.versions.opens h.versions.older → units_used (files_of h) ≡ units + counts.units + kept_units h.versions.older
  unfolding units_used
  units-now held = let a = own-sum h tied.once owns in let b = older-sum held in let c = tied.sum in let d = tied.counted.units in omega arith

  -- ---- nodes and changes that wait

  pub nodes-now : nodes_used (files_of h) ≡ 1 + length (tree_of h.tree) + counts.nodes
  unfolding nodes_used
  nodes-now = let own = nodes-sum h tied.once owns in let counted = tied.counted.nodes in omega arith

  pub waiting-now : file_changes_waiting (files_of h) ≡ counts.names
  unfolding file_changes_waiting
  waiting-now = waiting-sum h tied.once owns ∙ sym tied.counted.names
