-- The files in memory while a call of a transaction is kept.
use Rattle.std.proofs.Common.{◌≡◌, ℕ, ◌<◌, ◌≤◌, ◌^◌, ◌==◌, ◌&&◌, not, Bool, true, false, find, is_some, map, List, [], ◌∷◌, sum_by, Option, Some, None, OnSome, refl, sym, ◌∙◌, ap, subst, arith, inl, inr}
use Rattle.std.proofs.lemmas.Bool.{and_parts, eq-eqb, eqb-true, true≢false}
use Rattle.std.proofs.lemmas.List.{append-nil}
use Rattle.std.specs.List.{list_all}
use Rattle.std.proofs.lemmas.Option.{none-some}
use Rattle.std.specs.Option.{option_map}
use Rattle.ktm_base.specs.declared.id.Id.{Id}
use Rattle.txf_laws.specs.OwnChange.{owned}
use Rattle.ktm_world.specs.declared.change.Change.{Change}
use Rattle.ktm_world.specs.declared.reply.Reply.{Reply}
use Rattle.ktm_world.specs.Committed.{version_of}
use Rattle.ktm_world.specs.FileOutcome.{FileOutcome, files_after, with_open}
use Rattle.ktm_world.specs.Files.{FilesNow, FirstOpen, OpenFile, OwnChanges, own_changes}
use Rattle.ktm_world.specs.FileUses.{units_used, nodes_used, file_changes_waiting}
use Rattle.ktm_world.specs.Holds.{holds_by}
use Rattle.ktm_world.specs.Tree.{Tree, is_file}
use Rattle.txf_overlay.specs.Laws.{IsOwn}
use Rattle.txf_overlay.specs.OverlayState.{OverlayState}
use Rattle.txf_reserve.specs.ReserveState.{IsSameHold, Keeps, ReserveState, holds_in}
use Rattle.txf_tree.specs.TreeState.{tree_of, versions_of}
use Rattle.txf_versions.specs.VersionsState.{fixes, is_open_of, is_pinned, is_version}
use Rattle.txf_versions.specs.declared.kept.Older.{Older}
use Rattle.txf_versions.specs.declared.opened.Opened.{Opened}
use Rattle.txf_volume.specs.Held.{FilesHeld, OwnHeld, changes_held, files_of, first_held, names_held, own_held}
use Rattle.txf_volume.specs.OwnParts.{bare_own}
use Rattle.txf_volume.specs.Ties.{AreTied, IsKeptOpen, IsOver, held_by_two, nodes_held, units_held}
use Rattle.txf_volume.specs.declared.counts.Counts.{Counts}
use Rattle.txf_laws.specs.FileEffects.{IsNotOpened, IsPlanOf, CanBeCounted}
use Rattle.txf_volume.specs.Transacted.{changed_by, first_opened, opened_by}
use Rattle.txf_calls.specs.Fits.{opens_file}
use Rattle.txf_volume.specs.Uses.{IsSteady}
use Rattle.txf_laws.specs.Elements.{IsIn, each_pair}
use Rattle.txf_laws.proofs.offered.Elements.{list_any-at}
use Rattle.txf_laws.proofs.offered.CommitsOfOthers.{All-by, All-in}
use Rattle.txf_volume.proofs.OwnUses.{uses_law}
use Rattle.txf_volume.proofs.Seen.{first_open-held}
use Rattle.txf_volume.proofs.Steady.{sum-map}
use Rattle.txf_laws.proofs.offered.Sums.{sum-same as sums-same}
use Rattle.txf_volume.proofs.TransactedParts.{stands-same}

-- ---- what a call comes to, step by step

pub after-is : (files : FilesNow) (id : Id) (o : FileOutcome) → files_after files (Some id) o ≡ opened_by (first_opened (changed_by files id o.change) id o.first) o.opened
after-is files id o = go o.change o.first
  where
    go : (change : Option Change) (first : Option ℕ) → files_after files (Some id) (record o { change = change; first = first }) ≡ opened_by (first_opened (changed_by files id change) id first) o.opened
    go None None = λ i. record { tree = files.tree; versions = files.versions; first_opens = append-nil files.first_opens i; table = with_open files.table o.opened }
    go None (Some file) = refl
    go (Some c) None = λ i. record { tree = files.tree; versions = files.versions; first_opens = append-nil files.first_opens i; table = with_open (owned files id c).table o.opened }
    go (Some c) (Some file) = refl

module _ (files : FilesNow) (steady : IsSteady files) (id : Id) (reply : Reply) where
  abbrev plan : Option Change → Option ℕ → Option OpenFile → FileOutcome
  plan change first opened = record { reply = reply; change = change; first = first; opened = opened }

  nodes-same : (c : Change) (first : Option ℕ) (opened : Option OpenFile) → nodes_used (files_after files (Some id) (plan (Some c) first opened)) ≡ nodes_used (owned files id c)
  unfolding nodes_used
  nodes-same c first None = refl
  nodes-same c first (Some o) = refl

  names-same : (change : Option Change) (first : Option ℕ) (opened : Option OpenFile) → file_changes_waiting (files_after files (Some id) (plan change first opened)) ≡ file_changes_waiting (changed_by files id change)
  unfolding file_changes_waiting
  names-same None first None = refl
  names-same None first (Some o) = refl
  names-same (Some c) first None = refl
  names-same (Some c) first (Some o) = refl

  -- what can be counted with the first open can be without it
  counted-without : (change : Option Change) (first : Option ℕ) (opened : Option OpenFile) → opens_file files.tree first ≡ true → CanBeCounted (files_after files (Some id) (plan change first opened)) → CanBeCounted (changed_by files id change)
  counted-without None first opened opens counted =
      let same = uses_law.none files (Some id) (plan None first opened) steady refl opens in
      record {
        units = subst (λ n. n < 2 ^ 63) same.units counted.units;
        nodes = subst (λ n. n < 2 ^ 63) same.nodes counted.nodes;
        names = subst (λ n. n < 2 ^ 63) (names-same None first opened) counted.names;
      }
  counted-without (Some c) first opened opens counted =
      let with' = (uses_law.own files id (plan (Some c) first opened) c steady refl opens).units in
      let without = (uses_law.own files id (plan (Some c) None None) c steady refl refl).units in
      let is : units_used (files_after files (Some id) (plan (Some c) None None)) ≡ units_used (owned files id c) = ap units_used (after-is files id (plan (Some c) None None)) in
      let few = counted.units in
      record {
        units = omega arith;
        nodes = subst (λ n. n < 2 ^ 63) (nodes-same c first opened) counted.nodes;
        names = subst (λ n. n < 2 ^ 63) (names-same (Some c) first opened) counted.names;
      }

pub change-counted : (files : FilesNow) (id : Id) (o : FileOutcome) → IsSteady files → IsPlanOf files id o → CanBeCounted (changed_by files id o.change)
change-counted files id o steady is = counted-without files steady id o.reply o.change o.first o.opened (opens o.first (λ file e. (is.first file e).committed)) is.counted
  where
    opens : (first : Option ℕ) → ((file : ℕ) → first ≡ Some file → is_file files.tree file ≡ true) → opens_file files.tree first ≡ true
    opens None committed = refl
    opens (Some file) committed = committed file refl

-- ---- more memory in what transactions changed

own-bare : (os : List OwnHeld) → own_held (map bare_own os) ≡ own_held os
own-bare [] = refl
own-bare (o ∷ os) = ap (λ cs. changes_held o ∷ cs) (own-bare os)

pairs-bare : (os : List OwnHeld) → each_pair held_by_two (map bare_own os) ≡ each_pair held_by_two os
pairs-bare [] = refl
pairs-bare (o ∷ os) = λ i. all os i && pairs-bare os i
  where
    all : (ps : List OwnHeld) → list_all (held_by_two (bare_own o)) (map bare_own ps) ≡ list_all (held_by_two o) ps
    all [] = refl
    all (p ∷ ps) = ap (λ b. held_by_two o p && b) (all ps)

bare-in : (os : List OwnHeld) (p : OwnHeld) → IsIn p os → IsIn (bare_own p) (map bare_own os)
bare-in [] p there = absurd there
bare-in (o ∷ os) p (inl e) = inl (ap bare_own e)
bare-in (o ∷ os) p (inr later) = inr (bare-in os p later)

bare-from : (os : List OwnHeld) (p : OwnHeld) → IsIn p (map bare_own os) → (q : OwnHeld) × IsIn q os × (bare_own q ≡ p)
bare-from [] p there = absurd there
bare-from (o ∷ os) p (inl e) = (o, inl refl, e)
bare-from (o ∷ os) p (inr later) = let it = bare-from os p later in (it.0, inr it.1, it.2)

over-same : (tree : Tree) (o o' : OverlayState) → o'.names ≡ o.names → o'.held ≡ o.held → o'.written ≡ o.written → IsOver tree o → IsOver tree o'
over-same tree o o' names held written over = record {
  stands = stands-same tree o o' names held over.stands;
  own = subst (λ ws. IsOwn (record o' { written = ws })) (sym written) (subst (λ ns. IsOwn (record o' { names = ns; written = o.written })) (sym names)
      (record { only = over.own.only; rise = over.own.rise; files = over.own.files }));
}

module _ (h : FilesHeld) (units : ℕ) (counts : Counts) (tied : AreTied h units counts) (os' : List OwnHeld) (r' : ReserveState) (same : map bare_own os' ≡ map bare_own h.overlays) (kept : r' ≡ h.reserve) where
  own-same : own_held os' ≡ own_held h.overlays
  own-same = sym (own-bare os') ∙ ap own_held same ∙ own-bare h.overlays

  sum-same : (f : OwnHeld → ℕ) → ((o : OwnHeld) → f (bare_own o) ≡ f o) → sum_by f os' ≡ sum_by f h.overlays
  sum-same f by = sym (bared os') ∙ ap (sum_by f) same ∙ bared h.overlays
    where
      bared : (os : List OwnHeld) → sum_by f (map bare_own os) ≡ sum_by f os
      bared os = sum-map f bare_own os ∙ sums-same (λ (o : OwnHeld). f (bare_own o)) f os (λ o there. by o)

  units-same : sum_by units_held os' ≡ sum_by units_held h.overlays
  units-same = sum-same units_held (λ o. refl)

  made-same : sum_by nodes_held os' ≡ sum_by nodes_held h.overlays
  made-same = sum-same nodes_held (λ o. refl)

  changes-same : sum_by names_held os' ≡ sum_by names_held h.overlays
  changes-same = sum-same names_held (λ o. refl)

  over-then : (p : OwnHeld) → IsIn p os' → IsOver (tree_of h.tree) p.overlay
  over-then p there =
      let it = bare-from h.overlays (bare_own p) (subst (IsIn (bare_own p)) same (bare-in os' p there)) in
      over-same (tree_of h.tree) it.0.overlay p.overlay (ap (λ (o : OwnHeld). o.overlay.names) (sym it.2)) (ap (λ (o : OwnHeld). o.overlay.held) (sym it.2)) (ap (λ (o : OwnHeld). o.overlay.written) (sym it.2))
      (All-in (λ (o : OwnHeld). IsOver (tree_of h.tree) o.overlay) h.overlays tied.over it.0 it.1)

  pub tied-bare : AreTied (record h { overlays = os'; reserve = r' }) units counts
  tied-bare = record {
    formed = tied.formed;
    once = sym (pairs-bare os') ∙ ap (each_pair held_by_two) same ∙ pairs-bare h.overlays ∙ tied.once;
    over = All-by (λ (p : OwnHeld). IsOver (tree_of h.tree) p.overlay) os' over-then;
    opened = tied.opened;
    keeps = subst (λ r. Keeps r (files_of (record h { overlays = os' }))) (sym kept)
        (λ who. subst (λ (own : List OwnChanges). IsSameHold (holds_in h.reserve who) (holds_by (tree_of h.tree) (own_changes own who) [])) (sym own-same) (tied.keeps who));
    sum = tied.sum;
    counted = record { units = tied.counted.units ∙ sym units-same; nodes = tied.counted.nodes ∙ sym made-same; names = tied.counted.names ∙ sym changes-same };
    few = record {
      units = subst (λ n. n < 2 ^ 63) (sym units-same) tied.few.units;
      nodes = subst (λ n. n < 2 ^ 63) (sym made-same) tied.few.nodes;
      names = subst (λ n. n < 2 ^ 63) (sym changes-same) tied.few.names;
    };
    room = subst (λ n. n ≤ h.tree.spare) (sym changes-same) tied.room;
  }

  pub files-bare : files_of (record h { overlays = os'; reserve = r' }) ≡ files_of h
  files-bare = λ i. record {
    tree = tree_of h.tree;
    versions = versions_of h.tree;
    first_opens = (files_of h).first_opens;
    table = record { own = own-same i; opens = h.opens.opens; last_open = h.opens.last; next_node = h.next_node };
  }

-- ---- a first open

none-open : (found : Option Opened) (first : Opened → FirstOpen) → option_map first found ≡ None → found ≡ None
none-open None first none = refl
none-open (Some o) first none = absurd (cc)

-- a version that is found to be no older one
pub no-older : (bytes : Option (List ℕ)) (found : Option Older) {P : Type 0} {b : Bool} → bytes ≡ option_map (λ (v : Older). v.bytes) found → OnSome bytes P → (P → is_some found ≡ false) → is_some bytes ≡ not b → b ≡ false → ⊥
no-older None found {P} {b} is pinned kept some fails = absurd (true≢false (sym (some ∙ ap not fails)))
no-older (Some bytes) None is pinned kept some fails = none-some bytes (sym is)
no-older (Some bytes) (Some v) is pinned kept some fails = true≢false (kept pinned)

module _ (h : FilesHeld) (units : ℕ) (counts : Counts) (tied : AreTied h units counts) (id : Id) (file : ℕ) (is : IsNotOpened (files_of h) id file) where
  pub not-opened : find (is_open_of id file) h.versions.opens ≡ None
  not-opened = none-open (find (is_open_of id file) h.versions.opens) (first_held (tree_of h.tree) h.versions.older) (sym (first_open-held (tree_of h.tree) h.versions.older h.versions.opens id file) ∙ is.new)

  -- the last version, which is not kept
  abbrev version : ℕ
  version = version_of (versions_of h.tree) file

  pub not-kept : is_pinned h.versions.opens file version ≡ true → is_some (find (is_version file version) h.versions.older) ≡ false
  not-kept pinned =
      let it = list_any-at (fixes file version) h.versions.opens pinned in
      let parts = and_parts (it.0.file == file) (it.0.version == version) it.2 in
      let f : it.0.file ≡ file = eqb-true _ _ parts.0 in
      let v : it.0.version ≡ version = eqb-true _ _ parts.1 in
      let kept = (All-in (IsKeptOpen h.tree h.versions.older) h.versions.opens tied.opened it.0 it.1).kept in
      (λ i. is_some (find (is_version (sym f i) (sym v i)) h.versions.older)) ∙ kept
      ∙ (λ i. not (is_file (tree_of h.tree) (f i) && v i == version_of (versions_of h.tree) (f i))) ∙ last
    where
      last : not (is_file (tree_of h.tree) file && version == version_of (versions_of h.tree) file) ≡ false
      last = rw (is.committed, eq-eqb version version refl) refl
