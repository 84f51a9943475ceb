-- What is in use once a call has settled.
use Rattle.std.proofs.Common.{◌≡◌, ℕ, ◌+◌, ◌&&◌, not, Bool, true, false, cond, is_some, length, List, [], ◌∷◌, ◌++◌, sum_by, count_by, Option, Some, None, refl, sym, ◌∙◌, ap, subst, arith, inl, inr}
use Rattle.std.proofs.lemmas.Bool.{cases_Bool, eq-eqb}
use Rattle.std.proofs.lemmas.List.{append-nil}
use Rattle.std.proofs.lemmas.List.Sums.{fold-append}
use Rattle.std.specs.List.{list_any}
use Rattle.ktm_base.specs.declared.id.Id.{Id}
use Rattle.ktm_world.specs.declared.change.Change.{Change}
use Rattle.ktm_world.specs.declared.reply.Reply.{Reply}
use Rattle.ktm_world.specs.Changes.{changed, changes_bytes, is_drop, is_make, node_of, nodes_made}
use Rattle.ktm_world.specs.Committed.{version_of, versions_after, written_after, written_files, changes_to_commit}
use Rattle.ktm_world.specs.FileOutcome.{FileOutcome, files_after}
use Rattle.ktm_world.specs.Files.{FilesNow, FirstOpen, OpenFile, OwnChanges, own_changes, with_own_changes, first_open, committed_files, bytes_seen, bytes_with, bytes_after, first_bytes, changes_with}
use Rattle.ktm_world.specs.FileUses.{own_units, older_versions, same_version, units_used, nodes_used, file_changes_waiting}
use Rattle.ktm_world.specs.Transactions.{same_id}
use Rattle.ktm_world.specs.Tree.{is_file, bytes_of, node_at, units_of}
use Rattle.txf_calls.specs.Fits.{Suits, opens_file}
use Rattle.txf_volume.specs.Uses.{IsSteady, PlainUses, OwnUses, SameUses, UsesLaw, gain, loss, kept, names_added, one_if, own_bytes}
use Rattle.txf_laws.specs.Elements.{IsIn}
use Rattle.txf_laws.proofs.offered.CommitsOfOthers.{All-in, own_changes-of}
use Rattle.txf_laws.proofs.offered.NormalForms.{names_only}
use Rattle.txf_laws.proofs.offered.NormalForms.{bytes-final, written-final}
use Rattle.ktm_world.proofs.offered.Lookups.{Rises-from}
use Rattle.txf_volume.proofs.NodesMade.{made-final, made-last, waiting-final, waiting-last}
use Rattle.txf_laws.proofs.offered.OlderVersions.{older_by, older_units, older-is, version_units}
use Rattle.txf_volume.proofs.OwnBytes.{written-units}
use Rattle.txf_laws.proofs.offered.Tables.{same_id-equal, same_id-sym}
use Rattle.txf_volume.proofs.OwnTables.{own_changes-new, own_changes-none, own_changes-other, sum-with_own}
use Rattle.txf_volume.specs.Held.{tree_units}
use Rattle.txf_laws.proofs.offered.CommittedUnits.{is_older}
use Rattle.txf_volume.proofs.PlainUses.{older-then}
use Rattle.txf_laws.proofs.offered.Sums.{sum-same}
use Rattle.txf_volume.proofs.TreeUnits.{nodes-changed, units-changed}

-- ---- own units

-- the units of what changes in their last form write
own-final : (files : FilesNow) (id : Id) (cs : List Change) (by : ℕ → List ℕ) → own_changes files.table.own id ≡ changes_to_commit cs by
    → own_units files (record { transaction = id; changes = changes_to_commit cs by }) ≡ sum_by (λ f. units_of (by f)) (written_files cs)
own-final files id cs by own =
    sum-same (λ f. units_of (bytes_seen files (Some id) f)) (λ f. units_of (by f)) (written_files (changes_to_commit cs by)) (λ f there. ap units_of (
    ap (λ ds. bytes_after (first_bytes files id ds f) f ds) own ∙ bytes-final cs by (first_bytes files id (changes_to_commit cs by) f) f (subst (IsIn f) (written-final cs by) there)))
    ∙ ap (sum_by (λ f. units_of (by f))) (written-final cs by)

module _ (files : FilesNow) (steady : IsSteady files) where
  final-of : (o : OwnChanges) → IsIn o files.table.own → changes_to_commit o.changes (bytes_seen files (Some o.transaction)) ≡ o.changes
  final-of o there = All-in (λ (p : OwnChanges). changes_to_commit p.changes (bytes_seen files (Some p.transaction)) ≡ p.changes) files.table.own steady.final o there

  own-of : (o : OwnChanges) → IsIn o files.table.own → own_changes files.table.own o.transaction ≡ o.changes
  own-of o there = own_changes-of files.table.own steady.once o there

  -- the units of an entry, in any files that have it
  own-kept : (files' : FilesNow) (o : OwnChanges) → IsIn o files.table.own → own_changes files'.table.own o.transaction ≡ o.changes
      → own_units files' o ≡ sum_by (λ f. units_of (bytes_seen files (Some o.transaction) f)) (written_files o.changes)
  own-kept files' o there own =
      let final = final-of o there in
      ap (λ ds. own_units files' (record { transaction = o.transaction; changes = ds })) (sym final) ∙ own-final files' o.transaction o.changes (bytes_seen files (Some o.transaction)) (own ∙ sym final)

  own-same : (files' : FilesNow) (o : OwnChanges) → IsIn o files.table.own → own_changes files'.table.own o.transaction ≡ o.changes → own_units files' o ≡ own_units files o
  own-same files' o there own = own-kept files' o there own ∙ sym (own-kept files o there (own-of o there))

  -- a transaction's changes, whether it has any or none
  final-own : (id : Id) → changes_to_commit (own_changes files.table.own id) (bytes_seen files (Some id)) ≡ own_changes files.table.own id
  final-own id = go files.table.own (λ o there. final-of o there)
    where
      go : (own : List OwnChanges) → ((o : OwnChanges) → IsIn o own → changes_to_commit o.changes (bytes_seen files (Some o.transaction)) ≡ o.changes)
          → changes_to_commit (own_changes own id) (bytes_seen files (Some id)) ≡ own_changes own id
      go [] each = refl
      go (o ∷ os) each = elim (cases_Bool (same_id o.transaction id)) [
        | inl same ↦ rw same (subst (λ i. changes_to_commit o.changes (bytes_seen files (Some i)) ≡ o.changes) (same_id-equal o.transaction id same) (each o (inl refl)))
        | inr other ↦ rw other (go os (λ p there. each p (inr there)))
      ]

  -- ---- older versions

  -- a first open of a version that is the last one is none of an older one
  older-added : (old : FirstOpen → Bool) (os : List FirstOpen) (x : FirstOpen) → old x ≡ false → older_by old (os ++ x ∷ []) ≡ older_by old os
  older-added old [] x young = rw young refl
  older-added old (o ∷ os) x young = let rest = older-added old os x young in λ i. cond (old o && not (list_any (same_version o) (rest i))) (o ∷ []) [] ++ rest i

  older-now : sum_by (λ o. units_of o.bytes) (older_versions files files.first_opens) ≡ older_units (is_older files.tree files.versions) files.first_opens
  older-now = ap (sum_by version_units) (older-is files files.first_opens)

  -- ---- a transaction

  module _ (id : Id) (c : Change) (files' : FilesNow) (tree : files'.tree ≡ files.tree) (own : files'.table.own ≡ with_own_changes files.table.own id (changes_with files id c)) where
    abbrev all : List Change
    all = own_changes files.table.own id ++ c ∷ []

    abbrev was : ℕ
    was = sum_by (λ f. units_of (bytes_seen files (Some id) f)) (written_files (own_changes files.table.own id))

    sums : sum_by (own_units files') files'.table.own + was ≡ sum_by (own_units files) files.table.own + own_units files' (record { transaction = id; changes = changes_with files id c })
    sums =
        ap (λ os. sum_by (own_units files') os + was) own
        ∙ sum-with_own (own_units files) (own_units files') files.table.own id (changes_with files id c) was steady.once
        (λ o there other. own-same files' o there (ap (λ os. own_changes os o.transaction) own ∙ own_changes-other files.table.own id o.transaction (changes_with files id c) (same_id-sym o.transaction id other) ∙ own-of o there))
        (λ o there same.
        own-kept files o there (own-of o there)
        ∙ ap (λ cs. sum_by (λ f. units_of (bytes_seen files (Some o.transaction) f)) (written_files cs)) (sym (own-of o there))
        ∙ ap (λ i. sum_by (λ f. units_of (bytes_seen files (Some i) f)) (written_files (own_changes files.table.own i))) (same_id-equal o.transaction id same))
        (λ none. ap (λ cs. sum_by (λ f. units_of (bytes_seen files (Some id) f)) (written_files cs)) (own_changes-none files.table.own id none))

    entry : own_units files' (record { transaction = id; changes = changes_with files id c }) ≡ sum_by (λ f. units_of (bytes_with files id all f)) (written_after (written_files (own_changes files.table.own id)) c)
    entry =
        own-final files' id all (bytes_with files id all) (ap (λ os. own_changes os id) own ∙ own_changes-new files.table.own id (changes_with files id c))
        ∙ ap (sum_by (λ f. units_of (bytes_with files id all f))) (fold-append written_after [] (own_changes files.table.own id) (c ∷ []))

    own-then : sum_by (λ o. units_of o.bytes) (older_versions files' files'.first_opens) ≡ sum_by (λ o. units_of o.bytes) (older_versions files files.first_opens)
        → units_used files' + loss (own_bytes files id (node_of c)) c ≡ units_used files + gain (bytes_seen files (Some id) (node_of c)) c
    unfolding units_used
    own-then older =
        let of_tree = ap tree_units tree in
        let of_own = sums in
        let of_entry = entry in
        let of_files = written-units files id c (final-own id) in
        let of_older = older in
        omega arith

    -- a sum that looks at the changes alone
    counted : (f : List Change → ℕ) → f [] ≡ 0 → sum_by (λ o. f o.changes) files'.table.own + f (own_changes files.table.own id) ≡ sum_by (λ o. f o.changes) files.table.own + f (changes_with files id c)
    counted f nothing =
        ap (λ os. sum_by (λ (o : OwnChanges). f o.changes) os + f (own_changes files.table.own id)) own
        ∙ sum-with_own (λ o. f o.changes) (λ o. f o.changes) files.table.own id (changes_with files id c) (f (own_changes files.table.own id)) steady.once (λ o there other. refl)
        (λ o there same. ap f (sym (own-of o there)) ∙ ap (λ i. f (own_changes files.table.own i)) (same_id-equal o.transaction id same))
        (λ none. ap f (own_changes-none files.table.own id none) ∙ nothing)

    nodes-then : is_drop c ≡ false → nodes_used files' ≡ nodes_used files + one_if (is_make c)
    unfolding nodes_used
    nodes-then stays =
        let of_tree = ap length tree in
        let of_own = counted nodes_made refl in
        let of_form = made-final all (bytes_with files id all) in
        let of_last = made-last (own_changes files.table.own id) c stays in
        omega arith

    waiting-then : file_changes_waiting files' ≡ file_changes_waiting files + one_if (not (changes_bytes c))
    unfolding file_changes_waiting
    waiting-then =
        let of_own = counted (count_by names_only) refl in
        let of_form = waiting-final all (bytes_with files id all) in
        let of_last = waiting-last (own_changes files.table.own id) c in
        omega arith

  -- first opens of no file more, or of a committed one
  same-older : (files' : FilesNow) → files'.tree ≡ files.tree → files'.versions ≡ files.versions → files'.first_opens ≡ files.first_opens
      → sum_by (λ o. units_of o.bytes) (older_versions files' files'.first_opens) ≡ sum_by (λ o. units_of o.bytes) (older_versions files files.first_opens)
  same-older files' tree versions opens = ap (sum_by version_units) (older-is files' files'.first_opens) ∙ (λ i. older_units (is_older (tree i) (versions i)) (opens i)) ∙ sym older-now

  more-older : (files' : FilesNow) (x : FirstOpen) → files'.tree ≡ files.tree → files'.versions ≡ files.versions → files'.first_opens ≡ files.first_opens ++ x ∷ [] → is_older files.tree files.versions x ≡ false
      → sum_by (λ o. units_of o.bytes) (older_versions files' files'.first_opens) ≡ sum_by (λ o. units_of o.bytes) (older_versions files files.first_opens)
  more-older files' x tree versions opens young =
      ap (sum_by version_units) (older-is files' files'.first_opens) ∙ (λ i. older_units (is_older (tree i) (versions i)) (opens i))
      ∙ ap (sum_by version_units) (older-added (is_older files.tree files.versions) files.first_opens x young) ∙ sym older-now

  -- a first open of a committed file is of its last version
  young-open : (id : Id) (file : ℕ) → is_file files.tree file ≡ true → is_older files.tree files.versions (first_open (committed_files files []) (record { transaction = id; file = file })) ≡ false
  young-open id file is = rw (is, eq-eqb (version_of files.versions file) (version_of files.versions file) refl) refl

  module _ (id : Id) (c : Change) (reply : Reply) where
    outcome : Option ℕ → Option OpenFile → FileOutcome
    outcome first opened = record { reply = reply; change = Some c; first = first; opened = opened }

    own-uses : (first : Option ℕ) (opened : Option OpenFile) → opens_file files.tree first ≡ true → OwnUses files id (record { reply = reply; change = Some c; first = first; opened = opened }) c
    own-uses None None opens =
        let files' = files_after files (Some id) (record { reply = reply; change = Some c; first = None; opened = None }) in
        let older = same-older files' refl refl (append-nil files.first_opens) in
        record { units = own-then id c files' refl refl older; nodes = nodes-then id c files' refl refl }
    own-uses None (Some x) opens =
        let files' = files_after files (Some id) (record { reply = reply; change = Some c; first = None; opened = Some x }) in
        let older = same-older files' refl refl (append-nil files.first_opens) in
        record { units = own-then id c files' refl refl older; nodes = nodes-then id c files' refl refl }
    own-uses (Some file) None opens =
        let files' = files_after files (Some id) (record { reply = reply; change = Some c; first = Some file; opened = None }) in
        let older = more-older files' (first_open (committed_files files []) (record { transaction = id; file = file })) refl refl refl (young-open id file opens) in
        record { units = own-then id c files' refl refl older; nodes = nodes-then id c files' refl refl }
    own-uses (Some file) (Some x) opens =
        let files' = files_after files (Some id) (record { reply = reply; change = Some c; first = Some file; opened = Some x }) in
        let older = more-older files' (first_open (committed_files files []) (record { transaction = id; file = file })) refl refl refl (young-open id file opens) in
        record { units = own-then id c files' refl refl older; nodes = nodes-then id c files' refl refl }

  -- ---- no change

  module _ (files' : FilesNow) (tree : files'.tree ≡ files.tree) (own : files'.table.own ≡ files.table.own)
      (older : sum_by (λ o. units_of o.bytes) (older_versions files' files'.first_opens) ≡ sum_by (λ o. units_of o.bytes) (older_versions files files.first_opens)) where
    own-units-kept : sum_by (own_units files') files'.table.own ≡ sum_by (own_units files) files.table.own
    own-units-kept = ap (sum_by (own_units files')) own ∙ sum-same (own_units files') (own_units files) files.table.own (λ o there. own-same files' o there (ap (λ os. own_changes os o.transaction) own ∙ own-of o there))

    units-kept : units_used files' ≡ units_used files
    unfolding units_used
    units-kept = let of_tree = ap tree_units tree in let of_own = own-units-kept in let of_older = older in omega arith

    nodes-kept : nodes_used files' ≡ nodes_used files
    unfolding nodes_used
    nodes-kept = let of_tree = ap length tree in let of_own = ap (sum_by (λ (o : OwnChanges). nodes_made o.changes)) own in omega arith

    all-kept : SameUses files files'
    all-kept = record { units = units-kept; nodes = nodes-kept }

  -- where no first open is made
  none-opened : (files' : FilesNow) → files'.tree ≡ files.tree → files'.versions ≡ files.versions → files'.first_opens ≡ files.first_opens → files'.table.own ≡ files.table.own → SameUses files files'
  none-opened files' tree versions opens own = all-kept files' tree own (same-older files' tree versions opens)

  -- where a committed file is first opened
  one-opened : (files' : FilesNow) (id : Id) (file : ℕ) → is_file files.tree file ≡ true → files'.tree ≡ files.tree → files'.versions ≡ files.versions
      → files'.first_opens ≡ files.first_opens ++ first_open (committed_files files []) (record { transaction = id; file = file }) ∷ [] → files'.table.own ≡ files.table.own → SameUses files files'
  one-opened files' id file is tree versions opens own = all-kept files' tree own (more-older files' (first_open (committed_files files []) (record { transaction = id; file = file })) tree versions opens (young-open id file is))

  none-uses : (who : Option Id) (reply : Reply) (first : Option ℕ) (opened : Option OpenFile) → opens_file files.tree first ≡ true
      → SameUses files (files_after files who (record { reply = reply; change = None; first = first; opened = opened }))
  none-uses None reply None None opens = none-opened (files_after files None (record { reply = reply; change = None; first = None; opened = None })) refl refl (append-nil files.first_opens) refl
  none-uses None reply None (Some x) opens = none-opened (files_after files None (record { reply = reply; change = None; first = None; opened = Some x })) refl refl (append-nil files.first_opens) refl
  none-uses None reply (Some file) None opens = none-opened (files_after files None (record { reply = reply; change = None; first = Some file; opened = None })) refl refl (append-nil files.first_opens) refl
  none-uses None reply (Some file) (Some x) opens = none-opened (files_after files None (record { reply = reply; change = None; first = Some file; opened = Some x })) refl refl (append-nil files.first_opens) refl
  none-uses (Some id) reply None None opens = none-opened (files_after files (Some id) (record { reply = reply; change = None; first = None; opened = None })) refl refl (append-nil files.first_opens) refl
  none-uses (Some id) reply None (Some x) opens = none-opened (files_after files (Some id) (record { reply = reply; change = None; first = None; opened = Some x })) refl refl (append-nil files.first_opens) refl
  none-uses (Some id) reply (Some file) None opens = one-opened (files_after files (Some id) (record { reply = reply; change = None; first = Some file; opened = None })) id file opens refl refl refl refl
  none-uses (Some id) reply (Some file) (Some x) opens = one-opened (files_after files (Some id) (record { reply = reply; change = None; first = Some file; opened = Some x })) id file opens refl refl refl refl

  -- ---- a plain change

  module _ (c : Change) (suits : Suits files.tree files.first_opens c) (files' : FilesNow) (tree : files'.tree ≡ changed files.tree c) (versions : files'.versions ≡ versions_after files.versions c)
      (opens : files'.first_opens ≡ files.first_opens) (own : files'.table.own ≡ files.table.own) where
    plain-units : units_used files' + loss (bytes_of files.tree (node_of c)) c ≡ units_used files + gain (bytes_of files.tree (node_of c)) c + kept files c
    unfolding units_used
    plain-units =
        let of_tree = ap tree_units tree in
        let of_change = units-changed files.tree c suits.file (Rises-from files.tree steady.rise) in
        let of_own = ap (sum_by (own_units files')) own ∙ sum-same (own_units files') (own_units files) files.table.own (λ o there. own-same files' o there (ap (λ os. own_changes os o.transaction) own ∙ own-of o there)) in
        let of_older = ap (sum_by version_units) (older-is files' files'.first_opens) ∙ (λ i. older_units (is_older (tree i) (versions i)) (opens i)) in
        let then' = older-then files c steady suits in
        let before = older-now in
        omega arith

    plain-nodes : nodes_used files' + one_if (is_drop c && is_some (node_at files.tree (node_of c))) ≡ nodes_used files + one_if (is_make c)
    unfolding nodes_used
    plain-nodes =
        let of_tree = ap length tree in
        let of_change = nodes-changed files.tree c (Rises-from files.tree steady.rise) in
        let of_own = ap (sum_by (λ (o : OwnChanges). nodes_made o.changes)) own in
        omega arith

  plain-uses : (c : Change) → Suits files.tree files.first_opens c → (reply : Reply) (first : Option ℕ) (opened : Option OpenFile)
      → PlainUses files (record { reply = reply; change = Some c; first = first; opened = opened }) c
  plain-uses c suits reply None None = record { units = plain-units c suits _ refl refl (append-nil files.first_opens) refl; nodes = plain-nodes c suits _ refl refl (append-nil files.first_opens) refl }
  plain-uses c suits reply None (Some x) = record { units = plain-units c suits _ refl refl (append-nil files.first_opens) refl; nodes = plain-nodes c suits _ refl refl (append-nil files.first_opens) refl }
  plain-uses c suits reply (Some file) None = record { units = plain-units c suits _ refl refl (append-nil files.first_opens) refl; nodes = plain-nodes c suits _ refl refl (append-nil files.first_opens) refl }
  plain-uses c suits reply (Some file) (Some x) = record { units = plain-units c suits _ refl refl (append-nil files.first_opens) refl; nodes = plain-nodes c suits _ refl refl (append-nil files.first_opens) refl }

  -- ---- changes that wait

  waiting-same : (files' : FilesNow) → files'.table.own ≡ files.table.own → file_changes_waiting files' ≡ file_changes_waiting files + 0
  unfolding file_changes_waiting
  waiting-same files' own = let same = ap (sum_by (λ (o : OwnChanges). count_by names_only o.changes)) own in omega arith

  waiting-uses : (who : Option Id) (reply : Reply) (change : Option Change) (first : Option ℕ) (opened : Option OpenFile)
      → file_changes_waiting (files_after files who (record { reply = reply; change = change; first = first; opened = opened })) ≡ file_changes_waiting files + names_added who change
  waiting-uses None reply None None None = waiting-same (files_after files None (record { reply = reply; change = None; first = None; opened = None })) refl
  waiting-uses None reply None None (Some x) = waiting-same (files_after files None (record { reply = reply; change = None; first = None; opened = Some x })) refl
  waiting-uses None reply None (Some file) None = waiting-same (files_after files None (record { reply = reply; change = None; first = Some file; opened = None })) refl
  waiting-uses None reply None (Some file) (Some x) = waiting-same (files_after files None (record { reply = reply; change = None; first = Some file; opened = Some x })) refl
  waiting-uses None reply (Some c) None None = waiting-same (files_after files None (record { reply = reply; change = Some c; first = None; opened = None })) refl
  waiting-uses None reply (Some c) None (Some x) = waiting-same (files_after files None (record { reply = reply; change = Some c; first = None; opened = Some x })) refl
  waiting-uses None reply (Some c) (Some file) None = waiting-same (files_after files None (record { reply = reply; change = Some c; first = Some file; opened = None })) refl
  waiting-uses None reply (Some c) (Some file) (Some x) = waiting-same (files_after files None (record { reply = reply; change = Some c; first = Some file; opened = Some x })) refl
  waiting-uses (Some id) reply None None None = waiting-same (files_after files (Some id) (record { reply = reply; change = None; first = None; opened = None })) refl
  waiting-uses (Some id) reply None None (Some x) = waiting-same (files_after files (Some id) (record { reply = reply; change = None; first = None; opened = Some x })) refl
  waiting-uses (Some id) reply None (Some file) None = waiting-same (files_after files (Some id) (record { reply = reply; change = None; first = Some file; opened = None })) refl
  waiting-uses (Some id) reply None (Some file) (Some x) = waiting-same (files_after files (Some id) (record { reply = reply; change = None; first = Some file; opened = Some x })) refl
  waiting-uses (Some id) reply (Some c) None None = waiting-then id c (files_after files (Some id) (record { reply = reply; change = Some c; first = None; opened = None })) refl refl
  waiting-uses (Some id) reply (Some c) None (Some x) = waiting-then id c (files_after files (Some id) (record { reply = reply; change = Some c; first = None; opened = Some x })) refl refl
  waiting-uses (Some id) reply (Some c) (Some file) None = waiting-then id c (files_after files (Some id) (record { reply = reply; change = Some c; first = Some file; opened = None })) refl refl
  waiting-uses (Some id) reply (Some c) (Some file) (Some x) = waiting-then id c (files_after files (Some id) (record { reply = reply; change = Some c; first = Some file; opened = Some x })) refl refl

pub uses_law : UsesLaw
uses_law = record {
  plain = λ files o change steady is suits. subst (λ ch. PlainUses files (record { reply = o.reply; change = ch; first = o.first; opened = o.opened }) change) (sym is) (plain-uses files steady change suits o.reply o.first o.opened);
  own = λ files id o change steady is opens. subst (λ ch. OwnUses files id (record { reply = o.reply; change = ch; first = o.first; opened = o.opened }) change) (sym is) (own-uses files steady id change o.reply o.first o.opened opens);
  none = λ files who o steady is opens. subst (λ ch. SameUses files (files_after files who (record { reply = o.reply; change = ch; first = o.first; opened = o.opened }))) (sym is) (none-uses files steady who o.reply o.first o.opened opens);
  waiting = λ files who o steady. waiting-uses files steady who o.reply o.change o.first o.opened;
}
