-- What is committed and owned stays within the room while a transaction commits what it owns.
use Rattle.std.proofs.Common.{◌≡◌, ℕ, ◌+◌, ◌≤◌, not, true, false, List, [], filter, sum_by, count_by, is_some, is_none, refl, sym, ◌∙◌, ap, subst, arith, inl, inr, Some}
use Rattle.std.proofs.lemmas.Bool.{not-true}
use Rattle.ktm_base.specs.declared.id.Id.{Id}
use Rattle.ktm_world.specs.declared.change.Change.{Change}
use Rattle.ktm_world.specs.declared.object.Transaction.{Transaction}
use Rattle.ktm_world.specs.Changes.{changes_apply, changed_all, changes_bytes, nodes_made}
use Rattle.ktm_world.specs.Files.{OwnChanges, bytes_seen, committed_files, own_changes}
use Rattle.ktm_world.specs.Keys.{Own, Store, own_settings, stored_all, without_own}
use Rattle.ktm_world.specs.Lawful.{undecided}
use Rattle.ktm_world.specs.Present.{Present}
use Rattle.ktm_world.specs.Transactions.{same_id}
use Rattle.ktm_world.specs.Tree.{Tree}
use Rattle.ktm_world.proofs.offered.KeyLemmas.{length-stored_all-le, counted-without_own}
use Rattle.txf_laws.specs.Elements.{IsIn}
use Rattle.txf_laws.specs.Footprint.{ListsLaw}
use Rattle.txf_laws.specs.SoundFiles.{IsSoundFiles, is_undecided_in}
use Rattle.ktm_limits.proofs.RecordedWithin.{Budget}
use Rattle.txf_laws.proofs.offered.CommittedUnits.{gains-final, nodes-all, tree_units, units-all}
use Rattle.txf_laws.proofs.offered.Elements.{IsIn-filter, IsIn-kept, list_all-at}
use Rattle.ktm_limits.proofs.FinalBytes.{committed_units, units-committed}
use Rattle.txf_laws.proofs.offered.CommitsOfOthers.{own-final, undecided-entry}
use Rattle.txf_laws.proofs.offered.Reservations.{own-apply, own_changes-found, reservations_law, tree-of}
use Rattle.txf_laws.proofs.offered.Sums.{sum-filter-less, sum-one, sum-same, sum-split}
use Rattle.txf_laws.proofs.offered.Tables.{same_id-from, same_id-sym}
use Rattle.ktm_records.proofs.offered.UnitsPassed.{own-now, rests-now}

-- what others own
abbrev pub own_without : List OwnChanges → Id → List OwnChanges
own_without own id = filter (λ (o : OwnChanges). not (same_id o.transaction id)) own

-- what one owns, and what others do
pub sum-without : (g : List Change → ℕ) → g [] ≡ 0 → (own : List OwnChanges) (id : Id) → g (own_changes own id) + sum_by (λ (o : OwnChanges). g o.changes) (own_without own id) ≤ sum_by (λ (o : OwnChanges). g o.changes) own
sum-without g none own id =
    let parts = sum-split (λ (o : OwnChanges). g o.changes) (λ (o : OwnChanges). not (same_id o.transaction id)) own in
    elim (own_changes-found own id) [
      | inl empty ↦ (let is = ap g empty in omega arith)
      | inr (o, there, is, changes) ↦
          let one = sum-one (λ (o : OwnChanges). g o.changes) _ o (IsIn-kept (λ (o : OwnChanges). not (not (same_id o.transaction id))) own o there (ap (λ b. not (not b)) (same_id-from o.transaction id is))) in
          let same = ap g changes in
          omega arith
    ]

module _ (lists : ListsLaw) (x : Present) (sound : IsSoundFiles x) (t : Transaction) (there : IsIn t (undecided x)) where
  abbrev tree : Tree
  tree = x.files.tree

  abbrev cs : List Change
  cs = own_changes x.files.table.own t.id

  -- the committed files once it has
  abbrev pub tree_then : Tree
  tree_then = changed_all x.files.tree (own_changes x.files.table.own t.id)

  -- what another transaction owns still applies
  applies-then : (o : OwnChanges) → IsIn o x.files.table.own → same_id o.transaction t.id ≡ false → changes_apply tree_then o.changes ≡ true
  applies-then o has other =
      let u = undecided-entry x.transactions.items o.transaction (list_all-at (λ (p : OwnChanges). is_undecided_in x.transactions.items p.transaction) x.files.table.own sound.own_undecided o has) in
      let differs : same_id t.id u.0.id ≡ false = subst (λ i. same_id t.id i ≡ false) (sym u.2) (same_id-sym o.transaction t.id other) in
      let left = (reservations_law lists).0 x t u.0 sound there u.1 differs in
      let changes = left.own ∙ ap (own_changes x.files.table.own) u.2 ∙ (own-now x sound o has).0 in
      subst (λ ds. changes_apply tree_then ds ≡ true) changes (subst (λ k. changes_apply k (own_changes (own_without x.files.table.own t.id) u.0.id) ≡ true) (tree-of cs (committed_files x.files [])) left.applies)

  units-then : tree_units tree_then + sum_by (λ (o : OwnChanges). committed_units tree_then o.changes) (own_without x.files.table.own t.id)
      ≤ tree_units tree + sum_by (λ (o : OwnChanges). committed_units tree o.changes) x.files.table.own
  units-then =
      let by = bytes_seen x.files (Some t.id) in
      let step = units-all cs (committed_files x.files []) [] (own-apply x sound t.id) (rests-now x sound [] (λ o none. absurd none)) (λ c in_cs o none. absurd none) in
      let is = ap tree_units (tree-of cs (committed_files x.files [])) in
      let gained = gains-final tree cs by (own-final x sound t.id) in
      let mine = units-committed tree cs by (own-final x sound t.id) (own-apply x sound t.id) in
      let others = sum-same (λ (o : OwnChanges). committed_units tree_then o.changes) (λ (o : OwnChanges). committed_units tree o.changes) (own_without x.files.table.own t.id) (λ o has.
      let kept = IsIn-filter (λ (o : OwnChanges). not (same_id o.transaction t.id)) x.files.table.own o has in
      let now = own-now x sound o kept.0 in
      units-committed tree_then o.changes (bytes_seen x.files (Some o.transaction)) now.1 (applies-then o kept.0 (not-true _ kept.1))
      ∙ sym (units-committed tree o.changes (bytes_seen x.files (Some o.transaction)) now.1 (list_all-at (λ (o : OwnChanges). changes_apply x.files.tree o.changes) x.files.table.own sound.own_apply o kept.0))) in
      let all = sum-without (committed_units tree) refl x.files.table.own t.id in
      omega arith

  -- it commits its changes
  pub budget-files : (room : ℕ) (store : Store) (set : List Own) → Budget room x.files.tree x.files.table.own store set → Budget room tree_then (own_without x.files.table.own t.id) store set
  budget-files room store set budget = record {
    units = (let a = units-then in let b = budget.units in omega arith);
    nodes = (let a = nodes-all cs tree in let b = sum-without nodes_made refl x.files.table.own t.id in let c = budget.nodes in omega arith);
    keys = budget.keys;
    changes = (let a = sum-filter-less (λ (o : OwnChanges). count_by (λ c. not (changes_bytes c)) o.changes) (λ (o : OwnChanges). not (same_id o.transaction t.id)) x.files.table.own in let b = budget.changes in omega arith);
  }

-- a transaction commits its settings
pub budget-keys : (room : ℕ) (tree : Tree) (own : List OwnChanges) (store : Store) (set : List Own) (id : Id) → Budget room tree own store set → Budget room tree own (stored_all store (own_settings set id)) (without_own set id)
budget-keys room tree own store set id budget = record {
  units = budget.units;
  nodes = budget.nodes;
  keys = (let a = length-stored_all-le store (own_settings set id) in let b = counted-without_own (λ s. is_some s.value) id set in let c = budget.keys in omega arith);
  changes = (let a = counted-without_own (λ s. is_none s.value) id set in let b = budget.changes in omega arith);
}
