-- What all transactions changed and set takes no more bytes than so many for each unit of the image.
use Rattle.std.specs.Prelude.{if◌then◌else◌}
use Rattle.std.proofs.Common.{◌≡◌, ℕ, ◌+◌, ◌*◌, ◌≤◌, not, Bool, true, false, is_some, is_none, count_by, List, [], ◌∷◌, filter, length, sum_by, Some, refl, ap, arith, inl, inr}
use Rattle.std.proofs.lemmas.List.Sums.{length-filter, sum_by-cons}
use Rattle.ktm_base.specs.declared.id.Id.{Id}
use Rattle.ktm_world.specs.declared.object.Transaction.{Transaction}
use Rattle.ktm_world.specs.Changes.{changes_apply, changes_bytes, nodes_made}
use Rattle.ktm_world.specs.Committed.{changes_to_commit}
use Rattle.ktm_world.specs.Files.{OwnChanges, bytes_seen, own_changes}
use Rattle.ktm_world.specs.FileUses.{file_changes_waiting, nodes_used, own_units, units_used}
use Rattle.ktm_world.specs.Keys.{Own, are_good_settings, is_good_setting, own_settings}
use Rattle.ktm_world.specs.Present.{Present}
use Rattle.ktm_world.specs.Sizes.{change_size, setting_size}
use Rattle.ktm_world.specs.Transactions.{same_id}
use Rattle.ktm_world.specs.Uses.{changes_waiting}
use Rattle.std.specs.List.{list_all}
use Rattle.std.proofs.lemmas.Bool.{and_parts}
use Rattle.txf_laws.specs.Elements.{IsIn}
use Rattle.txf_laws.specs.FinalChanges.{names_of}
use Rattle.txf_laws.proofs.offered.CommitsOfOthers.{All-in}
use Rattle.txf_laws.proofs.offered.Elements.{list_all-at}
use Rattle.txf_laws.proofs.offered.Sums.{sum-less, sum-plus}
use Rattle.txf_laws.proofs.offered.Tables.{same_id-sym}
use Rattle.ktm_courses.proofs.offered.Arrivals.{RiseTransactions}
use Rattle.ktm_records.specs.Kept.{IsKept}
use Rattle.ktm_records.proofs.offered.NoMore.{fits-within}
use Rattle.ktm_room.proofs.offered.ChangeSizes.{parts-size}
use Rattle.ktm_room.proofs.offered.SettingSizes.{settings-size}
use Rattle.ktm_debts.specs.Debts.{items_debt}
use Rattle.ktm_debts.proofs.TransactionSums.{sum-at_one, sum-none}
use Rattle.ktm_debts.proofs.WrittenFiles.{all-written, are_of, written-few}

-- ---- entries of transactions

-- what transactions have each in its entry is no more than is in all entries
module _ {O : Type 0} (id_of : O → Id) (size : O → ℕ) (found : List O → Id → ℕ) (none : (id : Id) → found [] id ≡ 0)
    (first : (o : O) (os : List O) (id : Id) → found (o ∷ os) id ≡ (if same_id (id_of o) id then size o else found os id)) (ts : List Transaction) (rise : RiseTransactions ts) where
  -- what the first entry is of a transaction
  abbrev part_of : O → Transaction → ℕ
  part_of o t = if same_id (id_of o) t.id then size o else 0

  parts-few : (o : O) → sum_by (part_of o) ts ≤ size o
  parts-few o = sum-at_one (part_of o) (size o) (id_of o) ts rise (λ t there. go (same_id (id_of o) t.id)) (λ t there other. ap (λ is. if is then size o else 0) (same_id-sym t.id (id_of o) other))
    where
      go : (is : Bool) → (if is then size o else 0) ≤ size o
      go true = omega arith
      go false = omega arith

  pub each-once : (os : List O) → sum_by (λ t. found os t.id) ts ≤ sum_by size os
  each-once [] = let all = sum-none (λ (t : Transaction). found [] t.id) ts (λ t there. none t.id) in omega arith
  each-once (o ∷ os) =
      let rest = each-once os in
      let more = sum-less (λ (t : Transaction). found (o ∷ os) t.id) (λ t. part_of o t + found os t.id) ts (λ t there. let is = first o os t.id in let one = go t (same_id (id_of o) t.id) in omega arith) in
      let both = sum-plus (part_of o) (λ t. found os t.id) ts in
      let few = parts-few o in
      let all = sum_by-cons size o os in
      omega arith
    where
      go : (t : Transaction) (is : Bool) → (if is then size o else found os t.id) ≤ (if is then size o else 0) + found os t.id
      go t true = omega arith
      go t false = omega arith

-- ---- what they changed

module _ (x : Present) (kept : IsKept x) where
  -- how many names an entry changes
  abbrev names : OwnChanges → ℕ
  names o = count_by (λ change. not (changes_bytes change)) o.changes

  -- how many nodes of the tree it writes
  abbrev written : OwnChanges → ℕ
  written o = length (filter (are_of o.changes) x.files.tree)

  entry-size : (o : OwnChanges) → IsIn o x.files.table.own → sum_by change_size o.changes ≤ 274 * names o + 46 * (written o + nodes_made o.changes) + 4 * own_units x.files o
  entry-size o there =
      let by = bytes_seen x.files (Some o.transaction) in
      let final = All-in (λ (p : OwnChanges). changes_to_commit p.changes (bytes_seen x.files (Some p.transaction)) ≡ p.changes) x.files.table.own kept.sound.files.own_final o there in
      let applied = list_all-at (λ (p : OwnChanges). changes_apply x.files.tree p.changes) x.files.table.own kept.sound.files.own_apply o there in
      let parts = parts-size x.files.tree o.changes by final applied in
      let few = written-few x.files.tree o.changes by final applied in
      let named : length (names_of o.changes) ≡ names o = length-filter (λ change. not (changes_bytes change)) o.changes in
      omega (arith, parts, few, named)

  entries-size : (os : List OwnChanges) → ((o : OwnChanges) → IsIn o os → IsIn o x.files.table.own)
      → sum_by (λ o. sum_by change_size o.changes) os ≤ 274 * sum_by names os + 46 * (sum_by written os + sum_by (λ o. nodes_made o.changes) os) + 4 * sum_by (own_units x.files) os
  entries-size [] within = omega arith
  entries-size (o ∷ os) within =
      let rest = entries-size os (λ p there. within p (inr there)) in
      let one = entry-size o (within o (inl refl)) in
      let all = sum_by-cons (λ (p : OwnChanges). sum_by change_size p.changes) o os in
      let a = sum_by-cons names o os in
      let b = sum_by-cons written o os in
      let c = sum_by-cons (λ (p : OwnChanges). nodes_made p.changes) o os in
      let d = sum_by-cons (own_units x.files) o os in
      omega (arith, rest, one, all, a, b, c, d)

  -- ---- what they set

  -- how many keys an entry sets, and how many it unsets
  abbrev sets : Own → ℕ
  sets o = count_by (λ s. is_some s.value) o.settings

  abbrev unsets : Own → ℕ
  unsets o = count_by (λ s. is_none s.value) o.settings

  set-size : (os : List Own) → list_all (λ (o : Own). are_good_settings o.settings) os ≡ true → sum_by (λ o. sum_by setting_size o.settings) os ≤ 1028 * sum_by sets os + 66 * sum_by unsets os
  set-size [] good = omega arith
  set-size (o ∷ os) good =
      let both = and_parts (are_good_settings o.settings) (list_all (λ (p : Own). are_good_settings p.settings) os) good in
      let rest = set-size os both.1 in
      let one = settings-size o.settings (and_parts _ (list_all is_good_setting o.settings) both.0).1 in
      let all = sum_by-cons (λ (p : Own). sum_by setting_size p.settings) o os in
      let a = sum_by-cons sets o os in
      let b = sum_by-cons unsets o os in
      omega (arith, rest, one, all, a, b)

  -- ---- all of it

  if-sum : {X : Type 0} (f : X → ℕ) (is : Bool) (xs ys : List X) → sum_by f (if is then xs else ys) ≡ (if is then sum_by f xs else sum_by f ys)
  if-sum f true xs ys = refl
  if-sum f false xs ys = refl

  pub all-items : sum_by (λ (t : Transaction). items_debt x t.id) x.transactions.items ≤ 1352 * x.recorded.units
  unfolding changes_waiting file_changes_waiting nodes_used units_used
  all-items =
      let ts = x.transactions.items in
      let rise = kept.sound.course.transactions.rise in
      let changed = each-once (λ (o : OwnChanges). o.transaction) (λ o. sum_by change_size o.changes) (λ os id. sum_by change_size (own_changes os id)) (λ id. refl)
      (λ o os id. if-sum change_size (same_id o.transaction id) o.changes (own_changes os id)) ts rise x.files.table.own in
      let set = each-once (λ (o : Own). o.transaction) (λ o. sum_by setting_size o.settings) (λ os id. sum_by setting_size (own_settings os id)) (λ id. refl)
      (λ o os id. if-sum setting_size (same_id o.transaction id) o.settings (own_settings os id)) ts rise x.keys.own in
      let both = sum-plus (λ (t : Transaction). sum_by change_size (own_changes x.files.table.own t.id)) (λ t. sum_by setting_size (own_settings x.keys.own t.id)) ts in
      let files = entries-size x.files.table.own (λ o there. there) in
      let keys = set-size x.keys.own kept.sound.keys.settings in
      let nodes = all-written x kept.sound.files in
      let within = fits-within x kept.within in
      let in_wait = within.changes in
      let in_nodes = within.nodes in
      let in_units = within.units in
      let in_keys = within.keys in
      omega (arith, changed, set, both, files, keys, nodes, in_wait, in_nodes, in_units, in_keys)
