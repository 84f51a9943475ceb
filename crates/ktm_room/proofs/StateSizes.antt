-- A good state fits the area of a snapshot.
use Rattle.std.proofs.Common.{◌≡◌, ℕ, ◌+◌, ◌*◌, ◌≤◌, ◌==◌, not, true, nat_lt, List, [], ◌∷◌, length, sum_by, Option, Some, None, refl, arith, inl, inr}
use Rattle.std.proofs.lemmas.Bool.{and_parts, ltb-false, not-true, or_parts}
use Rattle.std.proofs.lemmas.List.Sums.{sum_by-cons, sum_by-le}
use Rattle.std.proofs.Math.Nat.{mul-le-mul_left}
use Rattle.std.specs.List.{list_all}
use Rattle.ktm_base.specs.Names.{IsName}
use Rattle.ktm_keyed.specs.declared.keyed.Keyed.{Keyed}
use Rattle.ktm_world.specs.declared.recorded.Node.{Node}
use Rattle.ktm_world.specs.Keys.{Store, is_bad_key, is_bad_value}
use Rattle.ktm_world.specs.Tree.{Tree, bytes_or_none, units_of}
use Rattle.txf_laws.specs.Contents.{is_good_entry}
use Rattle.txf_laws.specs.Elements.{IsIn}
use Rattle.txf_laws.proofs.offered.CommitsOfOthers.{All-by, All-in}
use Rattle.txf_laws.proofs.offered.Elements.{list_all-at}
use Rattle.txf_laws.proofs.offered.GoodTransactions.{table-of}
use Rattle.ktm_records.proofs.offered.DurableLimits.{limits-kept}
use Rattle.ktm_snapshot.specs.Sizes.{contents_size, entry_size, node_size}
use Rattle.ktm_room.specs.Snapshots.{SnapshotsLaw}
use Rattle.ktm_room.proofs.TransactionSizes.{transactions-size}

-- ---- nodes

contents-size : (content : Option (List ℕ)) → contents_size content ≤ 12 + 4 * units_of (bytes_or_none content)
contents-size None = omega arith
contents-size (Some bytes) = omega arith

nodes-size : (tree : Tree) → ((n : Node) → IsIn n tree → IsName n.name) → sum_by node_size tree ≤ 285 * length tree + 4 * sum_by (λ node. units_of (bytes_or_none node.content)) tree
nodes-size [] named = omega arith
nodes-size (n ∷ ns) named =
    let all = sum_by-cons node_size n ns in
    let units = sum_by-cons (λ (node : Node). units_of (bytes_or_none node.content)) n ns in
    let contents = contents-size n.content in
    let short = (named n (inl refl)).few in
    let rest = nodes-size ns (λ m there. named m (inr there)) in
    omega (arith, all, units, contents, short, rest)

-- ---- keys

one-entry : (entry : Keyed (List ℕ)) → is_good_entry entry ≡ true → entry_size entry ≤ 1027
one-entry entry good =
    let parts = and_parts (not (is_bad_key entry.key)) (not (is_bad_value entry.value)) good in
    let key = ltb-false 64 (length entry.key) (or_parts (length entry.key == 0) (nat_lt 64 (length entry.key)) (not-true (is_bad_key entry.key) parts.0)).1 in
    let value = ltb-false 960 (length entry.value) (not-true (is_bad_value entry.value) parts.1) in
    omega (arith, key, value)

entries-size : (store : Store) → list_all is_good_entry store ≡ true → sum_by entry_size store ≤ 1027 * length store
entries-size store good =
    let most = sum_by-le entry_size 1027 store (All-by (λ entry. entry_size entry ≤ 1027) store (λ entry there. one-entry entry (list_all-at is_good_entry store good entry there))) in
    omega (arith, most)

-- ---- the state

pub snapshots_law : SnapshotsLaw
snapshots_law s good =
    let limits = limits-kept s good.limits in
    let nodes = nodes-size s.tree (All-in (λ (n : Node). IsName n.name) s.tree good.files.names) in
    let entries = entries-size s.keys good.keys_good in
    let transactions = transactions-size s s.transactions (λ t there. ((table-of s good).fit t there).core) in
    let few = mul-le-mul_left (length s.tree) limits.transactions in
    let in_units = limits.units in
    let in_nodes = limits.nodes in
    let in_keys = limits.keys in
    let in_wait = limits.changes in
    let enlisted = limits.enlistments in
    let managers = limits.managers in
    let count = limits.transactions in
    omega (arith, nodes, entries, transactions, few, in_units, in_nodes, in_keys, in_wait, enlisted, managers, count)
