-- What nodes end as, once a `&mut` to the content of one of them has ended.
use Rattle.std.specs.Prelude.{ℕ, List, Option, Some, None}
use Rattle.std.specs.Borrow.{Lends, LendsIf, Fml, RattleType, MutBor}
use Rattle.ktm_links.specs.declared.list.Key.{Key}
use Rattle.ktm_links.specs.Items.{Item, Listed, value_at, with_value}
use Rattle.ktm_links.specs.contracts.list.List.{the_row as list_row}
use Rattle.txf_nodes.specs.contracts.nodes.Nodes.{the_row as nodes_row}
use Rattle.txf_nodes.specs.contracts.stored.StoredNode.{the_row as stored_row}
use Rattle.txf_nodes.specs.contracts.table.NodeTable.{the_row as table_row}
use Rattle.txf_nodes.specs.Indexes.{refilled, with_content}
use Rattle.txf_nodes.specs.NodesState.{NodeOf, NodesState}

module _ {V : Type 0} where
  -- the items with another content of this node, which the key names, if it is one
  abbrev pub refilled_item : List (Item (NodeOf V)) → Key → Option (NodeOf V) → ℕ → V → List (Item (NodeOf V))
  refilled_item items key None changes content = items
  refilled_item items key (Some n) changes content = with_value items key (with_content n changes content)

  -- the nodes with another content of the file, which counts as so many changes
  abbrev pub with_content_at : NodesState V → ℕ → ℕ → V → NodesState V
  with_content_at s file changes content = record s { nodes = refilled s.nodes file changes content }

module _ (V : RattleType) where
  -- the node ends with the last content written through r, which counts as so many changes
  abbrev pub lends_content : MutBor (NodeOf V.Denot) → ℕ → MutBor V.Denot → Fml
  lends_content s changes r = Lends (stored_row V) V s r (with_content s.now changes)

  -- the node of the key ends with the last content written through r, and where there is none all stays as it is
  abbrev pub lends_item : MutBor (Listed (NodeOf V.Denot)) → Key → ℕ → Option (MutBor V.Denot) → Fml
  lends_item s key changes r =
      LendsIf (list_row (stored_row V)) V s r (λ w. record s.now { items = refilled_item s.now.items key (value_at s.now.items key) changes w }) s.now

  -- the file with the number ends with the last content written through r, and where there is none all stays as it is
  abbrev pub lends_in : MutBor (NodesState V.Denot) → ℕ → ℕ → Option (MutBor V.Denot) → Fml
  lends_in s file changes r = LendsIf (nodes_row V) V s r (with_content_at s.now file changes) s.now

  -- the table ends with the last content written through r, and where there is none all stays as it is
  abbrev pub lends_of : MutBor (NodesState V.Denot) → ℕ → ℕ → Option (MutBor V.Denot) → Fml
  lends_of s file changes r = LendsIf (table_row V) V s r (with_content_at s.now file changes) s.now
