-- What was read of a state is what any state has that stands in the bytes.
use Rattle.std.proofs.Common.{◌≡◌, ℕ, List, [], length, subst, sym}
use Rattle.ktm_base.specs.declared.id.Id.{Id}
use Rattle.ktm_base.specs.Grammar.{Then}
use Rattle.ktm_codec.specs.Spans.{Spans, Unambiguous}
use Rattle.ktm_codec.proofs.SpansLemmas.{one_reading, spans_parts, spans_then}
use Rattle.ktm_saved.specs.declared.front.Front.{Front}
use Rattle.ktm_saved.specs.Reading.{state_behind}
use Rattle.ktm_snapshot.specs.declared.head.StateHead.{StateHead}
use Rattle.ktm_snapshot.specs.StateGrammar.{AreEntriesOf, AreManagersOf, AreNodesOf, AreTransactionsOf, IsHeadOf, IsStateOf, IsUpToManagersOf, head_of}
use Rattle.ktm_snapshot.proofs.OnePiece.{unambiguous_head}
use Rattle.ktm_snapshot.proofs.OneState.{ToEntries, ToManagers, ToNodes, unambiguous_to_entries, unambiguous_to_managers, unambiguous_to_nodes}
use Rattle.ktm_snapshot.proofs.Reading.{Places, places_of}
use Rattle.ktm_world.specs.Durable.{Durable}
use Rattle.ktm_world.specs.Keys.{Store}
use Rattle.ktm_world.specs.Tree.{Tree}
use Rattle.txf_tree.specs.TreeState.{tree_of}

module _ {X Y : Type 0} (First : X → List ℕ → Type 0) (Second : Y → List ℕ → Type 0) (bytes : List ℕ) (one : Unambiguous First) where
  -- what stands behind what was read
  behind : (x x' : X) (y : Y) (here end : ℕ) → Spans (First x) bytes 0 here → Spans (Then (First x') (Second y)) bytes 0 end → (x' ≡ x) × Spans (Second y) bytes here end
  behind x x' y here end read both =
      let (mid, first, second) = spans_parts bytes 0 end both in
      let (same, place) = one_reading First one bytes 0 x' x mid here first read in
      (same, subst (λ n. Spans (Second y) bytes n end) place second)

module _ (bytes : List ℕ) (s : Durable) (is : IsStateOf s bytes) where
  abbrev pub at : Places bytes s
  at = places_of bytes s is

  pub behind_head : (head : StateHead) (here : ℕ) → Spans (IsHeadOf head) bytes 0 here → (head_of s ≡ head) × Spans (AreNodesOf s.tree) bytes here at.nodes
  behind_head head here read = behind IsHeadOf AreNodesOf bytes unambiguous_head head (head_of s) s.tree here at.nodes read at.to_nodes

  pub behind_nodes : (head : StateHead) (tree : Tree) (here : ℕ) → Spans (ToNodes (head, tree)) bytes 0 here → (◌≡◌ {A = StateHead × Tree} (head_of s, s.tree) (head, tree)) × Spans (AreEntriesOf s.keys) bytes here at.entries
  behind_nodes head tree here read = behind ToNodes AreEntriesOf bytes unambiguous_to_nodes (head, tree) (head_of s, s.tree) s.keys here at.entries read at.to_entries

  pub behind_entries : (head : StateHead) (tree : Tree) (keys : Store) (here : ℕ) → Spans (ToEntries ((head, tree), keys)) bytes 0 here
      → (◌≡◌ {A = (StateHead × Tree) × Store} ((head_of s, s.tree), s.keys) ((head, tree), keys)) × Spans (AreManagersOf s.managers) bytes here at.managers
  behind_entries head tree keys here read =
      behind ToEntries AreManagersOf bytes unambiguous_to_entries ((head, tree), keys) ((head_of s, s.tree), s.keys) s.managers here at.managers read at.to_managers

  pub behind_managers : (head : StateHead) (tree : Tree) (keys : Store) (ids : List Id) (here : ℕ) → Spans (ToManagers (((head, tree), keys), ids)) bytes 0 here
      → (◌≡◌ {A = ((StateHead × Tree) × Store) × List Id} (((head_of s, s.tree), s.keys), s.managers) (((head, tree), keys), ids)) × Spans (AreTransactionsOf s.transactions) bytes here (length bytes)
  behind_managers head tree keys ids here read =
      behind ToManagers AreTransactionsOf bytes unambiguous_to_managers (((head, tree), keys), ids) (((head_of s, s.tree), s.keys), s.managers) s.transactions here (length bytes) read at.all

-- the pieces that were read, one behind the other
pub front_read : (bytes : List ℕ) (head : StateHead) (front : Front) (start a b end : ℕ) → front.events ≡ head.events → front.boots ≡ head.boots → front.files.next_node ≡ head.next_node
    → Spans (IsHeadOf head) bytes 0 start → Spans (AreNodesOf (tree_of front.files.tree)) bytes start a → Spans (AreEntriesOf front.keys.items) bytes a b → Spans (AreManagersOf front.managers.managers) bytes b end
    → Spans (IsUpToManagersOf (state_behind 0 0 front [])) bytes 0 end
front_read bytes head front start a b end events boots next at_head nodes keys ids =
    let same : head_of (state_behind 0 0 front []) ≡ head = λ i. record { events = events i; boots = boots i; next_node = next i } in
    let first = subst (λ (h : StateHead). Spans (IsHeadOf h) bytes 0 start) (sym same) at_head in
    spans_then bytes 0 b end (spans_then bytes 0 a b (spans_then bytes 0 start a first nodes) keys) ids
