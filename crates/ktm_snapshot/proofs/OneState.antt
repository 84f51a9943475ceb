-- Bytes are one state at most, and a state has one spelling.
use Rattle.std.proofs.Common.{◌≡◌, ℕ, Bool, List, ap, ◌∙◌}
use Rattle.ktm_base.specs.declared.id.Id.{Id}
use Rattle.ktm_codec.specs.Spans.{Unambiguous, OneSpelling}
use Rattle.ktm_codec.proofs.Forms.{HasOne, unambiguous_list, one_then, one_list}
use Rattle.ktm_event.proofs.Pairs.{Both, unambiguous_both}
use Rattle.ktm_event.proofs.Parts.{unambiguous_id, one_id}
use Rattle.ktm_keyed.specs.Keyed.{is_rising}
use Rattle.ktm_world.specs.EventGrammar.{IsIdOf}
use Rattle.ktm_world.specs.Durable.{Durable, Recorded, is_before}
use Rattle.ktm_world.specs.Keys.{Store}
use Rattle.ktm_world.specs.Tree.{Tree, numbers_rise}
use Rattle.txf_laws.specs.Elements.{each_pair}
use Rattle.ktm_snapshot.proofs.OnePiece.{unambiguous_head, unambiguous_node, unambiguous_entry, unambiguous_transaction, one_head, one_node, one_entry, one_transaction}
use Rattle.ktm_snapshot.specs.Laws.{OneStateAtMost}
use Rattle.ktm_snapshot.specs.StateGrammar.{IsHeadOf, IsNodeOf, IsEntryOf, IsTransactionOf, IsRisingListOf, AreNodesOf, AreEntriesOf, AreManagersOf, AreTransactionsOf, IsUpToNodesOf, IsUpToEntriesOf, IsUpToManagersOf, IsStateOf, head_of, transactions_rise}
use Rattle.ktm_snapshot.specs.declared.head.StateHead.{StateHead}

-- a list whose things rise
pub unambiguous_rising : {X : Type 0} (rises : List X → Bool) (Item : X → List ℕ → Type 0) → Unambiguous Item → Unambiguous (IsRisingListOf rises Item)
unambiguous_rising rises Item one x y a b c d p q e = unambiguous_list Item one x y a b c d p.listed q.listed e

one_rising : {X : Type 0} (rises : List X → Bool) (Item : X → List ℕ → Type 0) → OneSpelling Item → OneSpelling (IsRisingListOf rises Item)
one_rising rises Item one xs a b all all' p q = one_list Item one xs a b all all' p.listed q.listed

pub unambiguous_nodes : Unambiguous AreNodesOf
unambiguous_nodes = unambiguous_rising numbers_rise IsNodeOf unambiguous_node

pub unambiguous_entries : Unambiguous AreEntriesOf
unambiguous_entries = unambiguous_rising is_rising IsEntryOf unambiguous_entry

pub unambiguous_managers : Unambiguous AreManagersOf
unambiguous_managers = unambiguous_rising (each_pair is_before) IsIdOf unambiguous_id

pub unambiguous_transactions : Unambiguous AreTransactionsOf
unambiguous_transactions = unambiguous_rising transactions_rise IsTransactionOf unambiguous_transaction

-- the pieces of a state, as pairs
abbrev pub Pieces : Type 0
Pieces = (((StateHead × Tree) × Store) × List Id) × List Recorded

abbrev pub pieces_of : Durable → Pieces
pieces_of s = ((((head_of s, s.tree), s.keys), s.managers), s.transactions)

-- a state up to each of its lists
abbrev pub ToNodes : StateHead × Tree → List ℕ → Type 0
ToNodes = Both IsHeadOf AreNodesOf

abbrev pub ToEntries : (StateHead × Tree) × Store → List ℕ → Type 0
ToEntries = Both ToNodes AreEntriesOf

abbrev pub ToManagers : ((StateHead × Tree) × Store) × List Id → List ℕ → Type 0
ToManagers = Both ToEntries AreManagersOf

abbrev pub IsPiecesOf : Pieces → List ℕ → Type 0
IsPiecesOf = Both ToManagers AreTransactionsOf

pub unambiguous_to_nodes : Unambiguous ToNodes
unambiguous_to_nodes = unambiguous_both IsHeadOf AreNodesOf unambiguous_head unambiguous_nodes

pub unambiguous_to_entries : Unambiguous ToEntries
unambiguous_to_entries = unambiguous_both ToNodes AreEntriesOf unambiguous_to_nodes unambiguous_entries

pub unambiguous_to_managers : Unambiguous ToManagers
unambiguous_to_managers = unambiguous_both ToEntries AreManagersOf unambiguous_to_entries unambiguous_managers

pub unambiguous_pieces : Unambiguous IsPiecesOf
unambiguous_pieces = unambiguous_both ToManagers AreTransactionsOf unambiguous_to_managers unambiguous_transactions

-- the state with these pieces, in an image with these units and this number
abbrev with_pieces : ℕ → ℕ → Pieces → Durable
with_pieces units image p = record {
  units = units;
  image = image;
  events = p.0.0.0.0.events;
  boots = p.0.0.0.0.boots;
  next_node = p.0.0.0.0.next_node;
  tree = p.0.0.0.1;
  keys = p.0.0.1;
  managers = p.0.1;
  transactions = p.1;
}

pub one_state : OneStateAtMost
one_state s t a b c d units image p q e =
    let (same, bytes) = unambiguous_pieces (pieces_of s) (pieces_of t) a b c d p.spelled q.spelled e in
    let states : s ≡ t =
    ap (λ (u : ℕ). with_pieces u s.image (pieces_of s)) units ∙ ap (λ (i : ℕ). with_pieces t.units i (pieces_of s)) image ∙ ap (λ (ps : Pieces). with_pieces t.units t.image ps) same in
    (states, bytes)

pub one_spelling : OneSpelling IsStateOf
one_spelling s a b all all' p q =
    let nodes : HasOne (IsUpToNodesOf s) = one_then _ _ (one_head (head_of s)) (one_rising numbers_rise IsNodeOf one_node s.tree) in
    let entries : HasOne (IsUpToEntriesOf s) = one_then _ _ nodes (one_rising is_rising IsEntryOf one_entry s.keys) in
    let managers : HasOne (IsUpToManagersOf s) = one_then _ _ entries (one_rising (each_pair is_before) IsIdOf one_id s.managers) in
    one_then _ _ managers (one_rising transactions_rise IsTransactionOf one_transaction s.transactions) a b all all' p.spelled q.spelled
