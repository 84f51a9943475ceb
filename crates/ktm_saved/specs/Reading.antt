-- What is read of a snapshot piece by piece, and is good. No public clause cites this module.
use Rattle.std.specs.Prelude.{◌≡◌, ℕ, ◌<◌, ◌≤◌, ◌-◌, ◌^◌, ◌&&◌, Bool, true, false, List, [], length, nat_le, nat_lt, Option, Some, None}
use Rattle.std.specs.List.{list_all}
use Rattle.ktm_base.specs.declared.id.Id.{Id}
use Rattle.ktm_base.specs.declared.limits.TheConstants.{MOST_LIVE}
use Rattle.ktm_codec.specs.Spans.{Spans}
use Rattle.ktm_keyed.specs.Keyed.{is_rising}
use Rattle.ktm_saved.specs.declared.front.Front.{Front}
use Rattle.ktm_saved.specs.declared.saved.Saved.{Saved}
use Rattle.ktm_saved.specs.Saved.{IsSaved}
use Rattle.ktm_saved.specs.Tests.{Against, AreGoodSoFar, against}
use Rattle.ktm_snapshot.specs.StateGrammar.{AreTransactionsOf, IsStateOf, IsUpToManagersOf}
use Rattle.txf_laws.specs.GoodState.{IsGoodState, is_of_object}
use Rattle.ktm_waiting.specs.Totals.{TransactionsState}
use Rattle.ktm_waiting.specs.Waiting.{AreHeld}
use Rattle.ktm_world.specs.Durable.{Durable, Recorded, is_before}
use Rattle.ktm_world.specs.Keys.{Store}
use Rattle.ktm_world.specs.Tree.{Tree, IsWellFormed}
use Rattle.txf_laws.specs.Contents.{is_good_entry}
use Rattle.txf_laws.specs.Elements.{each_pair}
use Rattle.txf_reserve.specs.ReserveState.{ReserveState}
use Rattle.txf_tree.specs.TreeState.{tree_of}

-- the good thing that stands at a place, and the place behind it; there is none only where no good one stands there
abbrev pub ReadsGood : {X : Type 0} → (X → List ℕ → Type 0) → (X → Type 0) → List ℕ → ℕ → Option (X × ℕ) → Type 0
ReadsGood {X} Form Good bytes at None = (x : X) (end : ℕ) → Spans (Form x) bytes at end → ¬ Good x
ReadsGood Form Good bytes at (Some (x, end)) = Spans (Form x) bytes at end × Good x

-- the files are well formed, and the next node comes behind them and has a number that a node can have
pub record IsGoodTree (next : ℕ) (tree : Tree) : Type 0 where
  pub formed : IsWellFormed tree
  pub below : list_all (λ node. nat_lt node.number next) tree ≡ true
  pub from : 2 ≤ next
  pub to : next ≤ 2 ^ 63

-- are the keys within the limits, with their values, and do they rise
abbrev pub are_good_keys : Store → Bool
are_good_keys keys = list_all is_good_entry keys && is_rising keys

-- the keys are within the limits, with their values, and rise
abbrev pub AreGoodKeys : Store → Type 0
AreGoodKeys keys = are_good_keys keys ≡ true

-- was the Id drawn in one of so many boots
abbrev pub is_drawn_by : ℕ → Id → Bool
is_drawn_by boots id = is_of_object id && nat_le id.boot boots

-- are the resource managers no more than there may be, was the Id of each drawn in one of so many boots, and do they rise
abbrev pub are_good_managers : ℕ → List Id → Bool
are_good_managers boots managers = nat_le (length managers) MOST_LIVE && list_all (is_drawn_by boots) managers && each_pair is_before managers

-- the resource managers are no more than there may be, the Id of each was drawn in one of so many boots, and they rise
abbrev pub AreGoodManagers : ℕ → List Id → Type 0
AreGoodManagers boots managers = are_good_managers boots managers ≡ true

-- ---- a state, up to its transactions

-- the state that begins so in an image with so many units and this number, and goes on with these transactions
abbrev pub state_behind : ℕ → ℕ → Front → List Recorded → Durable
state_behind units image front transactions = record {
  units = units;
  image = image;
  events = front.events;
  boots = front.boots;
  next_node = front.files.next_node;
  tree = tree_of front.files.tree;
  keys = front.keys.items;
  managers = front.managers.managers;
  transactions = transactions;
}

-- what stands before the transactions of what is read
abbrev pub front_of : Saved → Front
front_of saved = record { events = saved.events; boots = saved.boots; files = saved.files; keys = saved.keys; managers = saved.managers }

-- what stands before the transactions is such as good states have
pub record IsGoodFront (front : Front) : Type 0 where
  pub events : front.events < 2 ^ 63
  pub boots : front.boots < 2 ^ 32 - 1
  pub tree : IsGoodTree front.files.next_node (tree_of front.files.tree)
  pub keys : AreGoodKeys front.keys.items
  pub managers : AreGoodManagers front.boots front.managers.managers

-- what stands before the transactions of a state, and the place behind it; there is none only where no good state stands in the bytes
abbrev pub ReadsFront : List ℕ → Option (Front × ℕ) → Type 0
ReadsFront bytes None = (s : Durable) → IsStateOf s bytes → ¬ IsGoodState s
ReadsFront bytes (Some (front, end)) = Spans (IsUpToManagersOf (state_behind 0 0 front [])) bytes 0 end × IsGoodFront front

-- ---- its transactions

-- the transactions stand between two places of the bytes, they are good so far and no more than there may be, and each holds what its changes hold
pub record AreTransactionsRead (a : Against) (bytes : List ℕ) (at end : ℕ) (transactions : List Recorded) (waiting : ReserveState) : Type 0 where
  pub spelled : Spans (AreTransactionsOf transactions) bytes at end
  pub good : AreGoodSoFar a transactions
  pub few : length transactions ≤ MOST_LIVE
  pub held : AreHeld waiting a.tree transactions

-- the place behind the transactions that are read; there is none only where those of no good state of an image stand there
abbrev pub ReadsInto : Against → List ℕ → ℕ → TransactionsState → ReserveState → Option ℕ → Type 0
ReadsInto a bytes at transactions waiting None = (s : Durable) (end : ℕ) → against s ≡ a → s.units < 2 ^ 32 → Spans (AreTransactionsOf s.transactions) bytes at end → ¬ IsGoodState s
ReadsInto a bytes at transactions waiting (Some end) = AreTransactionsRead a bytes at end transactions.transactions waiting

-- ---- all of it

-- the bytes begin with what stands before the transactions of a state, up to a place, and no transaction was read yet
pub record IsBegun (bytes : List ℕ) (start : ℕ) (saved : Saved) : Type 0 where
  pub begun : Spans (IsUpToManagersOf (state_behind 0 0 (front_of saved) [])) bytes 0 start
  pub front : IsGoodFront (front_of saved)
  pub none : saved.transactions.transactions ≡ []
  pub held : AreHeld saved.waiting (tree_of saved.files.tree) []

-- what a state begins with, and the place behind that; there is none only where no good state stands in the bytes
abbrev pub ReadsBegun : List ℕ → Option (Saved × ℕ) → Type 0
ReadsBegun bytes None = (s : Durable) → IsStateOf s bytes → ¬ IsGoodState s
ReadsBegun bytes (Some (saved, start)) = IsBegun bytes start saved

-- what was read is a good state that stands in the bytes, whatever the number of its image; or no good state of so many units stands there
abbrev pub ReadsRest : ℕ → List ℕ → Saved → Bool → Type 0
ReadsRest units bytes saved true = (image : ℕ) → image < 2 ^ 16 → IsSaved units image bytes saved
ReadsRest units bytes saved false = (s : Durable) → s.units ≡ units → IsStateOf s bytes → ¬ IsGoodState s
