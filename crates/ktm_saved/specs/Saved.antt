-- What a snapshot stands for, as it is in memory.
use Rattle.std.specs.Prelude.{◌≡◌, ℕ, List, Option, Some, None}
use Rattle.ktm_records.specs.Spelling.{AreRecordedTexts}
use Rattle.ktm_saved.specs.declared.saved.Saved.{Saved}
use Rattle.ktm_snapshot.specs.StateGrammar.{IsStateOf}
use Rattle.txf_laws.specs.GoodState.{IsGoodState}
use Rattle.ktm_waiting.specs.Waiting.{AreHeld}
use Rattle.ktm_world.specs.Durable.{Durable}
use Rattle.txf_tree.specs.TreeState.{tree_of}

-- the durable state of which this is in memory, in an image with so many units and this number
abbrev pub state_of : ℕ → ℕ → Saved → Durable
state_of units image saved = record {
  units = units;
  image = image;
  events = saved.events;
  boots = saved.boots;
  next_node = saved.files.next_node;
  tree = tree_of saved.files.tree;
  keys = saved.keys.items;
  managers = saved.managers.managers;
  transactions = saved.transactions.transactions;
}

-- the state stands in the bytes and is good, the transactions that wait hold what their changes hold, and the keys that they set are texts
pub record IsSaved (units image : ℕ) (bytes : List ℕ) (saved : Saved) : Type 0 where
  pub spelled : IsStateOf (state_of units image saved) bytes
  pub good : IsGoodState (state_of units image saved)
  pub held : AreHeld saved.waiting (tree_of saved.files.tree) saved.transactions.transactions
  pub texts : AreRecordedTexts (state_of units image saved)

-- the state that stands in the bytes; there is none only where no good state of such an image stands there
abbrev pub ReadsSaved : ℕ → ℕ → List ℕ → Option Saved → Type 0
ReadsSaved units image bytes None = (s : Durable) → s.units ≡ units → s.image ≡ image → IsStateOf s bytes → ¬ IsGoodState s
ReadsSaved units image bytes (Some saved) = IsSaved units image bytes saved
