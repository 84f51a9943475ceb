-- Pieces of a state that are written, or read, one behind the other.
use Rattle.std.specs.Prelude.{◌≡◌, ℕ, ◌<◌, ◌≤◌, ◌&&◌, Bool, true, false, List, [], ◌∷◌, ◌++◌, length, None}
use Rattle.ktm_base.specs.Grammar.{IsU32, Then, IsRow}
use Rattle.ktm_codec.specs.Spans.{Adds, Spans, Reads}
use Rattle.ktm_world.specs.Durable.{Durable}
use Rattle.ktm_snapshot.specs.StateGrammar.{IsHeadOf, AreNodesOf, AreEntriesOf, AreManagersOf, AreTransactionsOf, IsRisingListOf, IsUpToNodesOf, IsUpToEntriesOf, IsUpToManagersOf, IsStateOf, head_of}

-- what says how many things there are, and the first of these things
abbrev pub IsFrontOf : {X : Type 0} → (List ℕ → Type 0) → (X → List ℕ → Type 0) → List X → List ℕ → Type 0
IsFrontOf Count Item xs = Then Count (IsRow Item xs)

-- things are added to the front of a list, one after another
pub record AddsItems {X : Type 0} (Count : List ℕ → Type 0) (Item : X → List ℕ → Type 0) : Type 0 where
  -- a count is such a front, of no things
  pub begins : (a b : List ℕ) → Adds Count a b → Adds (IsFrontOf Count Item []) a b
  -- one thing more
  pub goes_on : (xs : List X) (x : X) (a b c : List ℕ) → Adds (IsFrontOf Count Item xs) a b → Adds (Item x) b c → Adds (IsFrontOf Count Item (xs ++ x ∷ [])) a c

-- a list is written once as many things are as its count says, and they rise
abbrev pub ListIsWritten : {X : Type 0} → (List X → Bool) → (X → List ℕ → Type 0) → Type 0
ListIsWritten {X} rises Item = (xs : List X) (a b : List ℕ) → Adds (IsFrontOf (IsU32 (length xs)) Item xs) a b → rises xs ≡ true → Adds (IsRisingListOf rises Item xs) a b

-- what reading a list comes to, at a place of the bytes
pub record ReadsList {X : Type 0} (rises : List X → Bool) (Item : X → List ℕ → Type 0) (bytes : List ℕ) (at : ℕ) : Type 0 where
  -- without a count there is no list
  pub no_count : Reads IsU32 bytes at None → Reads (IsRisingListOf rises Item) bytes at None
  -- behind the count no thing is read yet
  pub begins : (count here : ℕ) → Spans (IsU32 count) bytes at here → Spans (IsFrontOf (IsU32 count) Item []) bytes at here
  -- one thing more
  pub goes_on : (count : ℕ) (xs : List X) (x : X) (here end : ℕ) → Spans (IsFrontOf (IsU32 count) Item xs) bytes at here → Spans (Item x) bytes here end
      → Spans (IsFrontOf (IsU32 count) Item (xs ++ x ∷ [])) bytes at end
  -- where a thing is missing there is no list
  pub no_item : (count : ℕ) (xs : List X) (here : ℕ) → Spans (IsFrontOf (IsU32 count) Item xs) bytes at here → length xs < count → Reads Item bytes here None
      → Reads (IsRisingListOf rises Item) bytes at None
  -- where things do not rise there is no list
  pub falls : (count : ℕ) (xs : List X) (here : ℕ) → Spans (IsFrontOf (IsU32 count) Item xs) bytes at here → length xs ≤ count → rises xs ≡ false
      → Reads (IsRisingListOf rises Item) bytes at None
  -- as many things as the count says are the list, where they rise
  pub whole : (count : ℕ) (xs : List X) (here : ℕ) → Spans (IsFrontOf (IsU32 count) Item xs) bytes at here → length xs ≡ count → rises xs ≡ true
      → Spans (IsRisingListOf rises Item xs) bytes at here

-- the head and the four lists, one behind the other, are a state
abbrev pub StateIsWritten : Type 0
StateIsWritten = (s : Durable) (a b c d e f : List ℕ) → Adds (IsHeadOf (head_of s)) a b → Adds (AreNodesOf s.tree) b c → Adds (AreEntriesOf s.keys) c d
    → Adds (AreManagersOf s.managers) d e → Adds (AreTransactionsOf s.transactions) e f → Adds (IsStateOf s) a f

-- no state stands in these bytes
abbrev pub IsNoState : List ℕ → Type 0
IsNoState bytes = (s : Durable) → ¬ IsStateOf s bytes

-- what reading a state comes to, from the front of the bytes
pub record ReadsState (bytes : List ℕ) (s : Durable) : Type 0 where
  -- without a head, or the list that comes next, there is no state
  pub no_head : Reads IsHeadOf bytes 0 None → IsNoState bytes
  pub no_nodes : (here : ℕ) → Spans (IsHeadOf (head_of s)) bytes 0 here → Reads AreNodesOf bytes here None → IsNoState bytes
  pub no_entries : (here : ℕ) → Spans (IsUpToNodesOf s) bytes 0 here → Reads AreEntriesOf bytes here None → IsNoState bytes
  pub no_managers : (here : ℕ) → Spans (IsUpToEntriesOf s) bytes 0 here → Reads AreManagersOf bytes here None → IsNoState bytes
  pub no_transactions : (here : ℕ) → Spans (IsUpToManagersOf s) bytes 0 here → Reads AreTransactionsOf bytes here None → IsNoState bytes
  -- the list that comes next
  pub nodes : (here end : ℕ) → Spans (IsHeadOf (head_of s)) bytes 0 here → Spans (AreNodesOf s.tree) bytes here end → Spans (IsUpToNodesOf s) bytes 0 end
  pub entries : (here end : ℕ) → Spans (IsUpToNodesOf s) bytes 0 here → Spans (AreEntriesOf s.keys) bytes here end → Spans (IsUpToEntriesOf s) bytes 0 end
  pub managers : (here end : ℕ) → Spans (IsUpToEntriesOf s) bytes 0 here → Spans (AreManagersOf s.managers) bytes here end → Spans (IsUpToManagersOf s) bytes 0 end
  -- all that was read is the state, where nothing stands behind it, and where something does there is none
  pub whole : (here : ℕ) → Spans (IsUpToManagersOf s) bytes 0 here → Spans (AreTransactionsOf s.transactions) bytes here (length bytes) → IsStateOf s bytes
  pub longer : (here end : ℕ) → Spans (IsUpToManagersOf s) bytes 0 here → Spans (AreTransactionsOf s.transactions) bytes here end → end < length bytes → IsNoState bytes

-- of a list with one thing more, do the things rise exactly where they did, and the one behind them comes after the last
abbrev pub RisesByLast : {X : Type 0} → (List X → Bool) → (X → X → Bool) → Type 0
RisesByLast {X} rises before = (xs : List X) (last x : X) → rises ((xs ++ last ∷ []) ++ x ∷ []) ≡ (rises (xs ++ last ∷ []) && before last x)
