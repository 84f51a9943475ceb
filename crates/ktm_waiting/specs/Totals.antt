-- What transactions take together, as it is counted while they come and go.
use Rattle.std.specs.Prelude.{◌≡◌, ℕ, ◌^◌, ◌<◌, ◌+◌, ◌&&◌, not, Bool, false, true, List, [], ◌∷◌, length, count_by, is_some, is_none, Option, None, Some}
use Rattle.ktm_world.specs.declared.change.Change.{Change}
use Rattle.ktm_world.specs.declared.event.Part.{Part}
use Rattle.ktm_world.specs.Changes.{changes_apply, changes_bytes, is_drop, node_of, nodes_made}
use Rattle.ktm_world.specs.Durable.{Recorded, changes_in, changes_of, enlistments_in, enlistments_of, settings_in}
use Rattle.ktm_world.specs.Tree.{Tree, node_at}
use Rattle.ktm_waiting.specs.declared.amounts.Amounts.{Amounts}
use Rattle.ktm_waiting.specs.Waiting.{IsWaitingKept, amounts_of, fits_in, limits, plus, total, units_waiting_in}
use Rattle.txf_laws.specs.Elements.{IsIn}

-- the transactions that are not over
pub record TransactionsState : Type 0 where
  pub transactions : List Recorded

-- so many enlistments, and nothing else
abbrev pub enlistments_alone : ℕ → Amounts
enlistments_alone n = record { units = 0; nodes = 0; keys = 0; changes = 0; enlistments = n }

-- nothing
abbrev pub nothing : Amounts
nothing = enlistments_alone 0

-- what a part of a transaction takes
abbrev pub amounts_in : Tree → Part → Amounts
amounts_in tree part = record {
  units = units_waiting_in tree (changes_in part);
  nodes = nodes_made (changes_in part);
  keys = count_by (λ setting. is_some setting.value) (settings_in part);
  changes = count_by (λ change. not (changes_bytes change)) (changes_in part) + count_by (λ setting. is_none setting.value) (settings_in part);
  enlistments = length (enlistments_in part);
}

-- a transaction takes so much, whatever the files are to which its changes apply
abbrev pub IsAmountOf : Amounts → Recorded → Type 0
IsAmountOf a t = (tree : Tree) → changes_apply tree (changes_of t) ≡ true → a ≡ amounts_of tree t

-- if there is a transaction it takes so much, and else this is nothing
abbrev pub IsAmountAt : Amounts → Option Recorded → Type 0
IsAmountAt a None = a ≡ nothing
IsAmountAt a (Some t) = IsAmountOf a t

-- how many enlistments a transaction has, if there is one
abbrev pub enlisted_at : Option Recorded → ℕ
enlisted_at None = 0
enlisted_at (Some t) = length (enlistments_of t)

-- the transactions take so much together
abbrev pub TakeTogether : Amounts → List Recorded → Type 0
TakeTogether a [] = a ≡ nothing
TakeTogether a (t ∷ ts) = (b : Amounts) × (c : Amounts) × IsAmountOf b t × TakeTogether c ts × (a ≡ plus b c)

-- the changes of each apply to these files
abbrev pub AllApply : Tree → List Recorded → Type 0
AllApply tree ts = (t : Recorded) → IsIn t ts → changes_apply tree (changes_of t) ≡ true

-- each is kept over these files
abbrev pub AreKeptOver : Tree → List Recorded → Type 0
AreKeptOver tree ts = (t : Recorded) → IsIn t ts → IsWaitingKept tree t

-- does the change drop a node that is not in the tree, since an earlier one made it
abbrev pub drops_made : Tree → Change → Bool
drops_made tree change = is_drop change && is_none (node_at tree (node_of change))

-- no image has room for what they take together
abbrev pub PassImages : List Recorded → Type 0
PassImages ts = (tree : Tree) → AllApply tree ts → (units : ℕ) → units < 2 ^ 32 → fits_in (total tree ts) (limits units) ≡ false
