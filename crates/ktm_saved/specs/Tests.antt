-- What is tested of the transactions of a state, one after another. No public clause cites this module.
use Rattle.std.specs.Prelude.{◌≡◌, ℕ, ◌^◌, ◌<◌, ◌&&◌, not, Bool, true, false, List, [], ◌∷◌, ◌++◌, length, nat_le}
use Rattle.std.specs.List.{list_all, list_any}
use Rattle.ktm_base.specs.declared.id.Id.{Id}
use Rattle.ktm_base.specs.declared.limits.TheConstants.{MOST_INFORMATION_BYTES}
use Rattle.ktm_world.specs.declared.recorded.Superior.{Superior}
use Rattle.ktm_saved.specs.declared.head.Head.{Head}
use Rattle.txf_laws.specs.GoodState.{IsGoodState, are_kept_changes, are_kept_settings, enlisted, has_one_part_each, is_decided_well, is_done_well, is_drawn, is_held_well, is_ready_well}
use Rattle.ktm_waiting.specs.Table.{IsByRisingId}
use Rattle.ktm_waiting.specs.Waiting.{AreBeside, AreHeld}
use Rattle.ktm_world.specs.Changes.{changes_apply}
use Rattle.ktm_world.specs.Durable.{Durable, Recorded, changes_of, empty_state, enlistments_of, is_before, is_manager, is_new_in, settings_of}
use Rattle.ktm_world.specs.Lawful.{set_both}
use Rattle.ktm_world.specs.Transactions.{same_id}
use Rattle.ktm_world.specs.Tree.{Tree}
use Rattle.txf_laws.specs.Contents.{is_made_below, puts_some}
use Rattle.txf_laws.specs.Elements.{IsIn, each_pair}
use Rattle.txf_reserve.specs.ReserveState.{ReserveState}
use Rattle.txf_tree.specs.TreeState.{tree_of}

-- what transactions are tested against
pub record Against : Type 0 where
  pub boots : ℕ
  pub next_node : ℕ
  pub managers : List Id
  pub tree : Tree

-- what the transactions of a state are tested against
abbrev pub against : Durable → Against
against s = record { boots = s.boots; next_node = s.next_node; managers = s.managers; tree = s.tree }

-- what the code tests transactions against
abbrev pub against_of : Head → Against
against_of h = record { boots = h.boots; next_node = h.files.now.next_node; managers = h.managers.now; tree = tree_of h.files.now.tree }

-- a state that has that, and nothing else
abbrev pub state_with : Against → Durable
state_with a = record (empty_state 0 0) { boots = a.boots; next_node = a.next_node; managers = a.managers; tree = a.tree }

-- ---- one transaction

-- is the enlistment's Id drawn, its resource manager there, and its recovery information not too long
abbrev pub is_enlisted_well : Against → Superior → Bool
is_enlisted_well a e = is_drawn (state_with a) e.enlistment && is_manager (state_with a) e.manager && nat_le (length e.information) MOST_INFORMATION_BYTES

-- is the transaction's Id drawn, and is the transaction as its stage asks
abbrev pub is_staged_well : Against → Recorded → Bool
is_staged_well a t = is_drawn (state_with a) t.id && is_ready_well t && is_held_well t && is_decided_well t && list_all (is_done_well t) t.parts

-- has it at most one part of the files, and one of the keys, and are its enlistments good ones that differ
abbrev pub has_good_parts : Against → Recorded → Bool
has_good_parts a t = has_one_part_each t && list_all (is_enlisted_well a) (enlisted t) && each_pair (λ x y. not (same_id x y)) (enlistments_of t)

-- are its changes kept as its stage asks, and do they put something, make nodes below the next number that are new, and apply
abbrev pub has_good_changes : Against → Recorded → Bool
has_good_changes a t =
    are_kept_changes t && list_all puts_some (changes_of t) && list_all (is_made_below a.next_node) (changes_of t) && (changes_apply a.tree (changes_of t) && list_all (is_new_in a.tree) (changes_of t))

-- is the transaction a good one by itself
abbrev pub is_good_alone : Against → Recorded → Bool
is_good_alone a t = is_staged_well a t && has_good_parts a t && are_kept_settings t && has_good_changes a t

-- ---- one beside others

-- has one of the transactions this enlistment
abbrev pub is_known : List Recorded → Id → Bool
is_known ts x = list_any (λ t. list_any (λ other. same_id other x) (enlistments_of t)) ts

-- two transactions have no enlistment both, what they change is apart, and they set no key both
pub record AreGoodBeside (tree : Tree) (t u : Recorded) : Type 0 where
  pub enlistments : (x y : Id) → IsIn x (enlistments_of t) → IsIn y (enlistments_of u) → same_id x y ≡ false
  pub files : AreBeside tree t u
  pub keys : set_both (settings_of t) (settings_of u) ≡ false

-- the transactions are by rising Id, each is a good one by itself, and each two of them are good beside each other
pub record AreGoodSoFar (a : Against) (ts : List Recorded) : Type 0 where
  pub rise : IsByRisingId ts
  pub each : (t : Recorded) → IsIn t ts → is_good_alone a t ≡ true
  pub beside : (t u : Recorded) → IsIn t ts → IsIn u ts → (t.id ≡ u.id → ⊥) → AreGoodBeside a.tree t u

-- a transaction is good beside each of these
abbrev pub AreGoodBesideAll : Tree → List Recorded → Recorded → Type 0
AreGoodBesideAll tree ts t = (u : Recorded) → IsIn u ts → AreGoodBeside tree t u

-- each of the transactions has a lower Id
abbrev pub AreBefore : List Recorded → Id → Type 0
AreBefore ts id = (u : Recorded) → IsIn u ts → is_before u.id id ≡ true

-- a transaction comes behind these, is a good one by itself, and is good beside each of them
pub record IsGoodBehind (a : Against) (ts : List Recorded) (t : Recorded) : Type 0 where
  pub last : AreBefore ts t.id
  pub alone : is_good_alone a t ≡ true
  pub beside : AreGoodBesideAll a.tree ts t

-- the transactions are these and this one behind them, they are good so far, and each holds what its changes hold
pub record IsAdded (a : Against) (r : ReserveState) (old : List Recorded) (t : Recorded) (new : List Recorded) : Type 0 where
  pub is : new ≡ old ++ t ∷ []
  pub good : AreGoodSoFar a new
  pub held : AreHeld r a.tree new

-- no good state of an image has transactions that begin with these
abbrev pub BeginNone : Against → List Recorded → Type 0
BeginNone a ts = (s : Durable) (us : List Recorded) → against s ≡ a → s.transactions ≡ ts ++ us → s.units < 2 ^ 32 → IsGoodState s → ⊥
