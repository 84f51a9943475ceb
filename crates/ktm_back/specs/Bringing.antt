-- What is brought back to a machine that starts.
use Rattle.std.specs.Prelude.{◌≡◌, ℕ, ◌+◌, ◌*◌, ◌≤◌, not, Bool, true, List, [], length, map, filter, nat_lt}
use Rattle.std.specs.List.{list_all, list_any}
use Rattle.ktm_base.specs.declared.id.Id.{Id}
use Rattle.ktm_world.specs.Durable.{Durable, Recorded, is_before}
use Rattle.ktm_world.specs.Enlistments.{Enlistment, Manager}
use Rattle.ktm_world.specs.Present.{Transactions}
use Rattle.ktm_world.specs.Transactions.{same_id}
use Rattle.ktm_world.specs.World.{by_rising_id, is_brought_back, transaction_back}
use Rattle.txf_laws.specs.Elements.{each_pair}
use Rattle.txf_laws.specs.GoodState.{IsGoodState}
use Rattle.ktm_enlist.specs.Telling.{has_manager}
use Rattle.ktm_tm.specs.TmState.{TmState}
use Rattle.ktm_back.specs.Coming.{enlistments_coming}

-- is the Id of an earlier boot
abbrev pub is_of_earlier : ℕ → Id → Bool
is_of_earlier boot id = nat_lt id.boot boot

-- what was recorded can be brought back in this boot: it rises, it is of earlier boots, and each enlistment stands once and has its resource manager
pub record CanComeBack (boot : ℕ) (managers : List Id) (transactions : List Recorded) : Type 0 where
  pub managers_rise : each_pair is_before managers ≡ true
  pub managers_earlier : list_all (is_of_earlier boot) managers ≡ true
  pub transactions_rise : each_pair (λ (t u : Recorded). is_before t.id u.id) transactions ≡ true
  pub transactions_earlier : list_all (λ (t : Recorded). is_of_earlier boot t.id) transactions ≡ true
  pub enlistments_differ : each_pair (λ (e f : Enlistment). not (same_id e.id f.id)) (enlistments_coming transactions) ≡ true
  pub enlistments_earlier : list_all (λ (e : Enlistment). is_of_earlier boot e.id) (enlistments_coming transactions) ≡ true
  pub managers_there : list_all (λ (e : Enlistment). list_any (λ id. same_id id e.manager) managers) (enlistments_coming transactions) ≡ true

-- a durable resource manager, for which nothing waits
abbrev pub manager_back : Id → Manager
manager_back id = record { id = id; is_durable = true; queue = [] }

-- the transactions that are brought back, with their enlistments, at the start of a boot
abbrev pub transactions_back : List Recorded → Transactions
transactions_back ts = record {
  clock = 0;
  last_transaction = 0;
  last_manager = 0;
  last_enlistment = 0;
  items = map transaction_back (filter is_brought_back ts);
  enlistments = by_rising_id (enlistments_coming ts);
}

-- all that comes back has been brought back in this boot, each enlistment with its resource manager and with room for five notifications
pub record HasComeBack (boot : ℕ) (managers : List Id) (transactions : List Recorded) (tm : TmState) : Type 0 where
  pub boot_is : tm.boot ≡ boot
  pub now : tm.now ≡ transactions_back transactions
  pub managers_are : tm.managers ≡ map manager_back managers
  pub managers_there : list_all (has_manager tm.managers) (tm.now).enlistments ≡ true
  pub slots : 5 * length (tm.now).enlistments ≤ tm.slots

-- what a good state has can be brought back in the next boot
abbrev pub ComingBackLaw : Type 0
ComingBackLaw = (s : Durable) → IsGoodState s → CanComeBack (s.boots + 1) s.managers s.transactions
