-- The parts of a good state.
use Rattle.std.proofs.Common.{◌≡◌, ℕ, ◌<◌, ◌≤◌, ◌^◌, ◌-◌, ◌&&◌, true, length, nat_le, nat_lt, sym, subst, ◌∙◌, arith, inl, inr}
use Rattle.std.proofs.lemmas.Bool.{and_from, and_parts, cases_Bool, lt-ltb, true≢false}
use Rattle.ktm_base.specs.declared.limits.TheConstants.{MOST_LIVE}
use Rattle.ktm_snapshot.specs.declared.head.StateHead.{StateHead}
use Rattle.ktm_snapshot.specs.StateGrammar.{head_of}
use Rattle.txf_laws.specs.GoodState.{IsGoodState}
use Rattle.ktm_waiting.proofs.offered.Limits.{too-many}
use Rattle.ktm_world.specs.Durable.{Durable, is_within_limits}
use Rattle.ktm_world.specs.Tree.{Tree}
use Rattle.ktm_saved.specs.Reading.{AreGoodKeys, AreGoodManagers, IsGoodTree}
use Rattle.txf_saved.specs.Saved.{AreFiles, LeastBehind, number_behind}

-- ---- the files

-- they are such as files can have
pub files_of : LeastBehind → (next : ℕ) (tree : Tree) → IsGoodTree next tree → AreFiles tree
files_of law next tree good = record { formed = good.formed; numbers = omega (arith, (law tree next).1 (good.from, good.below), good.to) }

-- the next node comes behind them
pub none_low : LeastBehind → (next : ℕ) (tree : Tree) → next < number_behind tree → IsGoodTree next tree → ⊥
none_low law next tree low good = omega (arith, low, (law tree next).1 (good.from, good.below))

pub tree_from : LeastBehind → (next : ℕ) (tree : Tree) → AreFiles tree → number_behind tree ≤ next → next ≤ 2 ^ 63 → IsGoodTree next tree
tree_from law next tree files behind to = let given = (law tree next).0 behind in record { formed = files.formed; below = given.1; from = given.0; to = to }

pub good_tree : (s : Durable) → IsGoodState s → IsGoodTree s.next_node s.tree
good_tree s good = record { formed = good.files; below = good.nodes_below; from = good.next_from; to = good.next_to }

-- ---- the keys and the resource managers

pub good_keys : (s : Durable) → IsGoodState s → AreGoodKeys s.keys
good_keys s good = and_from _ _ good.keys_good good.keys_rise

-- there are no more transactions and resource managers than there may be
pub few_of : (s : Durable) → is_within_limits s ≡ true → (nat_le (length s.transactions) MOST_LIVE ≡ true) × (nat_le (length s.managers) MOST_LIVE ≡ true)
few_of s within = elim (cases_Bool (nat_le (length s.transactions) MOST_LIVE && nat_le (length s.managers) MOST_LIVE)) [
  | inl few ↦ and_parts _ _ few
  | inr many ↦ absurd (true≢false (sym within ∙ too-many s many))
]

pub good_managers : (s : Durable) → IsGoodState s → AreGoodManagers s.boots s.managers
good_managers s good = and_from _ _ (and_from _ _ (few_of s good.limits).1 good.managers_drawn) good.managers_rise

-- neither count of a good state has come to its end
pub counts_left : (head : StateHead) (s : Durable) → head_of s ≡ head → IsGoodState s → (nat_lt head.events (2 ^ 63) && nat_lt head.boots (2 ^ 32 - 1)) ≡ true
counts_left head s same good =
    subst (λ (h : StateHead). (nat_lt h.events (2 ^ 63) && nat_lt h.boots (2 ^ 32 - 1)) ≡ true) same (and_from _ _ (lt-ltb s.events (2 ^ 63) good.events_left) (lt-ltb s.boots (2 ^ 32 - 1) good.boots_left))
