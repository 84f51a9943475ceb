-- The limits hold where less waits, and nothing more is there.
use Rattle.std.proofs.Common.{◌≡◌, ℕ, ◌+◌, ◌≤◌, ◌&&◌, not, Bool, true, false, cond, List, [], ◌∷◌, length, filter, count_by, sum_by, nat_le, refl, sym, ◌∙◌, ap, subst, arith, inl, inr}
use Rattle.std.proofs.lemmas.Bool.{cases_Bool, and_parts, and_from, le-leb, leb-true, false_from_ne_true}
use Rattle.std.proofs.lemmas.List.Sums.{sum_by-cons}
use Rattle.ktm_base.specs.declared.limits.TheConstants.{MOST_LIVE}
use Rattle.ktm_world.specs.Changes.{nodes_made, changes_bytes}
use Rattle.ktm_world.specs.Durable.{Durable, Recorded, is_decided, is_before, changes_of, settings_of, enlistments_of, with_recorded, while_not_done, units_waiting, units_in_use, nodes_in_use, keys_in_use, changes_in_wait, enlistments_in_use, is_within_limits}
use Rattle.ktm_world.specs.Transactions.{same_id}
use Rattle.ktm_world.specs.Tree.{units_of, bytes_or_none}
use Rattle.std.specs.List.{list_any}
use Rattle.std.specs.Prelude.{is_some, is_none}
use Rattle.ktm_base.specs.declared.id.Id.{Id}
use Rattle.ktm_world.specs.declared.recorded.Node.{Node}
use Rattle.ktm_world.specs.declared.recorded.RecordedPart.{RecordedPart}
use Rattle.txf_laws.specs.Elements.{IsIn}
use Rattle.txf_laws.proofs.offered.Tables.{same_id-from, same_id-equal, Rises, rises-first, rises-rest, before_other, is_before-then}
use Rattle.txf_laws.proofs.offered.GoodTransactions.{waits}
use Rattle.txf_laws.proofs.offered.Elements.{length-filter-less}

add-less : (a b c : ℕ) → b ≤ c → a + b ≤ a + c
add-less a b c less = omega arith

-- ---- sums over transactions that wait

-- a number of a transaction that waits, and nothing of a decided one
abbrev while_waiting : (Recorded → ℕ) → Recorded → ℕ
while_waiting f t = cond (not (is_decided t.stage)) (f t) 0

sum-waiting : (f : Recorded → ℕ) (ts : List Recorded) → sum_by f (filter waits ts) ≡ sum_by (while_waiting f) ts
sum-waiting f [] = refl
sum-waiting f (t ∷ ts) =
    let rest = sum-waiting f ts in
    let all = sum_by-cons (while_waiting f) t ts in
    elim (cases_Bool (not (is_decided t.stage))) [
      | inl is ↦ rw is (sum_by-cons f t (filter waits ts) ∙ ap (λ n. f t + n) rest ∙ sym (rw is at all))
      | inr over ↦ rw over (let none : 0 + sum_by (while_waiting f) ts ≡ sum_by (while_waiting f) ts = omega arith in rest ∙ sym (rw over at all ∙ none))
    ]

-- nothing is counted of a decided transaction
abbrev pub IsOfWaiting : (Recorded → ℕ) → Type 0
IsOfWaiting g = (t : Recorded) → is_decided t.stage ≡ true → g t ≡ 0

while_waiting-of : (f : Recorded → ℕ) → IsOfWaiting (while_waiting f)
while_waiting-of f t decided = rw decided refl

-- no more waits, no more transactions are there, and no more enlistments
pub record Less (old new : List Recorded) : Type 0 where
  pub wait : (g : Recorded → ℕ) → IsOfWaiting g → sum_by g new ≤ sum_by g old
  pub count : length new ≤ length old
  pub enlistments : sum_by (λ (t : Recorded). length (enlistments_of t)) new ≤ sum_by (λ (t : Recorded). length (enlistments_of t)) old

less-waits : (f : Recorded → ℕ) (old new : List Recorded) → Less old new → sum_by f (filter waits new) ≤ sum_by f (filter waits old)
less-waits f old new less =
    let this = less.wait (while_waiting f) (while_waiting-of f) in let a = sum-waiting f new in let b = sum-waiting f old in omega arith

leb-less : (a b c : ℕ) → a ≤ b → nat_le b c ≡ true → nat_le a c ≡ true
leb-less a b c less is = le-leb a c (omega (arith, leb-true b c is))

pub limits-less : (s : Durable) (ts : List Recorded) → Less s.transactions ts → is_within_limits s ≡ true → is_within_limits (record s { transactions = ts }) ≡ true
unfolding is_within_limits
limits-less s ts less limits =
    let s' : Durable = record s { transactions = ts } in
    let g = and_parts (nat_le (units_in_use s) s.units && nat_le (nodes_in_use s) s.units && nat_le (keys_in_use s) s.units && nat_le (changes_in_wait s) s.units && nat_le (length s.transactions) MOST_LIVE && nat_le (enlistments_in_use s) MOST_LIVE) (nat_le (length s.managers) MOST_LIVE) limits in
    let f = and_parts (nat_le (units_in_use s) s.units && nat_le (nodes_in_use s) s.units && nat_le (keys_in_use s) s.units && nat_le (changes_in_wait s) s.units && nat_le (length s.transactions) MOST_LIVE) (nat_le (enlistments_in_use s) MOST_LIVE) g.0 in
    let e = and_parts (nat_le (units_in_use s) s.units && nat_le (nodes_in_use s) s.units && nat_le (keys_in_use s) s.units && nat_le (changes_in_wait s) s.units) (nat_le (length s.transactions) MOST_LIVE) f.0 in
    let d = and_parts (nat_le (units_in_use s) s.units && nat_le (nodes_in_use s) s.units && nat_le (keys_in_use s) s.units) (nat_le (changes_in_wait s) s.units) e.0 in
    let c = and_parts (nat_le (units_in_use s) s.units && nat_le (nodes_in_use s) s.units) (nat_le (keys_in_use s) s.units) d.0 in
    let b = and_parts (nat_le (units_in_use s) s.units) (nat_le (nodes_in_use s) s.units) c.0 in
    and_from _ _ (and_from _ _ (and_from _ _ (and_from _ _ (and_from _ _ (and_from _ _
    (leb-less (units_in_use s') (units_in_use s) s.units (add-less (sum_by (λ (node : Node). units_of (bytes_or_none node.content)) s.tree) _ _ (less-waits (units_waiting s) s.transactions ts less)) b.0)
    (leb-less (nodes_in_use s') (nodes_in_use s) s.units (add-less (1 + length s.tree) _ _ (less-waits (λ (t : Recorded). nodes_made (changes_of t)) s.transactions ts less)) b.1))
    (leb-less (keys_in_use s') (keys_in_use s) s.units (add-less (length s.keys) _ _ (less-waits (λ (t : Recorded). count_by (λ setting. is_some setting.value) (settings_of t)) s.transactions ts less)) c.1))
    (leb-less (changes_in_wait s') (changes_in_wait s) s.units (less-waits (λ (t : Recorded). count_by (λ change. not (changes_bytes change)) (changes_of t) + count_by (λ setting. is_none setting.value) (settings_of t)) s.transactions ts less) d.1))
    (leb-less (length ts) (length s.transactions) MOST_LIVE less.count e.1))
    (leb-less (enlistments_in_use s') (enlistments_in_use s) MOST_LIVE less.enlistments f.1))
    g.1

-- the count of boots is no part of them
pub limits-booted : (s : Durable) (boots : ℕ) → is_within_limits s ≡ true → is_within_limits (record s { boots = boots }) ≡ true
unfolding is_within_limits
limits-booted s boots within = within

-- ---- what makes less of transactions

sum-filter : (g : Recorded → ℕ) (keep : Recorded → Bool) (ts : List Recorded) → sum_by g (filter keep ts) ≤ sum_by g ts
sum-filter g keep [] = omega arith
sum-filter g keep (t ∷ ts) =
    let rest = sum-filter g keep ts in
    let old = sum_by-cons g t ts in
    elim (cases_Bool (keep t)) [
      | inl is ↦ rw is (let new = sum_by-cons g t (filter keep ts) in omega arith)
      | inr other ↦ rw other (omega arith)
    ]

-- some are taken out
pub Less-filter : (keep : Recorded → Bool) (ts : List Recorded) → Less ts (filter keep ts)
Less-filter keep ts = record {
  wait = λ g of. sum-filter g keep ts;
  count = length-filter-less keep ts;
  enlistments = sum-filter (λ (t : Recorded). length (enlistments_of t)) keep ts;
}

-- one is put in place of the one with its Id
sum-with : (g : Recorded → ℕ) (ts : List Recorded) (t u : Recorded) → Rises ts → IsIn t ts → t.id ≡ u.id → g u ≤ g t → sum_by g (with_recorded ts u) ≤ sum_by g ts
sum-with g [] t u rises there is few = absurd there
sum-with g (a ∷ ts) t u rises (inl e) is few =
    let same : same_id a.id u.id ≡ true = same_id-from a.id u.id (ap (λ (r : Recorded). r.id) e ∙ is) in
    let low : g u ≤ g a = subst (λ x. g u ≤ g x) (sym e) few in
    rw same (let old = sum_by-cons g a ts in let new = sum_by-cons g u ts in omega arith)
sum-with g (a ∷ ts) t u rises (inr there) is few =
    let first : is_before a.id u.id ≡ true = subst (λ (id : Id). is_before a.id id ≡ true) is (rises-first a ts rises t there) in
    let other : same_id a.id u.id ≡ false = false_from_ne_true _ (λ same. before_other a.id u.id first (same_id-equal a.id u.id same)) in
    let behind : is_before u.id a.id ≡ false = false_from_ne_true _ (λ back. before_other a.id a.id (is_before-then a.id u.id a.id first back) refl) in
    let rest = sum-with g ts t u (rises-rest a ts rises) there is few in
    rw (other, behind) (let old = sum_by-cons g a ts in let new = sum_by-cons g a (with_recorded ts u) in omega arith)

length-with : (ts : List Recorded) (t u : Recorded) → Rises ts → IsIn t ts → t.id ≡ u.id → length (with_recorded ts u) ≤ length ts
length-with ts t u rises there is =
    let low = sum-with (λ (x : Recorded). 1) ts t u rises there is (omega arith) in let a = sum-ones ts in let b = sum-ones (with_recorded ts u) in omega arith
  where
    sum-ones : (xs : List Recorded) → sum_by (λ (x : Recorded). 1) xs ≡ length xs
    sum-ones [] = refl
    sum-ones (x ∷ xs) = let rest = sum-ones xs in let all = sum_by-cons (λ (x : Recorded). 1) x xs in omega arith

pub Less-while : (ts : List Recorded) (t u : Recorded) → Rises ts → IsIn t ts → t.id ≡ u.id → is_decided t.stage ≡ true → is_decided u.stage ≡ true
    → length (enlistments_of u) ≤ length (enlistments_of t) → Less ts (while_not_done ts u)
Less-while ts t u rises there is decided decided' few = elim (cases_Bool (list_any (λ (p : RecordedPart). not p.is_done) u.parts)) [
  | inl stays ↦ rw stays record {
    wait = λ g of. sum-with g ts t u rises there is (let none = of t decided in let none' = of u decided' in omega arith);
    count = length-with ts t u rises there is;
    enlistments = sum-with (λ (t : Recorded). length (enlistments_of t)) ts t u rises there is few;
  }
  | inr over ↦ rw over (Less-filter (λ v. not (same_id v.id u.id)) ts)
]
