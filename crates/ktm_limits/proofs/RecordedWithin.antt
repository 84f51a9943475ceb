-- A durable state is within the limits where all that was recorded of transactions is no more than what they have now, and that is within them.
use Rattle.std.proofs.Common.{◌≡◌, ℕ, ◌+◌, ◌≤◌, ◌&&◌, not, Bool, true, false, cond, List, [], ◌∷◌, filter, length, sum_by, count_by, is_some, is_none, refl, sym, ◌∙◌, ap, arith, inl, inr, ◌⊎◌}
use Rattle.std.proofs.lemmas.Bool.{cases_Bool, not-true, false_from_ne_true}
use Rattle.std.proofs.lemmas.List.Sums.{sum_by-cons}
use Rattle.ktm_base.specs.declared.limits.TheConstants.{MOST_LIVE}
use Rattle.ktm_base.specs.declared.id.Id.{Id}
use Rattle.ktm_world.specs.declared.change.Change.{Change}
use Rattle.ktm_world.specs.declared.object.Transaction.{Transaction}
use Rattle.ktm_world.specs.Changes.{changes_bytes, nodes_made}
use Rattle.ktm_world.specs.Durable.{Durable, Recorded, changes_of, settings_of, enlistments_of, is_decided, waiting}
use Rattle.ktm_world.specs.Enlistments.{Enlistment, is_live_enlistment}
use Rattle.ktm_world.specs.Files.{OwnChanges, own_changes}
use Rattle.ktm_world.specs.Keys.{Own, OwnSettings, Store, own_settings}
use Rattle.ktm_world.specs.Present.{Present}
use Rattle.ktm_world.specs.Transactions.{is_live, same_id}
use Rattle.ktm_world.specs.Tree.{Tree}
use Rattle.txf_laws.specs.Elements.{IsIn}
use Rattle.txf_laws.proofs.offered.CommittedUnits.{tree_units}
use Rattle.ktm_records.proofs.offered.DurableLimits.{KeepsLimits}
use Rattle.txf_laws.proofs.offered.Elements.{IsIn-filter, IsIn-kept, each_pair-filter}
use Rattle.ktm_limits.proofs.FinalBytes.{committed_units}
use Rattle.ktm_owned.proofs.offered.OwnSettings.{own_settings-found}
use Rattle.txf_laws.proofs.offered.Reservations.{own_changes-found}
use Rattle.txf_laws.proofs.offered.Sums.{one_where, sum-less, sum-one, sum-plus, sum-same}
use Rattle.txf_laws.proofs.offered.Tables.{Rises, before_other, is_earlier, rises-first, rises-rest, same_id-equal, same_id-from}

-- ---- sums over two lists

sum-none : {X : Type 0} (xs : List X) → sum_by (λ (x : X). 0) xs ≡ 0
sum-none [] = refl
sum-none (x ∷ xs) = let rest = sum-none xs in let all = sum_by-cons (λ x. 0) x xs in omega arith

sum-swap : {X Y : Type 0} (h : X → Y → ℕ) (xs : List X) (ys : List Y) → sum_by (λ x. sum_by (h x) ys) xs ≡ sum_by (λ y. sum_by (λ x. h x y) xs) ys
sum-swap h [] ys = sym (sum-none ys)
sum-swap h (x ∷ xs) ys =
    let first = sum_by-cons (λ x. sum_by (h x) ys) x xs in
    let rest = sum-swap h xs ys in
    let each = sum-same (λ y. sum_by (λ x. h x y) (x ∷ xs)) (λ y. h x y + sum_by (λ x. h x y) xs) ys (λ y there. sum_by-cons (λ x. h x y) x xs) in
    let both = sum-plus (h x) (λ y. sum_by (λ x. h x y) xs) ys in
    omega arith

pub sum-those : {X : Type 0} (f : X → ℕ) (test : X → Bool) (xs : List X) → sum_by f (filter test xs) ≡ sum_by (λ x. cond (test x) (f x) 0) xs
sum-those f test [] = refl
sum-those f test (x ∷ xs) =
    let rest = sum-those f test xs in
    let all = sum_by-cons (λ x. cond (test x) (f x) 0) x xs in
    elim (cases_Bool (test x)) [
      | inl is ↦
          let kept : filter test (x ∷ xs) ≡ x ∷ filter test xs = rw is refl in
          let kept' = ap (sum_by f) kept in
          let one = sum_by-cons f x (filter test xs) in
          let e : cond (test x) (f x) 0 ≡ f x = rw is refl in
          omega arith
      | inr fails ↦
          let gone : filter test (x ∷ xs) ≡ filter test xs = rw fails refl in
          let gone' = ap (sum_by f) gone in
          let e : cond (test x) (f x) 0 ≡ 0 = rw fails refl in
          omega arith
    ]

-- ---- by Ids

none-of : (ts : List Recorded) (i : Id) (n : ℕ) → ((r : Recorded) → IsIn r ts → same_id i r.id ≡ false) → sum_by (λ (r : Recorded). cond (same_id i r.id) n 0) ts ≡ 0
none-of [] i n none = refl
none-of (r ∷ rs) i n none =
    let rest = none-of rs i n (λ u there. none u (inr there)) in
    let all = sum_by-cons (λ (r : Recorded). cond (same_id i r.id) n 0) r rs in
    let one : cond (same_id i r.id) n 0 ≡ 0 = rw (none r (inl refl)) refl in
    omega arith

-- one Id is that of one transaction at most
once : (ts : List Recorded) → Rises ts → (i : Id) (n : ℕ) → sum_by (λ (r : Recorded). cond (same_id i r.id) n 0) ts ≤ n
once [] rises i n = omega arith
once (r ∷ rs) rises i n =
    let all = sum_by-cons (λ (r : Recorded). cond (same_id i r.id) n 0) r rs in
    elim (cases_Bool (same_id i r.id)) [
      | inl same ↦
          let one : cond (same_id i r.id) n 0 ≡ n = rw same refl in
          let rest = none-of rs i n (λ u there. false_from_ne_true _ (λ is. before_other r.id u.id (rises-first r rs rises u there) (sym (same_id-equal i r.id same) ∙ same_id-equal i u.id is))) in
          omega arith
      | inr other ↦
          let one : cond (same_id i r.id) n 0 ≡ 0 = rw other refl in
          let rest = once rs (rises-rest r rs rises) i n in
          omega arith
    ]

-- where each transaction has no more than what is of its Id, all have no more than all
pub matched : {O : Type 0} (ts : List Recorded) (os : List O) (id_of : O → Id) (f : O → ℕ) (h : Recorded → ℕ) → Rises ts → ((r : Recorded) → IsIn r ts → h r ≤ sum_by f (filter (λ o. same_id (id_of o) r.id) os)) → sum_by h ts ≤ sum_by f os
matched {O} ts os id_of f h rises each =
    let share : Recorded → O → ℕ = λ r o. cond (same_id (id_of o) r.id) (f o) 0 in
    let low = sum-less h (λ r. sum_by (share r) os) ts (λ r there. let one = each r there in let e = sum-those f (λ o. same_id (id_of o) r.id) os in omega arith) in
    let turned = sum-swap share ts os in
    let high = sum-less (λ o. sum_by (λ r. share r o) ts) f os (λ o there. once ts rises (id_of o) (f o)) in
    omega arith

-- ---- what transactions have now

-- what is committed and owned is within the room
pub record Budget (room : ℕ) (tree : Tree) (own : List OwnChanges) (store : Store) (set : List Own) : Type 0 where
  pub units : tree_units tree + sum_by (λ (o : OwnChanges). committed_units tree o.changes) own ≤ room
  pub nodes : 1 + length tree + sum_by (λ (o : OwnChanges). nodes_made o.changes) own ≤ room
  pub keys : length store + sum_by (λ (o : Own). count_by (λ s. is_some s.value) o.settings) set ≤ room
  pub changes : sum_by (λ (o : OwnChanges). count_by (λ c. not (changes_bytes c)) o.changes) own + sum_by (λ (o : Own). count_by (λ s. is_none s.value) o.settings) set ≤ room

-- is the enlistment a live one of the transaction
abbrev pub is_live_of : Present → Id → Enlistment → Bool
is_live_of x id e = same_id e.transaction id && is_live_enlistment x.transactions.items e

-- what was recorded of a transaction is what it owns, or nothing; it is live, and has as many enlistments
pub record Counts (x : Present) (own : List OwnChanges) (set : List Own) (r : Recorded) : Type 0 where
  pub changes : is_decided r.stage ≡ false → (changes_of r ≡ []) ⊎ (changes_of r ≡ own_changes own r.id)
  pub settings : is_decided r.stage ≡ false → (settings_of r ≡ []) ⊎ (settings_of r ≡ own_settings set r.id)
  pub live : (u : Transaction) × IsIn u x.transactions.items × (u.id ≡ r.id) × (is_live u ≡ true)
  pub enlistments : length (enlistments_of r) ≤ count_by (is_live_of x r.id) x.transactions.enlistments

pub own-match : (own : List OwnChanges) (r : Recorded) (g : List Change → ℕ) → g [] ≡ 0 → (changes_of r ≡ []) ⊎ (changes_of r ≡ own_changes own r.id) → g (changes_of r) ≤ sum_by (λ (o : OwnChanges). g o.changes) (filter (λ (o : OwnChanges). same_id o.transaction r.id) own)
own-match own r g none (inl e) = let is = ap g e in omega arith
own-match own r g none (inr e) = elim (own_changes-found own r.id) [
  | inl empty ↦ (let is = ap g (e ∙ empty) in omega arith)
  | inr (o, there, is, changes) ↦
      let one = sum-one (λ (o : OwnChanges). g o.changes) _ o (IsIn-kept (λ (o : OwnChanges). same_id o.transaction r.id) own o there (same_id-from o.transaction r.id is)) in
      let same = ap g (e ∙ sym changes) in
      omega arith
]

set-match : (set : List Own) (r : Recorded) (g : OwnSettings → ℕ) → g [] ≡ 0 → (settings_of r ≡ []) ⊎ (settings_of r ≡ own_settings set r.id) → g (settings_of r) ≤ sum_by (λ (o : Own). g o.settings) (filter (λ (o : Own). same_id o.transaction r.id) set)
set-match set r g none (inl e) = let is = ap g e in omega arith
set-match set r g none (inr e) = elim (own_settings-found set r.id) [
  | inl empty ↦ (let is = ap g (e ∙ empty) in omega arith)
  | inr (o, there, is, settings) ↦
      let one = sum-one (λ (o : Own). g o.settings) _ o (IsIn-kept (λ (o : Own). same_id o.transaction r.id) set o there (same_id-from o.transaction r.id is)) in
      let same = ap g (e ∙ sym settings) in
      omega arith
]

-- ---- all of it

module _ (x : Present) (s : Durable) (own : List OwnChanges) (set : List Own) (rises : Rises s.transactions) (counts : (r : Recorded) → IsIn r s.transactions → Counts x own set r) (budget : Budget s.units s.tree own s.keys set)
    (live : count_by is_live x.transactions.items ≤ MOST_LIVE) (enlisted : count_by (is_live_enlistment x.transactions.items) x.transactions.enlistments ≤ MOST_LIVE) (managers : length s.managers ≤ MOST_LIVE) where
  rises-waiting : Rises (waiting s)
  rises-waiting = each_pair-filter is_earlier (λ t. not (is_decided t.stage)) s.transactions rises

  those : (r : Recorded) → IsIn r (waiting s) → Counts x own set r × (is_decided r.stage ≡ false)
  those r there = let kept = IsIn-filter (λ t. not (is_decided t.stage)) s.transactions r there in (counts r kept.0, not-true _ kept.1)

  waits-changes : (g : List Change → ℕ) → g [] ≡ 0 → sum_by (λ (r : Recorded). g (changes_of r)) (waiting s) ≤ sum_by (λ (o : OwnChanges). g o.changes) own
  waits-changes g none = matched (waiting s) own (λ o. o.transaction) (λ o. g o.changes) (λ r. g (changes_of r)) rises-waiting (λ r there. let is = those r there in own-match own r g none (is.0.changes is.1))

  waits-settings : (g : OwnSettings → ℕ) → g [] ≡ 0 → sum_by (λ (r : Recorded). g (settings_of r)) (waiting s) ≤ sum_by (λ (o : Own). g o.settings) set
  waits-settings g none = matched (waiting s) set (λ o. o.transaction) (λ o. g o.settings) (λ r. g (settings_of r)) rises-waiting (λ r there. let is = those r there in set-match set r g none (is.0.settings is.1))

  one-live : (r : Recorded) → IsIn r s.transactions → 1 ≤ sum_by (one_where is_live) (filter (λ (u : Transaction). same_id u.id r.id) x.transactions.items)
  one-live r there =
      let u = (counts r there).live in
      let one = sum-one (one_where is_live) _ u.0 (IsIn-kept (λ (u : Transaction). same_id u.id r.id) x.transactions.items u.0 u.1 (same_id-from u.0.id r.id u.2)) in
      let is : one_where is_live u.0 ≡ 1 = rw u.3 refl in
      omega arith

  enlisted-of : (r : Recorded) → IsIn r s.transactions → length (enlistments_of r) ≤ sum_by (one_where (is_live_enlistment x.transactions.items)) (filter (λ (e : Enlistment). same_id e.transaction r.id) x.transactions.enlistments)
  enlisted-of r there =
      let few = (counts r there).enlistments in
      let those = sum-those (one_where (is_live_enlistment x.transactions.items)) (λ (e : Enlistment). same_id e.transaction r.id) x.transactions.enlistments in
      let same = sum-same (one_where (is_live_of x r.id)) (λ (e : Enlistment). cond (same_id e.transaction r.id) (one_where (is_live_enlistment x.transactions.items) e) 0) x.transactions.enlistments (λ e has. both (same_id e.transaction r.id) (is_live_enlistment x.transactions.items e)) in
      omega arith
    where
      both : (a b : Bool) → ◌≡◌ {A = ℕ} (cond (a && b) 1 0) (cond a (cond b 1 0) 0)
      both true b = refl
      both false b = refl

  length-ones : (ts : List Recorded) → length ts ≡ sum_by (λ (r : Recorded). 1) ts
  length-ones [] = refl
  length-ones (t ∷ ts) = let rest = length-ones ts in let all = sum_by-cons (λ (r : Recorded). 1) t ts in omega arith

  pub bounded : KeepsLimits s
  bounded = record {
    units = (let a = waits-changes (committed_units s.tree) refl in let b = budget.units in omega arith);
    nodes = (let a = waits-changes nodes_made refl in let b = budget.nodes in omega arith);
    keys = (let a = waits-settings (count_by (λ setting. is_some setting.value)) refl in let b = budget.keys in omega arith);
    changes = (let a = waits-changes (count_by (λ change. not (changes_bytes change))) refl in let b = waits-settings (count_by (λ setting. is_none setting.value)) refl in
        let c = sum-plus (λ (t : Recorded). count_by (λ change. not (changes_bytes change)) (changes_of t)) (λ (t : Recorded). count_by (λ setting. is_none setting.value) (settings_of t)) (waiting s) in
        let d = budget.changes in omega arith);
    transactions = (let a = length-ones s.transactions in let b = matched s.transactions x.transactions.items (λ u. u.id) (one_where is_live) (λ r. 1) rises one-live in omega arith);
    enlistments = (let a = matched s.transactions x.transactions.enlistments (λ e. e.transaction) (one_where (is_live_enlistment x.transactions.items)) (λ r. length (enlistments_of r)) rises enlisted-of in omega arith);
    managers = managers;
  }
