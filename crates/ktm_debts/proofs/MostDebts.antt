-- No debts are greater than the greatest ones.
use Rattle.std.specs.Prelude.{if◌then◌else◌}
use Rattle.std.proofs.Common.{◌≡◌, ℕ, ◌+◌, ◌*◌, ◌≤◌, ◌&&◌, ◌||◌, not, Bool, true, false, count_by, List, [], ◌∷◌, sum_by, refl, ap, arith, inl, inr}
use Rattle.std.proofs.lemmas.Bool.{and_cases, cases_Bool, or_parts, true≢false}
use Rattle.std.proofs.lemmas.List.Sums.{sum_by-cons}
use Rattle.ktm_world.specs.declared.object.Phase.{Phase}
use Rattle.ktm_world.specs.declared.object.Phase.TheVariants.{Active, Requested, PrePreparing, PrePrepared, Preparing, SinglePhase, Held, InDoubt, Committing, Aborting, Ended}
use Rattle.ktm_world.specs.declared.object.Transaction.{Transaction}
use Rattle.ktm_world.specs.Enlistments.{Enlistment, is_ended, is_live_enlistment, is_live_in, is_superior}
use Rattle.ktm_world.specs.Present.{Present}
use Rattle.ktm_world.specs.Transactions.{is_live, same_id}
use Rattle.txf_laws.proofs.offered.Sums.{count-cons, one_where, sum-same, sum-plus}
use Rattle.txf_laws.proofs.offered.Tables.{same_id-sym}
use Rattle.ktm_courses.proofs.offered.Arrivals.{RiseTransactions}
use Rattle.ktm_courses.proofs.offered.Endings.{none-at}
use Rattle.ktm_records.specs.Kept.{IsKept}
use Rattle.ktm_records.proofs.offered.NoMore.{fits-within}
use Rattle.ktm_debts.specs.Debts.{debt_in, debt_of, debts, enlistment_debt, enlistments_debt, items_debt, most_debts}
use Rattle.ktm_debts.proofs.EnlistmentDebts.{by_parts, share_in, shares}
use Rattle.ktm_debts.proofs.OwnedItems.{all-items}
use Rattle.ktm_debts.proofs.RowDebts.{of_enlistments}
use Rattle.ktm_debts.proofs.TransactionSums.{sum-at_one, sum-none}

-- ---- one enlistment

-- what an enlistment owes in a transaction
abbrev due_in : Enlistment → Transaction → ℕ
due_in e t = share_in t.id e * of_enlistments t.phase

few-parts : (above read finished prepared : Bool) → by_parts above read finished prepared ≤ 256
few-parts true read finished prepared = omega arith
few-parts false true finished prepared = omega arith
few-parts false false true prepared = omega arith
few-parts false false false true = omega arith
few-parts false false false false = omega arith

due-few : (e : Enlistment) (t : Transaction) → due_in e t ≤ 256
due-few e t = go (same_id e.transaction t.id) t.phase
  where
    few : enlistment_debt e ≤ 256
    few = few-parts (is_superior e) e.is_read_only e.is_finished e.is_prepared

    go : (own : Bool) (phase : Phase) → (if own then enlistment_debt e else 0) * of_enlistments phase ≤ 256
    go false phase = omega arith
    go true Aborting = omega arith
    go true Ended = omega arith
    go true _ = let most = few in omega arith

-- one that is read-only or has finished owes nothing
none-parts : (above read finished prepared : Bool) → above ≡ false → (not read && not finished) ≡ false → by_parts above read finished prepared ≡ 0
none-parts true read finished prepared below ends = refl
none-parts false true finished prepared below ends = refl
none-parts false false true prepared below ends = refl
none-parts false false false prepared below ends = absurd (true≢false ends)

ended-none : (phase : Phase) → not (is_ended phase) ≡ false → of_enlistments phase ≡ 0
ended-none Ended ends = refl
ended-none _ ends = absurd (true≢false ends)

-- neither does one of which nothing is shared
unshared-none : (e : Enlistment) (t : Transaction) → share_in t.id e ≡ 0 → due_in e t ≡ 0
unshared-none e t none = let product = ap (λ n. n * of_enlistments t.phase) none in omega arith

-- one of another transaction
other-none : (e : Enlistment) (t : Transaction) → same_id e.transaction t.id ≡ false → due_in e t ≡ 0
other-none e t other = unshared-none e t (ap (λ own. if own then enlistment_debt e else 0) other)

-- one that is not live
dead-none : (e : Enlistment) (t : Transaction) → is_live_in t e ≡ false → due_in e t ≡ 0
dead-none e t dead = elim (and_cases (same_id e.transaction t.id && not (is_ended t.phase)) (is_superior e || (not e.is_read_only && not e.is_finished)) dead) [
  | inl first ↦ elim (and_cases (same_id e.transaction t.id) (not (is_ended t.phase)) first) [
    | inl other ↦ other-none e t other
    | inr ends ↦ (let none = ap (λ n. share_in t.id e * n) (ended-none t.phase ends) in omega arith)
  ]
  | inr gone ↦
      let parts = or_parts (is_superior e) (not e.is_read_only && not e.is_finished) gone in
      unshared-none e t (go (same_id e.transaction t.id) (none-parts (is_superior e) e.is_read_only e.is_finished e.is_prepared parts.0 parts.1))
]
  where
    go : (own : Bool) → enlistment_debt e ≡ 0 → (if own then enlistment_debt e else 0) ≡ 0
    go true none = none
    go false none = refl

module _ (ts : List Transaction) (rise : RiseTransactions ts) where
  -- an enlistment owes so much in all transactions, where it is live
  due-once : (e : Enlistment) → sum_by (due_in e) ts ≤ 256 * one_where (is_live_enlistment ts) e
  due-once e = elim (cases_Bool (is_live_enlistment ts e)) [
    | inl live ↦ (let few = sum-at_one (due_in e) 256 e.transaction ts rise (λ t there. due-few e t) (λ t there other. other-none e t (same_id-sym t.id e.transaction other)) in rw live (omega (arith, few)))
    | inr dead ↦ (let none = sum-none (due_in e) ts (λ t there. dead-none e t (none-at (λ t. is_live_in t e) ts dead t there)) in rw dead (omega (arith, none)))
  ]

  -- what enlistments owe in a transaction
  abbrev all_due : List Enlistment → Transaction → ℕ
  all_due es t = enlistments_debt es t.id * of_enlistments t.phase

  all-due : (es : List Enlistment) → sum_by (all_due es) ts ≤ 256 * count_by (is_live_enlistment ts) es
  all-due [] = let none = sum-none (all_due []) ts (λ t there. omega arith) in omega arith
  all-due (e ∷ es) =
      let rest = all-due es in
      let one = due-once e in
      let each = sum-same (all_due (e ∷ es)) (λ t. due_in e t + all_due es t) ts (λ t there.
      let all = shares (e ∷ es) t.id in
      let first = sum_by-cons (share_in t.id) e es in
      let behind = shares es t.id in
      let sum : enlistments_debt (e ∷ es) t.id ≡ share_in t.id e + enlistments_debt es t.id = omega arith in
      let product = ap (λ n. n * of_enlistments t.phase) sum in
      omega arith) in
      let both = sum-plus (due_in e) (all_due es) ts in
      let count = count-cons (is_live_enlistment ts) e es in
      omega arith

-- ---- all transactions

-- a live transaction owes 512 bytes at most beside its items and its enlistments
one-debt : (t : Transaction) (items enlistments : ℕ) → debt_in t.phase items enlistments ≤ 512 * one_where is_live t + items + enlistments * of_enlistments t.phase
one-debt t = go t.phase
  where
    go : (phase : Phase) (items enlistments : ℕ) → debt_in phase items enlistments ≤ 512 * one_where is_live (record t { phase = phase }) + items + enlistments * of_enlistments phase
    go Active items enlistments = omega arith
    go Requested items enlistments = omega arith
    go PrePreparing items enlistments = omega arith
    go PrePrepared items enlistments = omega arith
    go Preparing items enlistments = omega arith
    go SinglePhase items enlistments = omega arith
    go Held items enlistments = omega arith
    go InDoubt items enlistments = omega arith
    go Committing items enlistments = omega arith
    go Aborting items enlistments = omega arith
    go Ended items enlistments = omega arith

module _ (x : Present) where
  -- what all enlistments owe in a transaction
  abbrev due : Transaction → ℕ
  due t = enlistments_debt x.transactions.enlistments t.id * of_enlistments t.phase

  all-debts : (ts : List Transaction) → sum_by (debt_of x) ts ≤ 512 * count_by is_live ts + sum_by (λ t. items_debt x t.id) ts + sum_by due ts
  all-debts [] = omega arith
  all-debts (t ∷ ts) =
      let rest = all-debts ts in
      let one = one-debt t (items_debt x t.id) (enlistments_debt x.transactions.enlistments t.id) in
      let all = sum_by-cons (debt_of x) t ts in
      let a = count-cons is_live t ts in
      let b = sum_by-cons (λ (u : Transaction). items_debt x u.id) t ts in
      let c = sum_by-cons due t ts in
      omega (arith, rest, one, all, a, b, c)

  pub most : IsKept x → debts x ≤ most_debts x.recorded.units
  unfolding debts
  most kept =
      let ts = x.transactions.items in
      let all = all-debts ts in
      let items = all-items x kept in
      let enlistments = all-due ts kept.sound.course.transactions.rise x.transactions.enlistments in
      let within = fits-within x kept.within in
      let live = within.live in
      let enlisted = within.enlisted in
      omega (arith, all, items, enlistments, live, enlisted)
