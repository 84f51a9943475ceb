-- The passing of time, over the live transactions alone.
use Rattle.std.proofs.Common.{◌≡◌, ℕ, ◌+◌, ◌≤◌, zero, suc, true, false, cond, List, [], ◌∷◌, length, drop, filter, Option, Some, None, refl, sym, ◌∙◌, ap, subst, inl, inr, arith}
use Rattle.std.proofs.lemmas.Bool.{cases_Bool, and_parts, or_parts, both_ways, false_from_ne_true}
use Rattle.std.proofs.lemmas.Option.{none-some}
use Rattle.std.specs.List.{list_any, slice_get}
use Rattle.ktm_base.specs.declared.id.Id.{Id}
use Rattle.ktm_world.specs.declared.input.PhaseInput.{PhaseInput}
use Rattle.ktm_world.specs.declared.object.Phase.{Phase}
use Rattle.ktm_world.specs.declared.object.Phase.TheVariants.{Aborting, Ended}
use Rattle.ktm_world.specs.declared.object.Transaction.{Transaction}
use Rattle.ktm_world.specs.declared.reply.Reply.{Reply}
use Rattle.ktm_world.specs.declared.reply.Reply.TheVariants.{Done}
use Rattle.ktm_tm.specs.TmState.{KeepsManaging, TmState}
use Rattle.ktm_world.specs.Lawful.{stage_in}
use Rattle.ktm_world.specs.Outcome.{Outcome, and_then, apply, joined, only_reply}
use Rattle.ktm_world.specs.Present.{Present, Transactions}
use Rattle.ktm_world.specs.Steps.{led}
use Rattle.ktm_world.specs.Transactions.{same_id, transaction_at, change_at, is_live, is_undecided}
use Rattle.ktm_world.specs.TransactionCalls.{aborted_by, aborted_if_due, aborted_in_turn, course_of, is_due, later, may_roll_back, tick, with_clock}
use Rattle.ktm_steps.proofs.offered.Staying.{stays-led}
use Rattle.ktm_steps.proofs.offered.Ways.{if_cases}
use Rattle.ktm_records.proofs.offered.AgreementOfRollbacks.{rollback-undone}
use Rattle.txf_laws.proofs.offered.Tables.{same_id-from, same_id-sym}
use Rattle.ktm_standing.specs.Courses.{aside}
use Rattle.ktm_standing.specs.Effects.{rolled_back}
use Rattle.ktm_standing.proofs.offered.Applied.{apply-reply}
use Rattle.ktm_standing.proofs.offered.Courses.{arrived-transactions}
use Rattle.ktm_standing.proofs.offered.Distinct.{AreFound, Rise, rise-changed, rise-first, rise-found, rise-rest}
use Rattle.ktm_standing.proofs.offered.Timeouts.{found-behind_rollback, later-in_turn, later-rollback}
use Rattle.ktm_memory.specs.Memory.{MemoryState, Settles, Shows, TellsWithin}
use Rattle.ktm_memory.proofs.Behind.{ComesBehind, LooksAside, settles-reply, settles-same}

-- ---- which are due

may_live : (t : Transaction) → may_roll_back t ≡ true → is_live t ≡ true
may_live t = go t.phase
  where
    go : (phase : Phase) → may_roll_back (record t { phase = phase }) ≡ true → is_live (record t { phase = phase }) ≡ true
    go Ended may = absurd (cc)
    go _ may = refl

ended_not_due : (clock : ℕ) (t : Transaction) → is_live t ≡ false → is_due clock t ≡ false
ended_not_due clock t ended = false_from_ne_true (is_due clock t) (λ due. both_ways (is_live t) ended (may_live t (and_parts _ (may_roll_back t) due).1))

-- one that is due has not ended
pub live_if_due : (clock : ℕ) (t : Transaction) → is_due clock t ≡ true → is_live t ≡ true
live_if_due clock t due = may_live t (and_parts _ (may_roll_back t) due).1

-- those that are due are live
due_live : (clock : ℕ) (ts : List Transaction) → filter (is_due clock) (filter is_live ts) ≡ filter (is_due clock) ts
due_live clock [] = refl
due_live clock (t ∷ ts) = elim (cases_Bool (is_live t)) [
  | inl live ↦ rw live (elim (cases_Bool (is_due clock t)) [ inl due ↦ rw due (ap (λ (l : List Transaction). t ∷ l) (due_live clock ts)) | inr later ↦ rw later (due_live clock ts) ])
  | inr ended ↦ (let not_due = ended_not_due clock t ended in rw ended (rw not_due (due_live clock ts)))
]

-- one that has rolled back is not
stage_not_due : (clock : ℕ) (t : Transaction) → stage_in t.phase ≡ None → is_due clock t ≡ false
stage_not_due clock t none = false_from_ne_true (is_due clock t) (λ due. both_ways (may_roll_back t) (go t.phase none) (and_parts _ (may_roll_back t) due).1)
  where
    go : (phase : Phase) → stage_in phase ≡ None → may_roll_back (record t { phase = phase }) ≡ false
    go Aborting is = refl
    go Ended is = refl
    go _ is = absurd (none-some _ (sym is))

-- ---- the live one at a place

-- one that is found has another Id than all, where none has this one
found_apart : (ts : List Transaction) (a b : Id) (t : Transaction) → list_any (λ u. same_id u.id a) ts ≡ false → transaction_at ts b ≡ Some t → same_id t.id a ≡ false
found_apart [] a b t none at = absurd (cc)
found_apart (u ∷ us) a b t none at =
    let parts = or_parts (same_id u.id a) (list_any (λ u. same_id u.id a) us) none in
    elim (cases_Bool (same_id u.id b)) [
      | inl same ↦ (let found : Some u ≡ Some t = rw same at at in let is : u ≡ t = cc in subst (λ (x : Transaction). same_id x.id a ≡ false) is parts.0)
      | inr other ↦ found_apart us a b t parts.1 (rw other at at)
    ]

-- the live transaction at this place is found by its Id, and once it is changed the next one stands there, or one behind it where it is still live
pub record IsLiveAt (ts : List Transaction) (i : ℕ) (t : Transaction) : Type 0 where
  pub found : transaction_at ts t.id ≡ Some t
  pub here : drop i (filter is_live ts) ≡ t ∷ drop (suc i) (filter is_live ts)
  pub kept : (u : Transaction) → is_live u ≡ true → drop i (filter is_live (change_at ts t.id (λ v. u))) ≡ u ∷ drop (suc i) (filter is_live ts)
  pub gone : (u : Transaction) → is_live u ≡ false → drop i (filter is_live (change_at ts t.id (λ v. u))) ≡ drop (suc i) (filter is_live ts)
  pub fewer : (u : Transaction) → length (filter is_live (change_at ts t.id (λ v. u))) ≤ length (filter is_live ts)

first_fewer : (u : Transaction) (us : List Transaction) → length (filter is_live (u ∷ us)) ≤ length (filter is_live us) + 1
first_fewer u us = elim (cases_Bool (is_live u)) [ inl live ↦ rw live (omega arith) | inr ended ↦ rw ended (omega arith) ]

live_first : (u : Transaction) (us : List Transaction) → ((k : ℕ) (t : Transaction) → slice_get (filter is_live us) k ≡ Some t → IsLiveAt us k t)
    → list_any (λ v. same_id v.id u.id) us ≡ false → is_live u ≡ true → (i : ℕ) (t : Transaction) → slice_get (u ∷ filter is_live us) i ≡ Some t → IsLiveAt (u ∷ us) i t
live_first u us rest none live zero t at =
    let is : u ≡ t = cc in
    let same = same_id-from u.id u.id refl in
    subst (λ (x : Transaction). IsLiveAt (u ∷ us) 0 x) is (record {
      found = rw same refl;
      here = rw live refl;
      kept = λ v lives. rw same (rw (live, lives) refl);
      gone = λ v ends. rw same (rw (live, ends) refl);
      fewer = λ v. let few = first_fewer v us in rw same (rw live (omega (arith, few)));
    })
live_first u us rest none live (suc k) t at =
    let then = rest k t at in
    let other : same_id u.id t.id ≡ false = same_id-sym t.id u.id (found_apart us u.id t.id t none then.found) in
    record {
      found = rw other then.found;
      here = rw live then.here;
      kept = λ v lives. let so = then.kept v lives in rw other (rw live so);
      gone = λ v ends. let so = then.gone v ends in rw other (rw live so);
      fewer = λ v. let so = then.fewer v in rw other (rw live (omega (arith, so)));
    }

pub live_at : (ts : List Transaction) (i : ℕ) (t : Transaction) → Rise ts → slice_get (filter is_live ts) i ≡ Some t → IsLiveAt ts i t
live_at [] i t rise at = absurd (cc)
live_at (u ∷ us) i t rise at = elim (cases_Bool (is_live u)) [
  | inl live ↦ live_first u us (λ k t at. live_at us k t (rise-rest u us rise) at) (rise-first u us rise) live i t (rw live at at)
  | inr ended ↦
      (let then = live_at us i t (rise-rest u us rise) (rw ended at at) in
      let other : same_id u.id t.id ≡ false = same_id-sym t.id u.id (found_apart us u.id t.id t (rise-first u us rise) then.found) in
      record {
        found = rw other then.found;
        here = rw ended then.here;
        kept = λ v lives. let so = then.kept v lives in rw other (rw ended so);
        gone = λ v ends. let so = then.gone v ends in rw other (rw ended so);
        fewer = λ v. let so = then.fewer v in rw other (rw ended so);
      })
]

-- there is none at a place behind them all
none_left : (ts : List Transaction) (i : ℕ) → slice_get ts i ≡ None → drop i ts ≡ []
none_left [] zero at = refl
none_left [] (suc i) at = refl
none_left (t ∷ ts) zero at = absurd (cc)
none_left (t ∷ ts) (suc i) at = none_left ts i at

-- ---- each in turn

-- a reply before it changes nothing of what is done
joined-reply : (x : Present) (o : Outcome) → o.reply ≡ Done → o.took ≡ None → joined (only_reply x Done) o ≡ o
joined-reply x o reply took = ap (λ (r : Reply). record o { reply = r; took = None }) (sym reply) ∙ ap (λ (id : Option Id). record o { took = id }) (sym took)

turn-replies : (x : Present) (ts : List Transaction) → (aborted_in_turn x ts).reply ≡ Done
turn-replies x [] = refl
turn-replies x (t ∷ ts) = go (transaction_at x.transactions.items t.id)
  where
    go : (found : Option Transaction) → (aborted_if_due x found).reply ≡ Done
    go None = refl
    go (Some u) = if_cases (λ (o : Outcome). o.reply ≡ Done) (is_due x.transactions.clock u) _ _
        (λ due. if_cases (λ (o : Outcome). o.reply ≡ Done) (is_undecided (led PhaseInput.Rollback (course_of x u None)).transaction) _ _ (λ kept. refl) (λ known. refl)) (λ early. refl)

-- one that is found, and not due, does not count
turn-early : (x : Present) (t : Transaction) (ts : List Transaction) → transaction_at x.transactions.items t.id ≡ Some t → is_due x.transactions.clock t ≡ false → aborted_in_turn x (t ∷ ts) ≡ aborted_in_turn x ts
turn-early x t ts found early =
    ap (λ (o : Outcome). and_then x o (λ next. aborted_in_turn next ts)) (ap (aborted_if_due x) found ∙ ap (λ b. cond b (aborted_by x t None Done) (only_reply x Done)) early)
    ∙ ap (λ (y : Present). joined (only_reply x Done) (aborted_in_turn y ts)) (apply-reply x Done)
    ∙ joined-reply x (aborted_in_turn x ts) (turn-replies x ts) (later-in_turn ts x).takes

-- one that is due rolls back, and then the others do
turn-due : (x : Present) (t : Transaction) (ts : List Transaction) → transaction_at x.transactions.items t.id ≡ Some t → is_due x.transactions.clock t ≡ true
    → aborted_in_turn x (t ∷ ts) ≡ and_then x (aborted_by x t None Done) (λ next. aborted_in_turn next ts)
turn-due x t ts found due =
    ap (λ (o : Outcome). and_then x o (λ next. aborted_in_turn next ts)) (ap (aborted_if_due x) found ∙ ap (λ b. cond b (aborted_by x t None Done) (only_reply x Done)) due)

rolled_clock : (x : Present) (t : Transaction) → (rolled_back x t).transactions.clock ≡ x.transactions.clock
rolled_clock x t = ap (λ (all : Transactions). all.clock) (arrived-transactions x (led PhaseInput.Rollback (course_of x t None)) Done)

-- only those count that are due
due-only : (ts : List Transaction) (x : Present) → Rise ts → AreFound x.transactions.items ts → aborted_in_turn x ts ≡ aborted_in_turn x (filter (is_due x.transactions.clock) ts)
due-only [] x rise found = refl
due-only (t ∷ ts) x rise found = elim (cases_Bool (is_due x.transactions.clock t)) [
  | inl due ↦
      (let y = rolled_back x t in
      let rest : aborted_in_turn y ts ≡ aborted_in_turn y (filter (is_due x.transactions.clock) ts) =
      due-only ts y (rise-rest t ts rise) (found-behind_rollback x t ts rise found.1) ∙ ap (λ clock. aborted_in_turn y (filter (is_due clock) ts)) (rolled_clock x t) in
      let all : aborted_in_turn x (t ∷ ts) ≡ aborted_in_turn x (t ∷ filter (is_due x.transactions.clock) ts) =
      turn-due x t ts found.0 due ∙ ap (λ (o : Outcome). joined (aborted_by x t None Done) o) rest ∙ sym (turn-due x t (filter (is_due x.transactions.clock) ts) found.0 due) in
      all ∙ sym (ap (λ b. aborted_in_turn x (cond b (t ∷ filter (is_due x.transactions.clock) ts) (filter (is_due x.transactions.clock) ts))) due))
  | inr early ↦
      turn-early x t ts found.0 early ∙ due-only ts x (rise-rest t ts rise) found.1
      ∙ sym (ap (λ b. aborted_in_turn x (cond b (t ∷ filter (is_due x.transactions.clock) ts) (filter (is_due x.transactions.clock) ts))) early)
]

-- ---- how far the rollbacks have come

-- those that are due among the live ones from this place on
abbrev pub due_from : Transactions → ℕ → List Transaction
due_from all i = filter (is_due all.clock) (drop i (filter is_live all.items))

-- those roll back
abbrev pub from_here : ℕ → Present → Outcome
from_here i x = aborted_in_turn x (due_from x.transactions i)

looks-turn : (ts : List Transaction) → LooksAside (λ x. aborted_in_turn x ts)
looks-turn [] x = refl
looks-turn (t ∷ ts) x =
    let o = aborted_if_due x (transaction_at x.transactions.items t.id) in
    ap (λ (first : Outcome). joined first (aborted_in_turn (apply (aside x) first) ts)) (looks-due (transaction_at x.transactions.items t.id))
    ∙ ap (λ (rest : Outcome). joined o rest) (sym (looks-turn ts (apply (aside x) o)) ∙ looks-turn ts (apply x o))
  where
    looks-due : (found : Option Transaction) → aborted_if_due (aside x) found ≡ aborted_if_due x found
    looks-due None = refl
    looks-due (Some u) = refl

pub looks-from : (i : ℕ) → LooksAside (from_here i)
looks-from i x = looks-turn (due_from x.transactions i) x

-- at first those that are due once time has passed
pub tick_from : (x : Present) (ms : ℕ) → Rise x.transactions.items → tick x ms ≡ from_here 0 (with_clock x ms)
unfolding tick
tick_from x ms rise =
    due-only x.transactions.items (with_clock x ms) rise (rise-found x.transactions.items rise)
    ∙ ap (λ (ts : List Transaction). aborted_in_turn (with_clock x ms) ts) (sym (due_live (later x.transactions.clock ms) x.transactions.items))

-- one that is not due is not among them
pub due_over : (all : Transactions) (i : ℕ) (t : Transaction) → IsLiveAt all.items i t → is_due all.clock t ≡ false → due_from all (suc i) ≡ due_from all i
due_over all i t at early = sym (rw at.here (rw early refl))

-- one that is due is the first of them
pub due_first : (all : Transactions) (i : ℕ) (t : Transaction) → IsLiveAt all.items i t → is_due all.clock t ≡ true → due_from all i ≡ t ∷ due_from all (suc i)
due_first all i t at due = rw at.here (rw due refl)

-- once it has rolled back the others are left
pub due_rest : (all now : Transactions) (i : ℕ) (t u : Transaction) → IsLiveAt all.items i t → now.clock ≡ all.clock → now.items ≡ change_at all.items t.id (λ v. u) → stage_in u.phase ≡ None
    → due_from now i ≡ due_from all (suc i)
due_rest all now i t u at clock items none =
    ap (λ c. filter (is_due c) (drop i (filter is_live now.items))) clock
    ∙ ap (λ (ts : List Transaction). filter (is_due all.clock) (drop i (filter is_live ts))) items
    ∙ elim (cases_Bool (is_live u)) [
      | inl live ↦ (let early = stage_not_due all.clock u none in ap (filter (is_due all.clock)) (at.kept u live) ∙ rw early refl)
      | inr ended ↦ ap (filter (is_due all.clock)) (at.gone u ended)
    ]

-- what a rollback makes of the transactions
pub record HasRolled (all : Transactions) (t : Transaction) (now : Transactions) : Type 0 where
  pub to : Transaction
  pub same : to.id ≡ t.id
  pub stage : stage_in to.phase ≡ None
  pub items : now.items ≡ change_at all.items t.id (λ v. to)
  pub clock : now.clock ≡ all.clock

pub has_rolled : (x : Present) (t : Transaction) → HasRolled x.transactions t (rolled_back x t).transactions
has_rolled x t =
    let c = course_of x t None in
    let d = led PhaseInput.Rollback c in
    let id : d.transaction.id ≡ t.id = (stays-led PhaseInput.Rollback c).id in
    record {
      to = d.transaction;
      same = id;
      stage = (rollback-undone c).stage;
      items = ap (λ (all : Transactions). all.items) (arrived-transactions x d Done) ∙ ap (λ i. change_at x.transactions.items i (λ v. d.transaction)) id;
      clock = rolled_clock x t;
    }

-- it rolls back, and then the others do
pub from-behind : (m : MemoryState) (i : ℕ) (t : Transaction) → IsLiveAt m.tm.now.items i t → is_due m.tm.now.clock t ≡ true → ComesBehind m (λ x. aborted_by x t None Done) (from_here i) (from_here i)
from-behind m i t at due = record {
  comes = λ x now.
      let there : IsLiveAt x.transactions.items i t = subst (λ (all : Transactions). IsLiveAt all.items i t) now.transactions at in
      let is : is_due x.transactions.clock t ≡ true = subst (λ (all : Transactions). is_due all.clock t ≡ true) now.transactions due in
      let rolled = has_rolled x t in
      ap (λ (ts : List Transaction). aborted_in_turn x ts) (due_first x.transactions i t there is)
      ∙ turn-due x t (due_from x.transactions (suc i)) there.found is
      ∙ ap (λ (ts : List Transaction). joined (aborted_by x t None Done) (aborted_in_turn (rolled_back x t) ts)) (sym (due_rest x.transactions (rolled_back x t).transactions i t rolled.to there rolled.clock rolled.items rolled.stage));
  opens = λ x now. (later-rollback x t).opens;
  later = λ x now. later-in_turn (due_from (rolled_back x t).transactions i) (rolled_back x t);
}

-- one that is not due is passed over
pub from-over : (m : MemoryState) (i : ℕ) (t : Transaction) → IsLiveAt m.tm.now.items i t → is_due m.tm.now.clock t ≡ false → (x : Present) → Shows m x → from_here i x ≡ from_here (suc i) x
from-over m i t at early x now =
    ap (λ (all : Transactions). aborted_in_turn x (due_from all i)) (sym now.transactions)
    ∙ ap (λ (ts : List Transaction). aborted_in_turn x ts) (sym (due_over m.tm.now i t at early))
    ∙ ap (λ (all : Transactions). aborted_in_turn x (due_from all (suc i))) now.transactions

-- what a rollback makes of the transactions that memory holds
pub held_rolled : (m n : MemoryState) (t : Transaction) (x : Present) → Shows m x → Settles m (λ x. aborted_by x t None Done) n → HasRolled m.tm.now t n.tm.now
held_rolled m n t x now settles =
    subst (λ (all : Transactions). HasRolled all t n.tm.now) (sym now.transactions)
    (subst (λ (then' : Transactions). HasRolled x.transactions t then') (sym (settles.shows x now tt).transactions) (has_rolled x t))

-- those before a place are passed over where none of them is due
pub from-later : (m : MemoryState) (i : ℕ) → due_from m.tm.now i ≡ due_from m.tm.now 0 → (x : Present) → Shows m x → from_here 0 x ≡ from_here i x
from-later m i same x now =
    ap (λ (all : Transactions). aborted_in_turn x (due_from all 0)) (sym now.transactions)
    ∙ ap (λ (ts : List Transaction). aborted_in_turn x ts) (sym same)
    ∙ ap (λ (all : Transactions). aborted_in_turn x (due_from all i)) now.transactions

-- ---- how many are left

-- the live ones from this place on, and those of them that are due
abbrev pub left_from : Transactions → ℕ → ℕ
left_from all i = length (drop i (filter is_live all.items)) + length (due_from all i)

-- one less is left once one was passed over
pub fewer_over : (all : Transactions) (i : ℕ) (t : Transaction) → IsLiveAt all.items i t → is_due all.clock t ≡ false → left_from all (suc i) + 1 ≡ left_from all i
fewer_over all i t at early =
    let same = ap (λ (ts : List Transaction). length ts) (due_over all i t at early) in
    let less = ap (λ (ts : List Transaction). length ts) at.here in
    omega (arith, same, less)

-- at least one less is left once one has rolled back
pub fewer_rolled : (all now : Transactions) (i : ℕ) (t : Transaction) → IsLiveAt all.items i t → is_due all.clock t ≡ true → HasRolled all t now → left_from now i + 1 ≤ left_from all i
fewer_rolled all now i t at due rolled =
    let one = ap (λ (ts : List Transaction). length ts) (due_first all i t at due) in
    let rest = ap (λ (ts : List Transaction). length ts) (due_rest all now i t rolled.to at rolled.clock rolled.items rolled.stage) in
    let here = ap (λ (ts : List Transaction). length ts) at.here in
    let moved = ap (λ (ts : List Transaction). length (drop i (filter is_live ts))) rolled.items in
    elim (cases_Bool (is_live rolled.to)) [
      | inl live ↦ (let now = ap (λ (ts : List Transaction). length ts) (at.kept rolled.to live) in omega (arith, one, rest, here, moved, now))
      | inr ended ↦ (let now = ap (λ (ts : List Transaction). length ts) (at.gone rolled.to ended) in omega (arith, one, rest, here, moved, now))
    ]

-- they stand by rising Id as before, and no more are live
pub rolled_rise : (all now : Transactions) (t : Transaction) → HasRolled all t now → Rise all.items → Rise now.items
rolled_rise all now t rolled rise = subst Rise (sym rolled.items) (rise-changed (λ v. rolled.to) all.items t.id (λ v same. rolled.same) rise)

pub rolled_few : (all now : Transactions) (i : ℕ) (t : Transaction) → IsLiveAt all.items i t → HasRolled all t now → length (filter is_live now.items) ≤ length (filter is_live all.items)
rolled_few all now i t at rolled =
    let same = ap (λ (ts : List Transaction). length (filter is_live ts)) rolled.items in
    omega (arith, at.fewer rolled.to, same)

-- none is left
pub settles-over : (m : MemoryState) (i : ℕ) → slice_get (filter is_live m.tm.now.items) i ≡ None → Settles m (from_here i) m
settles-over m i at =
    settles-same m m (λ x. only_reply x Done) (from_here i)
    (λ x now. ap (λ (all : Transactions). aborted_in_turn x (due_from all i)) (sym now.transactions) ∙ ap (λ (ts : List Transaction). aborted_in_turn x (filter (is_due m.tm.now.clock) ts)) (none_left (filter is_live m.tm.now.items) i at))
    (settles-reply m)

-- ---- time passes first

-- what settles the rollbacks then settles all
pub settles-tick : (m new : MemoryState) (tm : TmState) (ms : ℕ) → Rise m.tm.now.items → tm.boot ≡ m.tm.boot → tm.now ≡ record m.tm.now { clock = later m.tm.now.clock ms } → KeepsManaging m.tm tm
    → Settles (record m { tm = tm }) (from_here 0) new → Settles m (λ x. tick x ms) new
settles-tick m new tm ms rise boot is keeps settles = record { shows = shows; slots = slots }
  where
    passed : (x : Present) → Shows m x → Shows (record m { tm = tm }) (with_clock x ms)
    passed x now = record {
      is_up = now.is_up;
      boot = boot ∙ now.boot;
      transactions = is ∙ ap (λ (all : Transactions). record all { clock = later all.clock ms }) now.transactions;
      managers = keeps.managers ∙ now.managers;
      traces = now.traces;
      files = now.files;
      next_node = now.next_node;
      keys = now.keys;
      handles = now.handles;
    }

    same : (x : Present) → Shows m x → tick x ms ≡ from_here 0 (with_clock x ms)
    same x now = tick_from x ms (subst (λ (all : Transactions). Rise all.items) now.transactions rise)

    shows : (x : Present) → Shows m x → Unit {0} → Shows new (apply x (tick x ms))
    shows x now may = subst (λ (o : Outcome). Shows new (apply x o)) (sym (same x now)) (settles.shows (with_clock x ms) (passed x now) tt)

    slots : (x : Present) → Shows m x → m.tm.slots ≤ new.tm.slots + length (tick x ms).sent
    slots x now = omega (arith, settles.slots (with_clock x ms) (passed x now), keeps.slots, ap (λ (o : Outcome). length o.sent) (same x now))

-- there is room for what the rollbacks tell, where there is room for what the passing of time tells
pub told-tick : (m : MemoryState) (tm : TmState) (ms : ℕ) → Rise m.tm.now.items → tm.boot ≡ m.tm.boot → tm.now ≡ record m.tm.now { clock = later m.tm.now.clock ms } → KeepsManaging m.tm tm
    → TellsWithin m (λ x. tick x ms) → TellsWithin (record m { tm = tm }) (from_here 0)
told-tick m tm ms rise boot is keeps told y now =
    let x : Present = record y { transactions = m.tm.now } in
    let at : Shows m x = record {
      is_up = now.is_up;
      boot = sym boot ∙ now.boot;
      transactions = refl;
      managers = sym keeps.managers ∙ now.managers;
      traces = now.traces;
      files = now.files;
      next_node = now.next_node;
      keys = now.keys;
      handles = now.handles;
    } in
    let same : tick x ms ≡ from_here 0 y = tick_from x ms rise ∙ ap (λ (all : Transactions). from_here 0 (record y { transactions = all })) (sym is ∙ now.transactions) in
    omega (arith, told x at, keeps.slots, ap (λ (o : Outcome). length o.sent) same)
