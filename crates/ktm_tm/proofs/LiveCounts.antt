-- How many enlistments are live, and that a call on one transaction leaves those of others as they are.
use Rattle.std.proofs.Common.{◌≡◌, ℕ, ◌+◌, ◌&&◌, ◌||◌, Bool, true, false, cond, List, [], ◌∷◌, ◌++◌, Option, Some, None, refl, sym, ◌∙◌, ap, subst, arith, inl, inr}
use Rattle.std.specs.Prelude.{count_by, find, if◌then◌else◌, is_some, not}
use Rattle.std.specs.List.{list_all}
use Rattle.std.proofs.lemmas.Bool.{and_from, and_left, and_parts, and_right, cases_Bool, not_from_false, not_from_true, or_left, or_right}
use Rattle.std.proofs.lemmas.List.Folds.{list_all-append}
use Rattle.ktm_base.specs.declared.id.Id.{Id}
use Rattle.ktm_keyed.proofs.KeyedLemmas.{count_by-cons}
use Rattle.ktm_world.specs.declared.object.Phase.{Phase}
use Rattle.ktm_world.specs.declared.object.Transaction.{Transaction}
use Rattle.ktm_world.specs.declared.step.Answered.{Answered}
use Rattle.ktm_world.specs.declared.step.Owed.{Owed}
use Rattle.ktm_world.specs.declared.step.Step.{Step}
use Rattle.ktm_world.specs.Durable.{is_before}
use Rattle.ktm_world.specs.Enlistments.{Enlistment, enlistment_at, has_id, id_of as called, is_ended, is_live_enlistment, is_live_in, is_superior, with_enlistments}
use Rattle.ktm_world.specs.Phases.{one_if}
use Rattle.ktm_world.specs.Steps.{answered}
use Rattle.ktm_world.specs.Transactions.{change_at, is_live, same_id}
use Rattle.ktm_enlist.specs.Counts.{is_live_until_end}
use Rattle.ktm_enlist.specs.Telling.{asked}
use Rattle.ktm_manager.specs.Rising.{are_rising, IsNowhere}
use Rattle.ktm_manager.proofs.offered.Places.{before_differs, nowhere_behind}
use Rattle.txf_laws.proofs.offered.Tables.{same_id-equal, same_id-from, same_id-sym}
use Rattle.ktm_tm.specs.declared.steps.Going.{Going}
use Rattle.ktm_tm.specs.Courses.{caller_of}
use Rattle.ktm_tm.specs.LiveCounts.{called_in, is_live_of, is_live_of_either, is_of_either}
use Rattle.ktm_tm.specs.Steps.{after_all, with_answer}
use Rattle.ktm_tm.proofs.Carrying.{after_steps, answered_keeps, asked_keeps, changed_test}
use Rattle.ktm_tm.proofs.Numbers.{id_of, others_live}

-- ---- counts

module _ {X : Type 0} where
  -- each either passes the second test or not
  count-split : (p q : X → Bool) (xs : List X) → count_by p xs ≡ count_by (λ x. q x && p x) xs + count_by (λ x. not (q x) && p x) xs
  count-split p q [] = refl
  count-split p q (x ∷ xs) =
      count_by-cons p x xs ∙ one (p x) (q x) _ _ _ (count-split p q xs) ∙ (λ i. sym (count_by-cons (λ y. q y && p y) x xs) i + sym (count_by-cons (λ y. not (q y) && p y) x xs) i)
    where
      one : (a b : Bool) (k m n : ℕ) → k ≡ m + n → cond a 1 0 + k ≡ (cond (b && a) 1 0 + m) + (cond (not b && a) 1 0 + n)
      one true true k m n is = omega (arith, is)
      one true false k m n is = omega (arith, is)
      one false true k m n is = omega (arith, is)
      one false false k m n is = omega (arith, is)

  -- of what passes one of two tests that nothing passes both there is as much as of both
  count-either : (p q : X → Bool) (xs : List X) → ((x : X) → p x ≡ true → q x ≡ false) → count_by (λ x. p x || q x) xs ≡ count_by p xs + count_by q xs
  count-either p q [] apart = refl
  count-either p q (x ∷ xs) apart =
      count_by-cons (λ (y : X). p y || q y) x xs ∙ both (p x) (q x) (apart x) _ _ _ (count-either p q xs apart) ∙ (λ i. sym (count_by-cons p x xs) i + sym (count_by-cons q x xs) i)
    where
      both : (a b : Bool) → (a ≡ true → b ≡ false) → (m n k : ℕ) → k ≡ m + n → cond (a || b) 1 0 + k ≡ (cond a 1 0 + m) + (cond b 1 0 + n)
      both true b apart m n k is = rw (apart refl) (omega (arith, is))
      both false b apart m n k is = omega (arith, is)

  count-none : (xs : List X) → count_by (λ (x : X). false) xs ≡ 0
  count-none [] = refl
  count-none (x ∷ xs) = omega (arith, count_by-cons (λ (y : X). false) x xs, count-none xs)

  -- one more
  count-push : (p : X → Bool) (xs : List X) (y : X) → count_by p (xs ++ y ∷ []) ≡ count_by p xs + cond (p y) 1 0
  count-push p [] y = count_by-cons p y [] ∙ omega arith
  count-push p (x ∷ xs) y = omega (arith, count_by-cons p x (xs ++ y ∷ []), count_by-cons p x xs, count-push p xs y)

-- one that is found passes
found-passes : {X : Type 0} (test : X → Bool) (xs : List X) (x : X) → find test xs ≡ Some x → test x ≡ true
found-passes test [] x found = absurd cc
found-passes test (y ∷ ys) x found = elim (cases_Bool (test y)) [
  | inl is ↦
      let head : Some y ≡ Some x = rw is at found in
      let same : y ≡ x = cc in
      ap test (sym same) ∙ is
  | inr other ↦ found-passes test ys x (rw other at found)
]

all-true : {X : Type 0} (xs : List X) → list_all (λ (x : X). true) xs ≡ true
all-true [] = refl
all-true (x ∷ xs) = all-true xs

-- ---- which are live

-- it still has to do with its transaction, as long as that has not ended
abbrev still : Enlistment → Bool
still e = is_superior e || (not e.is_read_only && not e.is_finished)

-- the live transaction with this Id
abbrev live_at : List Transaction → Id → Option Transaction
live_at ts id = find (λ t. is_live t && same_id t.id id) ts

live-ended : (t : Transaction) → is_live t ≡ not (is_ended t.phase)
live-ended t = go t.phase
  where
    go : (phase : Phase) → is_live (record t { phase = phase }) ≡ not (is_ended phase)
    go Phase.Ended = refl
    go _ = refl

same-turned : (a b : Id) → same_id a b ≡ true → same_id b a ≡ true
same-turned a b same = same_id-from b a (sym (same_id-equal a b same))

-- one that is live in the transaction
live-here : (t : Transaction) (e : Enlistment) → is_live t ≡ true → same_id t.id e.transaction ≡ true → is_live_in t e ≡ still e
live-here t e live same = rw (same-turned t.id e.transaction same, sym (live-ended t) ∙ live) refl

-- one of another transaction is not live in this one
live-elsewhere : (t : Transaction) (e : Enlistment) → same_id e.transaction t.id ≡ false → is_live_in t e ≡ false
live-elsewhere t e other = rw other refl

-- an enlistment is live where there is its live transaction
live-by : (ts : List Transaction) (e : Enlistment) → is_live_enlistment ts e ≡ (is_some (live_at ts e.transaction) && still e)
live-by [] e = refl
live-by (t ∷ ts) e = elim (cases_Bool (same_id t.id e.transaction)) [
  | inl same ↦ elim (cases_Bool (is_live t)) [
    | inl live ↦ rw (live, same, live-here t e live same, live-by ts e) (absorbed (still e) (is_some (live_at ts e.transaction)))
    | inr over ↦ rw (over, over-here over, live-by ts e) refl
  ]
  | inr other ↦ rw (other, and_right (is_live t) false refl, live-elsewhere t e (same_id-sym t.id e.transaction other), live-by ts e) refl
]
  where
    absorbed : (s b : Bool) → (s || (b && s)) ≡ s
    absorbed true b = refl
    absorbed false true = refl
    absorbed false false = refl

    over-here : is_live t ≡ false → is_live_in t e ≡ false
    over-here over = go (is_ended t.phase) (same_id e.transaction t.id) (still e) (sym (live-ended t) ∙ over)
      where
        go : (ended same s : Bool) → not ended ≡ false → (same && not ended && s) ≡ false
        go true true s is = refl
        go true false s is = refl
        go false same s is = absurd cc

-- it is live as in its live transaction
pub live-found : (ts : List Transaction) (e : Enlistment) (t : Transaction) → find (λ u. is_live u && same_id u.id e.transaction) ts ≡ Some t → is_live_in t e ≡ is_live_enlistment ts e
live-found ts e t found =
    let parts = and_parts (is_live t) (same_id t.id e.transaction) (found-passes (λ u. is_live u && same_id u.id e.transaction) ts t found) in
    live-here t e parts.0 parts.1 ∙ ap (λ (o : Option Transaction). is_some o && still e) (sym found) ∙ sym (live-by ts e)

-- it is not live where there is none
pub live-missing : (ts : List Transaction) (e : Enlistment) → find (λ u. is_live u && same_id u.id e.transaction) ts ≡ None → is_live_enlistment ts e ≡ false
live-missing ts e none = live-by ts e ∙ ap (λ (o : Option Transaction). is_some o && still e) none

-- ---- those of one transaction

live-of-by : (ts : List Transaction) (id : Id) (e : Enlistment) → is_live_of ts id e ≡ (is_some (live_at ts id) && is_live_until_end id e)
live-of-by ts id e = elim (cases_Bool (same_id e.transaction id)) [
  | inl same ↦ rw same (live-by ts e ∙ ap (λ (i : Id). is_some (live_at ts i) && still e) (same_id-equal e.transaction id same))
  | inr other ↦ rw other (sym (and_right (is_some (live_at ts id)) false refl))
]

-- where there is the live transaction they are those that are live until it ends
pub live-of-found : (ts : List Transaction) (id : Id) (es : List Enlistment) → is_some (find (λ u. is_live u && same_id u.id id) ts) ≡ true → count_by (is_live_until_end id) es ≡ count_by (is_live_of ts id) es
live-of-found ts id es there = sym ((λ i. count_by (λ e. live-of-by ts id e i) es) ∙ (λ i. count_by (λ e. there i && is_live_until_end id e) es))

-- where there is none they are none
pub live-of-missing : (ts : List Transaction) (id : Id) (es : List Enlistment) → is_some (find (λ u. is_live u && same_id u.id id) ts) ≡ false → count_by (is_live_of ts id) es ≡ 0
live-of-missing ts id es none = (λ i. count_by (λ e. live-of-by ts id e i) es) ∙ (λ i. count_by (λ e. none i && is_live_until_end id e) es) ∙ count-none es

-- they are none where none is live until it ends
pub live-of-none : (ts : List Transaction) (id : Id) (es : List Enlistment) → count_by (is_live_until_end id) es ≡ 0 → count_by (is_live_of ts id) es ≡ 0
live-of-none ts id es none = elim (cases_Bool (is_some (live_at ts id))) [
  | inl there ↦ sym (live-of-found ts id es there) ∙ none
  | inr missing ↦ live-of-missing ts id es missing
]

-- ---- those of two

-- of two that differ they are those of both
pub live-of-two : (ts : List Transaction) (one other : Id) (es : List Enlistment) → same_id other one ≡ false → count_by (is_live_of_either ts one other) es ≡ count_by (is_live_of ts one) es + count_by (is_live_of ts other) es
live-of-two ts one other es differ =
    (λ i. count_by (λ e. shared (same_id e.transaction one) (same_id e.transaction other) (is_live_enlistment ts e) i) es) ∙ count-either (is_live_of ts one) (is_live_of ts other) es apart
  where
    shared : (a b c : Bool) → ((a || b) && c) ≡ ((a && c) || (b && c))
    shared true true true = refl
    shared true true false = refl
    shared true false true = refl
    shared true false false = refl
    shared false b c = refl

    apart : (e : Enlistment) → is_live_of ts one e ≡ true → is_live_of ts other e ≡ false
    apart e live =
        let own = (and_parts (same_id e.transaction one) (is_live_enlistment ts e) live).0 in
        let elsewhere : same_id e.transaction other ≡ false = ap (λ (i : Id). same_id i other) (same_id-equal e.transaction one own) ∙ same_id-sym other one differ in
        rw elsewhere refl

-- ---- one transaction more

-- none before the last one has its Id
nowhere-before : (ts : List Transaction) (t : Transaction) → are_rising id_of (ts ++ t ∷ []) ≡ true → IsNowhere id_of ts t.id
nowhere-before [] t rises = tt
nowhere-before (u ∷ us) t rises =
    let parts = and_parts (list_all (λ (v : Transaction). is_before u.id v.id) (us ++ t ∷ [])) (are_rising id_of (us ++ t ∷ [])) rises in
    let behind = and_parts (list_all (λ (v : Transaction). is_before u.id v.id) us) (is_before u.id t.id && true) (sym (list_all-append (λ (v : Transaction). is_before u.id v.id) us (t ∷ [])) ∙ parts.0) in
    (before_differs u.id t.id (and_parts (is_before u.id t.id) true behind.1).0, nowhere-before us t parts.1)

-- those of the new one are live with it
pub live-begun : (ts : List Transaction) (t : Transaction) (es : List Enlistment) → are_rising id_of (ts ++ t ∷ []) ≡ true → is_live t ≡ true
    → count_by (is_live_enlistment (ts ++ t ∷ [])) es ≡ count_by (is_live_enlistment ts) es + count_by (is_live_until_end t.id) es
live-begun ts t es rises live =
    (λ i. count_by (λ e. with-last ts e i) es) ∙ count-either (is_live_until_end t.id) (is_live_enlistment ts) es apart ∙ omega arith
  where
    own : (e : Enlistment) → is_live_in t e ≡ is_live_until_end t.id e
    own e = elim (cases_Bool (same_id e.transaction t.id)) [
      | inl same ↦ live-here t e live (same-turned e.transaction t.id same) ∙ rw same refl
      | inr other ↦ rw other refl
    ]

    turned : (a b c : Bool) → (a || (b || c)) ≡ (b || (a || c))
    turned true true c = refl
    turned true false c = refl
    turned false b c = refl

    with-last : (us : List Transaction) (e : Enlistment) → is_live_enlistment (us ++ t ∷ []) e ≡ (is_live_until_end t.id e || is_live_enlistment us e)
    with-last [] e = ap (λ b. b || false) (own e)
    with-last (u ∷ us) e = ap (λ b. is_live_in u e || b) (with-last us e) ∙ turned (is_live_in u e) (is_live_until_end t.id e) (is_live_enlistment us e)

    apart : (e : Enlistment) → is_live_until_end t.id e ≡ true → is_live_enlistment ts e ≡ false
    apart e is =
        let same = same_id-equal e.transaction t.id (and_parts (same_id e.transaction t.id) (still e) is).0 in
        live-missing ts e (subst (λ (i : Id). find (λ u. is_live u && same_id u.id i) ts ≡ None) (sym same) (others_live ts t.id (nowhere-before ts t rises)))

-- ---- an enlistment more, or one that is changed

-- one enlistment more counts if it is live
pub live-enlisted : (ts : List Transaction) (es : List Enlistment) (e : Enlistment) (count more : ℕ) → count ≡ count_by (is_live_enlistment ts) es → more ≡ one_if (is_live_enlistment ts e) → count + more ≡ count_by (is_live_enlistment ts) (es ++ e ∷ [])
live-enlisted ts es e count more is live = omega (arith, is, live, one_is (is_live_enlistment ts e), count-push (is_live_enlistment ts) es e)
  where
    one_is : (b : Bool) → one_if b ≡ cond b 1 0
    one_is true = refl
    one_is false = refl

-- as many pass a test where those that are changed pass it or not as before
count-changed : (test own meant : Enlistment → Bool) (f : Enlistment → Enlistment) → ((e : Enlistment) → own e ≡ true → meant e ≡ true → test (f e) ≡ test e) → (es : List Enlistment) → list_all own es ≡ true
    → count_by test (with_enlistments meant f es) ≡ count_by test es
count-changed test own meant f stays [] all = refl
count-changed test own meant f stays (e ∷ es) all =
    let parts = and_parts (own e) (list_all own es) all in
    let head : test (if meant e then f e else e) ≡ test e = elim (cases_Bool (meant e)) [ inl is ↦ rw is (stays e parts.0 is) | inr other ↦ rw other refl ] in
    omega (
      arith,
      count_by-cons test (if meant e then f e else e) (with_enlistments meant f es),
      count_by-cons test e es,
      ap {B = ℕ} (λ b. cond b 1 0) head,
      count-changed test own meant f stays es parts.1,
    )

-- as many are live where a change says nothing of that
pub live-changed : (test meant : Enlistment → Bool) (f : Enlistment → Enlistment) → ((e : Enlistment) → test (f e) ≡ test e) → (es : List Enlistment) → count_by test (with_enlistments meant f es) ≡ count_by test es
live-changed test meant f stays es = count-changed test (λ e. true) meant f (λ e own is. stays e) es (all-true es)

-- ---- what a call does to others

-- it is live, and of neither of these two transactions
abbrev pub is_live_besides : List Transaction → Id → Id → Enlistment → Bool
is_live_besides ts one other e = not (is_of_either one other e) && is_live_enlistment ts e

-- the live ones are those of the two and those besides
pub live-split : (ts : List Transaction) (one other : Id) (es : List Enlistment) → count_by (is_live_enlistment ts) es ≡ count_by (is_live_of_either ts one other) es + count_by (is_live_besides ts one other) es
live-split ts one other es = count-split (is_live_enlistment ts) (is_of_either one other) es

-- an enlistment of another transaction is live as before where this one has come further
live-arrived : (ts : List Transaction) (t : Transaction) (id : Id) (e : Enlistment) → t.id ≡ id → same_id e.transaction id ≡ false → is_live_enlistment (change_at ts id (λ u. t)) e ≡ is_live_enlistment ts e
live-arrived [] t id e named other = refl
live-arrived (u ∷ us) t id e named other = elim (cases_Bool (same_id u.id id)) [
  | inl same ↦
      let new : is_live_in t e ≡ false = live-elsewhere t e (ap (same_id e.transaction) named ∙ other) in
      let old : is_live_in u e ≡ false = live-elsewhere u e (ap (same_id e.transaction) (same_id-equal u.id id same) ∙ other) in
      rw (same, new, old) refl
  | inr differ ↦ rw (differ, live-arrived us t id e named other) refl
]

besides-arrived : (ts : List Transaction) (t : Transaction) (one other : Id) (e : Enlistment) → t.id ≡ one → is_live_besides (change_at ts one (λ u. t)) one other e ≡ is_live_besides ts one other e
besides-arrived ts t one other e named = elim (cases_Bool (same_id e.transaction one)) [
  | inl same ↦ rw same refl
  | inr differ ↦ ap (λ b. not (is_of_either one other e) && b) (live-arrived ts t one e named differ)
]

-- if it is the enlistment that calls, it is of this transaction
abbrev is_own_call : Option Id → Id → Id → Id → Id → Bool
is_own_call None other id manager transaction = true
is_own_call (Some caller) other id manager transaction = not (same_id id caller) || same_id transaction other

none-calls : (es : List Enlistment) (caller other : Id) → IsNowhere (λ (e : Enlistment). e.id) es caller → list_all (λ e. is_own_call (Some caller) other e.id e.manager e.transaction) es ≡ true
none-calls [] caller other nowhere = refl
none-calls (e ∷ es) caller other nowhere = rw nowhere.0 (none-calls es caller other nowhere.1)

one-calls : (es : List Enlistment) (e : Enlistment) → are_rising (λ (d : Enlistment). d.id) es ≡ true → find (has_id e.id) es ≡ Some e → list_all (λ d. is_own_call (Some e.id) e.transaction d.id d.manager d.transaction) es ≡ true
one-calls [] e rises found = absurd cc
one-calls (d ∷ ds) e rises found =
    let parts = and_parts (list_all (λ (x : Enlistment). is_before d.id x.id) ds) (are_rising (λ (x : Enlistment). x.id) ds) rises in
    elim (cases_Bool (same_id d.id e.id)) [
      | inl same ↦
          let head : Some d ≡ Some e = rw same at found in
          let is : d ≡ e = cc in
          and_from _ _ (or_right _ _ (same_id-from d.transaction e.transaction (ap (λ (x : Enlistment). x.transaction) is)))
          (none-calls ds e.id e.transaction (nowhere_behind (λ (x : Enlistment). x.id) ds e.id (subst (λ (i : Id). list_all (λ (x : Enlistment). is_before i x.id) ds ≡ true) (same_id-equal d.id e.id same) parts.0)))
      | inr other ↦ and_from _ _ (or_left _ _ (not_from_false (same_id d.id e.id) other)) (one-calls ds e parts.1 (rw other at found))
    ]

-- the enlistment that calls is of the transaction in which it is called
calls-own : (es : List Enlistment) (caller : Option Id) (id : Id) → are_rising (λ (e : Enlistment). e.id) es ≡ true
    → list_all (λ e. is_own_call (called (caller_of es caller)) (called_in (caller_of es caller) id) e.id e.manager e.transaction) es ≡ true
calls-own es None id rises = all-true es
calls-own es (Some caller) id rises = go (enlistment_at es caller) refl
  where
    go : (o : Option Enlistment) → enlistment_at es caller ≡ o → list_all (λ e. is_own_call (called o) (called_in o id) e.id e.manager e.transaction) es ≡ true
    go None is = all-true es
    go (Some e) is = one-calls es e rises (subst (λ (i : Id). find (has_id i) es ≡ Some e) (sym (same_id-equal e.id caller (found-passes (has_id caller) es e is))) is)

-- what is so of enlistments where one calls: it is of this transaction, and so many are live besides
record Besides (ts : List Transaction) (caller : Option Id) (one other : Id) (count : ℕ) (es : List Enlistment) : Type 0 where
  own : list_all (λ e. is_own_call caller other e.id e.manager e.transaction) es ≡ true
  counted : count_by (is_live_besides ts one other) es ≡ count

told_besides : (ts : List Transaction) (caller : Option Id) (one other : Id) (count : ℕ) (meant : Enlistment → Bool) (owed : Option Owed) (es : List Enlistment)
    → Besides ts caller one other count es → Besides ts caller one other count (with_enlistments meant (asked owed) es)
told_besides ts caller one other count meant owed es was = record {
  own = changed_test (is_own_call caller other) meant (asked owed) (asked_keeps owed) es ∙ was.own;
  counted = live-changed (is_live_besides ts one other) meant (asked owed) (same owed) es ∙ was.counted;
}
  where
    same : (owed : Option Owed) (e : Enlistment) → is_live_besides ts one other (asked owed e) ≡ is_live_besides ts one other e
    same None e = refl
    same (Some what) e = refl

answer_besides : (ts : List Transaction) (caller : Option Id) (one other : Id) (count : ℕ) (answer : Answered) (es : List Enlistment)
    → Besides ts caller one other count es → Besides ts caller one other count (with_answer caller answer es)
answer_besides ts None one other count answer es was = was
answer_besides ts (Some id) one other count answer es was = record {
  own = changed_test (is_own_call (Some id) other) (has_id id) (answered answer) (answered_keeps answer) es ∙ was.own;
  counted = count-changed (is_live_besides ts one other) (λ e. is_own_call (Some id) other e.id e.manager e.transaction) (has_id id) (answered answer) same es was.own ∙ was.counted;
}
  where
    never : (e : Enlistment) → same_id e.transaction other ≡ true → is_live_besides ts one other e ≡ false
    never e own = and_left _ _ (not_from_true _ (or_right (same_id e.transaction one) _ own))

    same : (e : Enlistment) → is_own_call (Some id) other e.id e.manager e.transaction ≡ true → has_id id e ≡ true → is_live_besides ts one other (answered answer e) ≡ is_live_besides ts one other e
    same e own calls =
        let here : same_id e.transaction other ≡ true = rw calls at own in
        never (answered answer e) (ap (λ (i : Id). same_id i other) ((answered_keeps answer).transaction e) ∙ here) ∙ sym (never e here)

-- as many are live besides once the transaction has come further by steps
pub live-besides : (ts : List Transaction) (g : Going) (steps : List Step) (t : Transaction) (es : List Enlistment) (caller : Option Id) (u : Transaction) (id : Id)
    → are_rising (λ (e : Enlistment). e.id) es ≡ true → called (caller_of es caller) ≡ g.caller → u.id ≡ id
    → count_by (is_live_besides (change_at ts id (λ w. u)) id (called_in (caller_of es caller) id)) (after_all g steps t es).enlistments ≡ count_by (is_live_besides ts id (called_in (caller_of es caller) id)) es
live-besides ts g steps t es caller u id rises calls named =
    let other = called_in (caller_of es caller) id in
    let count = count_by (is_live_besides ts id other) es in
    let before : Besides ts g.caller id other count es = record {
      own = subst (λ (o : Option Id). list_all (λ e. is_own_call o other e.id e.manager e.transaction) es ≡ true) calls (calls-own es caller id rises);
      counted = refl;
    } in
    let kept = after_steps g (Besides ts g.caller id other count) (told_besides ts g.caller id other count) (answer_besides ts g.caller id other count) steps t es before in
    (λ i. count_by (λ e. besides-arrived ts u id other e named i) (after_all g steps t es).enlistments) ∙ kept.counted
