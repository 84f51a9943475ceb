use Rattle.std.proofs.Common.{◌∙◌, ◌++◌, ◌∷◌, [], ◌+◌, ◌≤◌, Ok, length, ap, sym, subst, arith}
use Rattle.std.proofs.lemmas.Bool.{leb-true}
use Rattle.std.proofs.lemmas.List.{length_push}
use Rattle.ktm_base.specs.Grammar.{IsU32}
use Rattle.ktm_base.specs.declared.limits.TheConstants.{MOST_LIVE}
use Rattle.ktm_codec.specs.Spans.{Spans}
use Rattle.ktm_saved.proofs.GoodParts.{few_of}
use Rattle.ktm_saved.proofs.Rows.{counted, first_of, transactions_list}
use Rattle.ktm_saved.proofs.SoFar.{good-none}
use Rattle.ktm_saved.proofs.transactions.read_into.Goals as goal
use Rattle.ktm_saved.specs.Tests.{AreGoodSoFar, against_of}
use Rattle.ktm_snapshot.specs.Pieces.{IsFrontOf}
use Rattle.ktm_snapshot.specs.StateGrammar.{IsTransactionOf}
use Rattle.ktm_waiting.specs.Waiting.{AreHeld}

pub returns-in_default : goal.returns-in_default
returns-in_default c = λ s end same small spans good. (transactions_list c.args.bytes.now c.args.at).no_count c.in_default.ensures s.transactions end spans

pub transactions-init : goal.transactions-init
transactions-init c =
    let a = against_of c.args.head.now in
    let none = c.requires.none in
    record {
      front = subst (λ xs. Spans (IsFrontOf (IsU32 c.in-Some.count) IsTransactionOf xs) c.args.bytes.now c.args.at c.in-Some.start) (sym none) ((transactions_list c.args.bytes.now c.args.at).begins _ _ c.in-Some.ensures);
      good = subst (AreGoodSoFar a) (sym none) (good-none a);
      held = subst (AreHeld c.args.waiting.now a.tree) (sym none) c.requires.held;
      counted = ap length none;
      few = omega (arith, ap length none);
    }

-- one more than there may be
pub returns-then-as_slice-eq-MOST_LIVE : goal.returns-then-as_slice-eq-MOST_LIVE
returns-then-as_slice-eq-MOST_LIVE c = λ s end same small spans good.
    let many = counted c.args.bytes.now c.args.at c.in-Some.count c.transactions.end end c.transactions.transactions.transactions s.transactions c.transactions.invariant.front spans in
    omega (arith, many, c.transactions.invariant.counted, ap length c.as_slice.ensures, c.if-as_slice-eq-MOST_LIVE.true, leb-true (length s.transactions) MOST_LIVE (few_of s good.limits).0)

pub returns-in_default-2 : goal.returns-in_default-2
returns-in_default-2 c = λ s end same small spans good.
    (transactions_list c.args.bytes.now c.args.at).no_item c.in-Some.count c.transactions.transactions.transactions c.transactions.end c.transactions.invariant.front (omega (arith, c.transactions.invariant.counted))
    (rw c.in_default-2.is at c.in_ok-transaction.ensures) s.transactions end spans

pub add-requires : goal.add-requires
add-requires c = record { good = c.transactions.invariant.good; held = c.transactions.invariant.held }

pub returns-then-not-branch : goal.returns-then-not-branch
returns-then-not-branch c = λ s end same small spans good.
    let law = transactions_list c.args.bytes.now c.args.at in
    let ts = c.transactions.transactions.transactions in
    let t = c.in-Some-2.transaction in
    let front = law.goes_on c.in-Some.count ts t c.transactions.end c.in-Some-2.next c.transactions.invariant.front (rw c.in-Some-2.is at c.in_ok-transaction.ensures) in
    let few : length (ts ++ t ∷ []) ≤ c.in-Some.count = omega (arith, length_push ts t, c.transactions.invariant.counted) in
    let (rest, is) = first_of c.args.bytes.now c.args.at c.in-Some.count c.in-Some-2.next end (ts ++ t ∷ []) s.transactions front spans few in
    c.in_ok-add.ensures.refused (ap Ok c.if-not-branch.true) s rest same is small good

pub transactions-preserved : goal.transactions-preserved
transactions-preserved c =
    let law = transactions_list c.args.bytes.now c.args.at in
    let ts = c.transactions.transactions.transactions in
    let t = c.in-Some-2.transaction in
    let added = c.in_ok-add.ensures.added (ap Ok c.if-not-branch.false) in
    let front = law.goes_on c.in-Some.count ts t c.transactions.end c.in-Some-2.next c.transactions.invariant.front (rw c.in-Some-2.is at c.in_ok-transaction.ensures) in
    record {
      front = subst (λ xs. Spans (IsFrontOf (IsU32 c.in-Some.count) IsTransactionOf xs) c.args.bytes.now c.args.at c.in-Some-2.next) (sym added.is) front;
      good = added.good;
      held = added.held;
      counted = ap length added.is ∙ length_push ts t ∙ ap (λ n. n + 1) c.transactions.invariant.counted;
      few = omega (arith, ap length added.is, length_push ts t, c.transactions.invariant.few, ap length c.as_slice.ensures, c.if-as_slice-eq-MOST_LIVE.false);
    }

pub returns : goal.returns
returns c =
    let ts = c.transactions.transactions.transactions in
    record {
      spelled = (transactions_list c.args.bytes.now c.args.at).whole c.in-Some.count ts c.transactions.end c.transactions.invariant.front (omega (arith, c.transactions.invariant.counted)) c.transactions.invariant.good.rise;
      good = c.transactions.invariant.good;
      few = c.transactions.invariant.few;
      held = c.transactions.invariant.held;
    }
