-- What steps cost: to each enlistment no more is sent, and still to be sent then, than is counted of it alone.
use Rattle.std.specs.Prelude.{max, if◌then◌else◌}
use Rattle.std.proofs.Common.{◌≡◌, ℕ, ◌+◌, ◌≤◌, ◌&&◌, not, Bool, true, false, List, [], ◌∷◌, length, map, filter, sum_by, Option, Some, None, refl, sym, ◌∙◌, ap, arith, length-append, inl, inr}
use Rattle.std.proofs.Math.Nat.{le-max_left, le-max_right}
use Rattle.std.proofs.lemmas.Bool.{cases_Bool}
use Rattle.std.proofs.lemmas.List.Sums.{sum_by-cons}
use Rattle.std.specs.List.{list_any}
use Rattle.ktm_base.specs.declared.id.Id.{Id}
use Rattle.ktm_base.specs.declared.notify.Notify.{Notify}
use Rattle.ktm_world.specs.declared.object.Phase.{Phase}
use Rattle.ktm_world.specs.declared.object.Phase.TheVariants.{Ended}
use Rattle.ktm_world.specs.declared.object.TransactionOutcome.{TransactionOutcome}
use Rattle.ktm_world.specs.declared.step.Answered.{Answered}
use Rattle.ktm_world.specs.declared.step.Answered.TheVariants.{PrePrepared, Prepared, ReadOnly, Finished, Recovered}
use Rattle.ktm_world.specs.declared.step.Step.{Step}
use Rattle.ktm_world.specs.declared.step.Who.{Who}
use Rattle.ktm_world.specs.Enlistments.{Enlistment, asks_pre_prepare, has_id, id_of, is_given, is_superior, is_unfinished, tell, with_enlistments}
use Rattle.ktm_world.specs.Phases.{Course, decided, end_notice, ended, in_phase, is_its_superior, one_if, owing, telling, unchanged}
use Rattle.ktm_world.specs.Steps.{answered, carried, changing, is_meant, run}
use Rattle.ktm_world.specs.Transactions.{same_id}
use Rattle.txf_laws.proofs.offered.Sums.{sum-less, sum-map-by, sum-same}
use Rattle.ktm_steps.proofs.offered.Ways.{if_cases}
use Rattle.ktm_slots.specs.Owed.{part_owed, superior_owed}

-- ---- what counts of an enlistment

-- is it of the transaction, what counts of it, and is it the one that calls
pub record Case : Type 0 where
  pub own : Bool
  pub superior : Bool
  pub read_only : Bool
  pub prepared : Bool
  pub recovered : Bool
  pub asks : Bool
  pub given : Bool

-- what counts of an enlistment
abbrev pub case_of : Id → Option Id → Enlistment → Case
case_of own caller e = record {
  own = same_id e.transaction own;
  superior = is_superior e;
  read_only = e.is_read_only;
  prepared = e.is_prepared;
  recovered = e.is_recovered;
  asks = asks_pre_prepare e;
  given = is_given caller e;
}

-- does it take part
abbrev pub takes : Case → Bool
takes k = k.own && not k.superior && not k.read_only

-- is it one of those
abbrev pub is_in : Who → Case → Bool
is_in Who.Parts k = takes k
is_in Who.Asking k = takes k && k.asks
is_in Who.Prepared k = takes k && k.prepared && k.recovered
is_in Who.Recovered k = takes k && k.recovered
is_in Who.Superior k = k.own && k.superior
is_in Who.OtherSuperior k = k.own && k.superior && not k.given
is_in Who.Caller k = k.given

-- what becomes of it by an answer
abbrev pub after_answer : Answered → Case → Case
after_answer Prepared k = record k { prepared = true }
after_answer ReadOnly k = record k { read_only = true }
after_answer Recovered k = record k { recovered = true }
after_answer _ k = k

-- how many it may still be sent, where it is of the transaction
abbrev pub owed : Phase → Case → ℕ
owed phase k = if k.own then (if k.superior then superior_owed phase k.recovered else (if k.read_only then 0 else part_owed phase k.recovered)) else 0

-- how many it is sent by steps from this phase on, and may be sent after them
abbrev pub cost : Phase → List Step → Case → ℕ
cost phase [] k = owed phase k
cost phase (Step.Tell who kind ∷ steps) k = one_if (is_in who k) + cost phase steps k
cost phase (Step.Ask who kind answer ∷ steps) k = one_if (is_in who k) + cost phase steps k
cost phase (Step.Change answer ∷ steps) k = cost phase steps (if k.given then after_answer answer k else k)
cost phase (Step.Enter next ∷ steps) k = cost next steps k
cost phase (Step.End outcome ∷ steps) k = one_if (k.own && k.superior) + cost Ended steps k
cost phase (Step.EndWhereFinished outcome ∷ steps) k = max (cost phase steps k) (one_if (k.own && k.superior) + cost Ended steps k)
cost phase (_ ∷ steps) k = cost phase steps k

-- ---- all enlistments of a course

-- what counts of an enlistment on this course
abbrev pub case_in : Course → Enlistment → Case
case_in c e = case_of c.transaction.id (id_of c.caller) e

-- a number over all enlistments
abbrev pub total : (Case → ℕ) → Course → ℕ
total f c = sum_by (λ e. f (case_in c e)) c.enlistments

-- those that pass the test are told, and no case is changed
told-total : (own : Id) (caller : Option Id) (kind : Notify) (test : Enlistment → Bool) (passes : Case → Bool) (g : Enlistment → Enlistment) (f : Case → ℕ)
    → ((e : Enlistment) → test e ≡ passes (case_of own caller e)) → ((e : Enlistment) → case_of own caller (g e) ≡ case_of own caller e) → (es : List Enlistment)
    → length (map (tell kind) (filter test es)) + sum_by (λ e. f (case_of own caller e)) (with_enlistments test g es) ≡ sum_by (λ e. one_if (passes (case_of own caller e)) + f (case_of own caller e)) es
told-total own caller kind test passes g f same kept [] = omega arith
told-total own caller kind test passes g f same kept (e ∷ es) =
    let rest = told-total own caller kind test passes g f same kept es in
    let before = sum_by-cons (λ e. one_if (passes (case_of own caller e)) + f (case_of own caller e)) e es in
    elim (cases_Bool (test e)) [
      | inl is ↦
          let told : one_if (passes (case_of own caller e)) ≡ 1 = ap one_if (sym (same e) ∙ is) in
          let one = ap f (kept e) in
          rw is (let after = sum_by-cons (λ e. f (case_of own caller e)) (g e) (with_enlistments test g es) in omega arith)
      | inr other ↦
          let told : one_if (passes (case_of own caller e)) ≡ 0 = ap one_if (sym (same e) ∙ other) in
          rw other (let after = sum_by-cons (λ e. f (case_of own caller e)) e (with_enlistments test g es) in omega arith)
    ]

-- ---- steps

meant-in : (who : Who) (c : Course) (e : Enlistment) → is_meant who c e ≡ is_in who (case_in c e)
meant-in Who.Parts c e = refl
meant-in Who.Asking c e = refl
meant-in Who.Prepared c e = refl
meant-in Who.Recovered c e = refl
meant-in Who.Superior c e = refl
meant-in Who.OtherSuperior c e = refl
meant-in Who.Caller c e = refl

answered-case : (answer : Answered) (own : Id) (caller : Option Id) (e : Enlistment) → case_of own caller (answered answer e) ≡ after_answer answer (case_of own caller e)
answered-case PrePrepared own caller e = refl
answered-case Prepared own caller e = refl
answered-case ReadOnly own caller e = refl
answered-case Finished own caller e = refl
answered-case Recovered own caller e = refl

-- the case of one that answers, where it is the one that calls
changed-case : (answer : Answered) (own id : Id) (e : Enlistment)
    → case_of own (Some id) (if has_id id e then answered answer e else e) ≡ (if has_id id e then after_answer answer (case_of own (Some id) e) else case_of own (Some id) e)
changed-case answer own id e = go (has_id id e)
  where
    go : (is : Bool) → case_of own (Some id) (if is then answered answer e else e) ≡ (if is then after_answer answer (case_of own (Some id) e) else case_of own (Some id) e)
    go true = answered-case answer own (Some id) e
    go false = refl

-- no more is sent by steps, and to be sent then, than was sent and they cost
pub record Costs (steps : List Step) (c : Course) : Type 0 where
  pub paid : length (run steps c).sent + total (owed (run steps c).transaction.phase) (run steps c) ≤ length c.sent + total (cost c.transaction.phase steps) c

module _ (steps : List Step) (rest : (c : Course) → Costs steps c) (c : Course) where
  costs-told : (test : Enlistment → Bool) (passes : Case → Bool) (kind : Notify) (g : Enlistment → Enlistment)
      → ((e : Enlistment) → test e ≡ passes (case_in c e)) → ((e : Enlistment) → case_in c (g e) ≡ case_in c e)
      → let d = run steps (telling c test kind g) in length d.sent + total (owed d.transaction.phase) d ≤ length c.sent + total (λ k. one_if (passes k) + cost c.transaction.phase steps k) c
  costs-told test passes kind g same kept =
      let later = (rest (telling c test kind g)).paid in
      let here = told-total c.transaction.id (id_of c.caller) kind test passes g (cost c.transaction.phase steps) same kept c.enlistments in
      let sent = length-append c.sent (map (tell kind) (filter test c.enlistments)) in
      omega arith

  costs-changed : (answer : Answered) (o : Option Enlistment) → Costs (Step.Change answer ∷ steps) (record c { caller = o })
  costs-changed answer None = record { paid = (rest (record c { caller = None })).paid }
  costs-changed answer (Some g) = record {
    paid =
        let later = (rest (changing (record c { caller = Some g }) (Some g) (answered answer))).paid in
        let f = cost c.transaction.phase steps in
        let step = λ (e : Enlistment). if has_id g.id e then answered answer e else e in
        let moved = sum-map-by (λ e. f (case_of c.transaction.id (Some g.id) e)) step c.enlistments in
        let same = sum-same (λ e. f (case_of c.transaction.id (Some g.id) (step e))) (λ e. f (if has_id g.id e then after_answer answer (case_of c.transaction.id (Some g.id) e) else case_of c.transaction.id (Some g.id) e)) c.enlistments
        (λ e there. ap f (changed-case answer c.transaction.id g.id e)) in
        omega arith;
  }

costs-ended : (steps : List Step) → ((c : Course) → Costs steps c) → (outcome : TransactionOutcome) (c : Course) → Costs (Step.End outcome ∷ steps) c
unfolding ended
costs-ended steps rest outcome c = record { paid = costs-told steps rest (in_phase (decided c outcome) Ended) (is_its_superior c) (λ k. k.own && k.superior) (end_notice outcome) unchanged (λ e. refl) (λ e. refl) }

pub costs : (steps : List Step) (c : Course) → Costs steps c
costs [] c = record { paid = omega arith }
costs (Step.Record fact ∷ steps) c = record { paid = (costs steps (carried (Step.Record fact) c)).paid }
costs (Step.Commit ∷ steps) c = record { paid = (costs steps (carried Step.Commit c)).paid }
costs (Step.Tell who kind ∷ steps) c = record { paid = costs-told steps (costs steps) c (is_meant who c) (is_in who) kind unchanged (meant-in who c) (λ e. refl) }
costs (Step.Ask who kind answer ∷ steps) c = record { paid = costs-told steps (costs steps) c (is_meant who c) (is_in who) kind (owing answer) (meant-in who c) (λ e. refl) }
costs (Step.Change answer ∷ steps) c = costs-changed steps (costs steps) c answer c.caller
costs (Step.Enter next ∷ steps) c = record { paid = (costs steps (carried (Step.Enter next) c)).paid }
costs (Step.Decide outcome ∷ steps) c = record { paid = (costs steps (carried (Step.Decide outcome) c)).paid }
costs (Step.End outcome ∷ steps) c = costs-ended steps (costs steps) outcome c
costs (Step.EndWhereFinished outcome ∷ steps) c = record {
  paid =
      let before = λ (k : Case). cost c.transaction.phase steps k in
      let after = λ (k : Case). one_if (k.own && k.superior) + cost Ended steps k in
      if_cases (λ (d : Course). length (run steps d).sent + total (owed (run steps d).transaction.phase) (run steps d) ≤ length c.sent + total (λ k. max (before k) (after k)) c)
      (list_any (is_unfinished c.transaction.id) c.enlistments) c (ended c outcome)
      (λ some. let a = (costs steps c).paid in let b = sum-less (λ e. before (case_in c e)) (λ e. max (before (case_in c e)) (after (case_in c e))) c.enlistments (λ e there. le-max_left _ _) in omega arith)
      (λ none. let a = (costs-ended steps (costs steps) outcome c).paid in let b = sum-less (λ e. after (case_in c e)) (λ e. max (before (case_in c e)) (after (case_in c e))) c.enlistments (λ e there. le-max_right _ _) in omega arith);
}
