-- The passing of time rolls back the transactions that are due then, each for itself.
use Rattle.std.proofs.Common.{◌≡◌, List, [], ◌∷◌, cond, filter, fold, Bool, true, false, Option, Some, None, sym, ◌∙◌, ap, subst, inl, inr}
use Rattle.std.proofs.lemmas.Bool.{cases_Bool}
use Rattle.ktm_world.specs.declared.input.PhaseInput.{PhaseInput}
use Rattle.ktm_world.specs.declared.object.Transaction.{Transaction}
use Rattle.ktm_world.specs.declared.reply.Reply.TheVariants.{Done}
use Rattle.ktm_world.specs.Outcome.{Outcome, apply, only_reply}
use Rattle.ktm_world.specs.Present.{Present, Transactions}
use Rattle.ktm_world.specs.Steps.{led}
use Rattle.ktm_world.specs.Transactions.{change_at, transaction_at}
use Rattle.ktm_world.specs.TransactionCalls.{aborted_by, aborted_if_due, aborted_in_turn, course_of, is_due, tick, with_clock}
use Rattle.ktm_steps.proofs.offered.Staying.{stays-led}
use Rattle.ktm_standing.specs.Courses.{aside}
use Rattle.ktm_standing.specs.Effects.{IsLater, rolled_back}
use Rattle.ktm_standing.specs.Laws.{TimeoutLaw}
use Rattle.ktm_standing.proofs.offered.Applied.{apply-reply, apply-then, later-joined, later-reply}
use Rattle.ktm_standing.proofs.offered.Courses.{arrived-later, arrived-transactions}
use Rattle.ktm_standing.proofs.offered.Distinct.{AreFound, Rise, found-once_changed, rise-first, rise-found, rise-rest}

pub later-rollback : (x : Present) (t : Transaction) → IsLater (aborted_by x t None Done)
later-rollback x t = arrived-later x (led PhaseInput.Rollback (course_of x t None)) Done

pub later-if : (x : Present) (t : Transaction) (b : Bool) → IsLater (cond b (aborted_by x t None Done) (only_reply x Done))
later-if x t true = later-rollback x t
later-if x t false = later-reply x Done

pub later-due : (x : Present) (t : Option Transaction) → IsLater (aborted_if_due x t)
later-due x None = later-reply x Done
later-due x (Some t) = later-if x t (is_due x.transactions.clock t)

pub later-in_turn : (ts : List Transaction) (x : Present) → IsLater (aborted_in_turn x ts)
later-in_turn [] x = later-reply x Done
later-in_turn (t ∷ ts) x =
    let o = aborted_if_due x (transaction_at x.transactions.items t.id) in
    later-joined o (aborted_in_turn (apply x o) ts) (later-due x (transaction_at x.transactions.items t.id)) (later-in_turn ts (apply x o))

-- once one has rolled back, the others are found as they were
pub found-behind_rollback : (x : Present) (t : Transaction) (ts : List Transaction) → Rise (t ∷ ts) → AreFound x.transactions.items ts → AreFound (rolled_back x t).transactions.items ts
found-behind_rollback x t ts rise found =
    let c = course_of x t None in
    let d = led PhaseInput.Rollback c in
    let id : d.transaction.id ≡ t.id = (stays-led PhaseInput.Rollback c).id in
    subst (λ (all : Transactions). AreFound all.items ts) (sym (arrived-transactions x d Done))
    (subst (λ i. AreFound (change_at x.transactions.items i (λ u. d.transaction)) ts) (sym id)
    (found-once_changed (λ u. d.transaction) x.transactions.items ts t.id (λ u same. id) (rise-first t ts rise) found))

-- one after another, where each is found as it was
pub in_turn : (ts : List Transaction) (x : Present) → Rise ts → AreFound x.transactions.items ts → aside (apply x (aborted_in_turn x ts)) ≡ aside (fold rolled_back x (filter (is_due x.transactions.clock) ts))
in_turn [] x rise found = ap aside (apply-reply x Done)
in_turn (t ∷ ts) x rise found =
    let first = aborted_if_due x (transaction_at x.transactions.items t.id) in
    apply-then x first (λ next. aborted_in_turn next ts) (later-due x (transaction_at x.transactions.items t.id)).opens (later-in_turn ts (apply x first))
    ∙ ap (λ (o : Outcome). aside (apply (apply x o) (aborted_in_turn (apply x o) ts))) (ap (aborted_if_due x) found.0)
    ∙ elim (cases_Bool (is_due x.transactions.clock t)) [
      | inl due ↦
          (let y = rolled_back x t in
          let now : y.transactions.clock ≡ x.transactions.clock = ap (λ (all : Transactions). all.clock) (arrived-transactions x (led PhaseInput.Rollback (course_of x t None)) Done) in
          let rest = in_turn ts y (rise-rest t ts rise) (found-behind_rollback x t ts rise found.1) ∙ ap (λ clock. aside (fold rolled_back y (filter (is_due clock) ts))) now in
          rw due rest)
      | inr early ↦
          (let rest = ap (λ (y : Present). aside (apply y (aborted_in_turn y ts))) (apply-reply x Done) ∙ in_turn ts x (rise-rest t ts rise) found.1 in
          rw early rest)
    ]

pub timeout_law : TimeoutLaw
unfolding tick
timeout_law x ms course = in_turn x.transactions.items (with_clock x ms) course.transactions.rise (rise-found x.transactions.items course.transactions.rise)
