-- What handles that are closed and the passing of time come to, where it is so of each thing that they do.
use Rattle.std.proofs.Common.{◌≡◌, ℕ, true, List, [], ◌∷◌, Option, Some, None, refl, ap}
use Rattle.std.proofs.lemmas.Bool.{and_parts}
use Rattle.ktm_base.specs.declared.id.Label.{Label}
use Rattle.ktm_base.specs.declared.id.Pid.{Pid}
use Rattle.ktm_world.specs.declared.object.Object.{Object}
use Rattle.ktm_world.specs.declared.object.Transaction.{Transaction}
use Rattle.ktm_world.specs.declared.reply.Reply.TheVariants.{Done}
use Rattle.ktm_world.specs.HandleCalls.{abort_active, close_handle, closed_file, closed_in_turn, exit, handle_gone, has_handle, labels_of, last_handle_gone, without_handle}
use Rattle.ktm_world.specs.Handles.{object_at}
use Rattle.ktm_world.specs.Outcome.{Outcome, and_then, apply, only_reply}
use Rattle.ktm_world.specs.Present.{Present}
use Rattle.ktm_world.specs.TransactionCalls.{aborted_by, aborted_if_due, aborted_in_turn, is_due, may_roll_back, tick, with_clock}
use Rattle.ktm_world.specs.Transactions.{is_active, transaction_at}
use Rattle.txf_laws.specs.Elements.{IsIn}
use Rattle.ktm_courses.proofs.offered.Calls.{active-phase, may-roll, transaction_at-found}
use Rattle.ktm_courses.proofs.offered.EnlistmentAnswers.{can_roll_back}
use Rattle.ktm_steps.proofs.offered.Ways.{if_cases}

-- of a machine that is as asked, something is so of an outcome
module _ (Asked : Present → Type 0) (P : Present → Outcome → Type 0) where
  -- it is so of a reply alone and of a rollback, and of one outcome and then another
  pub record Rolls : Type 0 where
    pub reply : (x : Present) → Asked x → P x (only_reply x Done)
    pub rolls : (x : Present) (t : Transaction) → Asked x → IsIn t (x.transactions).items → can_roll_back t.phase ≡ true → P x (aborted_by x t None Done)
    pub goes_on : (x : Present) (a : Outcome) (next : Present → Outcome) → P x a → (Asked (apply x a) → P (apply x a) (next (apply x a))) → P x (and_then x a next)

  -- it is so of all of that, of a label that is unbound, and of an open file that ends
  pub record Closes : Type 0 where
    pub rolls : Rolls
    pub unbinds : (x : Present) (process : Pid) (label : Label) → Asked x → P x (record (only_reply x Done) { handles = without_handle x.handles process label })
    pub ends : (x : Present) (number : ℕ) → Asked x → P x (record (only_reply x Done) { table = closed_file (x.files).table number })

  module _ (so : Rolls) where
    due-so : (x : Present) (o : Option Transaction) → Asked x → ((t : Transaction) → o ≡ Some t → IsIn t (x.transactions).items) → P x (aborted_if_due x o)
    due-so x None asked there = so.reply x asked
    due-so x (Some t) asked there = if_cases (P x) (is_due (x.transactions).clock t) (aborted_by x t None Done) (only_reply x Done)
        (λ due. so.rolls x t asked (there t refl) (may-roll t (and_parts _ (may_roll_back t) due).1)) (λ early. so.reply x asked)

    in_turn-so : (ts : List Transaction) (x : Present) → Asked x → P x (aborted_in_turn x ts)
    in_turn-so [] x asked = so.reply x asked
    in_turn-so (t ∷ ts) x asked = so.goes_on x (aborted_if_due x (transaction_at (x.transactions).items t.id)) (λ next. aborted_in_turn next ts)
        (due-so x (transaction_at (x.transactions).items t.id) asked (λ u is. (transaction_at-found (x.transactions).items t.id u is).0)) (in_turn-so ts _)

    -- the passing of time, from the later clock on
    pub tick-so : (x : Present) (ms : ℕ) → Asked (with_clock x ms) → P (with_clock x ms) (tick x ms)
    unfolding tick
    tick-so x ms asked = in_turn-so (x.transactions).items (with_clock x ms) asked

  module _ (so : Closes) where
    active-so : (x : Present) (o : Option Transaction) → Asked x → ((t : Transaction) → o ≡ Some t → IsIn t (x.transactions).items) → P x (abort_active x o)
    active-so x None asked there = so.rolls.reply x asked
    active-so x (Some t) asked there = if_cases (P x) (is_active t) (aborted_by x t None Done) (only_reply x Done)
        (λ active. so.rolls.rolls x t asked (there t refl) (ap can_roll_back (active-phase t active))) (λ other. so.rolls.reply x asked)

    last-so : (object : Object) (x : Present) → Asked x → P x (last_handle_gone x object)
    last-so (Object.Transaction id) x asked = active-so x (transaction_at (x.transactions).items id) asked (λ t is. (transaction_at-found (x.transactions).items id t is).0)
    last-so (Object.Manager id) x asked = so.rolls.reply x asked
    last-so (Object.Enlistment id) x asked = so.rolls.reply x asked
    last-so (Object.File number) x asked = so.ends x number asked

    gone-so : (o : Option Object) (x : Present) → Asked x → P x (handle_gone o x)
    gone-so None x asked = so.rolls.reply x asked
    gone-so (Some object) x asked = if_cases (P x) (has_handle x.handles object) (only_reply x Done) (last_handle_gone x object) (λ has. so.rolls.reply x asked) (λ last. last-so object x asked)

    pub close_handle-so : (x : Present) (process : Pid) (label : Label) → Asked x → P x (close_handle x process label)
    unfolding close_handle
    close_handle-so x process label asked =
        so.rolls.goes_on x (record (only_reply x Done) { handles = without_handle x.handles process label }) (handle_gone (object_at x.handles process label)) (so.unbinds x process label asked) (gone-so (object_at x.handles process label) _)

    closed-so : (labels : List Label) (x : Present) (process : Pid) → Asked x → P x (closed_in_turn x process labels)
    closed-so [] x process asked = so.rolls.reply x asked
    closed-so (label ∷ labels) x process asked = so.rolls.goes_on x (close_handle x process label) (λ next. closed_in_turn next process labels) (close_handle-so x process label asked) (closed-so labels _ process)

    pub exit-so : (x : Present) (process : Pid) → Asked x → P x (exit x process)
    unfolding exit
    exit-so x process asked = closed-so (labels_of x.handles process) x process asked
