-- What the rows record against what a transaction owes less in the phase to which they lead.
use Rattle.std.proofs.Common.{◌≡◌, ℕ, ◌+◌, ◌*◌, ◌≤◌, ◌&&◌, ◌||◌, not, Bool, true, false, nat_le, List, [], ◌∷◌, Option, Some, None, refl, sym, ◌∙◌, subst, arith, inl, inr, ◌⊎◌}
use Rattle.std.proofs.lemmas.Bool.{and_parts, leb-true, not-true, or_cases, true≢false}
use Rattle.std.proofs.Math.Nat.{mul-le-mul_left}
use Rattle.std.specs.List.{AllByRecursion, list_all, list_any}
use Rattle.ktm_world.specs.declared.input.PhaseInput.{PhaseInput}
use Rattle.ktm_world.specs.declared.input.Seen.{Seen}
use Rattle.ktm_world.specs.declared.object.Phase.{Phase}
use Rattle.ktm_world.specs.declared.object.Phase.TheVariants.{Active, Requested, PrePreparing, PrePrepared, Preparing, SinglePhase, Held, InDoubt, Committing, Aborting, Ended}
use Rattle.ktm_world.specs.declared.object.Transaction.{Transaction}
use Rattle.ktm_world.specs.declared.step.Step.{Step}
use Rattle.ktm_world.specs.Enlistments.{Enlistment, is_unfinished}
use Rattle.ktm_world.specs.Phases.{Course, ended}
use Rattle.ktm_world.specs.Rows.{row}
use Rattle.ktm_world.specs.Steps.{answered, carried, changing, run}
use Rattle.ktm_world.specs.TransactionCalls.{is_voting, waits_for_superior}
use Rattle.ktm_courses.proofs.offered.EnlistmentAnswers.{can_roll_back}
use Rattle.ktm_steps.proofs.offered.Lists.{each-row-passes, row_lists, row-passes}
use Rattle.ktm_steps.proofs.offered.Ways.{if_cases}
use Rattle.ktm_room.proofs.offered.CourseSizes.{files_recorded, keys_recorded, spent}
use Rattle.ktm_debts.specs.Debts.{debt_in}

-- ---- phases

-- what is owed in a phase beside items and enlistments
abbrev base : Phase → ℕ
base Held = 64
base InDoubt = 64
base Committing = 0
base Aborting = 0
base Ended = 0
base _ = 512

-- are items owed in a phase
abbrev pub of_items : Phase → ℕ
of_items Held = 0
of_items InDoubt = 0
of_items Committing = 0
of_items Aborting = 0
of_items Ended = 0
of_items _ = 1

-- is in it owed what enlistments may record
abbrev pub of_enlistments : Phase → ℕ
of_enlistments Aborting = 0
of_enlistments Ended = 0
of_enlistments _ = 1

pub debt-in : (phase : Phase) (items enlistments : ℕ) → debt_in phase items enlistments ≡ base phase + items * of_items phase + enlistments * of_enlistments phase
debt-in Active items enlistments = omega arith
debt-in Requested items enlistments = omega arith
debt-in PrePreparing items enlistments = omega arith
debt-in PrePrepared items enlistments = omega arith
debt-in Preparing items enlistments = omega arith
debt-in SinglePhase items enlistments = omega arith
debt-in Held items enlistments = omega arith
debt-in InDoubt items enlistments = omega arith
debt-in Committing items enlistments = omega arith
debt-in Aborting items enlistments = omega arith
debt-in Ended items enlistments = omega arith

-- ---- where steps lead

-- the phase to which steps lead, but for an end because nobody is unfinished
abbrev pub leads : Phase → List Step → Phase
leads phase [] = phase
leads phase (Step.Enter next ∷ steps) = leads next steps
leads phase (Step.End outcome ∷ steps) = leads Ended steps
leads phase (_ ∷ steps) = leads phase steps

-- is no outcome decided, but for such an end
abbrev pub decides_none : List Step → Bool
decides_none [] = true
decides_none (Step.Decide outcome ∷ steps) = false
decides_none (Step.End outcome ∷ steps) = false
decides_none (_ ∷ steps) = decides_none steps

-- is such an end the last step
abbrev ends_last : List Step → Bool
ends_last [] = true
ends_last (Step.EndWhereFinished outcome ∷ []) = true
ends_last (Step.EndWhereFinished outcome ∷ next ∷ steps) = false
ends_last (_ ∷ steps) = ends_last steps

-- it has ended, or it is in the phase to which the steps lead, and has its outcome where they decide none
abbrev pub IsLed : List Step → Transaction → Transaction → Type 0
IsLed steps t u = (u.phase ≡ Ended) ⊎ ((u.phase ≡ leads t.phase steps) × (decides_none steps ≡ true → u.outcome ≡ t.outcome))

-- whatever was decided
led-anyhow : (steps : List Step) (t u : Transaction) {Q : Type 0} → IsLed steps t u → (u.phase ≡ Ended) ⊎ ((u.phase ≡ leads t.phase steps) × (false ≡ true → Q))
led-anyhow steps t u (inl ends) = inl ends
led-anyhow steps t u (inr is) = inr (is.0, λ wrong. absurd (true≢false (sym wrong)))

-- who answers changes nothing of the transaction
same-changing : (c : Course) (e : Option Enlistment) (f : Enlistment → Enlistment) → (changing c e f).transaction ≡ c.transaction
same-changing c None f = refl
same-changing c (Some e) f = refl

led-to : (steps : List Step) (c : Course) → ends_last steps ≡ true → IsLed steps c.transaction (run steps c).transaction
unfolding ended
led-to [] c last = inr (refl, λ none. refl)
led-to (Step.Record fact ∷ steps) c last = led-to steps (carried (Step.Record fact) c) last
led-to (Step.Commit ∷ steps) c last = led-to steps (carried Step.Commit c) last
led-to (Step.Tell who kind ∷ steps) c last = led-to steps (carried (Step.Tell who kind) c) last
led-to (Step.Ask who kind owed ∷ steps) c last = led-to steps (carried (Step.Ask who kind owed) c) last
led-to (Step.Change answer ∷ steps) c last =
    let d = carried (Step.Change answer) c in subst (λ t. IsLed steps t (run steps d).transaction) (same-changing c c.caller (answered answer)) (led-to steps d last)
led-to (Step.Enter next ∷ steps) c last = led-to steps (carried (Step.Enter next) c) last
led-to (Step.Decide outcome ∷ steps) c last = let d = carried (Step.Decide outcome) c in led-anyhow steps d.transaction (run steps d).transaction (led-to steps d last)
led-to (Step.End outcome ∷ steps) c last = let d = carried (Step.End outcome) c in led-anyhow steps d.transaction (run steps d).transaction (led-to steps d last)
led-to (Step.EndWhereFinished outcome ∷ []) c last =
    if_cases (λ d. IsLed [] c.transaction d.transaction) (list_any (is_unfinished c.transaction.id) c.enlistments) c (ended c outcome) (λ some. inr (refl, λ none. refl)) (λ none. inl refl)
led-to (Step.EndWhereFinished outcome ∷ next ∷ steps) c last = absurd (true≢false (sym last))

-- by a row
pub row-leads : (s : Seen) (input : PhaseInput) (c : Course) → IsLed (row s input) c.transaction (run (row s input) c).transaction
row-leads s input c = led-to (row s input) c (each-row-passes ends_last refl s input)

-- ---- what is paid

-- how many bytes there are in a frame beside its events, where steps record any
abbrev pub overhead : List Step → ℕ
overhead [] = 0
overhead (Step.Record fact ∷ steps) = 9
overhead (_ ∷ steps) = overhead steps

-- how much less an enlistment owes by what comes from it
abbrev pub given_by : PhaseInput → ℕ
given_by PhaseInput.PrepareComplete = 224
given_by PhaseInput.CommitComplete = 32
given_by _ = 0

-- do steps from this phase on record no more than is owed less then, where enlistments owe so much less
abbrev are_paid : ℕ → Phase → List Step → Bool
are_paid given phase steps =
    nat_le (files_recorded steps + of_items (leads phase steps)) (of_items phase)
    && nat_le (keys_recorded steps + of_items (leads phase steps)) (of_items phase)
    && nat_le (of_enlistments (leads phase steps)) (of_enlistments phase)
    && nat_le (overhead steps + spent steps + base (leads phase steps)) (base phase + given * of_enlistments phase)
    && (decides_none steps && is_voting phase || nat_le (of_items (leads phase steps)) 0)

-- may this come to a transaction in this phase
abbrev pub may_come : PhaseInput → Phase → Bool
may_come PhaseInput.Rollback phase = can_roll_back phase
may_come PhaseInput.Commit phase = waits_for_superior phase
may_come PhaseInput.CommitComplete phase = nat_le 1 (of_enlistments phase)
may_come PhaseInput.RollbackComplete phase = true
may_come PhaseInput.Recover phase = true
may_come PhaseInput.RecoverSuperior phase = true
may_come _ phase = is_voting phase

-- each phase
abbrev phases : List Phase
phases = Active ∷ Requested ∷ PrePreparing ∷ PrePrepared ∷ Preparing ∷ SinglePhase ∷ Held ∷ InDoubt ∷ Committing ∷ Aborting ∷ Ended ∷ []

in-each : (test : Phase → Bool) → AllByRecursion (λ phase. test phase ≡ true) phases → (phase : Phase) → test phase ≡ true
in-each test all Active = all.0
in-each test all Requested = all.1.0
in-each test all PrePreparing = all.1.1.0
in-each test all PrePrepared = all.1.1.1.0
in-each test all Preparing = all.1.1.1.1.0
in-each test all SinglePhase = all.1.1.1.1.1.0
in-each test all Held = all.1.1.1.1.1.1.0
in-each test all InDoubt = all.1.1.1.1.1.1.1.0
in-each test all Committing = all.1.1.1.1.1.1.1.1.0
in-each test all Aborting = all.1.1.1.1.1.1.1.1.1.0
in-each test all Ended = all.1.1.1.1.1.1.1.1.1.1.0

all-from : {X : Type 0} (test : X → Bool) (xs : List X) → list_all test xs ≡ true → AllByRecursion (λ x. test x ≡ true) xs
all-from test [] all = tt
all-from test (x ∷ xs) all = let both = and_parts (test x) (list_all test xs) all in (both.0, all-from test xs both.1)

-- where this comes in a phase in which it may, is each list of its row paid
abbrev is_paid_in : PhaseInput → Phase → Bool
is_paid_in input phase = not (may_come input phase) || list_all (are_paid (given_by input) phase) (row_lists input)

each-paid : (input : PhaseInput) → list_all (is_paid_in input) phases ≡ true
each-paid PhaseInput.CommitTransaction = refl
each-paid PhaseInput.Rollback = refl
each-paid PhaseInput.PrePrepareComplete = refl
each-paid PhaseInput.PrepareComplete = refl
each-paid (PhaseInput.ReadOnly share) = refl
each-paid PhaseInput.SinglePhaseReject = refl
each-paid PhaseInput.CommitComplete = refl
each-paid PhaseInput.RollbackComplete = refl
each-paid PhaseInput.PrePrepare = refl
each-paid PhaseInput.Prepare = refl
each-paid PhaseInput.Commit = refl
each-paid PhaseInput.Recover = refl
each-paid PhaseInput.RecoverSuperior = refl

-- the row of what may come is paid
row-paid : (s : Seen) (input : PhaseInput) (phase : Phase) → may_come input phase ≡ true → are_paid (given_by input) phase (row s input) ≡ true
row-paid s input phase may = elim (or_cases (not (may_come input phase)) (list_all (are_paid (given_by input) phase) (row_lists input)) (in-each (is_paid_in input) (all-from (is_paid_in input) phases (each-paid input)) phase)) [
  | inl never ↦ absurd (true≢false (sym may ∙ not-true _ never))
  | inr all ↦ row-passes (are_paid (given_by input) phase) s input (all-from (are_paid (given_by input) phase) (row_lists input) all)
]

-- ---- in numbers

-- what a row records, and what is owed in the phase to which it leads, against what is owed in its phase
pub record IsPaid (input : PhaseInput) (phase : Phase) (steps : List Step) : Type 0 where
  -- for all changes, settings and debts of enlistments, before and after
  pub paid : (changes settings before after : ℕ) → given_by input + after ≤ before
      → overhead steps + (changes * files_recorded steps + settings * keys_recorded steps + spent steps) + debt_in (leads phase steps) (changes + settings) after ≤ debt_in phase (changes + settings) before
  -- items are owed then only where it was voted, and nothing is decided
  pub undecided : ((decides_none steps ≡ true) × (is_voting phase ≡ true)) ⊎ (of_items (leads phase steps) ≤ 0)

balance : (changes settings before after files keys items now enlistments then over spent owes less given : ℕ) → files + now ≤ items → keys + now ≤ items → then ≤ enlistments
    → over + spent + less ≤ owes + given * enlistments → given + after ≤ before
    → over + (changes * files + settings * keys + spent) + (less + (changes + settings) * now + after * then) ≤ owes + (changes + settings) * items + before * enlistments
balance changes settings before after files keys items now enlistments then over spent owes less given a b c d e =
    let of_files = mul-le-mul_left changes a in
    let of_keys = mul-le-mul_left settings b in
    let of_others = mul-le-mul_left after c in
    let of_all = mul-le-mul_left enlistments e in
    omega arith

pub row-balance : (s : Seen) (input : PhaseInput) (phase : Phase) → may_come input phase ≡ true → IsPaid input phase (row s input)
row-balance s input phase may =
    let steps = row s input in
    let next = leads phase steps in
    let all = row-paid s input phase may in
    let five = and_parts _ (decides_none steps && is_voting phase || nat_le (of_items next) 0) all in
    let four = and_parts _ (nat_le (overhead steps + spent steps + base next) (base phase + given_by input * of_enlistments phase)) five.0 in
    let three = and_parts _ (nat_le (of_enlistments next) (of_enlistments phase)) four.0 in
    let two = and_parts (nat_le (files_recorded steps + of_items next) (of_items phase)) (nat_le (keys_recorded steps + of_items next) (of_items phase)) three.0 in
    record {
      paid = λ changes settings before after less.
          let a = leb-true _ _ two.0 in
          let b = leb-true _ _ two.1 in
          let c = leb-true _ _ three.1 in
          let d = leb-true _ _ four.1 in
          let all = balance changes settings before after (files_recorded steps) (keys_recorded steps) (of_items phase) (of_items next) (of_enlistments phase) (of_enlistments next) (overhead steps) (spent steps) (base phase) (base next) (given_by input) a b c d less in
          let was = debt-in phase (changes + settings) before in
          let is = debt-in next (changes + settings) after in
          omega arith;
      undecided = elim (or_cases _ (nat_le (of_items next) 0) five.1) [
        | inl both ↦ inl (and_parts (decides_none steps) (is_voting phase) both)
        | inr none ↦ inr (leb-true _ _ none)
      ];
    }
