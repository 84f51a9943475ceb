-- A transaction that goes on records no more than the debts fall by.
use Rattle.std.proofs.Common.{◌≡◌, ℕ, ◌+◌, ◌*◌, ◌≤◌, true, false, nat_le, List, [], ◌∷◌, length, sum_by, Option, Some, refl, sym, ◌∙◌, ap, subst, arith, inl, inr}
use Rattle.std.proofs.lemmas.Bool.{leb-true}
use Rattle.std.proofs.Math.Nat.{mul-le-mul_left}
use Rattle.ktm_base.specs.declared.limits.TheConstants.{MOST_INFORMATION_BYTES}
use Rattle.ktm_world.specs.declared.event.Event.{Event}
use Rattle.ktm_world.specs.declared.input.PhaseInput.{PhaseInput}
use Rattle.ktm_world.specs.declared.object.Phase.{Phase}
use Rattle.ktm_world.specs.declared.object.Phase.TheVariants.{Held, InDoubt, Committing, Aborting, Ended}
use Rattle.ktm_world.specs.declared.object.Transaction.{Transaction}
use Rattle.ktm_world.specs.declared.reply.Reply.{Reply}
use Rattle.ktm_world.specs.declared.step.Step.{Step}
use Rattle.ktm_world.specs.Enlistments.{Enlistment}
use Rattle.ktm_world.specs.Files.{own_changes}
use Rattle.ktm_world.specs.Keys.{own_settings}
use Rattle.ktm_world.specs.Outcome.{Outcome, apply}
use Rattle.ktm_world.specs.Phases.{Course}
use Rattle.ktm_world.specs.Present.{Present}
use Rattle.ktm_world.specs.Rows.{row}
use Rattle.ktm_world.specs.Sizes.{change_size, setting_size}
use Rattle.ktm_world.specs.Steps.{Basis, basis, events_ahead, led, seen}
use Rattle.ktm_world.specs.TransactionCalls.{arrived, course_of}
use Rattle.ktm_world.specs.Transactions.{change_at, is_undecided, same_id}
use Rattle.txf_laws.specs.Elements.{IsIn}
use Rattle.txf_laws.proofs.offered.Elements.{list_all-at}
use Rattle.ktm_steps.specs.Fading.{Fades}
use Rattle.ktm_steps.proofs.offered.Fading.{fades-run}
use Rattle.ktm_steps.proofs.offered.Recorded.{led-events}
use Rattle.ktm_steps.proofs.offered.Staying.{stays-led}
use Rattle.ktm_courses.specs.SoundCourse.{IsSoundCourse, is_outcome_of}
use Rattle.ktm_courses.proofs.offered.EnlistmentAnswers.{undecided-rolls, voting-rolls}
use Rattle.ktm_courses.proofs.offered.Moves.{of-superior}
use Rattle.ktm_records.proofs.offered.AgreementOfCourses.{IsArrival, arrival}
use Rattle.ktm_room.proofs.offered.CourseSizes.{ahead-size, files_recorded, keys_recorded, sizes, spent}
use Rattle.ktm_debts.specs.Debts.{debt_in, debt_of, debts, enlistments_debt, frame_of, items_debt}
use Rattle.ktm_debts.proofs.EnlistmentDebts.{all-fall}
use Rattle.ktm_debts.proofs.RowDebts.{debt-in, given_by, leads, may_come, of_enlistments, of_items, overhead, row-balance, row-leads}
use Rattle.ktm_debts.proofs.TransactionSums.{sum-changed}

-- what an outcome records, and what is owed then, are no more than what was owed
pub record Pays (x : Present) (o : Outcome) : Type 0 where
  pub paid : frame_of o.events + debts (apply x o) ≤ debts x

-- ---- frames

pub frame-most : (events : List Event) → frame_of events ≤ 9 + sizes events
frame-most [] = omega arith
frame-most (event ∷ events) = omega arith

frame-ahead : (steps : List Step) (b : Basis) → frame_of (events_ahead steps b) ≤ overhead steps + sizes (events_ahead steps b)
frame-ahead [] b = omega arith
frame-ahead (Step.Record fact ∷ steps) b = frame-most (events_ahead (Step.Record fact ∷ steps) b)
frame-ahead (_ ∷ steps) b = frame-ahead steps b

-- ---- phases

-- no items are owed in the phase
no-items : (phase : Phase) (items items' enlistments : ℕ) → of_items phase ≤ 0 → debt_in phase items enlistments ≡ debt_in phase items' enlistments
no-items Held items items' enlistments none = refl
no-items InDoubt items items' enlistments none = refl
no-items Committing items items' enlistments none = refl
no-items Aborting items items' enlistments none = refl
no-items Ended items items' enlistments none = refl
no-items _ items items' enlistments none = absurd (omega (arith, none))

-- its enlistments owe no more
no-more : (phase : Phase) (items before after : ℕ) → after ≤ before → debt_in phase items after ≤ debt_in phase items before
no-more phase items before after less =
    let was = debt-in phase items before in let is = debt-in phase items after in let all = mul-le-mul_left (of_enlistments phase) less in omega arith

-- ---- courses

-- the recovery information of each enlistment is within the limit
brief : (x : Present) → IsSoundCourse x → (e : Enlistment) → IsIn e x.transactions.enlistments → length e.information ≤ MOST_INFORMATION_BYTES
brief x sound e there = leb-true (length e.information) MOST_INFORMATION_BYTES (list_all-at (λ (e : Enlistment). nat_le (length e.information) MOST_INFORMATION_BYTES) x.transactions.enlistments sound.enlistments.information_fits e there)

module _ (x : Present) (t : Transaction) (caller : Option Enlistment) (input : PhaseInput) (reply : Reply) (sound : IsSoundCourse x) (there : IsIn t x.transactions.items) (may : may_come input t.phase ≡ true)
    (calls : (e : Enlistment) → caller ≡ Some e → IsIn e x.transactions.enlistments)
    (falls : given_by input + enlistments_debt (led input (course_of x t caller)).enlistments t.id ≤ enlistments_debt x.transactions.enlistments t.id) where
  abbrev c : Course
  c = course_of x t caller

  abbrev d : Course
  d = led input c

  abbrev steps : List Step
  steps = row (seen c) input

  abbrev after : Present
  after = apply x (arrived x d reply)

  abbrev changes : ℕ
  changes = sum_by change_size (own_changes x.files.table.own t.id)

  abbrev settings : ℕ
  settings = sum_by setting_size (own_settings x.keys.own t.id)

  comes : IsArrival x d (arrived x d reply)
  comes = arrival x d reply

  fades : Fades c d
  unfolding led
  fades = fades-run steps c

  framed : frame_of d.events ≤ overhead steps + (changes * files_recorded steps + settings * keys_recorded steps + spent steps)
  framed =
      let same = ap frame_of (led-events input c refl) in
      let frame = frame-ahead steps (basis c) in
      let size = ahead-size changes settings steps (basis c) (omega arith) (omega arith) (λ e is. brief x sound e (calls e is))
      (of-superior (λ e. length e.information ≤ MOST_INFORMATION_BYTES) x.transactions.enlistments t.id (λ e at is. brief x sound e at)) in
      omega arith

  -- where it has no outcome, what it changed and set is as it was
  items-kept : is_undecided d.transaction ≡ true → items_debt after d.transaction.id ≡ items_debt x t.id
  items-kept is =
      let own = comes.owned is in
      let same = (stays-led input c).id in
      λ i. sum_by change_size (own_changes (own.0 i) (same i)) + sum_by setting_size (own_settings (own.1 i) (same i))

  own-paid : frame_of d.events + debt_of after d.transaction ≤ debt_of x t
  unfolding led
  own-paid =
      let row-is = row-balance (seen c) input t.phase may in
      let frame = framed in
      let less = row-is.paid changes settings (enlistments_debt x.transactions.enlistments t.id) (enlistments_debt d.enlistments t.id) falls in
      elim (row-leads (seen c) input c) [
        | inl ends ↦
            (let none : debt_of after d.transaction ≡ 0 = ap (λ phase. debt_in phase (items_debt after d.transaction.id) (enlistments_debt after.transactions.enlistments d.transaction.id)) ends in
            omega arith)
        | inr is ↦
            (let enlistments : enlistments_debt after.transactions.enlistments d.transaction.id ≡ enlistments_debt d.enlistments t.id = λ i. enlistments_debt (comes.enlistments i) ((stays-led input c).id i) in
            let now = leads t.phase steps in
            let there-now : debt_of after d.transaction ≡ debt_in now (items_debt after d.transaction.id) (enlistments_debt d.enlistments t.id) = λ i. debt_in (is.0 i) (items_debt after d.transaction.id) (enlistments i) in
            let items : debt_in now (items_debt after d.transaction.id) (enlistments_debt d.enlistments t.id) ≡ debt_in now (items_debt x t.id) (enlistments_debt d.enlistments t.id) = elim row-is.undecided [
              | inl both ↦ ap (λ n. debt_in now n (enlistments_debt d.enlistments t.id)) (items-kept (ap (λ outcome. is_undecided (record t { outcome = outcome })) (is.1 both.0)
                  ∙ undecided-rolls t (voting-rolls t.phase both.1) (list_all-at (λ (u : Transaction). is_outcome_of u.phase u) x.transactions.items sound.transactions.outcomes t there)))
              | inr none ↦ no-items now (items_debt after d.transaction.id) (items_debt x t.id) (enlistments_debt d.enlistments t.id) none
            ] in
            omega arith)
      ]

  others-less : (v : Transaction) → IsIn v x.transactions.items → same_id v.id t.id ≡ false → debt_of after v ≤ debt_of x v
  others-less v at other =
      let differs : same_id v.id d.transaction.id ≡ false = subst (λ id. same_id v.id id ≡ false) (sym (stays-led input c).id) other in
      let items : items_debt after v.id ≡ items_debt x v.id = λ i. sum_by change_size (comes.changes v.id differs i) + sum_by setting_size (comes.settings v.id differs i) in
      let same : debt_of after v ≡ debt_in v.phase (items_debt x v.id) (enlistments_debt d.enlistments v.id) = λ i. debt_in v.phase (items i) (enlistments_debt (comes.enlistments i) v.id) in
      let less = no-more v.phase (items_debt x v.id) _ _ (all-fall x.transactions.enlistments d.enlistments fades.change fades.is fades.each v.id) in
      omega arith

  pub course-paid : Pays x (arrived x d reply)
  unfolding debts
  course-paid = record {
    paid =
        let all = sum-changed (debt_of x) (debt_of after) (frame_of d.events) t d.transaction x.transactions.items sound.transactions.rise there others-less own-paid in
        let items = ap (sum_by (debt_of after)) (comes.items ∙ ap (λ id. change_at x.transactions.items id (λ v. d.transaction)) (stays-led input c).id) in
        let frame = ap frame_of comes.events in
        omega arith;
  }
