-- What enlistments owe falls as they go on.
use Rattle.std.specs.Prelude.{if◌then◌else◌}
use Rattle.std.proofs.Common.{◌≡◌, ℕ, ◌+◌, ◌≤◌, ◌||◌, Bool, true, false, List, map, sum_by, refl, sym, ◌∙◌, ap, arith, subst}
use Rattle.std.proofs.lemmas.Bool.{true≢false}
use Rattle.ktm_base.specs.declared.id.Id.{Id}
use Rattle.ktm_world.specs.declared.step.Step.{Step}
use Rattle.ktm_world.specs.Enlistments.{Enlistment, has_id, is_superior}
use Rattle.ktm_world.specs.Phases.{Course, changing_one}
use Rattle.ktm_world.specs.Steps.{run}
use Rattle.ktm_world.specs.Transactions.{same_id}
use Rattle.txf_laws.specs.Elements.{IsIn}
use Rattle.txf_laws.proofs.offered.Sums.{sum-less, sum-map-by}
use Rattle.txf_laws.proofs.offered.Tables.{same_id-equal, same_id-from}
use Rattle.ktm_steps.specs.Fading.{GoesOn}
use Rattle.ktm_steps.proofs.offered.Fading.{fades-run}
use Rattle.ktm_steps.proofs.offered.Ways.{if_cases}
use Rattle.ktm_courses.proofs.offered.EnlistmentAnswers.{RiseEnlistments}
use Rattle.ktm_courses.proofs.offered.Moves.{same-by_id}
use Rattle.ktm_debts.specs.Debts.{enlistment_debt, enlistments_debt}
use Rattle.ktm_debts.proofs.TransactionSums.{sum-falls, sum-filter}

-- ---- one enlistment

-- by what counts of it: is it a superior, read-only, finished and prepared
abbrev pub by_parts : Bool → Bool → Bool → Bool → ℕ
by_parts above read finished prepared = if above || read || finished then 0 else if prepared then 32 else 256

parts-less : (above read finished prepared read' finished' prepared' : Bool) → (read ≡ true → read' ≡ true) → (finished ≡ true → finished' ≡ true) → (prepared ≡ true → prepared' ≡ true)
    → by_parts above read' finished' prepared' ≤ by_parts above read finished prepared
parts-less true read finished prepared read' finished' prepared' a b c = omega arith
parts-less false read finished prepared true finished' prepared' a b c = omega arith
parts-less false read finished prepared false true prepared' a b c = omega arith
parts-less false true finished prepared false false prepared' a b c = absurd (true≢false (sym (a refl)))
parts-less false false true prepared false false prepared' a b c = absurd (true≢false (sym (b refl)))
parts-less false false false true false false false a b c = absurd (true≢false (sym (c refl)))
parts-less false false false true false false true a b c = omega arith
parts-less false false false false false false true a b c = omega arith
parts-less false false false false false false false a b c = omega arith

debt-falls : (e f : Enlistment) → GoesOn e f → enlistment_debt f ≤ enlistment_debt e
debt-falls e f goes = subst (λ above. by_parts above f.is_read_only f.is_finished f.is_prepared ≤ enlistment_debt e) (sym (ap is_superior goes.lasts))
    (parts-less (is_superior e) e.is_read_only e.is_finished e.is_prepared f.is_read_only f.is_finished f.is_prepared goes.read_only goes.finished goes.prepared)

-- ---- those of a transaction

-- what an enlistment owes, where it is of the transaction
abbrev pub share_in : Id → Enlistment → ℕ
share_in id e = if same_id e.transaction id then enlistment_debt e else 0

pub shares : (es : List Enlistment) (id : Id) → enlistments_debt es id ≡ sum_by (share_in id) es
shares es id = sum-filter enlistment_debt (λ e. same_id e.transaction id) es

share-falls : (id : Id) (e f : Enlistment) → GoesOn e f → share_in id f ≤ share_in id e
share-falls id e f goes =
    let same : share_in id f ≡ (if same_id e.transaction id then enlistment_debt f else 0) = λ i. if same_id (goes.lasts i).transaction id then enlistment_debt f else 0 in
    let less = debt-falls e f goes in
    let one : (if same_id e.transaction id then enlistment_debt f else 0) ≤ share_in id e = go (same_id e.transaction id) less in
    omega arith
  where
    go : (is : Bool) → enlistment_debt f ≤ enlistment_debt e → (if is then enlistment_debt f else 0) ≤ (if is then enlistment_debt e else 0)
    go true less = less
    go false less = omega arith

-- they owe no more as they go on
pub all-fall : (es fs : List Enlistment) (change : Enlistment → Enlistment) → fs ≡ map change es → ((e : Enlistment) → GoesOn e (change e)) → (id : Id) → enlistments_debt fs id ≤ enlistments_debt es id
all-fall es fs change is each id =
    let before = shares es id in
    let after = shares fs id in
    let moved = ap (sum_by (share_in id)) is in
    let by_each = sum-map-by (share_in id) change es in
    let less = sum-less (λ e. share_in id (change e)) (share_in id) es (λ e there. share-falls id e (change e) (each e)) in
    omega arith

-- ---- an answer

-- where one answers and owes so much less by that, they owe so much less, whatever follows
module _ (c : Course) (e : Enlistment) (f : Enlistment → Enlistment) (given : ℕ) (rise : RiseEnlistments c.enlistments) (there : IsIn e c.enlistments) (own : same_id e.transaction c.transaction.id ≡ true)
    (moved : (f e).transaction ≡ e.transaction) (less : given + enlistment_debt (f e) ≤ enlistment_debt e) where
  abbrev own_id : Id
  own_id = c.transaction.id

  abbrev step : Enlistment → Enlistment
  step g = if has_id e.id g then f g else g

  answers-less : given + share_in own_id (f e) ≤ share_in own_id e
  answers-less =
      let after : share_in own_id (f e) ≡ enlistment_debt (f e) = ap (λ id. if same_id id own_id then enlistment_debt (f e) else 0) moved ∙ ap (λ is. if is then enlistment_debt (f e) else 0) own in
      let before : share_in own_id e ≡ enlistment_debt e = ap (λ is. if is then enlistment_debt e else 0) own in
      omega arith

  itself-less : given + share_in own_id (step e) ≤ share_in own_id e
  itself-less =
      let is : share_in own_id (step e) ≡ share_in own_id (f e) = ap (λ is. share_in own_id (if is then f e else e)) (same_id-from e.id e.id refl) in
      let one = answers-less in
      omega arith

  each-less : (g : Enlistment) → IsIn g c.enlistments → share_in own_id (step g) ≤ share_in own_id g
  each-less g at = if_cases (λ h. share_in own_id h ≤ share_in own_id g) (has_id e.id g) (f g) g
      (λ is. subst (λ h. share_in own_id (f h) ≤ share_in own_id h) (same-by_id (λ (h : Enlistment). h.id) c.enlistments rise e g there at (sym (same_id-equal g.id e.id is))) (let one = answers-less in omega arith))
      (λ other. omega arith)

  pub answer-falls : (steps : List Step) → given + enlistments_debt (run steps (changing_one c e.id f)).enlistments own_id ≤ enlistments_debt c.enlistments own_id
  answer-falls steps =
      let d = changing_one c e.id f in
      let fades = fades-run steps d in
      let later = all-fall d.enlistments (run steps d).enlistments fades.change fades.is fades.each own_id in
      let after = shares d.enlistments own_id in
      let before = shares c.enlistments own_id in
      let by_each = sum-map-by (share_in own_id) step c.enlistments in
      let falls = sum-falls (share_in own_id) (λ g. share_in own_id (step g)) given c.enlistments e there each-less itself-less in
      omega arith
