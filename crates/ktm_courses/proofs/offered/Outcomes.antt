-- Outcomes that are known stay as they are.
use Rattle.std.proofs.Common.{◌≡◌, true, false, List, [], ◌∷◌, ◌++◌, All, None, refl, sym, ◌∙◌, ap, subst, inl, inr}
use Rattle.std.proofs.lemmas.Bool.{cases_Bool, true≢false}
use Rattle.std.proofs.lemmas.List.Elements.{All-nil}
use Rattle.std.proofs.lemmas.Option.{none-some, same_Some}
use Rattle.ktm_world.specs.declared.input.PhaseInput.{PhaseInput}
use Rattle.ktm_world.specs.declared.object.Phase.{Phase}
use Rattle.ktm_world.specs.declared.object.Phase.TheVariants.{Committing, Aborting, Ended}
use Rattle.ktm_world.specs.declared.object.Transaction.{Transaction}
use Rattle.ktm_world.specs.declared.object.TransactionOutcome.{TransactionOutcome}
use Rattle.ktm_world.specs.Enlistments.{Sent}
use Rattle.ktm_world.specs.OneOutcome.{told_outcome}
use Rattle.ktm_world.specs.Phases.{Course}
use Rattle.ktm_world.specs.Steps.{led}
use Rattle.ktm_world.specs.Transactions.{same_id, is_undecided, is_committed, is_aborted}
use Rattle.ktm_steps.specs.Outcomes.{IsKnownIn, MayBe, MayCome, TellsOnly, known}
use Rattle.ktm_steps.proofs.offered.Outcomes.{outcome_law}
use Rattle.txf_laws.specs.Elements.{IsIn}
use Rattle.ktm_courses.specs.Outcomes.{OutcomesStay}
use Rattle.ktm_courses.specs.SoundCourse.{is_outcome_of}
use Rattle.txf_laws.proofs.offered.Lists.{IsIn-left}
use Rattle.txf_laws.proofs.offered.Tables.{same_id-equal}
use Rattle.ktm_courses.proofs.offered.Moves.{same-by_id}
use Rattle.ktm_courses.proofs.offered.Arrivals.{RiseTransactions, changed_to}

pub stay-refl : (ts : List Transaction) → OutcomesStay ts ts
stay-refl ts = record { each = λ t there. (t, there, refl, λ known. refl) }

pub stay-then : (ts us vs : List Transaction) → OutcomesStay ts us → OutcomesStay us vs → OutcomesStay ts vs
stay-then ts us vs first second = record {
  each = λ t there.
      let u = first.each t there in
      let v = second.each u.0 u.1 in
      (v.0, v.1, v.2 ∙ u.2, λ known. v.3 (ap (λ outcome. is_undecided (record t { outcome = outcome })) (u.3 known) ∙ known) ∙ u.3 known);
}

pub stay-push : (ts : List Transaction) (t : Transaction) → OutcomesStay ts (ts ++ t ∷ [])
stay-push ts t = record { each = λ u there. (u, IsIn-left u ts (t ∷ []) there, refl, λ known. refl) }

-- the one that is changed is there
pub changed-itself : (ts : List Transaction) (u v : Transaction) → IsIn v ts → same_id v.id u.id ≡ true → IsIn u (changed_to ts u)
changed-itself [] u v there same = absurd there
changed-itself (a ∷ ts) u v there same = elim (cases_Bool (same_id a.id u.id)) [
  | inl here ↦ rw here (inl refl)
  | inr other ↦ rw other (inr (elim there [
    | inl e ↦ absurd (true≢false (sym same ∙ ap (λ (w : Transaction). same_id w.id u.id) (sym e) ∙ other))
    | inr later ↦ changed-itself ts u v later same
  ]))
]

-- each transaction but the one that is changed is there
changed-other : (ts : List Transaction) (u v : Transaction) → IsIn v ts → same_id v.id u.id ≡ false → IsIn v (changed_to ts u)
changed-other [] u v there differs = absurd there
changed-other (a ∷ ts) u v there differs = elim (cases_Bool (same_id a.id u.id)) [
  | inl here ↦ rw here (elim there [
    | inl e ↦ absurd (true≢false (sym here ∙ ap (λ (w : Transaction). same_id w.id u.id) e ∙ differs))
    | inr later ↦ inr later
  ])
  | inr other ↦ rw other (elim there [ inl e ↦ inl e | inr later ↦ inr (changed-other ts u v later differs) ])
]

pub stay-changed : (ts : List Transaction) (t u : Transaction) → RiseTransactions ts → IsIn t ts → u.id ≡ t.id → (is_undecided t ≡ false → u.outcome ≡ t.outcome) → OutcomesStay ts (changed_to ts u)
stay-changed ts t u rises there same known = record {
  each = λ v is. elim (cases_Bool (same_id v.id u.id)) [
    | inr other ↦ (v, changed-other ts u v is other, refl, λ is_known. refl)
    | inl here ↦
        let id = same_id-equal v.id u.id here in
        let one : t ≡ v = same-by_id (λ (w : Transaction). w.id) ts rises t v there is (sym same ∙ sym id) in
        (u, changed-itself ts u v is here, sym id, subst (λ (w : Transaction). is_undecided w ≡ false → u.outcome ≡ w.outcome) one known)
  ];
}

committed-outcome : (t : Transaction) → is_committed t ≡ true → TransactionOutcome.Committed ≡ t.outcome
committed-outcome t = go t.outcome
  where
    go : (outcome : TransactionOutcome) → is_committed (record t { outcome = outcome }) ≡ true → TransactionOutcome.Committed ≡ outcome
    go TransactionOutcome.Committed is = refl
    go _ is = absurd (true≢false (sym is))

aborted-outcome : (t : Transaction) → is_aborted t ≡ true → TransactionOutcome.Aborted ≡ t.outcome
aborted-outcome t = go t.outcome
  where
    go : (outcome : TransactionOutcome) → is_aborted (record t { outcome = outcome }) ≡ true → TransactionOutcome.Aborted ≡ outcome
    go TransactionOutcome.Aborted is = refl
    go _ is = absurd (true≢false (sym is))

-- where nothing is decided nothing is known
pub none-known : (t : Transaction) → is_undecided t ≡ true → told_outcome t.outcome ≡ None
none-known t = go t.outcome
  where
    go : (outcome : TransactionOutcome) → is_undecided (record t { outcome = outcome }) ≡ true → told_outcome outcome ≡ None
    go TransactionOutcome.Undetermined is = refl
    go _ is = absurd (true≢false (sym is))

-- what the phase tells of the outcome
pub known-in : (phase : Phase) (t : Transaction) → is_outcome_of phase t ≡ true → IsKnownIn phase (told_outcome t.outcome)
known-in Committing t is = ap told_outcome (sym (committed-outcome t is))
known-in Aborting t is = ap told_outcome (sym (aborted-outcome t is))
known-in Ended t is = tt
known-in _ t is = none-known t is

-- an outcome that is known stays, by what may come
pub stays-known : (input : PhaseInput) (c : Course) → c.sent ≡ [] → MayCome (known c) c.transaction.phase input → is_undecided c.transaction ≡ false → (led input c).transaction.outcome ≡ c.transaction.outcome
stays-known input c silent may is =
    same c.transaction.outcome (led input c).transaction.outcome is (outcome_law.rows input c may (subst (All (λ (s : Sent). TellsOnly (known c) s.note.kind)) (sym silent) (All-nil (λ (s : Sent). TellsOnly (known c) s.note.kind)))).stays
  where
    same : (a b : TransactionOutcome) → is_undecided (record c.transaction { outcome = a }) ≡ false → MayBe (told_outcome a) (told_outcome b) → b ≡ a
    same TransactionOutcome.Undetermined b is may = absurd (true≢false is)
    same TransactionOutcome.Committed b is (inl none) = absurd (none-some true (sym none))
    same TransactionOutcome.Committed TransactionOutcome.Committed is (inr told) = refl
    same TransactionOutcome.Committed TransactionOutcome.Aborted is (inr told) = absurd (true≢false (same_Some true false told))
    same TransactionOutcome.Committed TransactionOutcome.Undetermined is (inr told) = absurd (none-some true (sym told))
    same TransactionOutcome.Aborted b is (inl none) = absurd (none-some false (sym none))
    same TransactionOutcome.Aborted TransactionOutcome.Aborted is (inr told) = refl
    same TransactionOutcome.Aborted TransactionOutcome.Committed is (inr told) = absurd (true≢false (sym (same_Some false true told)))
    same TransactionOutcome.Aborted TransactionOutcome.Undetermined is (inr told) = absurd (none-some false (sym told))
