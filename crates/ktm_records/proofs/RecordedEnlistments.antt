-- What was recorded of a transaction, and of an enlistment, where it agrees with what is so now.
use Rattle.std.specs.Prelude.{if◌then◌else◌}
use Rattle.std.proofs.Common.{◌≡◌, ◌&&◌, not, Bool, true, false, [], ◌∷◌, filter, length, nat_le, Option, Some, None, refl, sym, ◌∙◌, ap, subst, inl, inr, ◌⊎◌}
use Rattle.std.proofs.lemmas.Bool.{and_from, and_parts, eq-eqb, not_from_false, false_from_ne_true}
use Rattle.std.proofs.lemmas.Option.{same_Some}
use Rattle.std.specs.List.{flat_map, list_any}
use Rattle.ktm_base.specs.declared.limits.TheConstants.{MOST_INFORMATION_BYTES}
use Rattle.ktm_base.specs.declared.id.Id.{Id}
use Rattle.ktm_world.specs.declared.event.Part.{Part}
use Rattle.ktm_world.specs.declared.event.Part.TheVariants.{Enlistment as EnlistmentPart, Changes, Settings}
use Rattle.ktm_world.specs.declared.object.Transaction.{Transaction}
use Rattle.ktm_world.specs.declared.recorded.RecordedPart.{RecordedPart}
use Rattle.ktm_world.specs.declared.recorded.Stage.{Stage}
use Rattle.ktm_world.specs.Durable.{Recorded, enlistments_in, enlistments_of, is_manager, is_new_enlistment, is_ready, superior_ids}
use Rattle.ktm_world.specs.Enlistments.{Enlistment, Manager, is_durable_at, is_superior, superior_of, takes_part}
use Rattle.ktm_world.specs.Lawful.{Agrees, Summary, brought_back, stage_in, stays, summary_in, summary_now, summary_of, superior_now}
use Rattle.ktm_world.specs.Present.{Present}
use Rattle.ktm_world.specs.Transactions.{same_id}
use Rattle.ktm_world.specs.World.{enlistment_back}
use Rattle.txf_laws.specs.Elements.{IsIn}
use Rattle.ktm_courses.specs.SoundCourse.{IsSoundCourse}
use Rattle.ktm_records.proofs.offered.Agreement.{durable_ids, summaries}
use Rattle.txf_laws.proofs.offered.Diamonds.{none-from}
use Rattle.txf_laws.proofs.offered.Elements.{IsIn-filter, IsIn-flat_map, IsIn-kept, IsIn-unflat, list_all-at, list_any-at, list_any-from}
use Rattle.txf_laws.proofs.offered.Lists.{IsIn-cases, IsIn-unmap}
use Rattle.ktm_courses.proofs.offered.Moves.{IsIn-map, find-found, same-by_id}
use Rattle.ktm_courses.proofs.offered.EnlistmentOrder.{IsIn-into_rising, IsIn-rising}
use Rattle.txf_laws.proofs.offered.Tables.{same_id-equal}

-- ---- a transaction

-- a recorded transaction is one of those of which the log has to have something, at its stage
pub record IsNow (x : Present) (r : Recorded) : Type 0 where
  pub u : Transaction
  pub there : IsIn u x.transactions.items
  pub recorded : u.is_recorded ≡ true
  pub stage : Stage
  pub stands : stage_in u.phase ≡ Some stage
  pub is : summary_now x u stage ≡ summary_of r

is-now : (x : Present) → Agrees x → (r : Recorded) → IsIn r x.recorded.transactions → IsNow x r
is-now x agrees r in_record =
    let from = IsIn-unflat (summaries x) x.transactions.items (summary_of r) (subst (IsIn (summary_of r)) agrees.transactions (IsIn-map summary_of r x.recorded.transactions in_record)) in
    go from.0 from.1 from.0.is_recorded refl (stage_in from.0.phase) refl from.2
  where
    go : (u : Transaction) → IsIn u x.transactions.items → (b : Bool) → u.is_recorded ≡ b → (o : Option Stage) → stage_in u.phase ≡ o → IsIn (summary_of r) (if b then summary_in x u o else []) → IsNow x r
    go u there false other o stands none = absurd none
    go u there true recorded None stands none = absurd none
    go u there true recorded (Some stage) stands has = elim (IsIn-filter stays (summary_now x u stage ∷ []) (summary_of r) has).0 [
      | inl is ↦ record { u = u; there = there; recorded = recorded; stage = stage; stands = stands; is = is }
      | inr none ↦ absurd none
    ]

module _ (x : Present) (sound : IsSoundCourse x) (agrees : Agrees x) (t : Transaction) (there : IsIn t x.transactions.items) where
  -- what was recorded of it is what the log has to have of it at its stage
  pub recalled-as : (stage : Stage) → stage_in t.phase ≡ Some stage → (r : Recorded) → IsIn r x.recorded.transactions → r.id ≡ t.id → (t.is_recorded ≡ true) × (summary_of r ≡ summary_now x t stage)
  recalled-as stage stands r in_record same =
      let now = is-now x agrees r in_record in
      let one : now.u ≡ t = same-by_id (λ (u : Transaction). u.id) x.transactions.items sound.transactions.rise now.u t now.there there (ap (λ (s : Summary). s.id) now.is ∙ same) in (
        subst (λ (u : Transaction). u.is_recorded ≡ true) one now.recorded,
        sym now.is ∙ (λ i. summary_now x (one i) now.stage) ∙ ap (summary_now x t) (same_Some now.stage stage (sym now.stands ∙ ap (λ (u : Transaction). stage_in u.phase) one ∙ stands)),
      )

  -- what the log has to have of the transaction was recorded
  pub recalled-of : (s : Summary) → IsIn s (summaries x t) → (r : Recorded) × (summary_of r ≡ s) × IsIn r x.recorded.transactions
  recalled-of s has = IsIn-unmap summary_of s x.recorded.transactions (subst (IsIn s) (sym agrees.transactions) (IsIn-flat_map (summaries x) x.transactions.items t s there has))

-- what the log has to have of it at a stage
pub summaries-at : (x : Present) (t : Transaction) (stage : Stage) → t.is_recorded ≡ true → stage_in t.phase ≡ Some stage → stays (summary_now x t stage) ≡ true → summaries x t ≡ summary_now x t stage ∷ []
summaries-at x t stage recorded is stays' = rw recorded (ap (summary_in x t) is ∙ rw stays' refl)

-- ---- an enlistment

-- it is there: it takes part and is prepared, or it is the superior of one that is no more ready
pub record Known (x : Present) (r : Recorded) (a : Id) : Type 0 where
  pub e : Enlistment
  pub there : IsIn e x.transactions.enlistments
  pub is : e.id ≡ a
  pub own : same_id e.transaction r.id ≡ true
  pub how : ((takes_part r.id e ≡ true) × (e.is_prepared ≡ true)) ⊎ ((is_superior e ≡ true) × (is_ready r.stage ≡ false))

-- the enlistment of a part is brought back by it
part-back : (id : Id) (p : RecordedPart) (a : Id) → IsIn a (enlistments_in p.part) → (e : Enlistment) × IsIn e (enlistment_back id p) × (e.id ≡ a)
part-back id p a = go p.part
  where
    go : (part : Part) → IsIn a (enlistments_in part) → (e : Enlistment) × IsIn e (enlistment_back id (record p { part = part })) × (e.id ≡ a)
    go (EnlistmentPart enlistment manager information) (inl is) = (_, inl refl, is)
    go (EnlistmentPart enlistment manager information) (inr none) = absurd none
    go (Changes cs) none = absurd none
    go (Settings ss) none = absurd none

module _ (x : Present) (agrees : Agrees x) (r : Recorded) (in_record : IsIn r x.recorded.transactions) where
  by-stage : (u : Transaction) (stage : Stage) → summary_now x u stage ≡ summary_of r → (a : Id) → IsIn a (enlistments_of r) → Known x r a
  by-stage u stage is a has = elim (IsIn-cases a (superior_ids r.superior) (flat_map (λ p. enlistments_in p.part) r.parts) has) [
    | inl above ↦ go (is_ready stage) refl (ap (λ (s : Summary). s.superior) is) above
    | inr below ↦
        let p = IsIn-unflat (λ (p : RecordedPart). enlistments_in p.part) r.parts a below in
        let back = part-back r.id p.0 a p.2 in
        let all = IsIn-into_rising (flat_map (enlistment_back r.id) r.parts) back.0 (IsIn-flat_map (enlistment_back r.id) r.parts p.0 back.0 p.1 back.1) in
        let now = IsIn-rising _ back.0 (subst (IsIn back.0) (ap (λ (s : Summary). s.enlistments) (sym is)) all) in
        let from = IsIn-unmap brought_back back.0 _ now in
        let kept = IsIn-filter (λ e. takes_part u.id e && is_durable_at x.managers e.manager && e.is_prepared && not e.is_finished) x.transactions.enlistments from.0 from.2 in
        let prepared = and_parts (takes_part u.id from.0 && is_durable_at x.managers from.0.manager) from.0.is_prepared (and_parts _ (not from.0.is_finished) kept.1).0 in
        let part = (and_parts (takes_part u.id from.0) _ prepared.0).0 in
        let ordinary = and_parts (same_id from.0.transaction u.id && not (is_superior from.0)) (not from.0.is_read_only) part in
        record {
          e = from.0;
          there = kept.0;
          is = ap (λ (e : Enlistment). e.id) from.1 ∙ back.2;
          own = subst (λ i. same_id from.0.transaction i ≡ true) same (and_parts (same_id from.0.transaction u.id) _ ordinary.0).0;
          how = inl (subst (λ i. takes_part i from.0 ≡ true) same part, prepared.1);
        }
  ]
    where
      same : u.id ≡ r.id
      same = ap (λ (s : Summary). s.id) is

      above-of : (o : Option Enlistment) → superior_of x.transactions.enlistments u.id ≡ o → is_ready stage ≡ false → superior_now o ≡ r.superior → IsIn a (superior_ids r.superior) → Known x r a
      above-of None found later at has' = absurd (subst (λ o. IsIn a (superior_ids o)) (sym at) has')
      above-of (Some e) found later at has' =
          let in_es = find-found _ x.transactions.enlistments e found in
          let both = and_parts (same_id e.transaction u.id) (is_superior e) in_es.1 in
          record {
            e = e;
            there = in_es.0;
            is = elim (subst (λ o. IsIn a (superior_ids o)) (sym at) has') [ inl is' ↦ is' | inr none ↦ absurd none ];
            own = subst (λ i. same_id e.transaction i ≡ true) same both.0;
            how = inr (both.1, ap is_ready (sym (ap (λ (s : Summary). s.stage) is)) ∙ later);
          }

      go : (b : Bool) → is_ready stage ≡ b → (if b then None else superior_now (superior_of x.transactions.enlistments u.id)) ≡ r.superior → IsIn a (superior_ids r.superior) → Known x r a
      go true ready at has' = absurd (subst (λ o. IsIn a (superior_ids o)) (sym at) has')
      go false later at has' = above-of (superior_of x.transactions.enlistments u.id) refl later at has'

  pub known : (a : Id) → IsIn a (enlistments_of r) → Known x r a
  known = let now = is-now x agrees r in_record in by-stage now.u now.stage now.is

-- a durable resource manager was recorded
pub manager-recorded : (x : Present) → Agrees x → (id : Id) → is_durable_at x.managers id ≡ true → is_manager x.recorded id ≡ true
manager-recorded x agrees id durable =
    let m = list_any-at (λ (m : Manager). same_id m.id id && m.is_durable) x.managers durable in
    let both = and_parts (same_id m.0.id id) m.0.is_durable m.2 in
    ap (list_any (λ other. same_id other id)) agrees.managers
    ∙ list_any-from (λ other. same_id other id) (durable_ids x.managers) m.0.id (IsIn-map (λ (m : Manager). m.id) m.0 (filter (λ (m : Manager). m.is_durable) x.managers) (IsIn-kept (λ (m : Manager). m.is_durable) x.managers m.0 m.1 both.1)) both.0

-- an enlistment of this boot is new to the log where no part is its, nor is it a superior that waits
pub new-in-record : (x : Present) → IsSoundCourse x → Agrees x → (e : Enlistment) → IsIn e x.transactions.enlistments → e.id.boot ≡ x.recorded.boots → is_durable_at x.managers e.manager ≡ true
    → ((r : Recorded) → IsIn r x.recorded.transactions → same_id e.transaction r.id ≡ true → ((takes_part r.id e ≡ true) × (e.is_prepared ≡ true)) ⊎ ((is_superior e ≡ true) × (is_ready r.stage ≡ false)) → ⊥)
    → is_new_enlistment x.recorded e.id e.manager e.information ≡ true
new-in-record x sound agrees e there boot durable none = and_from _ _ (and_from _ _ (and_from _ _ (eq-eqb _ _ boot) (not_from_false _
    (none-from (λ t. list_any (λ other. same_id other e.id) (enlistments_of t)) x.recorded.transactions (λ r in_record. none-from (λ other. same_id other e.id) (enlistments_of r) (λ a has. false_from_ne_true _ (λ same.
    let k = known x agrees r in_record a has in
    let one : k.e ≡ e = same-by_id (λ (f : Enlistment). f.id) x.transactions.enlistments sound.enlistments.rise k.e e k.there there (k.is ∙ same_id-equal a e.id same) in
    none r in_record (subst (λ (f : Enlistment). same_id f.transaction r.id ≡ true) one k.own)
    (subst (λ (f : Enlistment). ((takes_part r.id f ≡ true) × (f.is_prepared ≡ true)) ⊎ ((is_superior f ≡ true) × (is_ready r.stage ≡ false))) one k.how))))))) (manager-recorded x agrees e.manager durable))
    (list_all-at (λ (f : Enlistment). nat_le (length f.information) MOST_INFORMATION_BYTES) x.transactions.enlistments sound.enlistments.information_fits e there)
