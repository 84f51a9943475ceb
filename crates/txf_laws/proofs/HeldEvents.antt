-- The event by which a transaction waits for its superior.
use Rattle.std.proofs.Common.{◌≡◌, ℕ, ◌+◌, ◌<◌, ◌^◌, ◌&&◌, not, true, false, List, [], ◌∷◌, Some, refl, sym, ◌∙◌, ap, subst, arith, inl, inr}
use Rattle.std.proofs.lemmas.Bool.{and_parts, and_from, or_cases, or_left, not-true, not_from_false, true≢false}
use Rattle.std.specs.List.{list_all}
use Rattle.ktm_base.specs.declared.id.Id.{Id}
use Rattle.ktm_world.specs.declared.recorded.RecordedPart.{RecordedPart}
use Rattle.ktm_world.specs.declared.recorded.Stage.{Stage}
use Rattle.ktm_world.specs.declared.recorded.Superior.{Superior}
use Rattle.ktm_world.specs.declared.event.Event.TheVariants.{Held}
use Rattle.ktm_world.specs.Durable.{Durable, Recorded, is_decided, is_sole, is_new_enlistment, enlistments_in, enlistments_of, superior_ids, may_get_ready, recorded_or_new, with_recorded, fact_of, is_within_limits}
use Rattle.ktm_world.specs.Transactions.{same_id}
use Rattle.txf_laws.specs.Elements.{IsIn}
use Rattle.txf_laws.specs.GoodState.{is_of_object, enlisted_in, superiors_in, is_done_well, IsGoodState}
use Rattle.txf_laws.proofs.offered.Diamonds.{IsIn-right}
use Rattle.txf_laws.proofs.offered.Elements.{list_all-at, list_all-from, each_pair-right}
use Rattle.txf_laws.proofs.offered.Parts.{gathered}
use Rattle.txf_laws.proofs.offered.Tables.{same_id-sym, Table-with}
use Rattle.txf_laws.proofs.offered.GoodTransactions.{differ, IsEnlisted, Core, Fitting, Beside, Beside-sym, good-from, table-of, rest-of}
use Rattle.txf_laws.proofs.ChangedStates.{limits-counted, with_all, Rest-transactions, Fitting-carried, Beside-carried}
use Rattle.txf_laws.proofs.StateEvents.{Keeps}
use Rattle.txf_laws.proofs.ReadyEvents.{Begun, begun, new-enlistment, new-enlisted, kept_changes-same, kept_settings-same}

-- a part that is not done is done well, whatever its transaction is
pub undone : (t : Recorded) (p : RecordedPart) → is_decided t.stage ≡ false → is_done_well t p ≡ true → p.is_done ≡ false
undone t p waiting well = elim (or_cases (not p.is_done) (is_decided t.stage && is_sole p.part) well) [
  | inl open' ↦ not-true _ open'
  | inr both ↦ absurd (true≢false (sym (and_parts (is_decided t.stage) (is_sole p.part) both).0 ∙ waiting))
]

-- ---- a transaction waits for its superior

-- the transaction with a superior
abbrev held_by : Recorded → Superior → Recorded
held_by t e = record t { stage = Stage.Held; superior = Some e }

module _ (s : Durable) (id : Id) (t : Recorded) (start : Begun s id t) (e : Superior) (counted : is_of_object e.enlistment ≡ true)
    (is_new : is_new_enlistment s e.enlistment e.manager e.information ≡ true) where
  abbrev s_held : Durable
  s_held = with_all s s.tree s.keys s.next_node (with_recorded s.transactions (held_by t e)) (s.events + 1)

  waiting : is_decided t.stage ≡ false
  waiting = ap is_decided start.stage

  Core-held : Core s_held (held_by t e)
  Core-held = record {
    drawn = start.core.drawn;
    enlistments = λ e' there. let is = one e' there in record { drawn = is.drawn; manager = is.manager; information = is.information };
    differ = and_from _ _
        (list_all-from (differ e.enlistment) (gathered enlistments_in t.parts) (λ a there.
        let of = start.whose a (IsIn-right a (superior_ids t.superior) (gathered enlistments_in t.parts) there) in
        not_from_false _ (same_id-sym a e.enlistment (new-enlistment s e.enlistment e.manager e.information is_new of.0 of.1 a of.2))))
        (each_pair-right differ (superior_ids t.superior) (gathered enlistments_in t.parts) start.core.differ);
    parts = start.core.parts;
    held = refl;
    decided = refl;
    done = list_all-from (is_done_well (held_by t e)) t.parts (λ p there. or_left _ _ (not_from_false _ (undone t p waiting (list_all-at (is_done_well t) t.parts start.core.done p there))));
    changes = sym (kept_changes-same t (held_by t e) waiting refl refl) ∙ start.core.changes;
    apply = start.core.apply;
    made = start.core.made;
    new = start.core.new;
    puts = start.core.puts;
    settings = sym (kept_settings-same t (held_by t e) waiting refl refl) ∙ start.core.settings;
  }
    where
      one : (e' : Superior) → IsIn e' (e ∷ gathered enlisted_in t.parts) → IsEnlisted s e'
      one e' (inl is) = subst (IsEnlisted s) is (new-enlisted s e counted is_new)
      one e' (inr old) = start.core.enlistments e' (IsIn-right e' (superiors_in t.superior) (gathered enlisted_in t.parts) old)

  Beside-held : (u : Recorded) → IsIn u s.transactions → (u.id ≡ id → ⊥) → Beside s_held (held_by t e) u
  Beside-held u there other = record {
    enlistments = λ a b has has'. one a b has has';
    files = λ waits waits'. (start.beside u there other).files waiting waits';
    keys = λ waits waits'. (start.beside u there other).keys waiting waits';
  }
    where
      one : (a b : Id) → IsIn a (e.enlistment ∷ gathered enlistments_in t.parts) → IsIn b (enlistments_of u) → same_id a b ≡ false
      one a b (inl is) has' = subst (λ (x : Id). same_id x b ≡ false) is (same_id-sym b e.enlistment (new-enlistment s e.enlistment e.manager e.information is_new u there b has'))
      one a b (inr old) has' = (start.beside u there other).enlistments a b (IsIn-right a (superior_ids t.superior) (gathered enlistments_in t.parts) old) has'

  held-good : IsGoodState s → is_within_limits s_held ≡ true → s.events + 1 < 2 ^ 63 → IsGoodState s_held
  held-good good limits few = good-from s_held (Table-with (Fitting s) (Beside s) (Fitting s_held) (Beside s_held) s.transactions (held_by t e) (table-of s good)
      (λ u there other fits. Fitting-carried s s_held u refl (λ m is. is) (omega arith) fits.core.apply fits.core.new fits)
      (λ u v there there' other other' sides. Beside-carried s s_held u v refl sides)
      (record { core = Core-held; ready = refl })
      (λ u there other. let sides = Beside-held u there (λ e'. other (e' ∙ sym start.is)) in (sides, Beside-sym s_held (held_by t e) u sides)))
      (Rest-transactions s (with_recorded s.transactions (held_by t e)) (s.events + 1) (rest-of s good) limits few)

pub held-keeps : (s : Durable) (transaction enlistment manager : Id) (information : List ℕ) → Keeps s (Held transaction enlistment manager information)
held-keeps s transaction enlistment manager information good spelled applies limits few =
    let parts = and_parts (may_get_ready s transaction) (is_new_enlistment s enlistment manager information) applies in
    let counted = and_parts (is_of_object transaction) (list_all is_of_object (enlistment ∷ manager ∷ [])) (and_parts (list_all is_of_object (transaction ∷ enlistment ∷ manager ∷ [])) true spelled).0 in
    held-good s transaction (recorded_or_new s.transactions transaction) (begun s transaction good counted.0 parts.0) (record { enlistment = enlistment; manager = manager; information = information })
    (and_parts (is_of_object enlistment) (list_all is_of_object (manager ∷ [])) counted.1).0 parts.1 good
    (limits-counted (fact_of s (Held transaction enlistment manager information)) (s.events + 1) limits) few
