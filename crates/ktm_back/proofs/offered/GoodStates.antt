-- What a good state has can be brought back in the next boot.
use Rattle.std.proofs.Common.{◌≡◌, ◌+◌, not, Bool, true, nat_le, refl, sym, ◌∙◌, ap, arith}
use Rattle.std.specs.List.{list_all, flat_map}
use Rattle.std.proofs.lemmas.Bool.{and_parts, leb-true, lt-ltb}
use Rattle.ktm_base.specs.declared.id.Id.{Id}
use Rattle.ktm_world.specs.declared.recorded.Superior.{Superior}
use Rattle.ktm_world.specs.Durable.{Durable, Recorded, enlistments_of, is_manager}
use Rattle.ktm_world.specs.Enlistments.{Enlistment}
use Rattle.ktm_world.specs.Transactions.{same_id}
use Rattle.ktm_world.specs.World.{back, enlistments_back, is_brought_back}
use Rattle.txf_laws.specs.Elements.{each_pair}
use Rattle.txf_laws.proofs.offered.Elements.{IsIn-filter, IsIn-flat_map, IsIn-unflat, each_pair-flat_kept, list_all-at, list_all-from}
use Rattle.txf_laws.specs.GoodState.{IsGoodState, enlisted, is_drawn, is_of_object}
use Rattle.ktm_courses.proofs.offered.EnlistmentOrder.{differ_in_id, ids-back, map-flat}
use Rattle.ktm_courses.proofs.offered.SoundRestarts.{is-back, recorded_as}
use Rattle.ktm_courses.proofs.offered.Views.{each_pair-map}
use Rattle.ktm_back.specs.Bringing.{CanComeBack, is_of_earlier}
use Rattle.ktm_back.specs.Coming.{enlistments_coming}

-- what was drawn in a boot that there was is of an earlier one than the next
drawn-earlier : (s : Durable) (id : Id) → is_drawn s id ≡ true → is_of_earlier (s.boots + 1) id ≡ true
drawn-earlier s id drawn = let boot = leb-true _ _ (and_parts (is_of_object id) (nat_le id.boot s.boots) drawn).1 in lt-ltb id.boot (s.boots + 1) (omega (arith, boot))

-- what is so of each enlistment that was recorded is so of those that come back
enlisted-fact : (s : Durable) (test : Superior → Bool) → list_all test (flat_map enlisted s.transactions) ≡ true → list_all (λ (e : Enlistment). test (recorded_as e)) (enlistments_coming s.transactions) ≡ true
enlisted-fact s test all = list_all-from (λ (e : Enlistment). test (recorded_as e)) (enlistments_coming s.transactions) (λ e there.
    let at = IsIn-unflat enlistments_back (back s) e there in
    let kept = IsIn-filter is_brought_back s.transactions at.0 at.1 in
    list_all-at test (flat_map enlisted s.transactions) all (recorded_as e) (IsIn-flat_map enlisted s.transactions at.0 (recorded_as e) kept.0 (is-back at.0 e at.2).enlisted))

-- no enlistment comes back twice
differ : (s : Durable) → IsGoodState s → each_pair differ_in_id (enlistments_coming s.transactions) ≡ true
differ s good =
    sym (each_pair-map (λ a b. not (same_id a b)) differ_in_id (λ (e : Enlistment). e.id) (λ e f. refl) (enlistments_coming s.transactions))
    ∙ ap (each_pair (λ a b. not (same_id a b))) (map-flat (λ (e : Enlistment). e.id) enlistments_back enlistments_of ids-back (back s))
    ∙ each_pair-flat_kept (λ a b. not (same_id a b)) enlistments_of is_brought_back s.transactions good.enlistments_differ

pub good-comes-back : (s : Durable) → IsGoodState s → CanComeBack (s.boots + 1) s.managers s.transactions
good-comes-back s good = record {
  managers_rise = good.managers_rise;
  managers_earlier = list_all-from (is_of_earlier (s.boots + 1)) s.managers (λ id there. drawn-earlier s id (list_all-at (is_drawn s) s.managers good.managers_drawn id there));
  transactions_rise = good.transactions_rise;
  transactions_earlier = list_all-from (λ (t : Recorded). is_of_earlier (s.boots + 1) t.id) s.transactions
      (λ t there. drawn-earlier s t.id (list_all-at (λ (u : Recorded). is_drawn s u.id) s.transactions good.transactions_drawn t there));
  enlistments_differ = differ s good;
  enlistments_earlier = list_all-from (λ (e : Enlistment). is_of_earlier (s.boots + 1) e.id) (enlistments_coming s.transactions)
      (λ e there. drawn-earlier s e.id (list_all-at (λ (f : Enlistment). is_drawn s f.id) (enlistments_coming s.transactions) (enlisted-fact s (λ (f : Superior). is_drawn s f.enlistment) good.enlistments_drawn) e there));
  managers_there = enlisted-fact s (λ (e : Superior). is_manager s e.manager) good.managers_there;
}
