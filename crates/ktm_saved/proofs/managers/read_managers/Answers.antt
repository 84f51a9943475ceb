use Rattle.std.proofs.Common.{◌∙◌, ◌++◌, ◌∷◌, [], ◌+◌, length, ap, sym, subst, arith}
use Rattle.ktm_world.specs.Durable.{is_before}
use Rattle.std.proofs.lemmas.List.{length_push}
use Rattle.ktm_base.specs.Grammar.{IsU32}
use Rattle.ktm_codec.specs.Spans.{Spans}
use Rattle.ktm_snapshot.specs.Pieces.{IsFrontOf}
use Rattle.ktm_world.specs.EventGrammar.{IsIdOf}
use Rattle.ktm_saved.proofs.RisingManagers.{added_last, good_list, rising}
use Rattle.ktm_saved.proofs.Lists.{none_good, some_good}
use Rattle.ktm_saved.proofs.managers.read_managers.Goals as goal
use Rattle.ktm_saved.specs.Reading.{are_good_managers}
use Rattle.txf_laws.specs.Elements.{each_pair}

pub returns-in_default : goal.returns-in_default
returns-in_default c = none_good (each_pair is_before) (are_good_managers c.args.boots) IsIdOf _ _ ((good_list c.args.boots c.args.bytes.now c.args.at).no_count c.in_default.ensures)

pub managers-init : goal.managers-init
managers-init c =
    let none = c.new-managers.ensures in
    record {
      front = subst (λ xs. Spans (IsFrontOf (IsU32 c.in-Some.count) IsIdOf xs) c.args.bytes.now c.args.at c.in-Some.start) (sym none) ((good_list c.args.boots c.args.bytes.now c.args.at).begins _ _ c.in-Some.ensures);
      good = ap (are_good_managers c.args.boots) none;
      counted = ap length none;
    }

pub returns-in_default-manager_at : goal.returns-in_default-manager_at
returns-in_default-manager_at c =
    none_good (each_pair is_before) (are_good_managers c.args.boots) IsIdOf _ _
    ((good_list c.args.boots c.args.bytes.now c.args.at).no_item _ c.managers.managers.managers _ c.managers.invariant.front (omega (arith, c.managers.invariant.counted)) c.in_default-manager_at.ensures)

pub returns-then-not-may_follow : goal.returns-then-not-may_follow
returns-then-not-may_follow c =
    let law = good_list c.args.boots c.args.bytes.now c.args.at in
    none_good (each_pair is_before) (are_good_managers c.args.boots) IsIdOf _ _
    (law.falls _ (c.managers.managers.managers ++ c.in-Some-manager_at.manager ∷ []) _ (law.goes_on _ _ _ _ _ c.managers.invariant.front c.in-Some-manager_at.ensures)
    (omega (arith, length_push c.managers.managers.managers c.in-Some-manager_at.manager, c.managers.invariant.counted)) (cc))

pub managers-preserved : goal.managers-preserved
managers-preserved c =
    let law = good_list c.args.boots c.args.bytes.now c.args.at in
    let ids = c.managers.managers.managers in
    let id = c.in-Some-manager_at.manager in
    let good = rw c.as_slice.ensures at (sym c.if-not-may_follow.ensures) in
    let more = c.in_ok-add.ensures.ok ∙ added_last ids id (rising c.args.boots (ids ++ id ∷ []) good) in
    record {
      front = subst (λ xs. Spans (IsFrontOf (IsU32 c.in-Some.count) IsIdOf xs) c.args.bytes.now c.args.at c.in-Some-manager_at.next) (sym more) (law.goes_on _ _ _ _ _ c.managers.invariant.front c.in-Some-manager_at.ensures);
      good = ap (are_good_managers c.args.boots) more ∙ good;
      counted = ap length more ∙ length_push _ _ ∙ ap (λ n. n + 1) c.managers.invariant.counted;
    }

pub returns : goal.returns
returns c =
    let good = c.managers.invariant.good in
    some_good (each_pair is_before) (are_good_managers c.args.boots) IsIdOf _ _ c.managers.managers.managers _
    ((good_list c.args.boots c.args.bytes.now c.args.at).whole _ c.managers.managers.managers _ c.managers.invariant.front (omega (arith, c.managers.invariant.counted)) good)
    (rising c.args.boots c.managers.managers.managers good)
