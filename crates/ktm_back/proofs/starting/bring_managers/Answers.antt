use Rattle.std.proofs.Common.{◌∙◌, ◌+◌, ◌++◌, List, ap, drop, map, refl, sym}
use Rattle.ktm_base.specs.declared.id.Id.{Id}
use Rattle.ktm_world.specs.Durable.{is_before}
use Rattle.ktm_world.specs.Enlistments.{Manager}
use Rattle.ktm_courses.proofs.offered.Views.{each_pair-map}
use Rattle.ktm_back.specs.Bringing.{manager_back}
use Rattle.ktm_back.proofs.Behind.{behind, left-from}
use Rattle.ktm_back.proofs.starting.bring_managers.Goals as goal

pub bring_back_manager-requires-clause-behind : goal.bring_back_manager-requires-clause-behind
bring_back_manager-requires-clause-behind c =
    let ids = c.args.managers.now in
    let there = c.loop-id.tm.managers in
    let i = c.loop-id.id-index in
    rw c.in_ok-reserve_manager.ensures.now.managers
    (behind (λ (m : Manager). m.id) (map manager_back ids) there (map manager_back (drop (i + 1) ids)) (manager_back _)
    (each_pair-map (λ (m n : Manager). is_before m.id n.id) is_before manager_back (λ a b. refl) ids ∙ c.requires.rise)
    (ap (λ (l : List Id). there ++ map manager_back l) (sym (left-from ids i _ _ c.loop-id-test.true refl)) ∙ c.loop-id.invariant.managers))
