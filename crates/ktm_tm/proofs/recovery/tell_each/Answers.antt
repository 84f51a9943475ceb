use Rattle.std.proofs.Common.{◌∙◌, ◌+◌, ◌∷◌, [], None, ap, arith, length, length-append, List, map, take, refl, sym}
use Rattle.std.specs.Prelude.{is_some}
use Rattle.ktm_world.specs.Enlistments.{Manager, manager_at}
use Rattle.ktm_world.specs.Outcome.{served}
use Rattle.ktm_manager.proofs.offered.Served.{served_nothing, served_twice, there_served}
use Rattle.ktm_tm.specs.Recovery.{recovers}
use Rattle.ktm_tm.proofs.Recovering.{recovers_first, recovers_more}
use Rattle.ktm_tm.proofs.recovery.tell_each.Goals as goal

pub loop-e-init : goal.loop-e-init
loop-e-init c = record { managers = sym (served_nothing c.args.managers.now.managers); spare = omega arith; room = refl }

pub tell_one-requires-clause-there : goal.tell_one-requires-clause-there
tell_one-requires-clause-there c = ap (λ (ms : List Manager). is_some (manager_at ms c.args.manager)) c.loop-e.invariant.managers ∙ there_served None _ c.args.managers.now.managers c.args.manager ∙ c.requires.there

pub tell_one-requires-clause-spare : goal.tell_one-requires-clause-spare
tell_one-requires-clause-spare c =
    let more = recovers_more c.args.transactions.now.items c.args.manager c.args.enlistments.now c.loop-e.e-index c.e-item.result c.loop-e-test.true c.e-item.is in
    omega (
      arith,
      c.loop-e.invariant.spare,
      c.requires.spare,
      recovers_first c.args.transactions.now.items c.args.manager c.args.enlistments.now (c.loop-e.e-index + 1),
      ap length more,
      length-append (recovers c.args.transactions.now.items c.args.manager (take c.loop-e.e-index c.args.enlistments.now)) (recovers c.args.transactions.now.items c.args.manager (c.e-item.result ∷ [])),
    )

pub loop-e-preserved : goal.loop-e-preserved
loop-e-preserved c =
    let more = recovers_more c.args.transactions.now.items c.args.manager c.args.enlistments.now c.loop-e.e-index c.e-item.result c.loop-e-test.true c.e-item.is in
    record {
      managers =
          c.tell_one.ensures.managers ∙ ap (map (served None (recovers c.args.transactions.now.items c.args.manager (c.e-item.result ∷ [])))) c.loop-e.invariant.managers
          ∙ served_twice _ _ _ ∙ ap (λ l. map (served None l) c.args.managers.now.managers) (sym more);
      spare = omega (arith, c.tell_one.ensures.spare, c.loop-e.invariant.spare, ap length more, length-append (recovers c.args.transactions.now.items c.args.manager (take c.loop-e.e-index c.args.enlistments.now)) (recovers c.args.transactions.now.items c.args.manager (c.e-item.result ∷ [])));
      room = c.tell_one.ensures.room ∙ c.loop-e.invariant.room;
    }
