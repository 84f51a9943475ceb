use Rattle.std.proofs.lemmas.List.{get_or_default}
use Rattle.ktm_dump.proofs.Puts.{broken_next, put_next}
use Rattle.ktm_dump.specs.Text.{manager_line}
use Rattle.ktm_dump.proofs.state.put_managers.Goals as goal

pub returns-in-Err : goal.returns-in-Err
returns-in-Err g c =
    broken_next (manager_line c.args.image) c.args.managers.now c.loop-manager.manager-index _ (get_or_default c.args.managers.now c.loop-manager.manager-index _ _ c.loop-manager-test.true) c.loop-manager-test.true _ _ _ c.loop-manager.invariant c.in-Err.ensures

pub loop-manager-preserved : goal.loop-manager-preserved
loop-manager-preserved g c =
    put_next (manager_line c.args.image) c.args.managers.now c.loop-manager.manager-index _ (get_or_default c.args.managers.now c.loop-manager.manager-index _ _ c.loop-manager-test.true) c.loop-manager-test.true _ _ _ c.loop-manager.invariant c.in_default.ensures
