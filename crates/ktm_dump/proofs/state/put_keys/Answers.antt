use Rattle.ktm_dump.proofs.Puts.{broken_next, put_next}
use Rattle.ktm_dump.specs.Text.{key_line}
use Rattle.ktm_dump.proofs.state.put_keys.Goals as goal

pub returns-in-Err : goal.returns-in-Err
returns-in-Err g c = broken_next key_line c.args.keys.now c.loop-item.item-index _ c.item-item.is c.loop-item-test.true _ _ _ c.loop-item.invariant c.in-Err.ensures

pub loop-item-preserved : goal.loop-item-preserved
loop-item-preserved g c = put_next key_line c.args.keys.now c.loop-item.item-index _ c.item-item.is c.loop-item-test.true _ _ _ c.loop-item.invariant c.in_default.ensures
