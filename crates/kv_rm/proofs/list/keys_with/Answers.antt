use Rattle.kv_rm.proofs.Merges.{merged_more}
use Rattle.kv_rm.proofs.list.keys_with.Goals as goal

pub loop-setting-preserved : goal.loop-setting-preserved
loop-setting-preserved c =
    rw (c.in_ok-push_set.ensures, c.in_ok-push_keys.ensures)
    (merged_more _ _ _ _ _ _ _ c.setting-item.result c.loop-setting-test.true c.setting-item.is c.loop-setting.invariant (rw c.as_slice.ensures at c.split.ensures))
