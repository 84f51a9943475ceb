use Rattle.ktm_restart.proofs.BehindHeader.{not_started, started, unread}
use Rattle.ktm_restart.proofs.replay.read_start.Goals as goal

pub returns-in-Err : goal.returns-in-Err
returns-in-Err g c = unread c.args.header _ _ c.requires.headed c.in-Err.fault c.in-Err.ensures

pub returns-in-Ok-Some : goal.returns-in-Ok-Some
returns-in-Ok-Some g c =
    let read = rw c.in-Ok-Some.field-0-is at c.in-Ok-Some.ensures in
    started c.args.header _ _ c.requires.headed c.in_default.ensures c.in-Ok-Some.state (rw c.as_slice.ensures.value at read)

pub returns-in-Ok-None : goal.returns-in-Ok-None
returns-in-Ok-None g c =
    let read = rw c.in-Ok-None.field-0-is at c.in-Ok-None.ensures in
    not_started c.args.header _ _ c.requires.headed _ c.in_default.ensures (rw c.as_slice.ensures.value at read) c.snapshot_at.ensures
