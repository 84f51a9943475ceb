use Rattle.std.proofs.Common.{arith}
use Rattle.ktm_restart.proofs.BehindHeader.{fault_most, loads_behind}
use Rattle.ktm_restart.proofs.replay.load_half.Goals as goal

pub returns-in-Err : goal.returns-in-Err
returns-in-Err g c = fault_most 2 _ _ _ c.in-Err.fault (omega arith) c.in-Err.ensures

pub returns : goal.returns
returns g c = loads_behind _ _ _ 2 _ _ c.in-Ok.ensures.read (omega arith) _ c.load_log.ensures
