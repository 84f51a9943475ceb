use Rattle.std.proofs.Common.{Err, ap, arith}
use Rattle.ktm_restart.proofs.BehindHeader.{header_read, loads_behind, no_header}
use Rattle.ktm_restart.proofs.replay.load.Goals as goal

pub returns-in-Err-clause-leaves : goal.returns-in-Err-clause-leaves
returns-in-Err-clause-leaves g c =
    no_header c.args.buffer.now _ _ _ _ 3 _ c.in-Err.fault (omega arith) c.in-Err.ensures.reads (λ offset is. c.in-Err.ensures.bad offset (ap Err is)) (λ offset is. c.in-Err.ensures.up_bad offset (ap Err is))

pub returns-clause-leaves : goal.returns-clause-leaves
returns-clause-leaves g c =
    loads_behind _ _ _ 3 _ _ (header_read c.args.buffer.now _ _ _ _ 3 c.in-Ok.ensures.reads c.in-Ok.ensures.up) (omega (arith, c.in-Ok.ensures.size.1)) _ c.load_half.ensures
