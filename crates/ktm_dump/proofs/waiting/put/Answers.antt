use Rattle.std.proofs.Common.{refl}
use Rattle.ktm_dump.proofs.Puts.{broken_whole, put_whole}
use Rattle.ktm_dump.proofs.waiting.put.Goals as goal

pub returns-in-Err-write_all : goal.returns-in-Err-write_all
returns-in-Err-write_all g c =
    broken_whole _ _ _ _ _ _ _ _ (c.wait.ensures.same c.if-wait.false) c.in_default.ensures.ok c.flush.ensures.faults.later c.in-Err-write_all.ensures.err (c.in-Err-write_all.ensures.faults.cause refl) c.write_all.ensures.faults.later

pub returns : goal.returns
returns g c =
    put_whole _ _ _ _ _ _ _ _ (c.wait.ensures.same c.if-wait.false) c.in_default.ensures.ok c.flush.ensures.faults.later c.in_default.ensures.empty c.in_default-write_all.ensures.ok c.write_all.ensures.faults.later
