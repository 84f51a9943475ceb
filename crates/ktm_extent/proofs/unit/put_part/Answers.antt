use Rattle.std.proofs.Common.{arith}
use Rattle.ktm_extent.proofs.Bytes.{unit_over}
use Rattle.ktm_extent.proofs.unit.put_part.Goals as goal

pub returns-then-from-to : goal.returns-then-from-to
returns-then-from-to c =
    unit_over c.args.start c.args.at c.min-from.result c.min-to.result c.saturating_sub-skip.result c.args.bytes.now c.args.buf.now c.copy_from_slice.new.self
    (omega arith) (omega (arith, c.min-from.ensures, c.saturating_sub.ensures)) (omega (arith, c.min-to.ensures)) c.saturating_sub-skip.ensures c.if-from-to.true c.requires.begins c.copy_from_slice.ensures.after
