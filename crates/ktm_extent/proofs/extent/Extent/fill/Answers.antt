use Rattle.std.proofs.Common.{◌+◌, ◌*◌, length, arith}
use Rattle.ktm_base.proofs.offered.ToldSteps.{IfSome-map}
use Rattle.ktm_page.specs.Row.{RowState}
use Rattle.ktm_extent.specs.Extent.{contents}
use Rattle.ktm_extent.proofs.Buffers.{filled-less}
use Rattle.ktm_extent.proofs.extent.Extent.fill.Goals as goal

pub fill_unit-requires-clause-row : goal.fill_unit-requires-clause-row
fill_unit-requires-clause-row g c = λ page there. omega (arith, c.requires.row page there, c.loop-unit.invariant.count)

pub returns-clause-filled : goal.returns-clause-filled
returns-clause-filled g c =
    IfSome-map _ _ _ c.loop-unit.invariant.bytes (λ (r : RowState) so. filled-less (contents r.seen c.args.self.now) c.args.at c.loop-unit.buf (c.loop-unit.unit * 4096) (c.args.at + length c.args.buf.now) (omega arith) so)
