use Rattle.std.proofs.Common.{Bool, false, if◌then◌else◌, subst, sym}
use Rattle.ktm_base.specs.Disk.{DeviceCalls}
use Rattle.ktm_base.proofs.offered.ToldSteps.{IfSome-map}
use Rattle.ktm_page.specs.Row.{RowState}
use Rattle.ktm_extent.proofs.UnitBytes.{all-stays, none-stays}
use Rattle.ktm_extent.proofs.extent.Extent.read_kept.Goals as goal

pub returns-then-not-keeps-clause-value : goal.returns-then-not-keeps-clause-value
returns-then-not-keeps-clause-value g c =
    IfSome-map _ _ _ (g.met.P.PageIo.lengths c.args.io.now) (λ (r : RowState) long. none-stays r.seen c.args.at c.args.end c.args.unit c.args.self.now c.args.buf.now (sym c.if-not-keeps.ensures) c.requires.there c.requires.zeros)

pub returns-clause-value : goal.returns-clause-value
returns-clause-value g c = IfSome-map _ _ _ c.in_default.ensures.value (λ (r : RowState) is. all-stays _ _ _ _ _ is)

pub returns-clause-calls : goal.returns-clause-calls
returns-clause-calls g c =
    subst (λ (b : Bool). DeviceCalls (if b then 2 else 0) (g.P.PageIo.status c.args.io.now) (g.P.PageIo.status c.read_unit.new.io) false) c.if-not-keeps.ensures c.in_default.ensures.calls
