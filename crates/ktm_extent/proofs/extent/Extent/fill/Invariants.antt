use Rattle.std.proofs.Common.{◌≡◌, ◌-◌, ◌*◌, ◌/◌, false}
use Rattle.std.specs.Prelude.{IfSome}
use Rattle.ktm_base.specs.Disk.{DeviceCalls}
use Rattle.ktm_extent.specs.Extent.{contents}
use Rattle.ktm_extent.specs.Units.{IsFilled}
use Rattle.ktm_extent.proofs.extent.Extent.fill.Given as goal

abbrev pub invariant-loop-unit : goal.invariant-loop-unit
invariant-loop-unit g l = record {
  bytes : IfSome (g.P.PageIo.told l.initial.io) (λ r. IsFilled (contents r.seen l.self) l.at l.buf (l.unit * 4096));
  same : g.P.PageIo.told l.io ≡ g.P.PageIo.told l.initial.io;
  count : g.P.PageIo.count l.io ≡ g.P.PageIo.count l.initial.io;
  keeps : g.P.PageIo.keeps l.initial.io l.io;
  calls : DeviceCalls (2 * (l.unit - l.at / 4096)) (g.P.PageIo.status l.initial.io) (g.P.PageIo.status l.io) false;
}
