use Rattle.std.proofs.Common.{◌≡◌, false, length, take}
use Rattle.ktm_base.specs.Disk.{DeviceCalls}
use Rattle.ktm_base.specs.Told.{Goes}
use Rattle.ktm_extent.specs.Units.{AreTaken, AreWritten, first_unit, target}
use Rattle.ktm_extent.proofs.TakenUnits.{calls_upto}
use Rattle.ktm_extent.proofs.rewrite.take_units.Given as goal

abbrev pub invariant-loop-i : goal.invariant-loop-i
invariant-loop-i g l = record {
  took : AreTaken (g.G.PageSpace.count l.initial.pages) (take l.i l.taken) (g.G.PageSpace.holders l.initial.pages) (g.G.PageSpace.holders l.pages);
  wrote : Goes (AreWritten (target l.old l.at l.bytes) (first_unit l.old.size l.at) (take l.i l.taken) (g.G.PageSpace.count l.initial.pages) (g.G.PageSpace.holders l.initial.pages)) (g.P.PageIo.told l.initial.io) (g.P.PageIo.told l.io);
  calls : DeviceCalls (calls_upto (length l.taken) l.i) (g.P.PageIo.status l.initial.io) (g.P.PageIo.status l.io) false;
  row : g.P.PageIo.count l.io ≡ g.P.PageIo.count l.initial.io;
  keeps : g.P.PageIo.keeps l.initial.io l.io;
  count : g.G.PageSpace.count l.pages ≡ g.G.PageSpace.count l.initial.pages;
}
