use Rattle.std.proofs.Common.{◌≡◌, ◌-◌}
use Rattle.ktm_gen.specs.Script.{generated_lines}
use Rattle.ktm_kernel.specs.Stands.{IsReady, KernelAt}
use Rattle.ktm_log.specs.OnDisk.{on}
use Rattle.ktm_run.specs.Lasting.{LastsForLines}
use Rattle.ktm_run.specs.Tallied.{Tallied}
use Rattle.ktm_world.specs.World.{World}
use Rattle.ktm_run.proofs.generated.run_lines.Given as goal

abbrev pub invariant-lines : goal.invariant-lines
invariant-lines g l = record {
  went : (w : World) → KernelAt l.fn.kernel (g.D.Disk.told l.fn.disk) w
      → Tallied w (on l.fn.kernel (g.D.Disk.told l.fn.disk) (g.D.Disk.status l.fn.disk)) (on l.kernel (g.D.Disk.told l.disk) (g.D.Disk.status l.disk)) (generated_lines l.number l.done) l.tally;
  lasts : LastsForLines (l.lines - l.done) l.kernel;
  ready : IsReady l.kernel (g.D.Disk.told l.disk) (g.D.Disk.status l.disk);
  number : l.generator.number ≡ l.number;
  given : l.generator.lines ≡ l.done;
  counted : l.tally.lines ≡ l.done;
}
