use Rattle.std.proofs.Common.{refl, sym, ◌∙◌, ap}
use Rattle.ktm_kernel.specs.Stands.{KernelState}
use Rattle.ktm_run.proofs.Answering.{went_down, is_down_still}
use Rattle.ktm_run.proofs.Lasting.{lasts_same}
use Rattle.ktm_run.proofs.answer.crash.Goals as goal

pub returns-then-not-is_up-clause-does : goal.returns-then-not-is_up-clause-does
returns-then-not-is_up-clause-does g c = is_down_still c.args.kernel.now (g.D.Disk.told c.args.disk.now) (g.D.Disk.status c.args.disk.now) (sym c.is_up.ensures ∙ c.if-not-is_up.true)

pub returns-clause-does : goal.returns-clause-does
returns-clause-does g c =
    went_down c.args.kernel.now c.crash.new.self (g.D.Disk.told c.args.disk.now) (g.D.Disk.told c.off.new.self) (g.D.Disk.status c.args.disk.now) (g.D.Disk.status c.off.new.self)
    c.off.ensures.same c.off.ensures.status c.crash.ensures.does

pub returns-then-not-is_up-clause-lasts : goal.returns-then-not-is_up-clause-lasts
returns-then-not-is_up-clause-lasts g c = lasts_same c.args.kernel.now c.args.kernel.now refl

pub returns-clause-lasts : goal.returns-clause-lasts
returns-clause-lasts g c = lasts_same c.args.kernel.now c.crash.new.self (ap (λ (k : KernelState). k.now.recorded.events) c.crash.ensures.fallen)
