use Rattle.std.proofs.Common.{refl, sym, ◌∙◌}
use Rattle.ktm_kernel.specs.Answers.{says_started}
use Rattle.ktm_run.proofs.Answering.{failed_again, started, not_started}
use Rattle.ktm_run.proofs.Lasting.{lasts_restarted, lasts_same}
use Rattle.ktm_run.proofs.answer.restart.Goals as goal

pub returns-in-Err-clause-does : goal.returns-in-Err-clause-does
returns-in-Err-clause-does g c =
    failed_again c.law_of_power.ensures c.args.kernel.now (g.D.Disk.told c.args.disk.now) (g.D.Disk.told c.power.new.self) (g.D.Disk.status c.args.disk.now) (g.D.Disk.status c.power.new.self) c.args.pick
    (sym c.is_up.ensures ∙ c.if-is_up.false) c.in-Err.ensures.status.0 c.in-Err.ensures.status.1 c.in-Err.ensures.err

pub returns-in-Ok-clause-does : goal.returns-in-Ok-clause-does
returns-in-Ok-clause-does g c =
    started c.law_of_power.ensures c.args.kernel.now c.start_again.new.self (g.D.Disk.told c.args.disk.now) (g.D.Disk.told c.power.new.self) (g.D.Disk.told c.start_again.new.disk)
    (g.D.Disk.status c.args.disk.now) (g.D.Disk.status c.power.new.self) (g.D.Disk.status c.start_again.new.disk) c.args.pick
    (sym c.is_up.ensures ∙ c.if-is_up.false) c.in_default.ensures.status c.in_default.ensures.ok c.in-Ok.ensures.calls c.in-Ok.ensures.few
    c.in-Ok.reply c.in-Ok.ensures.leaves.does c.in-Ok.ensures.leaves.cause

pub returns-in-Err-start_again-clause-no_memory : goal.returns-in-Err-start_again-clause-no_memory
returns-in-Err-start_again-clause-no_memory g c =
    not_started c.law_of_power.ensures c.args.kernel.now c.start_again.new.self (g.D.Disk.told c.args.disk.now) (g.D.Disk.told c.power.new.self) (g.D.Disk.told c.start_again.new.disk)
    (g.D.Disk.status c.args.disk.now) (g.D.Disk.status c.power.new.self) (g.D.Disk.status c.start_again.new.disk) c.args.pick
    (sym c.is_up.ensures ∙ c.if-is_up.false) c.in_default.ensures.status c.in_default.ensures.ok c.in-Err-start_again.ensures.calls c.in-Err-start_again.ensures.few
    c.law_of_what_is_found.ensures c.in-Err-start_again.ensures.leaves.told

pub returns-then-is_up-clause-lasts : goal.returns-then-is_up-clause-lasts
returns-then-is_up-clause-lasts g c = lasts_same c.args.kernel.now c.args.kernel.now refl

pub returns-in-Err-clause-lasts : goal.returns-in-Err-clause-lasts
returns-in-Err-clause-lasts g c = lasts_same c.args.kernel.now c.args.kernel.now refl

pub returns-in-Ok-clause-lasts : goal.returns-in-Ok-clause-lasts
returns-in-Ok-clause-lasts g c = lasts_restarted (says_started c.in-Ok.reply) c.args.kernel.now c.start_again.new.self c.in-Ok.ensures.leaves.counts
