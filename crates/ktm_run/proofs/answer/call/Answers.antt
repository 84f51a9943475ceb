use Rattle.std.proofs.Common.{sym}
use Rattle.ktm_kernel.specs.Back.{command-back}
use Rattle.ktm_run.proofs.Answering.{decided, is_call, out_of_memory}
use Rattle.ktm_run.proofs.FewCalls.{few_calls}
use Rattle.ktm_run.proofs.Lasting.{lasts_few}
use Rattle.ktm_kernel.specs.Completions.{command_of}
use Rattle.ktm_log.specs.OnDisk.{on}
use Rattle.ktm_run.proofs.answer.call.Goals as goal

pub complete-requires-clause-command : goal.complete-requires-clause-command
complete-requires-clause-command g c = rw (command-back c.args.command c.in-Some.completion (sym c.in-Some.ensures)) c.requires.command

pub returns-in-Some-clause-does : goal.returns-in-Some-clause-does
returns-in-Some-clause-does g c =
    rw (← command-back c.args.command c.in-Some.completion (sym c.in-Some.ensures))
    (decided _ _ c.complete.result (is_call c.args.process (command_of c.in-Some.completion) c.complete.result) c.args.kernel.now c.complete.new.self (g.D.Disk.told c.args.disk.now) (g.D.Disk.told c.complete.new.disk) (g.D.Disk.status c.args.disk.now) (g.D.Disk.status c.complete.new.disk)
    c.complete.ensures.cause _ c.complete.ensures.calls (few_calls c.args.process (command_of c.in-Some.completion) (on c.args.kernel.now _ _) (on c.complete.new.self _ _) c.complete.result c.complete.ensures) c.complete.ensures.does)

pub returns-in-Some-clause-lasts : goal.returns-in-Some-clause-lasts
returns-in-Some-clause-lasts g c = lasts_few c.args.kernel.now c.complete.new.self c.complete.ensures.counts

pub returns-in-Ok-clause-does : goal.returns-in-Ok-clause-does
returns-in-Ok-clause-does g c =
    decided _ _ c.in-Ok.reply (is_call c.args.process c.args.command c.in-Ok.reply) c.args.kernel.now c.call.new.self (g.D.Disk.told c.args.disk.now) (g.D.Disk.told c.call.new.disk) (g.D.Disk.status c.args.disk.now) (g.D.Disk.status c.call.new.disk)
    c.in-Ok.ensures.leaves.cause _ c.in-Ok.ensures.leaves.calls (few_calls c.args.process c.args.command (on c.args.kernel.now _ _) (on c.call.new.self _ _) c.in-Ok.reply c.in-Ok.ensures.leaves) c.in-Ok.ensures.leaves.does

pub returns-in-Err-clause-no_memory : goal.returns-in-Err-clause-no_memory
returns-in-Err-clause-no_memory g c = λ line. out_of_memory c.law_of_what_is_left.ensures (on c.args.kernel.now _ _) (on c.call.new.self _ _) line c.in-Err.ensures.leaves

pub returns-in-Ok-clause-lasts : goal.returns-in-Ok-clause-lasts
returns-in-Ok-clause-lasts g c = lasts_few c.args.kernel.now c.call.new.self c.in-Ok.ensures.leaves.counts
