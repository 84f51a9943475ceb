use Rattle.std.proofs.Common.{ap}
use Rattle.ktm_base.specs.Disk.{DiskStatus}
use Rattle.ktm_run.proofs.Answering.{ready_on}
use Rattle.ktm_run.proofs.Breaks.{unanswered_here, did_planned, unanswered_planned}
use Rattle.ktm_run.proofs.answer.execute.Goals as goal

pub returns-in-Err-clause-no_memory : goal.returns-in-Err-clause-no_memory
returns-in-Err-clause-no_memory g c = λ w stands. rw (c.in-Err.ensures.err, c.in-Err.ensures.same) (unanswered_here c.law_of_what_is_left.ensures w _ c.args.line.now stands)

pub returns-in-Ok-clause-does : goal.returns-in-Ok-clause-does
returns-in-Ok-clause-does g c =
    let (meant, means, answers) = c.in-Ok.ensures.does in
    (meant, means, λ w stands. did_planned c.args.kernel.now _ _ c.plan_room.ensures.same _ _ _ c.plan_room.ensures.others w meant c.in-Ok.reply answers stands)

pub returns-in-Err-answer-clause-no_memory : goal.returns-in-Err-answer-clause-no_memory
returns-in-Err-answer-clause-no_memory g c = λ w stands.
    unanswered_planned c.args.kernel.now _ _ c.plan_room.ensures.same _ _ _ c.plan_room.ensures.others w c.args.line.now c.in-Err-answer.ensures.no_memory stands

pub answer-requires-clause-ready : goal.answer-requires-clause-ready
answer-requires-clause-ready g c =
    ready_on c.args.kernel.now (g.D.Disk.told c.args.disk.now) (g.D.Disk.told c.plan_room.new.self) (g.D.Disk.status c.args.disk.now) (g.D.Disk.status c.plan_room.new.self)
    c.plan_room.ensures.same (ap (λ (s : DiskStatus). s.is_down) c.plan_room.ensures.others) (ap (λ (s : DiskStatus). s.pending) c.plan_room.ensures.others) c.requires.ready
