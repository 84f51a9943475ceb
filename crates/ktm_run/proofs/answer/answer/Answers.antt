use Rattle.ktm_run.proofs.Answering.{meant, answers_so, OnErr-map}
use Rattle.ktm_run.proofs.Breaks.{unanswered_here}
use Rattle.ktm_run.proofs.answer.answer.Goals as goal

pub returns-in-Process-clause-does : goal.returns-in-Process-clause-does
returns-in-Process-clause-does g c = answers_so c.call.result _ _ c.args.line.now _ (meant c.args.line.now _ _ c.in-Process.is c.in-Ok.ensures.value) c.call.ensures.does

pub returns-in-Process-clause-no_memory : goal.returns-in-Process-clause-no_memory
returns-in-Process-clause-no_memory g c = OnErr-map c.call.result _ _ (λ left. left c.args.line.now) c.call.ensures.no_memory

pub returns-in-Tick-clause-does : goal.returns-in-Tick-clause-does
returns-in-Tick-clause-does g c = (_, meant c.args.line.now _ _ c.in-Tick.is c.in-Ok.ensures.value, c.tick.ensures.does)

pub returns-in-Cut-clause-does : goal.returns-in-Cut-clause-does
returns-in-Cut-clause-does g c = (_, meant c.args.line.now _ _ c.in-Cut.is c.in-Ok.ensures.value, c.cut.ensures.does)

pub returns-in-Crash-clause-does : goal.returns-in-Crash-clause-does
returns-in-Crash-clause-does g c = (_, meant c.args.line.now _ _ c.in-Crash.is c.in-Ok.ensures.value, c.crash.ensures.does)

pub returns-in-Restart-clause-does : goal.returns-in-Restart-clause-does
returns-in-Restart-clause-does g c = answers_so c.restart.result _ _ c.args.line.now _ (meant c.args.line.now _ _ c.in-Restart.is c.in-Ok.ensures.value) c.restart.ensures.does

pub returns-in-Restart-clause-no_memory : goal.returns-in-Restart-clause-no_memory
returns-in-Restart-clause-no_memory g c =
    OnErr-map c.restart.result _ _ (λ left w. left c.args.line.now w (meant c.args.line.now _ _ c.in-Restart.is c.in-Ok.ensures.value)) c.restart.ensures.no_memory

pub returns-in-Err-NoMemory-clause-no_memory : goal.returns-in-Err-NoMemory-clause-no_memory
returns-in-Err-NoMemory-clause-no_memory g c =
    λ w stands. unanswered_here c.law_of_what_is_left.ensures w _ c.args.line.now stands
