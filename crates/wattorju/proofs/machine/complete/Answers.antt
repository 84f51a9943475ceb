use Rattle.std.proofs.Common.{Ok, refl}
use Rattle.ktm_log.specs.OnDisk.{on}
use Rattle.ktm_kernel.specs.Completions.{command_of}
use Rattle.wattorju.proofs.Asking.{asked_told}
use Rattle.wattorju.specs.Calls.{own}
use Rattle.wattorju.proofs.machine.complete.Goals as goal

pub returns-clause-completed : goal.returns-clause-completed
returns-clause-completed g c = record {
  leaves = c.complete.ensures;
  no_memory = tt;
  enough = λ none. refl;
  commits = c.law_of_works.ensures own (command_of c.args.completion) (on c.args.kernel.now _ _) (on c.complete.new.self _ _) (Ok c.complete.result) (c.has_events_left.ensures.0 c.if-not-has_events_left.false) c.complete.ensures;
}

pub returns-clause-told : goal.returns-clause-told
returns-clause-told g c = asked_told c.law_of_replies.ensures.calls (command_of c.args.completion) (on c.args.kernel.now _ _) (on c.complete.new.self _ _) (Ok c.complete.result) c.complete.ensures

pub returns-clause-ready : goal.returns-clause-ready
returns-clause-ready g c = c.complete.ensures.ready
