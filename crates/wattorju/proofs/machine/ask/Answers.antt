use Rattle.wattorju.proofs.Asking.{asked_ready, asked_told}
use Rattle.ktm_log.specs.OnDisk.{on}
use Rattle.wattorju.specs.Calls.{own}
use Rattle.wattorju.proofs.machine.ask.Goals as goal

pub returns-clause-called : goal.returns-clause-called
returns-clause-called g c = record {
  leaves = c.call.ensures.leaves;
  no_memory = c.call.ensures.no_memory;
  enough = c.call.ensures.enough;
  commits = c.law_of_works.ensures own c.args.command (on c.args.kernel.now _ _) (on c.call.new.self _ _) c.call.result (c.has_events_left.ensures.0 c.if-not-has_events_left.false) c.call.ensures.leaves;
}

pub returns-clause-told : goal.returns-clause-told
returns-clause-told g c = asked_told c.law_of_replies.ensures.calls c.args.command (on c.args.kernel.now _ _) (on c.call.new.self _ _) c.call.result c.call.ensures.leaves

pub returns-clause-ready : goal.returns-clause-ready
returns-clause-ready g c = asked_ready c.args.command (on c.args.kernel.now _ _) (on c.call.new.self _ _) c.call.result c.call.ensures.leaves c.requires.ready
