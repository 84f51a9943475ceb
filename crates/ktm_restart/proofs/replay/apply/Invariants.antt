use Rattle.ktm_restart.proofs.GroupReadings.{HasApplied}
use Rattle.ktm_restart.proofs.replay.apply.Given as goal

abbrev pub invariant-events : goal.invariant-events
invariant-events l = HasApplied l.initial.state.state l.payload l.start l.end l.counter l.state
