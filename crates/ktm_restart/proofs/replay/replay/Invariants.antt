use Rattle.std.proofs.Common.{◌-◌, length}
use Rattle.ktm_restart.specs.Reading.{IsReadWell}
use Rattle.ktm_restart.proofs.Folds.{Folded}
use Rattle.ktm_restart.proofs.replay.replay.Given as goal

abbrev pub invariant-loop-payload : goal.invariant-loop-payload
invariant-loop-payload l = record {
  folded : Folded l.initial.state.state l.bytes l.at l.state.state;
  well : IsReadWell l.state;
}

abbrev pub decreases-loop-payload : goal.decreases-loop-payload
decreases-loop-payload l = length l.bytes - l.at
