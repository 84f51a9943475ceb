use Rattle.std.proofs.Common.{◌∙◌}
use Rattle.txf_reserve.proofs.Holding.{moves_others}
use Rattle.txf_reserve.proofs.reserve.Reserve.is_moving.Goals as goal

pub returns : goal.returns
returns c = rw (← c.self.view_is) (c.is_held_by_other.ensures ∙ moves_others c.self.inside.moves.pairs c.self.invariant.moves_are c.args.who)
