use Rattle.ktm_links.proofs.Blocks.{spot_gap, within, within_gap}
use Rattle.ktm_links.proofs.InOrder.{first_at_equal, first_at_gap}
use Rattle.ktm_links.proofs.search.not_below.Goals as goal

pub returns-in-Ok-clause-gap : goal.returns-in-Ok-clause-gap
returns-in-Ok-clause-gap g c = spot_gap _ _ c.in-Ok.ensures.spot

pub returns-in-Ok-clause-first : goal.returns-in-Ok-clause-first
returns-in-Ok-clause-first g c =
    first_at_equal _ _ _ _ c.requires.ordered (within _ _ c.in-Ok.ensures.spot) c.in-Ok.ensures.position

pub returns-in-Err-clause-first : goal.returns-in-Err-clause-first
returns-in-Err-clause-first g c =
    first_at_gap _ _ _ _ c.requires.ordered (within_gap _ _ c.in-Err.ensures.gap) c.in-Err.ensures.position
