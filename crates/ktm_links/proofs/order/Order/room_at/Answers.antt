use Rattle.std.proofs.Common.{◌∙◌, ap, get_or}
use Rattle.ktm_links.specs.Blocks.{Blocks, flat}
use Rattle.ktm_links.proofs.Blocks.{flat_kept, upper_room}
use Rattle.ktm_links.proofs.order.Order.room_at.Goals as goal

pub returns-then-spot-gt-HALF-clause-room : goal.returns-then-spot-gt-HALF-clause-room
returns-then-spot-gt-HALF-clause-room c =
    rw c.split.ensures.blocks (upper_room _ c.args.spot.block c.args.spot.place _ c.requires.within c.if-spot-gt-HALF.true c.requires.gap.place (c.index.ensures ∙ ap (λ (o : Blocks). get_or o.blocks c.args.spot.block c.index.result.now) c.self.view_is) c.if-not-is_full.ensures.bound)

pub returns-then-spot-gt-HALF-clause-keys : goal.returns-then-spot-gt-HALF-clause-keys
returns-then-spot-gt-HALF-clause-keys c = ap flat c.split.ensures.blocks ∙ flat_kept _ c.args.spot.block c.requires.within

pub returns-else-spot-gt-HALF-clause-keys : goal.returns-else-spot-gt-HALF-clause-keys
returns-else-spot-gt-HALF-clause-keys c = ap flat c.split.ensures.blocks ∙ flat_kept _ c.args.spot.block c.requires.within
