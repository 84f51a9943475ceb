use Rattle.std.proofs.Common.{◌≡◌, ◌<◌, length, Some}
use Rattle.ktm_store.specs.Frames.{at_in}
use Rattle.ktm_store.proofs.Owning.{alone, read-at}
use Rattle.ktm_store.proofs.owners.Owners.own.Goals as goal

pub returns-clause-alone : goal.returns-clause-alone
returns-clause-alone c =
    let low : c.args.page < length c.self.inside.at.items = rw (← c.self.view_is) at c.requires in
    let is : at_in c.self.inside.at.items c.args.page ≡ Some c.in_ok-frame.frame = read-at c.self.inside.at.items c.args.page c.index.result.now c.in_ok-frame.frame low c.index.ensures c.in_ok-frame.was in
    rw (← c.self.view_is) (alone c.self.inside.at.items c.self.inside.owner.items c.self.inside.spare.items c.args.page c.in_ok-frame.frame c.self.invariant.0 is c.if-frame-eq-BLANK.false)
