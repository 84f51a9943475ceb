use Rattle.ktm_store.proofs.offered.HoldingContents.{holds-one, pages-below}
use Rattle.ktm_store.proofs.store.Store.hold.Goals as goal

pub hold_all-requires : goal.hold_all-requires
hold_all-requires c = pages-below _ c.pages.result.now c.args.contents c.pages.ensures c.requires

pub returns : goal.returns
returns c =
    holds-one c.pages.result.now c.args.contents c.args.self.now c.hold_all.new.self c.pages.ensures c.hold_all.ensures.seen c.hold_all.ensures.stored c.hold_all.ensures.wanted
    c.hold_all.ensures.marks
