use Rattle.std.proofs.Common.{arith}
use Rattle.ktm_store.proofs.offered.HoldingContents.{pages-below}
use Rattle.ktm_store.proofs.offered.Holding.{held-lie}
use Rattle.ktm_store.proofs.store.Store.want.Goals as goal

pub want_pages-requires : goal.want_pages-requires
want_pages-requires c = pages-below _ c.pages.result.now c.args.contents c.pages.ensures c.requires

pub returns-clause-stored : goal.returns-clause-stored
returns-clause-stored c = held-lie c.want_pages.new.self.stored c.pages.result.now c.args.contents c.pages.ensures c.want_pages.ensures.stored

pub returns-clause-few : goal.returns-clause-few
returns-clause-few c = omega (arith, c.want_pages.ensures.few, c.pages.ensures.units)
