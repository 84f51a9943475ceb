use Rattle.std.proofs.Common.{get_or, arith}
use Rattle.std.proofs.lemmas.List.{get_or_default}
use Rattle.ktm_base.specs.Grammar.{IsU32}
use Rattle.ktm_codec.proofs.Adding.{adds_no_items, adds_item, adds_items}
use Rattle.ktm_event.proofs.change.put_pages.Goals as goal

pub loop-page-init : goal.loop-page-init
loop-page-init c = record { adds = adds_no_items IsU32 _ _ _ c.put_u32.ensures.adds; len = omega arith; room = omega arith }

pub loop-page-preserved : goal.loop-page-preserved
loop-page-preserved c =
    let pages = c.args.pages.now in
    let i = c.loop-page.page-index in
    let page = get_or pages i 0 in
    record {
      adds = adds_item IsU32 _ _ pages i page _ _ (omega arith) (get_or_default pages i 0 page (omega arith)) c.loop-page.invariant.adds c.put_u32-in-loop-page.ensures.adds;
      len = omega arith;
      room = omega arith;
    }

pub returns-clause-adds : goal.returns-clause-adds
returns-clause-adds c = adds_items IsU32 _ _ _ c.loop-page.page-index _ (omega arith) c.loop-page.invariant.adds
