use Rattle.std.proofs.Common.{get_or, arith, refl}
use Rattle.ktm_extent.proofs.Uses.{one-same, shared-more, uses-all, uses-at, uses-within}
use Rattle.ktm_extent.proofs.holders.share_all.Goals as goal

pub share-requires-clause-within : goal.share-requires-clause-within
share-requires-clause-within g c = omega (arith, c.loop-page.invariant.count, c.requires.below (get_or c.args.list.now c.loop-page.page-index 0) (uses-at c.args.list.now c.loop-page.page-index c.loop-page-test.true))

pub share-requires-clause-out : goal.share-requires-clause-out
share-requires-clause-out g c =
    let page = get_or c.args.list.now c.loop-page.page-index 0 in
    omega (arith, c.loop-page.invariant.shared page, c.requires.out page (uses-at c.args.list.now c.loop-page.page-index c.loop-page-test.true))

pub share-requires-clause-room : goal.share-requires-clause-room
share-requires-clause-room g c =
    let page = get_or c.args.list.now c.loop-page.page-index 0 in
    omega (arith, c.loop-page.invariant.shared page, c.requires.room page, uses-within c.args.list.now c.loop-page.page-index page c.loop-page-test.true, one-same page page refl)

pub loop-page-preserved : goal.loop-page-preserved
loop-page-preserved g c = record {
  shared = shared-more c.args.list.now c.loop-page.page-index _ _ _ c.loop-page-test.true c.loop-page.invariant.shared c.share.ensures.shared;
  count = cc;
}

pub returns : goal.returns
returns g c = record {
  shared = λ page. omega (arith, c.loop-page.invariant.shared page, uses-all c.args.list.now c.loop-page.page-index page c.loop-page-test.false);
  count = c.loop-page.invariant.count;
}
