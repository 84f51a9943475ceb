use Rattle.std.proofs.Common.{get_or, arith, refl}
use Rattle.ktm_extent.proofs.Uses.{gave-more, one-same, uses-all, uses-at, uses-within}
use Rattle.ktm_extent.proofs.holders.give_all.Goals as goal

pub give-requires-clause-within : goal.give-requires-clause-within
give-requires-clause-within g c = omega (arith, c.loop-page.invariant.count, c.requires.below (get_or c.args.list.now c.loop-page.page-index 0) (uses-at c.args.list.now c.loop-page.page-index c.loop-page-test.true))

pub give-requires-clause-out : goal.give-requires-clause-out
give-requires-clause-out g c =
    let page = get_or c.args.list.now c.loop-page.page-index 0 in
    omega (arith, c.loop-page.invariant.gave page, c.requires.out page, uses-within c.args.list.now c.loop-page.page-index page c.loop-page-test.true, one-same page page refl)

pub loop-page-preserved : goal.loop-page-preserved
loop-page-preserved g c = record {
  gave = gave-more c.args.list.now c.loop-page.page-index _ _ _ c.loop-page-test.true c.loop-page.invariant.gave c.give.ensures.gave;
  count = cc;
}

pub returns : goal.returns
returns g c = record {
  gave = λ page. omega (arith, c.loop-page.invariant.gave page, uses-all c.args.list.now c.loop-page.page-index page c.loop-page-test.false);
  count = c.loop-page.invariant.count;
}
