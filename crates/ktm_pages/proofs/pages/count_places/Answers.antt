use Rattle.std.proofs.Common.{◌<◌, length, get_or, arith}
use Rattle.ktm_pages.proofs.Places.{place-counted, place-more}
use Rattle.ktm_pages.proofs.pages.count_places.Goals as goal

pub overflow_add-holders : goal.overflow_add-holders
overflow_add-holders c =
    let page = get_or c.args.out.now c.loop-page.page-index 0 in
    let now = c.loop-page.invariant page in
    let more = place-more c.args.out.now c.loop-page.page-index c.loop-page-test.true in
    let few = c.requires.few page in
    omega (arith, now, more, few)

pub loop-page-preserved : goal.loop-page-preserved
loop-page-preserved c =
    let within : get_or c.args.out.now c.loop-page.page-index 0 < length c.loop-page.holders = rw c.loop-page.auto.holders (c.requires.below c.loop-page.page-index 0 c.loop-page-test.true) in
    place-counted c.loop-page.holders c.args.out.now c.loop-page.page-index c.loop-page-test.true within c.loop-page.invariant
