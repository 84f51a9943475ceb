use Rattle.std.proofs.Common.{◌≡◌, ◌-◌, suc, subst, arith}
use Rattle.ktm_pages.proofs.Stack.{StackedFrom, stacked-room}
use Rattle.ktm_pages.proofs.pages.stack_free.Goals as goal

pub unwrap-requires : goal.unwrap-requires
unwrap-requires c =
    let is : c.loop-page.page ≡ suc (c.loop-page.page - 1) = omega arith in
    let room = stacked-room c.args.holders.now c.loop-page.free.items (c.loop-page.page - 1) (subst (λ from. StackedFrom from c.args.holders.now c.loop-page.free.items) is c.loop-page.invariant.stacked) c.if-holders-page-eq0.true in
    let fits = c.loop-page.invariant.room in
    c.push.ensures.succeeds (omega (arith, room, fits))
