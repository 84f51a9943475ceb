use Rattle.std.proofs.Common.{◌≡◌, ◌-◌, sym, ◌∙◌, arith, length-set, get_or-set_same}
use Rattle.ktm_pages.proofs.Stack.{free-fewer, free-given}
use Rattle.ktm_pages.proofs.pages.PagesPageSpace.give.Goals as goal

pub unwrap-requires : goal.unwrap-requires
unwrap-requires c =
    let within = rw (← c.self.view_is) at c.requires.within in
    let out = rw (← c.self.view_is) at c.requires.out in
    let fewer = free-fewer c.self.inside.holders.items c.args.page within out in
    let all = c.self.invariant.free.all in
    let fits = c.self.invariant.fits in
    c.push.ensures.succeeds (omega (arith, fewer, all, fits))

pub invariant_of-self : goal.invariant_of-self
invariant_of-self c =
    let within = rw (← c.self.view_is) at c.requires.within in
    let out = rw (← c.self.view_is) at c.requires.out in
    let none : c.index_mut.result.now - 1 ≡ 0 = sym (get_or-set_same c.self.inside.holders.items c.args.page (c.index_mut.result.now - 1) c.index.result.now within) ∙ sym c.index.ensures ∙ c.if-index-eq0.true in
    let pushed = rw c.unwrap.ensures at c.push.ensures.items in
    let fits = c.self.invariant.fits in
    let room = c.push.ensures.capacity in
    record {
      free = rw (none, pushed) (free-given c.self.inside.holders.items c.self.inside.free.items c.args.page c.self.invariant.free within out);
      fits = rw length-set (omega (arith, fits, room));
      few = rw length-set c.self.invariant.few;
    }
