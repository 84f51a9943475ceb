use Rattle.std.proofs.Common.{length-set}
use Rattle.ktm_pages.proofs.Stack.{free-taken}
use Rattle.ktm_pages.proofs.pages.PagesPageSpace.take.Goals as goal

pub invariant_of-self-2 : goal.invariant_of-self-2
invariant_of-self-2 c = record {
  free = free-taken c.self.inside.holders.items c.pop.new.self.items c.in_ok-page.page (rw (← c.in_ok-page.ensures.items) c.self.invariant.free);
  fits = rw (length-set, c.in_ok-page.ensures.capacity) c.self.invariant.fits;
  few = rw length-set c.self.invariant.few;
}
