use Rattle.std.proofs.Common.{length, get_or, arith}
use Rattle.ktm_pages.proofs.Stack.{free-few}
use Rattle.ktm_pages.proofs.pages.PagesPageSpace.free.Goals as goal

pub overflow_cast-result : goal.overflow_cast-result
overflow_cast-result c =
    let few = free-few (λ page. get_or c.self.inside.holders.items page 0) (length c.self.inside.holders.items) in
    let all = c.self.invariant.free.all in
    let below = c.self.invariant.few in
    omega (arith, few, all, below, c.len.ensures)
