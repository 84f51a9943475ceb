use Rattle.std.proofs.Common.{◌≡◌, ◌<◌, ◌+◌, ◌%◌, length, length-set, None, Some, ℕ, arith}
use Rattle.ktm_store.specs.Frames.{at_in}
use Rattle.ktm_store.proofs.Owning.{owned-less, read-at}
use Rattle.ktm_store.proofs.owners.Owners.pass.Goals as goal

pub bounds-stored-page : goal.bounds-stored-page
bounds-stored-page c =
    let owner = c.self.inside.owner.items in
    let frame : ℕ = (c.self.inside.hand + 1) % c.len.result in
    let low : frame < length owner = omega (arith, c.self.invariant.0.some) in
    let is : at_in owner frame ≡ Some c.in-Some.page = read-at owner frame c.index.result.now c.in-Some.page low c.index.ensures c.in-Some.is in
    let below = c.self.invariant.0.pages frame c.in-Some.page is in
    let long = rw (← c.self.view_is) at c.requires in
    omega (arith, below, long)

pub invariant_of-self-then-stored-page : goal.invariant_of-self-then-stored-page
invariant_of-self-then-stored-page c =
    let owner = c.self.inside.owner.items in
    let frame : ℕ = (c.self.inside.hand + 1) % c.len.result in
    let low : frame < length owner = omega (arith, c.self.invariant.0.some) in
    let is : at_in owner frame ≡ Some c.in-Some.page = read-at owner frame c.index.result.now c.in-Some.page low c.index.ensures c.in-Some.is in
    rw c.in_ok-push.ensures.items
    (owned-less c.self.inside.at.items owner c.self.inside.spare.items c.in-Some.page frame c.self.invariant.0 is low, omega (arith, low, length-set owner frame None))
