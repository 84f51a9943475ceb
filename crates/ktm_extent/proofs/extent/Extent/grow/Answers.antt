use Rattle.std.specs.Prelude.{IfSome}
use Rattle.std.proofs.Common.{◌≡◌, ◌-◌, ◌*◌, ◌≤◌, arith, length, subst}
use Rattle.ktm_base.proofs.offered.ToldSteps.{IfSome-map}
use Rattle.ktm_page.specs.Row.{RowState}
use Rattle.ktm_extent.specs.Extent.{ExtentState, IsExtent, touched}
use Rattle.ktm_extent.proofs.Splices.{grown-none}
use Rattle.ktm_extent.proofs.extent.Extent.grow.Goals as goal

pub returns-then-len-self-clause-ok : goal.returns-then-len-self-clause-ok
returns-then-len-self-clause-ok g c =
    let e = c.args.self.now in
    let count = g.G.PageSpace.count c.args.pages.now in
    let told = g.P.PageIo.told c.args.io.now in
    let is = subst (λ (e : ExtentState). IsExtent e) c.self.view_is c.self.invariant in
    let len_is = subst (λ (e : ExtentState). c.args.len ≡ e.size) c.self.view_is c.if-len-self.true in
    let Long = λ (r : RowState). count * 4096 ≤ length r.seen in
    let long : IfSome told Long = IfSome-map told _ Long (g.met.P.PageIo.lengths c.args.io.now) (λ r is. omega (arith, is, c.requires.row)) in
    rw len_is (grown-none e (touched e.size e.size (e.size - e.size)) count (g.G.PageSpace.holders c.args.pages.now) told (g.P.PageIo.status c.args.io.now) is c.requires.below c.requires.out long)
