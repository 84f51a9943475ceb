use Rattle.std.proofs.Common.{◌≡◌, ℕ, ◌-◌, ◌*◌, ◌<◌, get_or, nat_lt, if◌then◌else◌, arith, subst}
use Rattle.ktm_page.specs.Row.{RowState}
use Rattle.ktm_extent.specs.Extent.{ExtentState, IsExtent}
use Rattle.ktm_extent.proofs.Told.{IfSome-two}
use Rattle.ktm_extent.proofs.offered.Contents.{page-at, page-below}
use Rattle.ktm_extent.proofs.UnitBytes.{unit-read}
use Rattle.ktm_extent.proofs.extent.Extent.read_unit.Goals as goal

pub read_page-requires : goal.read_page-requires
read_page-requires g c =
    let is = subst (λ (e : ExtentState). IsExtent e) c.self.view_is c.self.invariant in
    let at = subst (λ (e : ExtentState). c.index.result.now ≡ get_or e.pages c.args.unit c.index.result.now) c.self.view_is c.index.ensures in
    page-below (g.P.PageIo.count c.args.io.now) c.args.self.now c.args.unit c.index.result.now is c.requires.there at c.requires.row

pub returns-clause-value : goal.returns-clause-value
returns-clause-value g c =
    let is = subst (λ (e : ExtentState). IsExtent e) c.self.view_is c.self.invariant in
    let index = subst (λ (e : ExtentState). c.index.result.now ≡ get_or e.pages c.args.unit c.index.result.now) c.self.view_is c.index.ensures in
    let at = page-at c.args.self.now c.args.unit c.index.result.now is c.requires.there index in
    let cleared = subst (λ (e : ExtentState). (i : ℕ) → i < 4096 → get_or c.clear_behind.new.buf i 0 ≡ (if nat_lt i (e.size - c.args.unit * 4096) then get_or c.read_page.new.buf i 0 else 0)) c.self.view_is c.clear_behind.ensures in
    IfSome-two _ _ _ _ (g.met.P.PageIo.lengths c.args.io.now) c.in_default.ensures.value
    (λ (r : RowState) long read. unit-read r.seen c.read_page.new.buf c.clear_behind.new.buf (g.P.PageIo.count c.args.io.now) c.args.unit c.args.self.now is (omega (arith, long)) c.requires.row (rw at at read) cleared)
