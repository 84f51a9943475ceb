use Rattle.std.proofs.Common.{◌≡◌, ◌+◌, ◌-◌, ◌<◌, ◌∙◌, ◌++◌, arith, drop, length, length-take, min, subst, take}
use Rattle.ktm_page.specs.Row.{RowState}
use Rattle.ktm_extent.specs.Extent.{ExtentState, IsExtent, contents}
use Rattle.ktm_extent.proofs.Buffers.{filled-less, read-bytes}
use Rattle.ktm_extent.proofs.Told.{IfSome-two}
use Rattle.ktm_extent.proofs.extent.Extent.read.Goals as goal

pub returns-clause-bytes : goal.returns-clause-bytes
returns-clause-bytes g c =
    let e = c.args.self.now in
    let buf = c.args.buf.now in
    let at = c.args.at in
    let len = c.min-len.result in
    let is = subst (λ (e : ExtentState). IsExtent e) c.self.view_is c.self.invariant in
    let size = subst (λ (e : ExtentState). c.saturating_sub.result ≡ e.size - c.args.at) c.self.view_is c.saturating_sub.ensures in
    let len_is : len ≡ min (length buf) (e.size - at) = omega (arith, c.min-len.ensures, size) in
    let some : 0 < len = omega (arith, c.if-len-eq0.false) in
    let part : length (take len buf) ≡ len = omega (arith, len_is, length-take len buf) in
    let full : length c.fill.new.buf ≡ len = c.fill.auto.buf ∙ part in
    let Read = λ (r : RowState). c.fill.new.buf ++ drop len buf ≡ take (at + len - at) (drop at (contents r.seen e)) ++ drop len buf in
    IfSome-two _ _ _ Read (g.met.P.PageIo.lengths c.args.io.now) c.in_default.ensures.filled
    (λ (r : RowState) long so. read-bytes r.seen buf c.fill.new.buf (g.P.PageIo.count c.args.io.now) at len e is (omega (arith, long)) c.requires.row len_is some full (filled-less (contents r.seen e) at c.fill.new.buf _ (at + len) (omega (arith, part)) so))
