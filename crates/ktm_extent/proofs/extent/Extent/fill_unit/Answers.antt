use Rattle.std.proofs.Common.{◌≡◌, ◌*◌, ◌+◌, ◌-◌, ◌<◌, ◌∙◌, length, get_or, arith, subst, take, drop, length-take, length-drop}
use borrow.Rule.Slice.PartMut.{put_mid}
use Rattle.ktm_page.specs.Row.{RowState}
use Rattle.ktm_extent.specs.Extent.{ExtentState, IsExtent, contents}
use Rattle.ktm_extent.specs.Units.{IsFilled}
use Rattle.ktm_extent.proofs.Buffers.{filled-unit}
use Rattle.ktm_extent.proofs.Told.{IfSome-two}
use Rattle.ktm_extent.proofs.offered.Contents.{page-at, page-below}
use Rattle.ktm_extent.proofs.extent.Extent.fill_unit.Goals as goal

pub read_part-requires-clause-row : goal.read_part-requires-clause-row
read_part-requires-clause-row g c =
    let is = subst (λ (e : ExtentState). IsExtent e) c.self.view_is c.self.invariant in
    let at = subst (λ (e : ExtentState). c.index-page.result.now ≡ get_or e.pages c.args.unit c.index-page.result.now) c.self.view_is c.index-page.ensures in
    let there : c.args.unit * 4096 < c.args.self.now.size = omega (arith, c.requires.begins, c.requires.within) in
    page-below (g.P.PageIo.count c.args.io.now) c.args.self.now c.args.unit c.index-page.result.now is there at c.requires.row

pub returns-clause-filled : goal.returns-clause-filled
returns-clause-filled g c =
    let is = subst (λ (e : ExtentState). IsExtent e) c.self.view_is c.self.invariant in
    let index = subst (λ (e : ExtentState). c.index-page.result.now ≡ get_or e.pages c.args.unit c.index-page.result.now) c.self.view_is c.index-page.ensures in
    let there : c.args.unit * 4096 < c.args.self.now.size = omega (arith, c.requires.begins, c.requires.within) in
    let at = page-at c.args.self.now c.args.unit c.index-page.result.now is there index in
    let from = c.saturating_sub-from.result in
    let len = c.min-len.result in
    let old_full : length (take (from + len - from) (drop from c.args.buf.now)) ≡ len =
    omega (arith, c.min-len.ensures, c.saturating_sub-from.ensures, c.requires.begins, length-take (from + len - from) (drop from c.args.buf.now), length-drop from c.args.buf.now) in
    let full : length c.read_part.new.part ≡ len = c.read_part.auto.part ∙ old_full in
    let Filled = λ (r : RowState). IsFilled (contents r.seen c.args.self.now) c.args.at c.args.buf.now (c.args.unit * 4096) → IsFilled (contents r.seen c.args.self.now) c.args.at (put_mid from (from + len - from) c.args.buf.now c.read_part.new.part) ((c.args.unit + 1) * 4096) in
    IfSome-two _ _ _ Filled (g.met.P.PageIo.lengths c.args.io.now) c.in_default.ensures.value
    (λ (r : RowState) long read so. filled-unit r.seen c.args.buf.now c.read_part.new.part (g.P.PageIo.count c.args.io.now) c.args.at c.args.unit c.index-page.result.now from len c.saturating_sub-skip.result c.args.self.now is (omega (arith, long)) c.requires.row at so
    c.saturating_sub-from.ensures c.saturating_sub-skip.ensures c.min-len.ensures c.requires.within c.requires.begins c.requires.ends (rw old_full at read) full)
