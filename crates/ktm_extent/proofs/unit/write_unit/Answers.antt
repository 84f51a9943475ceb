use Rattle.std.proofs.Common.{◌≡◌, ◌*◌, ◌+◌, ◌-◌, length, arith}
use Rattle.ktm_base.proofs.offered.ToldSteps.{Goes-map}
use Rattle.ktm_page.specs.Row.{RowState}
use Rattle.ktm_extent.specs.Extent.{contents}
use Rattle.ktm_extent.specs.Units.{Stays, target}
use Rattle.ktm_extent.proofs.Bytes.{length-whole, zeros-at}
use Rattle.ktm_extent.proofs.Rows.{wrote-unit}
use Rattle.ktm_extent.proofs.Told.{IfSome-two}
use Rattle.ktm_extent.proofs.UnitBytes.{unit-over, whole-over}
use Rattle.ktm_extent.proofs.unit.write_unit.Goals as goal

pub returns-in-Some-clause-ok : goal.returns-in-Some-clause-ok
returns-in-Some-clause-ok g c =
    let (low, high, is) = c.in-Some.ensures in
    let full = length-whole c.args.bytes.now c.in-Some.whole.now (c.args.unit * 4096 - c.args.at) (omega (arith, low, high)) is in
    Goes-map _ _ _ (g.met.P.PageIo.lengths c.args.io.now) c.in_default-write_page.ensures.ok
    (λ (r s : RowState) long wrote. wrote-unit (target c.args.old.now c.args.at c.args.bytes.now) c.args.unit c.args.page (g.P.PageIo.count c.args.io.now) c.in-Some.whole.now r s (omega (arith, long)) c.requires.row full
    (whole-over (contents r.seen c.args.old.now) c.args.at c.args.unit c.args.bytes.now c.in-Some.whole.now low high is) wrote)

pub read_kept-requires-clause-zeros : goal.read_kept-requires-clause-zeros
read_kept-requires-clause-zeros g c = λ i low. zeros-at 4096 i

pub returns-clause-ok : goal.returns-clause-ok
returns-clause-ok g c =
    let e = c.args.old.now in
    let count = g.P.PageIo.count c.args.io.now in
    let end = c.args.at + length c.args.bytes.now in
    let wrote = rw c.in_default-read_kept.ensures.same at c.in_default-write_page-2.ensures.ok in
    let Known = λ (r : RowState). (length r.seen ≡ count * 4096) × Stays (contents r.seen e) c.args.at end c.args.unit c.read_kept.new.buf in
    Goes-map _ _ Known
    (IfSome-two _ _ _ Known (g.met.P.PageIo.lengths c.args.io.now) c.in_default-read_kept.ensures.value (λ r long stays. (long, stays))) wrote
    (λ (r s : RowState) known wrote. wrote-unit (target e c.args.at c.args.bytes.now) c.args.unit c.args.page count c.put_part.new.buf r s (omega (arith, known.0)) c.requires.row c.put_part.array_long
    (unit-over (contents r.seen e) c.args.at c.args.unit c.args.bytes.now c.read_kept.new.buf c.put_part.new.buf known.1 c.put_part.ensures) wrote)
