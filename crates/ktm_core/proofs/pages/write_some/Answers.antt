use Rattle.std.proofs.Common.{◌≡◌, ℕ, List, arith, get_or, length-take, sym, subst, take}
use Rattle.std.proofs.lemmas.List.{take_all, take_more}
use Rattle.std.proofs.lemmas.List.Elements.{Contains-get_or}
use Rattle.ktm_core.proofs.Writing.{AreBeingWritten, page-shown, taken-in, writing-ends, writing-next, writing-none, writing-torn}
use Rattle.ktm_core.proofs.pages.write_some.Goals as goal

pub loop-page-init : goal.loop-page-init
loop-page-init g c = λ row shows. writing-none c.law_of_pages.ensures c.args.journal.now row (g.D.Disk.told c.args.disk.now) (g.D.Disk.status c.args.disk.now) c.requires.headed c.requires.up c.requires.pending

pub page-requires-clause-below : goal.page-requires-clause-below
page-requires-clause-below g c = c.requires.below c.loop-page.page-index 0 c.loop-page-test.true

pub write_page-requires-clause-within : goal.write_page-requires-clause-within
write_page-requires-clause-within g c = let below = c.requires.below c.loop-page.page-index 0 c.loop-page-test.true in omega (arith, below, c.requires.count)

pub write_page-requires-clause-pending : goal.write_page-requires-clause-pending
write_page-requires-clause-pending g c =
    let (any, shown) = c.law_of_rows.ensures.rows in
    let so = c.loop-page.invariant any shown in
    omega (arith, so.pending, c.loop-page-test.true, c.requires.few, length-take c.loop-page.page-index c.args.pages.now)

pub loop-page-preserved : goal.loop-page-preserved
loop-page-preserved g c = λ row shows. (
    let i = c.loop-page.page-index in
    let pages = c.args.pages.now in
    let p = get_or pages i 0 in
    let below = c.requires.below i 0 c.loop-page-test.true in
    let bytes = page-shown c.args.store.now row p c.page.result.now shows c.page.ensures.bytes in
    let full = rw bytes at c.page.ensures.whole in
    subst (λ (l : List ℕ). AreBeingWritten c.args.journal.now l row (g.D.Disk.told c.args.disk.now) (g.D.Disk.told c.write_page.new.disk) (g.D.Disk.status c.args.disk.now) (g.D.Disk.status c.write_page.new.disk)) (sym (take_more pages i 0 c.loop-page-test.true))
    (writing-next c.law_of_pages.ensures c.args.journal.now row (take i pages) p (g.D.Disk.told c.args.disk.now) (g.D.Disk.told c.loop-page.disk) (g.D.Disk.told c.write_page.new.disk) (g.D.Disk.status c.args.disk.now) (g.D.Disk.status c.loop-page.disk) (g.D.Disk.status c.write_page.new.disk) (omega (arith, below, c.requires.count)) full (c.loop-page.invariant row shows) (rw bytes at c.in_default.ensures.ok)
    c.write_page.ensures.kept c.write_page.ensures.headed c.write_page.ensures.pending c.in_default.ensures.up c.in_default.ensures.calls))

pub returns-in-Err : goal.returns-in-Err
returns-in-Err g c = λ row shows. (
    let i = c.loop-page.page-index in
    let pages = c.args.pages.now in
    let p = get_or pages i 0 in
    let below = c.requires.below i 0 c.loop-page-test.true in
    let bytes = page-shown c.args.store.now row p c.page.result.now shows c.page.ensures.bytes in
    let full = rw bytes at c.page.ensures.whole in
    writing-torn c.law_of_pages.ensures c.args.journal.now row (take i pages) p (g.D.Disk.told c.args.disk.now) (g.D.Disk.told c.loop-page.disk) (g.D.Disk.told c.write_page.new.disk) (g.D.Disk.status c.args.disk.now) (g.D.Disk.status c.loop-page.disk) (g.D.Disk.status c.write_page.new.disk) (omega (arith, below, c.requires.count)) full (c.loop-page.invariant row shows) pages (λ other there. taken-in pages i other there)
    (Contains-get_or pages i 0 c.loop-page-test.true) (omega (arith, c.loop-page-test.true, length-take i pages)) c.requires.some c.in-Err.ensures.err c.write_page.ensures.kept c.in-Err.ensures.calls)

pub returns : goal.returns
returns g c = λ row shows. (
    let i = c.loop-page.page-index in
    let all : take i c.args.pages.now ≡ c.args.pages.now = take_all i c.args.pages.now (omega (arith, c.loop-page-test.false)) in
    let so = subst (λ (l : List ℕ). AreBeingWritten c.args.journal.now l row (g.D.Disk.told c.args.disk.now) (g.D.Disk.told c.loop-page.disk) (g.D.Disk.status c.args.disk.now) (g.D.Disk.status c.loop-page.disk)) all (c.loop-page.invariant row shows) in
    writing-ends c.law_of_pages.ensures c.args.journal.now row c.args.pages.now _ _ _ _ _ _ so c.requires.some c.sync.result c.sync.ensures.ok c.sync.ensures.err c.sync.ensures.pending c.sync.ensures.call)
