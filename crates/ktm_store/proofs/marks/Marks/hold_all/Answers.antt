use Rattle.std.proofs.Common.{◌≡◌, ◌∷◌, [], arith, get_or, take}
use Rattle.std.proofs.lemmas.List.{take_all, take_more}
use Rattle.ktm_store.proofs.Free.{held-none, held-then}
use Rattle.ktm_store.proofs.marks.Marks.hold_all.Goals as goal

pub loop-page-init : goal.loop-page-init
loop-page-init c = held-none c.args.self.now

pub hold-requires : goal.hold-requires
hold-requires c = rw c.loop-page.invariant.count (c.requires c.loop-page.page-index 0 c.loop-page-test.true)

pub loop-page-preserved : goal.loop-page-preserved
loop-page-preserved c =
    let i = c.loop-page.page-index in
    let pages = c.args.pages.now in
    let more = take_more pages i 0 c.loop-page-test.true in
    rw more (held-then (take i pages) (get_or pages i 0 ∷ []) c.args.self.now c.loop-page.self c.hold.new.self c.loop-page.invariant c.hold.ensures)

pub returns : goal.returns
returns c =
    let all : take c.loop-page.page-index c.args.pages.now ≡ c.args.pages.now = take_all c.loop-page.page-index c.args.pages.now (omega (arith, c.loop-page-test.false)) in
    rw all at c.loop-page.invariant
