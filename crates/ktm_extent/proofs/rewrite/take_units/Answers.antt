use Rattle.std.proofs.Common.{◌≡◌, ℕ, ◌+◌, ◌<◌, false, true, length, take, arith, subst, sym}
use Rattle.std.proofs.lemmas.List.{length-set, take_all}
use Rattle.ktm_base.specs.Disk.{DeviceCalls}
use Rattle.ktm_extent.specs.Units.{first_unit, target}
use Rattle.ktm_extent.proofs.TakenUnits.{calls-all, calls-more, calls_upto, free-left, lost-more, took-next, wrote-next}
use Rattle.ktm_extent.proofs.rewrite.take_units.Goals as goal

pub take_unit-requires-clause-below : goal.take_unit-requires-clause-below
take_unit-requires-clause-below g c = λ page there. omega (arith, c.requires.below page there, c.requires.row, c.loop-i.invariant.row)

pub take_unit-requires-clause-row : goal.take_unit-requires-clause-row
take_unit-requires-clause-row g c = omega (arith, c.loop-i.invariant.count, c.loop-i.invariant.row, c.requires.row)

pub take_unit-requires-clause-free : goal.take_unit-requires-clause-free
take_unit-requires-clause-free g c =
    rw c.loop-i.invariant.count
    (free-left (g.G.PageSpace.count c.args.pages.now) c.loop-i.i c.loop-i.taken (g.G.PageSpace.holders c.args.pages.now) (g.G.PageSpace.holders c.loop-i.pages)
    (omega (arith, c.loop-i-test.true, c.loop-i.auto.taken)) (omega (arith, c.requires.free, c.loop-i.auto.taken)) c.loop-i.invariant.took)

pub loop-i-preserved : goal.loop-i-preserved
loop-i-preserved g c =
    let i = c.loop-i.i in
    let taken = c.loop-i.taken in
    let first = first_unit c.args.old.now.size c.args.at in
    let end = c.args.at + length c.args.bytes.now in
    let low : i < length taken = omega (arith, c.loop-i-test.true, c.loop-i.auto.taken) in
    let took = rw c.loop-i.invariant.count at c.in-Ok.ensures.took in
    record {
      took = took-next _ i c.in-Ok.page taken _ _ _ low c.loop-i.invariant.took took;
      wrote = wrote-next c.args.old.now c.args.at first (c.first_unit-first.result + i) i c.in-Ok.page (g.G.PageSpace.count c.args.pages.now) c.args.bytes.now taken (g.G.PageSpace.holders c.args.pages.now) (g.G.PageSpace.holders c.loop-i.pages) (g.G.PageSpace.holders c.take_unit.new.pages)
          (g.P.PageIo.told c.args.io.now) (g.P.PageIo.told c.loop-i.io) (g.P.PageIo.told c.take_unit.new.io) low c.requires.below c.requires.out c.loop-i.invariant.took took (omega (arith, c.first_unit-first.ensures)) c.loop-i.invariant.wrote c.in-Ok.ensures.wrote;
      calls = subst (λ (n : ℕ). DeviceCalls (calls_upto n (i + 1)) (g.P.PageIo.status c.args.io.now) (g.P.PageIo.status c.take_unit.new.io) false) (sym (length-set taken i c.in-Ok.page))
          (calls-more c.args.old.now.size c.args.at end c.first_unit-first.result (length taken) i _ _ _ false c.first_unit-first.ensures (omega (arith, c.first_unit-first.ensures, c.requires.units, c.loop-i.auto.taken)) low c.loop-i.invariant.calls c.in-Ok.ensures.calls);
      row = cc;
      keeps = g.met.P.PageIo.keeps_then c.args.io.now c.loop-i.io c.take_unit.new.io c.loop-i.invariant.keeps c.in-Ok.ensures.keeps;
      count = cc;
    }

pub give_all-requires-clause-below : goal.give_all-requires-clause-below
give_all-requires-clause-below g c = λ page some. omega (arith, (c.loop-i.invariant.took.new page some).0, c.in-Err.ensures.count, c.loop-i.invariant.count)

pub give_all-requires-clause-out : goal.give_all-requires-clause-out
give_all-requires-clause-out g c = λ page. omega (arith, c.in-Err.ensures.gave page, c.loop-i.invariant.took.holders page)

pub returns-in-Err : goal.returns-in-Err
returns-in-Err g c =
    let i = c.loop-i.i in
    let taken = c.loop-i.taken in
    let first = first_unit c.args.old.now.size c.args.at in
    let end = c.args.at + length c.args.bytes.now in
    let low : i < length taken = omega (arith, c.loop-i-test.true, c.loop-i.auto.taken) in
    record {
      took = tt;
      wrote = tt;
      gave = λ page. omega (arith, c.give_all.ensures.gave page, c.in-Err.ensures.gave page, c.loop-i.invariant.took.holders page);
      lost = lost-more (target c.args.old.now c.args.at c.args.bytes.now) first (g.G.PageSpace.count c.args.pages.now) (take i taken) (g.G.PageSpace.holders c.args.pages.now) (g.G.PageSpace.holders c.loop-i.pages)
          (g.P.PageIo.told c.args.io.now) (g.P.PageIo.told c.loop-i.io) (g.P.PageIo.told c.take_unit.new.io) c.loop-i.invariant.took c.loop-i.invariant.wrote (rw c.loop-i.invariant.count at c.in-Err.ensures.lost);
      calls = rw (← c.loop-i.auto.taken) (calls-all (length taken) (i + 1) _ _ true (omega (arith, low))
          (calls-more c.args.old.now.size c.args.at end c.first_unit-first.result (length taken) i _ _ _ true c.first_unit-first.ensures (omega (arith, c.first_unit-first.ensures, c.requires.units, c.loop-i.auto.taken)) low c.loop-i.invariant.calls c.in-Err.ensures.calls));
      row = cc;
      keeps = g.met.P.PageIo.keeps_then c.args.io.now c.loop-i.io c.take_unit.new.io c.loop-i.invariant.keeps c.in-Err.ensures.keeps;
      count = cc;
    }

pub returns : goal.returns
returns g c =
    let all : take c.loop-i.i c.loop-i.taken ≡ c.loop-i.taken = take_all c.loop-i.i c.loop-i.taken (omega (arith, c.loop-i-test.false, c.loop-i.auto.taken)) in
    record {
      took = rw all at c.loop-i.invariant.took;
      wrote = rw all at c.loop-i.invariant.wrote;
      gave = tt;
      lost = tt;
      calls = rw (← c.loop-i.auto.taken) (calls-all (length c.loop-i.taken) c.loop-i.i _ _ false (omega (arith, c.loop-i.auto.i-end, c.loop-i.auto.taken)) c.loop-i.invariant.calls);
      row = c.loop-i.invariant.row;
      keeps = c.loop-i.invariant.keeps;
      count = c.loop-i.invariant.count;
    }
