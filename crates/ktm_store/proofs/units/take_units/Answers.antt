use Rattle.std.proofs.Common.{◌≡◌, ◌+◌, ◌<◌, ◌∙◌, ap, ℕ, length, arith}
use Rattle.ktm_store.specs.Change.{bytes_in, frames_from, from_in, head_in, tail_in, unit_of}
use Rattle.ktm_store.specs.Filling.{pool_of}
use Rattle.ktm_store.proofs.Framing.{length-filled}
use Rattle.ktm_store.proofs.Taking.{still-somewhere, still-whole, units-next}
use Rattle.ktm_store.proofs.units.take_units.Goals as goal

pub loop-i-preserved : goal.loop-i-preserved
loop-i-preserved c =
    let change = c.args.change.now in
    let old = pool_of c.args.frames.now c.args.marks.now c.args.stored.now in
    let now = pool_of c.loop-i.frames c.loop-i.marks c.loop-i.stored in
    let new = pool_of c.take_unit.new.frames c.take_unit.new.marks c.take_unit.new.stored in
    let unit : ℕ = c.first-first.result + c.loop-i.i in
    let took = c.take_unit.ensures.took in
    let low : c.loop-i.i < length c.loop-i.pages = omega (arith, c.loop-i-test.true, c.loop-i.auto.pages) in
    let next : unit + 1 ≡ c.first-first.result + (c.loop-i.i + 1) = omega arith in
    record {
      took = units-next (unit_of change) c.first-first.result c.loop-i.i c.take_unit.result c.loop-i.pages old now new low c.loop-i.invariant.whole
          (λ unit. length-filled (head_in change unit) (from_in change unit) (bytes_in change unit) (tail_in change unit)) c.loop-i.invariant.took took;
      whole = still-whole now new c.take_unit.result (unit_of change unit) took c.loop-i.invariant.whole;
      some = still-somewhere now new c.take_unit.result (unit_of change unit) took c.loop-i.invariant.whole (c.loop-i.invariant.took.wanted ∙ c.requires.none) c.loop-i.invariant.some;
      spare = omega (arith, c.take_unit.ensures.spare, ap (frames_from change) next);
    }
