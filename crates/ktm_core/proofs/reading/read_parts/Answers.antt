use Rattle.std.proofs.Common.{◌≡◌, ℕ, ◌+◌, ◌-◌, ◌/◌, ◌%◌, ◌<◌, ◌++◌, List, length, get_or, take, drop, refl, ◌∙◌, ap, subst, arith, inl, inr}
use Rattle.std.specs.Prelude.{min}
use Rattle.ktm_page.specs.Row.{page_of}
use Rattle.ktm_store.specs.Marks.{MarksState}
use Rattle.ktm_store.specs.Store.{bytes_at}
use Rattle.ktm_core.specs.Reading.{IsLonger}
use Rattle.ktm_core.proofs.Parts.{agrees-still, lets-none, lets-then, longer-none, longer-then, one-more, page-whole, part-ends, part-lie, part-more, parts-none, read-none, reads-then, unit-below}
use Rattle.ktm_core.proofs.reading.read_parts.Goals as goal

pub loop-at-init : goal.loop-at-init
loop-at-init g c = record {
  begins = omega arith;
  ends = c.requires.order;
  aligned = inl refl;
  room = c.requires.room;
  rows = λ row shows agrees. (shows, parts-none c.args.onto.now.items (bytes_at row c.args.content.now) c.args.from);
  long = let none : 0 ≡ c.args.from - c.args.from = omega arith in subst (λ (n : ℕ). IsLonger n c.args.onto.now.items c.args.onto.now.items) none (longer-none c.args.onto.now.items);
  lets = lets-none c.args.store.now;
  reads = read-none _ (g.D.Disk.told c.args.disk.now) (g.D.Disk.status c.args.disk.now);
}

pub read_part-requires-clause-below : goal.read_part-requires-clause-below
read_part-requires-clause-below g c =
    let below = unit-below (length c.args.store.now.marks.held) c.pages.result.now c.args.content.now c.loop-at.at c.pages.ensures (omega (arith, c.loop-at-test.true, c.requires.within)) c.requires.below in
    omega (arith, below, ap (λ (m : MarksState). length m.held) c.loop-at.invariant.lets.marks)

pub loop-at-preserved : goal.loop-at-preserved
loop-at-preserved g c =
    let was = c.loop-at.invariant in
    let from = c.args.from in
    let at = c.loop-at.at in
    let end = c.args.end in
    let many = c.min-many.result in
    let is : many ≡ min (end - at) (4096 - at % 4096) = c.min-many.ensures in
    let places = c.args.content.now in
    let pages = c.pages.result.now in
    let page = get_or pages (at / 4096) 0 in
    let count = length c.args.store.now.marks.held in
    let there : at < length places = omega (arith, c.loop-at-test.true, c.requires.within) in
    let below : page < count = unit-below count pages places at c.pages.ensures there c.requires.below in
    let read = c.in_default.ensures in
    record {
      begins = omega (arith, was.begins);
      ends = omega (arith, is, c.loop-at-test.true);
      aligned = inr (part-ends at end many c.loop-at-test.true is);
      room = omega (arith, was.room, read.long.long, read.capacity, is, c.loop-at-test.true);
      rows = λ row shows agrees. (
          let before = was.rows row shows agrees in
          let after = read.rows row before.0 (agrees-still c.args.journal.now.units c.args.store.now c.loop-at.store row (g.D.Disk.told c.args.disk.now) (g.D.Disk.told c.loop-at.disk) was.lets was.reads.same agrees) in
          let bytes = bytes_at row places in (
            after.0,
            after.1
                ∙ ap (λ (l : List ℕ). l ++ take (at % 4096 + many - at % 4096) (drop (at % 4096) (page_of row page))) before.1
                ∙ ap (λ (l : List ℕ). c.args.onto.now.items ++ take (at - from) (drop from bytes) ++ l)
                (part-lie row pages places at many c.pages.ensures (omega (arith, is)) (omega (arith, is, c.loop-at-test.true, c.requires.within)) (page-whole row count page shows.size below))
                ∙ part-more c.args.onto.now.items bytes from at many was.begins,
          ));
      long = longer-then (at - from) (at % 4096 + many - at % 4096) (at + many - from) c.args.onto.now.items c.loop-at.onto.items c.read_part.new.onto.items (omega (arith, was.begins)) was.long read.long;
      lets = lets-then c.args.store.now c.loop-at.store c.read_part.new.store was.lets read.lets;
      reads = reads-then (min (at - from) ((at + 4095) / 4096 - from / 4096)) 1 _ (g.D.Disk.told c.args.disk.now) (g.D.Disk.told c.loop-at.disk) (g.D.Disk.told c.read_part.new.disk) (g.D.Disk.status c.args.disk.now) (g.D.Disk.status c.loop-at.disk) (g.D.Disk.status c.read_part.new.disk) _
          (one-more from at end many was.begins c.loop-at-test.true was.aligned is) was.reads read.reads;
    }
