use Rattle.std.proofs.Common.{◌≡◌, ◌+◌, ◌-◌, length, take, drop, ◌∙◌, arith, length-append, length-take, length-drop}
use Rattle.std.proofs.lemmas.Grind.{common_steps}
use Rattle.ktm_base.specs.Disk.{DiskState}
use Rattle.ktm_log.specs.Load.{IsRead}
use Rattle.ktm_log.proofs.Steps.{IfSome-both}
use Rattle.ktm_log.proofs.Loading.{filled, grown_front, read_on}
use Rattle.ktm_log.proofs.load.load_piece.Goals as goal

pub returns-clause-leaves : goal.returns-clause-leaves
returns-clause-leaves g c =
    let old = c.args.read.now.items in
    let from = c.len-from.result in
    let n = c.min-piece.result in
    let grown = rw c.unwrap.ensures at c.resize.ensures.items in
    let at : from ≡ length old = omega (arith, c.len-from.ensures) in
    let front : take from c.deref_mut.result.now ≡ old = grown_front old _ _ from (from + n) at (omega arith) (c.deref_mut.ensures.value ∙ grown) in
    let long : length c.deref_mut.result.now ≡ from + n = omega (arith, c.deref_mut.ensures.len, rw c.unwrap.ensures at c.resize.ensures.len) in
    let full : length c.read_at.new.buf ≡ n = omega (arith, c.read_at.auto.buf, length-take (length c.deref_mut.result.now - from) (drop from c.deref_mut.result.now), length-drop from c.deref_mut.result.now) in
    record {
      same = c.in_default.ensures.same;
      room = grind (arith, common_steps);
      front = grind (arith, common_steps);
      holds = rw (filled old c.deref_mut.result.now c.read_at.new.buf _ from n c.resize.new.self.len front long at full (omega arith), c.in_default.ensures.same) (record {
        inside = omega (arith, length-append old c.read_at.new.buf, c.min-piece.ensures);
        whole = λ more. omega (arith, length-append old c.read_at.new.buf, c.min-piece.ensures, c.requires.holds.whole);
        up = λ some. c.in_default.ensures.call.down;
        bytes = IfSome-both (λ (s : DiskState). IsRead c.args.area old s.seen) _ _ _ c.requires.holds.bytes c.in_default.ensures.value
            (λ s read is. read_on c.args.area old c.read_at.new.buf s.seen from n _ read is (omega arith) at full (omega (arith, c.min-piece.ensures)));
      });
      loads = grind (arith, common_steps);
    }

pub returns-in-Err-clause-more : goal.returns-in-Err-clause-more
returns-in-Err-clause-more g c = grind (arith, common_steps)

pub returns-clause-more : goal.returns-clause-more
returns-clause-more g c = grind (arith, common_steps)
