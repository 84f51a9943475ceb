use Rattle.std.proofs.Common.{◌≡◌, ◌∙◌, length, take, arith, rules}
use Rattle.std.proofs.lemmas.Grind.{common_steps}
use Rattle.ktm_cut.proofs.Again.{written_again, ends_before}
use Rattle.ktm_cut.proofs.Sure.{piece_sure, sure_all}
use Rattle.ktm_cut.proofs.settle.write_again.Goals as goal

pub loop-at-preserved : goal.loop-at-preserved
loop-at-preserved g c =
    let asked : length (take c.piece_of-size.result c.loop-at.bytes) ≡ c.piece_of-size.result = search (rules, common_steps) in
    let same : g.B.Block.contents c.write_at.new.self ≡ g.B.Block.contents c.args.block.now =
    written_again c.loop-at.at (length (take c.piece_of-size.result c.loop-at.bytes)) c.read_at.new.buf (g.B.Block.contents c.loop-at.block) (g.B.Block.contents c.read_at.new.self) (g.B.Block.contents c.write_at.new.self) c.read_at.ensures.same
    (ends_before _ c.args.end _ (omega arith) c.loop-at.invariant.within) c.in_ok-read_at.ensures.value c.in_ok-write_at.ensures.ok
    ∙ c.loop-at.invariant.same in
    record {
      after = omega arith;
      before = omega arith;
      within = rw same c.requires.within;
      same = same;
      sure = piece_sure c.args.from c.loop-at.at c.piece_of-size.result _ _ _ _ (search (rules, common_steps)) (rw c.read_at.ensures.doubted c.loop-at.invariant.sure) c.in_ok-write_at.ensures.doubted.others c.in_ok-write_at.ensures.doubted.range;
      later = omega (arith, c.in_ok-read_at.ensures.faults.later, c.in_ok-write_at.ensures.faults.later);
    }

pub returns-clause-sure : goal.returns-clause-sure
returns-clause-sure g c = sure_all c.args.from c.loop-at.at c.args.end _ _ (omega arith) c.loop-at.invariant.sure
