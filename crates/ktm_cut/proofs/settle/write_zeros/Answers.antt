use Rattle.std.proofs.Common.{◌-◌, [], ◌∷◌, arith}
use Rattle.ktm_cut.proofs.Pieces.{piece_outside, zeros_next, zeros_last, zeros_made, zeros_long}
use Rattle.ktm_cut.proofs.Ranges.{ends_within}
use Rattle.ktm_cut.proofs.Sure.{piece_sure, sure_all}
use Rattle.ktm_cut.proofs.settle.write_zeros.Goals as goal

pub loop-at-preserved : goal.loop-at-preserved
loop-at-preserved g c =
    record {
      after = omega arith;
      before = omega arith;
      within = ends_within ((c.args.from, c.args.end - c.args.from) ∷ []) c.args.end (g.B.Block.contents c.args.block.now) (g.B.Block.contents c.write_at.new.self) c.requires.within
          (piece_outside c.args.from c.args.end c.loop-at.at c.piece_of-size.result _ (g.B.Block.contents c.args.block.now) (g.B.Block.contents c.loop-at.block) (g.B.Block.contents c.write_at.new.self) (omega arith) (omega arith) (zeros_long c.piece_of-size.result (omega arith)) c.loop-at.invariant.within c.loop-at.invariant.outside c.in_ok-write_at.ensures.ok);
      outside = piece_outside c.args.from c.args.end c.loop-at.at c.piece_of-size.result _ (g.B.Block.contents c.args.block.now) (g.B.Block.contents c.loop-at.block) (g.B.Block.contents c.write_at.new.self) (omega arith) (omega arith) (zeros_long c.piece_of-size.result (omega arith)) c.loop-at.invariant.within c.loop-at.invariant.outside c.in_ok-write_at.ensures.ok;
      left = zeros_next c.args.from c.args.end c.loop-at.at c.piece_of-size.result _ (g.B.Block.contents c.args.block.now) (g.B.Block.contents c.loop-at.block) (g.B.Block.contents c.write_at.new.self) (omega arith) (zeros_made c.piece_of-size.result (omega arith)) c.loop-at.invariant.within c.loop-at.invariant.left c.in_ok-write_at.ensures.ok;
      sure = piece_sure c.args.from c.loop-at.at c.piece_of-size.result _ _ _ _ (zeros_long c.piece_of-size.result (omega arith)) c.loop-at.invariant.sure c.in_ok-write_at.ensures.doubted.others c.in_ok-write_at.ensures.doubted.range;
      later = omega (arith, c.in_ok-write_at.ensures.faults.later);
    }

pub returns-clause-left : goal.returns-clause-left
returns-clause-left g c = zeros_last c.args.from c.args.end c.loop-at.at (g.B.Block.contents c.args.block.now) (g.B.Block.contents c.loop-at.block) (omega arith) c.loop-at.invariant.left

pub returns-clause-sure : goal.returns-clause-sure
returns-clause-sure g c = sure_all c.args.from c.loop-at.at c.args.end _ _ (omega arith) c.loop-at.invariant.sure
