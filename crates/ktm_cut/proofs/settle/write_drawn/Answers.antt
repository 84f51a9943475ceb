use Rattle.std.proofs.Common.{◌≡◌, ◌-◌, [], ◌∷◌, length, take, arith, rules}
use Rattle.std.proofs.lemmas.Grind.{common_steps}
use Rattle.ktm_cut.proofs.Pieces.{piece_outside, long_as_asked, drawn_next, drawn_last}
use Rattle.ktm_cut.proofs.Ranges.{ends_within}
use Rattle.ktm_cut.proofs.Sure.{piece_sure, sure_all}
use Rattle.ktm_cut.proofs.settle.write_drawn.Goals as goal

pub loop-at-preserved : goal.loop-at-preserved
loop-at-preserved g c =
    let asked : length (take c.piece_of-size.result c.loop-at.drawn) ≡ c.piece_of-size.result = search (rules, common_steps) in
    let long = long_as_asked c.piece_of-size.result _ c.loop-at.words c.fill_bytes_via_u32.new.rng c.fill_bytes_via_u32.new.dst asked c.fill_bytes_via_u32.ensures in
    record {
      after = omega arith;
      before = omega arith;
      within = ends_within ((c.args.from, c.args.end - c.args.from) ∷ []) c.args.end (g.B.Block.contents c.args.block.now) (g.B.Block.contents c.write_at.new.self) c.requires.within
          (piece_outside c.args.from c.args.end c.loop-at.at c.piece_of-size.result c.fill_bytes_via_u32.new.dst (g.B.Block.contents c.args.block.now) (g.B.Block.contents c.loop-at.block) (g.B.Block.contents c.write_at.new.self) (omega arith) (omega arith) long c.loop-at.invariant.within c.loop-at.invariant.outside c.in_ok-write_at.ensures.ok);
      outside = piece_outside c.args.from c.args.end c.loop-at.at c.piece_of-size.result c.fill_bytes_via_u32.new.dst (g.B.Block.contents c.args.block.now) (g.B.Block.contents c.loop-at.block) (g.B.Block.contents c.write_at.new.self) (omega arith) (omega arith) long c.loop-at.invariant.within c.loop-at.invariant.outside c.in_ok-write_at.ensures.ok;
      left = drawn_next c.args.from c.args.end c.loop-at.at c.piece_of-size.result _ c.args.words.now c.loop-at.words c.fill_bytes_via_u32.new.rng c.fill_bytes_via_u32.new.dst (g.B.Block.contents c.args.block.now) (g.B.Block.contents c.loop-at.block) (g.B.Block.contents c.write_at.new.self) (omega arith) (omega arith) asked c.fill_bytes_via_u32.ensures c.loop-at.invariant.within c.loop-at.invariant.left c.in_ok-write_at.ensures.ok;
      sure = piece_sure c.args.from c.loop-at.at c.piece_of-size.result _ _ _ _ long c.loop-at.invariant.sure c.in_ok-write_at.ensures.doubted.others c.in_ok-write_at.ensures.doubted.range;
      later = omega (arith, c.in_ok-write_at.ensures.faults.later);
    }

pub returns-clause-left : goal.returns-clause-left
returns-clause-left g c = drawn_last c.args.from c.args.end c.loop-at.at c.args.words.now c.loop-at.words (g.B.Block.contents c.args.block.now) (g.B.Block.contents c.loop-at.block) (omega arith) c.loop-at.invariant.left

pub returns-clause-sure : goal.returns-clause-sure
returns-clause-sure g c = sure_all c.args.from c.loop-at.at c.args.end _ _ (omega arith) c.loop-at.invariant.sure
