use Rattle.std.proofs.Common.{rules, arith}
use Rattle.ktm_cut.proofs.Choices.{ranges_next, ranges_last}
use Rattle.ktm_cut.proofs.Ranges.{range_more, length_stays}
use Rattle.ktm_cut.proofs.Sure.{range_sure, ranges_sure}
use Rattle.ktm_cut.proofs.settle.settle_ranges.Goals as goal

pub returns-in_err-settle_range-clause-contents : goal.returns-in_err-settle_range-clause-contents
returns-in_err-settle_range-clause-contents g c =
    range_more c.args.ranges.now c.loop-at.at-index c.args.len c.min-from.result c.min-end.result (0, 0) _ _ _
    (omega arith) (search rules) (omega arith) (omega arith)
    c.loop-at.invariant.outside c.settle_range.ensures.contents

pub loop-at-preserved : goal.loop-at-preserved
loop-at-preserved g c = record {
  long = length_stays _ _ _ _ c.loop-at.invariant.long c.settle_range.ensures.contents;
  outside = range_more c.args.ranges.now c.loop-at.at-index c.args.len c.min-from.result c.min-end.result (0, 0) _ _ _
      (omega arith) (search rules) (omega arith) (omega arith)
      c.loop-at.invariant.outside c.settle_range.ensures.contents;
  left = ranges_next c.args.ranges.now c.loop-at.at-index c.args.len c.min-from.result c.min-end.result (0, 0) c.args.words.now c.loop-at.words c.settle_range.new.words
      (g.B.Block.contents c.args.block.now) (g.B.Block.contents c.loop-at.block) (g.B.Block.contents c.settle_range.new.block)
      (omega arith) (search rules) (omega arith) c.loop-at.invariant.long c.loop-at.invariant.left c.in_ok-settle_range.ensures.left;
  sure = range_sure c.args.ranges.now c.loop-at.at-index c.args.len c.min-from.result c.min-end.result (0, 0) _ _ _
      (omega arith) (search rules) (omega arith) c.loop-at.invariant.sure c.in_ok-settle_range.ensures.sure;
  later = omega (arith, c.in_ok-settle_range.ensures.faults.later);
}

pub returns-clause-left : goal.returns-clause-left
returns-clause-left g c = ranges_last c.args.ranges.now c.loop-at.at-index c.args.words.now c.loop-at.words (g.B.Block.contents c.args.block.now) (g.B.Block.contents c.loop-at.block) (omega arith) c.loop-at.invariant.left

pub returns-clause-sure : goal.returns-clause-sure
returns-clause-sure g c = ranges_sure c.args.ranges.now c.loop-at.at-index c.args.len _ _ (omega arith) c.loop-at.invariant.sure
