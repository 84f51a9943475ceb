use Rattle.ktm_cut.proofs.Choices.{leaves}
use Rattle.ktm_cut.proofs.Sure.{dirty_sure}
use Rattle.ktm_cut.proofs.settle.settle.Goals as goal

pub returns-clause-left : goal.returns-clause-left
returns-clause-left g c =
    rw (c.flush.ensures.same, ← c.len.ensures.same)
    (leaves c.args.pick c.args.ranges.now c.args.grown_from c.seed_from_u64-words.result c.settle_ranges.new.words
    (g.B.Block.contents c.len.new.self) (g.B.Block.contents c.settle_ranges.new.block) (g.B.Block.contents c.settle_added.new.block)
    c.seed_from_u64-words.ensures c.settle_ranges.ensures.contents c.in_ok-settle_ranges.ensures.left c.in_ok-settle_added.ensures.left)

pub returns-clause-kept : goal.returns-clause-kept
returns-clause-kept g c =
    rw (c.flush.ensures.same, c.in_ok-flush.ensures.doubted, ← c.len.ensures.same)
    (dirty_sure c.args.ranges.now c.args.grown_from c.in_ok-len.len _ _ _
    (g.B.Block.contents c.len.new.self) (g.B.Block.contents c.settle_ranges.new.block) (g.B.Block.contents c.settle_added.new.block)
    (rw c.len.ensures.same c.in_ok-len.ensures.value) c.settle_ranges.ensures.contents c.settle_added.ensures.contents c.in_ok-settle_ranges.ensures.sure c.in_ok-settle_added.ensures.sure)
