use Rattle.std.proofs.Common.{arith}
use Rattle.ktm_cut.proofs.Choices.{leaves_all, leaves_zeros, leaves_drawn, leaves_half}
use Rattle.ktm_cut.proofs.settle.settle_range.Goals as goal

pub returns-in-0-clause-left : goal.returns-in-0-clause-left
returns-in-0-clause-left g c = leaves_all c.args.from c.args.end c.next_word.result c.args.words.now c.next_word.new.self c.write_again.result (g.B.Block.contents c.args.block.now) (g.B.Block.contents c.write_again.new.block) c.next_word.ensures c.in-0.is c.write_again.ensures.same

pub returns-in-1-clause-left : goal.returns-in-1-clause-left
returns-in-1-clause-left g c = leaves_zeros c.args.from c.args.end c.next_word.result c.args.words.now c.next_word.new.self c.write_zeros.result (g.B.Block.contents c.args.block.now) (g.B.Block.contents c.write_zeros.new.block) c.next_word.ensures c.in-1.is c.write_zeros.ensures.left

pub returns-in-2-clause-left : goal.returns-in-2-clause-left
returns-in-2-clause-left g c = leaves_drawn c.args.from c.args.end c.next_word.result c.args.words.now c.next_word.new.self c.write_drawn.new.words c.write_drawn.result (g.B.Block.contents c.args.block.now) (g.B.Block.contents c.write_drawn.new.block) c.next_word.ensures c.in-2.is c.write_drawn.ensures.left

pub returns-in_ok-write_again-in_default-clause-left : goal.returns-in_ok-write_again-in_default-clause-left
returns-in_ok-write_again-in_default-clause-left g c =
    rw (← c.in_ok-write_again-in_default.ensures.same)
    (leaves_half c.args.from c.args.end c.next_word.result c.args.words.now c.next_word.new.self c.write_drawn-in_default.new.words c.write_drawn-in_default.result (g.B.Block.contents c.write_again-in_default.new.block) (g.B.Block.contents c.write_drawn-in_default.new.block) c.next_word.ensures (omega arith) c.write_drawn-in_default.ensures.left)
