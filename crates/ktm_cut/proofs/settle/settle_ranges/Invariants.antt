use Rattle.std.specs.Prelude.{IfSome}
use Rattle.std.proofs.Common.{drop, ◌≡◌, ◌≤◌, length}
use Rattle.ktm_base.specs.Told.{Goes}
use Rattle.ktm_base.specs.Bytes.{SameOutside}
use Rattle.ktm_cut.specs.Left.{left_of_ranges}
use Rattle.ktm_cut.proofs.Sure.{SureBut}
use Rattle.ktm_cut.proofs.settle.settle_ranges.Given as goal

abbrev pub invariant-loop-at : goal.invariant-loop-at
invariant-loop-at g l = record {
  long : IfSome (g.B.Block.contents l.block) (λ bytes. l.fn.len ≡ length bytes);
  outside : Goes (SameOutside l.ranges) (g.B.Block.contents l.initial.block) (g.B.Block.contents l.block);
  left : Goes (λ old new. left_of_ranges (drop l.at-index l.ranges) l.words new ≡ left_of_ranges l.ranges l.initial.words old) (g.B.Block.contents l.initial.block) (g.B.Block.contents l.block);
  sure : SureBut l.ranges (drop l.at-index l.ranges) l.fn.len (g.B.Block.is_doubted l.initial.block) (g.B.Block.is_doubted l.block);
  later : g.B.Block.faults l.initial.block ≤ g.B.Block.faults l.block;
}
