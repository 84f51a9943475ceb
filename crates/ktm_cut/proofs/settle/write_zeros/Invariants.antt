use Rattle.std.specs.Prelude.{IfSome}
use Rattle.std.proofs.Common.{◌≡◌, ◌-◌, ◌≤◌, length, ◌∷◌, []}
use Rattle.ktm_base.specs.Told.{Goes}
use Rattle.ktm_base.specs.Bytes.{SameOutside}
use Rattle.ktm_cut.specs.Left.{with_zeros}
use Rattle.ktm_cut.specs.Sure.{SureFrom}
use Rattle.ktm_cut.proofs.settle.write_zeros.Given as goal

abbrev pub invariant-loop-at : goal.invariant-loop-at
invariant-loop-at g l = record {
  after : l.fn.from ≤ l.at;
  before : l.at ≤ l.fn.end;
  within : IfSome (g.B.Block.contents l.block) (λ bytes. l.fn.end ≤ length bytes);
  outside : Goes (SameOutside ((l.fn.from, l.fn.end - l.fn.from) ∷ [])) (g.B.Block.contents l.initial.block) (g.B.Block.contents l.block);
  left : Goes (λ old new. with_zeros l.at l.fn.end new ≡ with_zeros l.fn.from l.fn.end old) (g.B.Block.contents l.initial.block) (g.B.Block.contents l.block);
  sure : SureFrom l.fn.from l.at (g.B.Block.is_doubted l.initial.block) (g.B.Block.is_doubted l.block);
  later : g.B.Block.faults l.initial.block ≤ g.B.Block.faults l.block;
}

abbrev pub decreases-loop-at : goal.decreases-loop-at
decreases-loop-at g l = l.fn.end - l.at
