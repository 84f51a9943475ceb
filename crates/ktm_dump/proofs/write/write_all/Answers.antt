use Rattle.std.proofs.Common.{ℕ, arith, length-take, length-drop}
use Rattle.std.proofs.KnownBytes.{Appends-kept}
use Rattle.ktm_dump.proofs.offered.Written.{Appends-more, AppendsPart-take}
use Rattle.ktm_dump.proofs.write.write_all.Goals as goal

pub loop-at-preserved : goal.loop-at-preserved
loop-at-preserved g c = record {
  within = omega (arith, c.in-Ok.ensures.count, length-take {A = ℕ}, length-drop {A = ℕ});
  so_far = Appends-more _ _ _ _ _ _ c.loop-at.invariant.so_far c.in-Ok.ensures.writes;
  later = omega (arith, c.write.ensures.faults.later, c.loop-at.invariant.later);
}

pub returns-in_default-clause-err : goal.returns-in_default-clause-err
returns-in_default-clause-err g c = AppendsPart-take _ _ c.loop-at.at c.args.bytes.now (Appends-kept _ _ _ _ c.loop-at.invariant.so_far c.in_default.ensures.writes)

pub returns-then-count-eq0-clause-err : goal.returns-then-count-eq0-clause-err
returns-then-count-eq0-clause-err g c = AppendsPart-take _ _ _ c.args.bytes.now (Appends-more _ _ _ _ _ _ c.loop-at.invariant.so_far c.in-Ok.ensures.writes)
