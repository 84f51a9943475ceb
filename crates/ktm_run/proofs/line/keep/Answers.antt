use Rattle.std.proofs.Common.{arith, ◌∙◌}
use Rattle.ktm_run.proofs.Lines.{kept_with}
use Rattle.ktm_run.proofs.line.keep.Goals as goal

pub returns-clause-kept : goal.returns-clause-kept
returns-clause-kept c = λ part is.
    (rw c.unwrap.ensures at c.extend_from_slice.ensures.items)
    ∙ kept_with c.args.kept.now.items part c.args.bytes.now c.min.result is (omega (arith, c.min.ensures, c.saturating_sub-room.ensures, c.len.ensures))
