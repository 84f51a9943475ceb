use Rattle.std.proofs.Common.{◌≡◌, length, rules, vec_len}
use Rattle.ktm_run.proofs.Lines.{ended_alone, ended_behind}
use Rattle.ktm_run.proofs.line.keep_end.Goals as goal

pub returns-then-not-is_empty-clause-line : goal.returns-then-not-is_empty-clause-line
returns-then-not-is_empty-clause-line c =
    let count : vec_len c.args.kept.now ≡ length c.args.kept.now.items = search rules in
    λ part is. ended_behind c.args.kept.now.items c.keep.new.kept.items part c.args.bytes.now is (rw count at c.if-not-is_empty.ensures) (c.keep.ensures.kept part is)

pub returns-else-not-is_empty-clause-line : goal.returns-else-not-is_empty-clause-line
returns-else-not-is_empty-clause-line c =
    let count : vec_len c.args.kept.now ≡ length c.args.kept.now.items = search rules in
    λ part is. ended_alone c.args.kept.now.items part c.args.bytes.now is (rw count at c.if-not-is_empty.ensures)
