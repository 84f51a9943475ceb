use Rattle.ktm_dump.proofs.offered.Written.{AppendsPart-then, AppendsPart-more}
use Rattle.ktm_dump.proofs.write.write_line.Goals as goal

pub returns-in-Err-clause-err : goal.returns-in-Err-clause-err
returns-in-Err-clause-err g c = AppendsPart-more _ _ c.args.line.now _ c.in-Err.ensures.err

pub returns-in-Err-write_all-clause-err : goal.returns-in-Err-write_all-clause-err
returns-in-Err-write_all-clause-err g c = AppendsPart-then _ _ _ c.args.line.now _ c.in_default.ensures.ok c.in-Err-write_all.ensures.err
