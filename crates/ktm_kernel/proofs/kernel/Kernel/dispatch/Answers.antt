use Rattle.ktm_kernel.proofs.Calls.{call-answered, call-askable, no-bytes, of-places}
use Rattle.ktm_kernel.proofs.Given.{given, rows-seen}
use Rattle.ktm_kernel.proofs.kernel.Kernel.dispatch.Goals as goal

pub answer-requires-clause-askable : goal.answer-requires-clause-askable
answer-requires-clause-askable g c = call-askable c.args.self.now _ _ c.requires.up c.requires.ready c.args.process c.args.command
    (of-places c.args.self.now.now c.args.process c.args.command c.requires.command c.in_default.not-ReadFile c.in_default.not-WriteFile c.in_default.not-SetEndOfFile)

pub returns-in_default : goal.returns-in_default
returns-in_default g c = let leaves = call-answered (record { standing = c.law_of_standing.ensures; kept = c.law_of_kept.ensures; reserves = c.law_of_reserved_files.ensures; spelling = c.law_of_spelling.ensures; alike = c.law_of_alike_presents.ensures; seen = rows-seen c.law_of_paged_records.ensures; pages = c.law_of_pages.ensures })
    c.law_of_units.ensures c.args.self.now _ _ c.requires.up c.requires.ready c.requires.counts c.answer.new.self _ _ c.args.process c.args.command (given c.args.command c.requires.command)
    (of-places c.args.self.now.now c.args.process c.args.command c.requires.command c.in_default.not-ReadFile c.in_default.not-WriteFile c.in_default.not-SetEndOfFile)
    (no-bytes c.args.command c.requires.command c.in_default.not-ReadFile c.in_default.not-WriteFile) c.answer.result c.answer.ensures.asked in
    record { leaves = leaves.0; no_memory = leaves.1; enough = c.answer.ensures.enough }
