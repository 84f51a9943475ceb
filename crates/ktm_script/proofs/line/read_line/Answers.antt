use Rattle.ktm_script.proofs.LineLemmas.{value_of, exact_of}
use Rattle.ktm_script.proofs.line.read_line.Goals as goal

pub returns-clause-value : goal.returns-clause-value
returns-clause-value c = value_of c.line_of_any_length.result c.args.line.now c.if-line-gt-MOST_LINE_BYTES.false c.line_of_any_length.ensures

pub returns-clause-exact : goal.returns-clause-exact
returns-clause-exact c x h e = exact_of c.line_of_any_length.result c.args.line.now x c.line_of_any_length.ensures h e
