use Rattle.ktm_script.proofs.LineLemmas.{line_of_process}
use Rattle.ktm_script.proofs.line.line_of_any_length.Goals as goal

pub returns-in-Some : goal.returns-in-Some
returns-in-Some c = rw (line_of_process c.args.text.now c.in-Some.rest.now c.in-Some.process c.in-Some.ensures) c.process_line.ensures
