use Rattle.txf_laws.proofs.Grammars.{grammar_law}
use Rattle.txf_laws.proofs.states.law_of_grammar.Goals as goal

pub returns : goal.returns
returns c = grammar_law
