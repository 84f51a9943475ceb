use Rattle.ktm_standing.proofs.Relied.{files_law}
use Rattle.ktm_standing.proofs.laws.law_of_files.Goals as goal

pub returns : goal.returns
returns c = files_law c.law_of_step.ensures c.law_of_lawful_worlds.ensures c.law_of_spelling.ensures c.law_of_reservations.ensures c.law_of_lists.ensures c.law_of_forms.ensures c.law_of_effects.ensures c.law_of_file_calls.ensures
