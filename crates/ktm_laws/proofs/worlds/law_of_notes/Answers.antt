use Rattle.ktm_laws.proofs.Notes.{notes_law}
use Rattle.ktm_laws.proofs.worlds.law_of_notes.Goals as goal

pub returns : goal.returns
returns c = notes_law c.law_of_kept_outcomes.ensures
