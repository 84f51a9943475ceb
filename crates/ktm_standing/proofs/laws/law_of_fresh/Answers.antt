use Rattle.ktm_standing.proofs.Starts.{fresh_law}
use Rattle.ktm_standing.proofs.laws.law_of_fresh.Goals as goal

pub returns : goal.returns
returns c =
    fresh_law c.law_of_good_states.ensures c.law_of_own_groups.ensures c.law_of_sound_worlds.ensures c.law_of_agreement.ensures c.law_of_limits.ensures c.law_of_notes.ensures c.law_of_spelling.ensures
