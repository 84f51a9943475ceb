use Rattle.ktm_laws.proofs.Running.{lawful_worlds_law}
use Rattle.ktm_laws.proofs.worlds.law_of_lawful_worlds.Goals as goal

pub returns : goal.returns
returns c = lawful_worlds_law c.law_of_step.ensures c.law_of_first_opens.ensures c.law_of_lists.ensures c.law_of_forms.ensures c.law_of_good_states.ensures c.law_of_own_groups.ensures c.law_of_named_objects.ensures c.law_of_sound_worlds.ensures c.law_of_own_keys.ensures c.law_of_notes.ensures c.law_of_agreement.ensures c.law_of_recorded_facts.ensures c.law_of_spelling.ensures c.law_of_limits.ensures
