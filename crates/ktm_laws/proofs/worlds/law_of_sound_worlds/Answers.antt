use Rattle.ktm_laws.proofs.SoundWorlds.{sound_worlds_law}
use Rattle.ktm_laws.proofs.worlds.law_of_sound_worlds.Goals as goal

pub returns : goal.returns
returns c = sound_worlds_law c.law_of_step.ensures c.law_of_first_opens.ensures c.law_of_lists.ensures c.law_of_forms.ensures c.law_of_courses.ensures c.law_of_own_keys.ensures c.law_of_files_kept.ensures
