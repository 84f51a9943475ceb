use Rattle.ktm_restart.proofs.offered.Journals.{new_image, new_paged}
use Rattle.ktm_restart.proofs.laws.law_of_new_images.Goals as goal

pub returns : goal.returns
returns c = record {
  places = λ units image bytes least most. new_paged c.law_of_good_states.ensures c.law_of_examples.ensures.empty units image bytes least;
  states = λ units image bytes least most. new_image c.law_of_good_states.ensures c.law_of_examples.ensures.empty units image bytes least;
}
