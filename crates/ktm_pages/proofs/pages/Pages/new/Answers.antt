use Rattle.ktm_pages.proofs.pages.Pages.new.Goals as goal

pub count_places-requires-clause-few : goal.count_places-requires-clause-few
count_places-requires-clause-few c = rw c.as_slice.ensures c.requires.few
