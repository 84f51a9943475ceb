use Rattle.ktm_course.proofs.OnPages.{events_recorded, sizes_recorded, spellable_recorded}
use Rattle.ktm_course.proofs.laws.law_of_pages.Goals as goal

pub returns : goal.returns
returns c = record { events = events_recorded; sizes = sizes_recorded; spellable = spellable_recorded }
