use Rattle.ktm_event.proofs.GroupSizes.{length-group}
use Rattle.ktm_event.proofs.OneEvent.{one_group, one_spelling}
use Rattle.ktm_event.proofs.Recordable.{group_recorded}
use Rattle.ktm_event.proofs.Spellable.{group_fits}
use Rattle.ktm_event.proofs.laws.law_of_groups.Goals as goal

pub returns : goal.returns
returns c = record { group = one_group; spelling = one_spelling; size = length-group; written = group_fits; recordable = group_recorded }
