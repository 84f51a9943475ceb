-- What a durable state comes to does not depend on the bytes of files.
use Rattle.std.proofs.Common.{ℕ, refl}
use Rattle.ktm_mapped.specs.Laws.{ChangesAlike, EventsAlike, StatesAlike, MappedLaw}
use Rattle.ktm_mapped.specs.Mapped.{IsBlank, mapped_group}
use Rattle.ktm_mapped.proofs.offered.Lists.{list_all-mapped}
use Rattle.ktm_mapped.proofs.offered.Trees.{applies-mapped, changed-mapped, changed_all-mapped, changes_apply-mapped}
use Rattle.ktm_mapped.proofs.offered.Events.{after_event-mapped, after_events-mapped, stand-mapped}
use Rattle.ktm_mapped.proofs.offered.Applying.{are_grammatical-mapped, event_applies-mapped, events_apply-mapped, is_within_limits-mapped, log_applies-mapped, own_group-kept, own_group-mapped}
use Rattle.ktm_mapped.proofs.GoodStates.{good-mapped, good-unmapped}

changes_alike : (f : ℕ → ℕ) → IsBlank f → ChangesAlike f
changes_alike f blank = record {
  one = changed-mapped f blank;
  one_applies = applies-mapped f;
  all = changed_all-mapped f blank;
  all_apply = changes_apply-mapped f blank;
}

events_alike : (f : ℕ → ℕ) → IsBlank f → EventsAlike f
events_alike f blank = record {
  one = after_event-mapped f blank;
  one_applies = event_applies-mapped f blank;
  all = after_events-mapped f blank;
  all_apply = events_apply-mapped f blank;
  log = stand-mapped f blank;
  log_apply = log_applies-mapped f blank;
  grammatical = are_grammatical-mapped f;
  log_grammatical = list_all-mapped _ _ (mapped_group f) (are_grammatical-mapped f);
}

states_alike : (f : ℕ → ℕ) → IsBlank f → StatesAlike f
states_alike f blank = record {
  good = good-mapped f blank;
  only_good = good-unmapped f blank;
  within = is_within_limits-mapped f blank;
  worn = λ s. refl;
  own = own_group-mapped f;
  own_kept = own_group-kept f;
}

pub mapped_law : MappedLaw
mapped_law f blank = (changes_alike f blank, events_alike f blank, states_alike f blank)
