-- What is recorded with pages comes to.
use Rattle.std.proofs.Common.{◌≡◌, ℕ, true, List}
use Rattle.ktm_world.specs.declared.event.Event.{Event}
use Rattle.ktm_content.specs.Places.{byte_at}
use Rattle.ktm_world.specs.Durable.{Durable}
use Rattle.txf_laws.specs.GoodState.{IsGoodState}
use Rattle.txf_laws.specs.GoodStates.{GoodStatesLaw}
use Rattle.txf_laws.specs.Grammatical.{is_grammatical}
use Rattle.ktm_paged.specs.Laws.{ChangesOfBytes, GroupsInBytes, MeantChanges, MeantLogs, MeantUnits, PagedLaw, RowsSeen, StatesApart, StatesBelow, StatesGood}
use Rattle.ktm_paged.specs.Meaning.{meant_event}
use Rattle.ktm_paged.specs.Paged.{PagedApplies, paged_after}
use Rattle.ktm_paged.proofs.Apart.{stays-apart}
use Rattle.ktm_paged.proofs.offered.LyingStates.{after-lie, all-good, all-lie, log-good, log-lie}
use Rattle.ktm_paged.proofs.Seen.{durable-same, event-apply, event-made, group-apply, group-made}
use Rattle.ktm_paged.proofs.offered.Owners.{new-owned, others-owned}
use Rattle.ktm_paged.proofs.offered.Meanings.{all-apply, all-meant, cut-alike, ends-can, grown-meant, log-apply, log-meant, meant-can, meant-file, meant-grammatical, meant-whole, put-alike, put-meant}

meant_changes : MeantChanges
meant_changes = record { whole = meant-whole; file = meant-file; can = meant-can; all_can = ends-can; grammatical = meant-grammatical }

meant_units : MeantUnits
meant_units = record { put = put-meant; grown = grown-meant }

changes_of_bytes : (row : List ℕ) → ChangesOfBytes row
changes_of_bytes row = record { put = put-alike row; cut = cut-alike row }

meant_logs : (count : ℕ) → MeantLogs count
meant_logs count = record { all = all-meant; all_apply = all-apply count; log = log-meant; log_apply = log-apply count }

states_apart : StatesApart
states_apart = record { one = stays-apart; new = new-owned; others = others-owned }

stays : (count : ℕ) → GoodStatesLaw → (s : Durable) (event : Event) → IsGoodState s → is_grammatical event ≡ true → PagedApplies count s event → IsGoodState (paged_after s event)
stays count law s event good spelled applies = law.1 s (meant_event s.tree event) good (meant-grammatical s.tree event applies.paged spelled) applies.applies

states_good : (count : ℕ) → GoodStatesLaw → StatesGood count
states_good count law = record { one = stays count law; all = all-good count (stays count law); log = log-good count (stays count law) }

states_below : (count : ℕ) → GoodStatesLaw → StatesBelow count
states_below count law = record { one = after-lie count; all = all-lie count (stays count law); log = log-lie count (stays count law) }

groups_in_bytes : GoodStatesLaw → (count : ℕ) (row : List ℕ) → GroupsInBytes count row
groups_in_bytes law count row = record { one = event-made row; one_applies = event-apply row; all = group-made row count (stays count law); all_apply = group-apply row count (stays count law) }

rows_seen : RowsSeen
rows_seen row other = durable-same (byte_at row) (byte_at other)

pub paged_law : GoodStatesLaw → PagedLaw
paged_law law = (meant_changes, meant_units, changes_of_bytes, λ count. (meant_logs count, states_good count law, states_below count law), groups_in_bytes law, rows_seen, states_apart)
