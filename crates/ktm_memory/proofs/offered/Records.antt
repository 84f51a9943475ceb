-- What a list holds that is recorded.
use Rattle.std.proofs.Common.{◌≡◌, [], All, sym, subst}
use Rattle.std.proofs.lemmas.List.Elements.{All-nil}
use Rattle.ktm_event.specs.Kept.{EventsState, Holds}
use Rattle.ktm_paged.proofs.offered.Recording.{bare-recorded}
use Rattle.txf_laws.specs.Grammatical.{changes_of_event}
use Rattle.ktm_world.specs.Durable.{Durable}
use Rattle.ktm_world.specs.Logs.{Group}
use Rattle.ktm_memory.specs.Decided.{HoldsRecordOf}

-- events without changes are recorded as they are
pub bare_record : (s : Durable) (state : EventsState) (events : Group) → All (λ event. changes_of_event event ≡ []) events → Holds state events → HoldsRecordOf s state events
bare_record s state events none holds = record { raw = events; holds = holds; is = bare-recorded s events none }

-- nothing is recorded
pub no_record : (s : Durable) (state : EventsState) → Holds state [] → HoldsRecordOf s state []
no_record s state holds = bare_record s state [] (All-nil (λ event. changes_of_event event ≡ [])) holds

-- an empty list holds what nothing that is recorded is recorded as
pub none_recorded : (s : Durable) (state : EventsState) (events : Group) → events ≡ [] → Holds state [] → HoldsRecordOf s state events
none_recorded s state events none holds = subst (HoldsRecordOf s state) (sym none) (no_record s state holds)
