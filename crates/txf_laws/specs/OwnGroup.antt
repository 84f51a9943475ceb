-- What a restart records by itself.
use Rattle.std.specs.Prelude.{◌≡◌, ◌+◌, ◌<◌, ◌^◌, ◌&&◌, not, Bool, true, length}
use Rattle.std.specs.List.{list_all}
use Rattle.ktm_world.specs.declared.event.DonePart.{DonePart}
use Rattle.ktm_world.specs.Durable.{Durable, Recorded, is_ready, has_undone, after_events, events_apply}
use Rattle.ktm_world.specs.World.{own_group}
use Rattle.txf_laws.specs.GoodState.{IsGoodState}

-- a transaction is not ready, and has no part of the files or the keys that is still to be done
abbrev pub is_settled : Recorded → Bool
is_settled t = not (is_ready t.stage) && not (has_undone DonePart.Files t) && not (has_undone DonePart.Keys t)

-- a good state takes what a restart records by itself, where the counts of boots and of events do not end, and each transaction is settled then
abbrev pub OwnGroupLaw : Type 0
OwnGroupLaw = (s : Durable) → IsGoodState s → s.boots + 2 < 2 ^ 32 → s.events + length (own_group s) < 2 ^ 63
    → (events_apply s (own_group s) ≡ true) × (list_all is_settled (after_events s (own_group s)).transactions ≡ true)
