-- The events that a restart records by itself, split at one transaction.
use Rattle.std.proofs.Common.{◌≡◌, ℕ, ◌+◌, ◌<◌, ◌++◌, List, length, get_or, drop, ap, sym, ◌∙◌}
use Rattle.std.specs.List.{flat_map}
use Rattle.std.proofs.lemmas.List.{drop_more}
use Rattle.ktm_world.specs.Durable.{Recorded}
use Rattle.ktm_world.specs.World.{own_events}

-- the events of one of them, and those behind it
pub own-split : (ts : List Recorded) (i : ℕ) (t : Recorded) → i < length ts → t ≡ get_or ts i t → flat_map own_events (drop i ts) ≡ own_events t ++ flat_map own_events (drop (i + 1) ts)
own-split ts i t inside is = ap (flat_map own_events) (drop_more ts i t inside) ∙ ap (λ (u : Recorded). own_events u ++ flat_map own_events (drop (i + 1) ts)) (sym is)
