use Rattle.std.proofs.Common.{◌≡◌}
use Rattle.lru.specs.LruCache.{lru_cache}
use Rattle.ktm_pages.specs.Cache.{most_kept}
use Rattle.ktm_pages.specs.Slots.{free_slots}
use Rattle.ktm_pages.proofs.cache.free_slots.Given as goal

abbrev pub invariant-loop-slot : goal.invariant-loop-slot
invariant-loop-slot l = l.slots ≡ lru_cache (free_slots l.slot) most_kept
