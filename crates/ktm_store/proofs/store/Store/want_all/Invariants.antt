use Rattle.std.proofs.Common.{◌≡◌, ℕ, ◌<◌, true}
use Rattle.ktm_store.specs.Store.{WantsMore}
use Rattle.ktm_store.specs.Stored.{is_stored}
use Rattle.ktm_store.proofs.store.Store.want_all.Given as goal

abbrev pub invariant-loop-page : goal.invariant-loop-page
invariant-loop-page l = record {
  wants : WantsMore l.initial.self l.self;
  stored : (page : ℕ) → page < l.page → is_stored l.self.stored page ≡ true;
}
