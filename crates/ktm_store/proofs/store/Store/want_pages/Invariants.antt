use Rattle.std.proofs.Common.{◌≡◌, ◌+◌, ◌≤◌, true, length, take}
use Rattle.std.specs.Prelude.{All}
use Rattle.ktm_store.specs.Store.{WantsMore}
use Rattle.ktm_store.specs.Stored.{is_stored}
use Rattle.ktm_store.proofs.store.Store.want_pages.Given as goal

abbrev pub invariant-loop-page : goal.invariant-loop-page
invariant-loop-page l = record {
  wants : WantsMore l.initial.self l.self;
  stored : All (λ page. is_stored l.self.stored page ≡ true) (take l.page-index l.pages);
  few : length l.self.wanted ≤ length l.initial.self.wanted + length (take l.page-index l.pages);
}
