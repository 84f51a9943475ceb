use Rattle.std.proofs.Common.{◌≡◌, ℕ, ◌+◌, take}
use Rattle.ktm_extent.specs.Extent.{uses_in}
use Rattle.ktm_extent.proofs.holders.share_all.Given as goal

abbrev pub invariant-loop-page : goal.invariant-loop-page
invariant-loop-page g l = record {
  shared : (page : ℕ) → g.G.PageSpace.holders l.pages page ≡ g.G.PageSpace.holders l.initial.pages page + uses_in (take l.page-index l.list) page;
  count : g.G.PageSpace.count l.pages ≡ g.G.PageSpace.count l.initial.pages;
}
