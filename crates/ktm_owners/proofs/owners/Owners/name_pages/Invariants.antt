use Rattle.std.proofs.Common.{◌≡◌, ◌+◌, ◌++◌, drop}
use Rattle.ktm_owners.specs.Owners.{named_from}
use Rattle.ktm_owners.proofs.owners.Owners.name_pages.Given as goal

abbrev pub invariant-loop-page : goal.invariant-loop-page
invariant-loop-page l = record {
  named : l.self-inside.named.items ++ named_from l.owner (drop l.page-index l.pages) ≡ l.initial.self-inside.named.items ++ named_from l.initial.owner l.pages;
  owners : l.self-inside.owners ≡ l.initial.self-inside.owners;
  unit : l.owner.unit ≡ l.initial.owner.unit + l.page-index;
}
