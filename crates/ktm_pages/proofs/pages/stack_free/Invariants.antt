use Rattle.std.proofs.Common.{◌≤◌, length}
use Rattle.std.specs.Prelude.{vec_capacity}
use Rattle.ktm_pages.proofs.Stack.{StackedFrom}
use Rattle.ktm_pages.proofs.pages.stack_free.Given as goal

abbrev pub invariant-loop-page : goal.invariant-loop-page
invariant-loop-page l = record {
  stacked : StackedFrom l.page l.holders l.free.items;
  room : length l.holders ≤ vec_capacity l.free;
}

abbrev pub decreases-loop-page : goal.decreases-loop-page
decreases-loop-page l = l.page
