use Rattle.std.proofs.Common.{ap, arith}
use Rattle.ktm_extent.specs.Extent.{ExtentState, uses}
use Rattle.ktm_answers.proofs.extents.Shelf.new.Goals as goal

pub invariant_of-result : goal.invariant_of-result
invariant_of-result c = record {
  all = c.in_ok-all_free.ensures.all;
  held = λ page. omega (arith, c.in_ok-all_free.ensures.free page, ap (λ (e : ExtentState). uses e page) c.empty.ensures, ap (λ (e : ExtentState). uses e page) c.empty-2.ensures);
}
