use Rattle.std.proofs.Common.{ℕ, ap, ◌∙◌}
use Rattle.ktm_answers.proofs.Shelf.{file-below}
use Rattle.ktm_answers.proofs.extents.Shelf.copy.Goals as goal

pub copy-requires-clause-below : goal.copy-requires-clause-below
copy-requires-clause-below c = file-below c.args.self.now.pages c.args.self.now.file c.args.self.now.copy c.args.self.now.held

pub invariant_of-self : goal.invariant_of-self
invariant_of-self c = record {
  all = c.copy.ensures.count ∙ c.args.self.now.all;
  held = λ page. ap (λ (holders : ℕ → ℕ). holders page) c.in_err-self.ensures.err ∙ c.args.self.now.held page;
}
