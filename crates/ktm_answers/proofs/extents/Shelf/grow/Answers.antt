use Rattle.ktm_answers.proofs.Shelf.{file-below}
use Rattle.ktm_answers.proofs.extents.Shelf.grow.Goals as goal

pub grow-grown-requires-clause-below : goal.grow-grown-requires-clause-below
grow-grown-requires-clause-below c = file-below c.args.self.now.pages c.args.self.now.file c.args.self.now.copy c.args.self.now.held
