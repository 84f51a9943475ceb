use Rattle.ktm_answers.proofs.Shelf.{file-below}
use Rattle.ktm_answers.proofs.extents.Shelf.cut.Goals as goal

pub cut-requires-clause-below : goal.cut-requires-clause-below
cut-requires-clause-below c = file-below c.args.self.now.pages c.args.self.now.file c.args.self.now.copy c.args.self.now.held
