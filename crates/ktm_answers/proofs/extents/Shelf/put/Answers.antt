use Rattle.ktm_answers.proofs.Shelf.{file-below}
use Rattle.ktm_answers.proofs.extents.Shelf.put.Goals as goal

pub write-written-requires-clause-below : goal.write-written-requires-clause-below
write-written-requires-clause-below c = file-below c.args.self.now.pages c.args.self.now.file c.args.self.now.copy c.args.self.now.held
