use Rattle.std.proofs.Common.{arith}
use Rattle.ktm_answers.proofs.Shelf.{file-below}
use Rattle.ktm_answers.proofs.extents.Shelf.read.Goals as goal

pub read-read-requires : goal.read-read-requires
read-read-requires c = record {
  row = λ page there. omega (arith, file-below c.args.self.now.pages c.args.self.now.file c.args.self.now.copy c.args.self.now.held page there, c.args.self.now.all, c.new-row.ensures.pages);
}
