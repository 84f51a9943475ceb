use Rattle.std.proofs.Common.{◌+◌, arith, drop}
use Rattle.std.proofs.lemmas.List.{drop_all}
use Rattle.std.proofs.lemmas.Grind.{common_steps}
use Rattle.ktm_mem.proofs.ReadSteps.{read_step}
use Rattle.ktm_mem.proofs.source.MemSourceSource.read.Goals as goal

pub returns-clause-reads : goal.returns-clause-reads
returns-clause-reads c = (
  read_step c.args.self.now.bytes c.args.self.now.at c.min-n.result c.copy_from_slice.new.self (drop c.min-n.result c.args.buf.now) (grind (arith, common_steps)) (grind (arith, common_steps)),
  λ none room. drop_all (c.args.self.now.at + c.min-n.result) c.args.self.now.bytes (grind (arith, common_steps)),
)
