use Rattle.std.proofs.Common.{length, refl, arith}
use Rattle.ktm_answers.proofs.Marks.{cleared, not_cleared}
use Rattle.ktm_answers.proofs.losses.LosingBlockBlock.write_at.Goals as goal

pub returns-clause-doubted : goal.returns-clause-doubted
returns-clause-doubted c = record {
  others = λ place outside. not_cleared c.args.at (length c.args.bytes.now) _ place _ _ refl (omega (arith, c.args.self.now.marked)) c.clear.ensures.items outside;
  range = λ place within. cleared c.args.at (length c.args.bytes.now) _ place _ _ refl (omega (arith, c.args.self.now.marked)) c.clear.ensures.items within;
}
