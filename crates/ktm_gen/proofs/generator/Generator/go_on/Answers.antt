use Rattle.ktm_gen.proofs.Drawing.{begun, gone_on}
use Rattle.ktm_gen.proofs.generator.Generator.go_on.Goals as goal
use Rattle.ktm_gen.proofs.generator.Generator.go_on.Goals.{then-self-eq0, else-self-eq0}

pub invariant_of-self : goal.invariant_of-self
invariant_of-self c = elim c.if-self-eq0.branch [
  | then-self-eq0 w ↦ rw w.self-inside-is (begun _ _ _ _ c.self.invariant _ _ w.if-self-eq0.true w.next_word-self-inside.ensures)
  | else-self-eq0 w ↦ rw w.self-inside-is (gone_on _ _ _ _ c.self.invariant w.if-self-eq0.false)
]
