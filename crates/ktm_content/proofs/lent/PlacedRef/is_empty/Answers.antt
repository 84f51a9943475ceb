use Rattle.ktm_content.proofs.States.{none-are}
use Rattle.ktm_content.proofs.lent.PlacedRef.is_empty.Goals as goal

pub returns : goal.returns
returns c = none-are c.args.self.now c.len.result c.len.ensures
