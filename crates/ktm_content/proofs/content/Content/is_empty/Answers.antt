use Rattle.ktm_content.proofs.States.{none-are}
use Rattle.ktm_content.proofs.content.Content.is_empty.Goals as goal

pub returns : goal.returns
returns c = none-are c.args.self.now.bytes c.len.result c.len.ensures
