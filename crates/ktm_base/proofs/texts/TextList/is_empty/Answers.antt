use Rattle.ktm_base.proofs.PieceLemmas.{no_pieces}
use Rattle.ktm_base.proofs.texts.TextList.is_empty.Goals as goal

pub returns : goal.returns
returns c = rw (c.is_empty.ensures, c.self.inside.lengths.ok.0, ← c.self.view_is) (no_pieces c.self.inside.lengths.items c.self.inside.characters.items)
