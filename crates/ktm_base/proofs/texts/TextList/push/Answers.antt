use Rattle.ktm_base.proofs.PieceLemmas.{pieces_more}
use Rattle.ktm_base.proofs.texts.TextList.push.Goals as goal

pub returns-clause-ok : goal.returns-clause-ok
returns-clause-ok c =
    rw (c.push_reserved.ensures.items, c.in_ok-extend_from_slice.ensures.items, c.in_ok-reserve.ensures.items, ← c.self.view_is)
    (pieces_more c.self.inside.lengths.items c.self.inside.characters.items c.args.text.now c.self.invariant)
