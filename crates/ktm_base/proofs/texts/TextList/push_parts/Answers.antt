use Rattle.std.proofs.Common.{arith, length, length-append, ◌≡◌, ◌++◌}
use Rattle.std.proofs.lemmas.List.{append_assoc}
use Rattle.ktm_base.proofs.PieceLemmas.{pieces_more}
use Rattle.ktm_base.proofs.texts.TextList.push_parts.Goals as goal

pub returns-clause-ok : goal.returns-clause-ok
returns-clause-ok c =
    let long : c.in-Some.length ≡ length (c.args.front.now ++ c.args.back.now) = omega (arith, length-append c.args.front.now c.args.back.now, c.in-Some.ensures) in
    rw (c.push_reserved.ensures.items, c.in_ok-extend_from_slice-2.ensures.items, c.in_ok-extend_from_slice.ensures.items, c.in_ok-reserve-2.ensures.items, c.in_ok-reserve.ensures.items, append_assoc, long, ← c.self.view_is)
    (pieces_more c.self.inside.lengths.items c.self.inside.characters.items (c.args.front.now ++ c.args.back.now) c.self.invariant)
