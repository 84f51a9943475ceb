use Rattle.std.proofs.Common.{arith, length-append}
use Rattle.ktm_names.proofs.PlaceLemmas.{texts-push}
use Rattle.ktm_names.proofs.list.PlacedTexts.push.Goals as goal

pub returns : goal.returns
returns c =
    let bytes = c.self.inside.bytes in
    rw (c.in_ok-push.ensures.items, c.in_ok-extend_from_slice.ensures.items, ← c.self.view_is)
    (texts-push bytes.items c.args.text.now c.self.inside.places.items _ c.self.invariant
    (omega (arith, c.len-start.ensures, bytes.ok.0))
    (omega (arith, c.len-end.ensures, c.in_ok-extend_from_slice.ensures.len, length-append bytes.items c.args.text.now, bytes.ok.0)))
