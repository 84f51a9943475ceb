use Rattle.std.proofs.Common.{◌+◌, length, arith, refl}
use Rattle.ktm_store.proofs.Framing.{filled-parts}
use Rattle.ktm_store.proofs.frames.fill.Goals as goal

pub returns : goal.returns
returns c =
    let copied = c.copy_from_slice.ensures.after in
    rw copied
    (filled-parts c.args.head.now c.args.bytes.now c.args.tail.now c.args.page.now c.put_padded.new.part c.put_padded-2.new.part c.args.from (c.args.from + length c.args.bytes.now) c.requires.whole refl
    (omega (arith, c.requires.fits)) c.put_padded.ensures (rw copied at c.put_padded-2.ensures))
