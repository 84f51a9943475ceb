use Rattle.std.proofs.Common.{◌∙◌}
use Rattle.txf_opens.specs.Acts.{open_of}
use Rattle.txf_calls.proofs.Sized.{small-end, units-tests}
use Rattle.txf_calls.proofs.handle.set_end_refusal.Goals as goal

pub returns-clause-units : goal.returns-clause-units
returns-clause-units g c = λ who start contents some is.
    c.end_refusal.ensures who ∙ units-tests (g.V.Volume.files c.args.volume.now) c.args.room.now (open_of c.args.file) start contents c.args.size c.requires.orderly.rise some is

pub returns-clause-small : goal.returns-clause-small
returns-clause-small g c = small-end (g.V.Volume.files c.args.volume.now) c.args.room.now (open_of c.args.file) c.args.size c.end_refusal.result c.requires.file (c.end_refusal.ensures c.args.file.transaction)
