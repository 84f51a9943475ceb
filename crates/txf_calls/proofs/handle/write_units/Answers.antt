use Rattle.std.proofs.Common.{sym, ◌∙◌, subst}
use Rattle.txf_calls.specs.Fits.{IsFit}
use Rattle.txf_opens.specs.Acts.{open_of}
use Rattle.txf_calls.proofs.Fitting.{fit-write}
use Rattle.txf_calls.proofs.handle.write_units.Goals as goal

pub within_disk-requires : goal.within_disk-requires
within_disk-requires g c =
    let files = g.V.Volume.files c.args.volume.now in
    subst (IsFit files c.args.file.transaction) (sym c.put.ensures) (fit-write files (open_of c.args.file) c.args.start c.args.contents (sym c.writes.ensures ∙ c.if-not-writes.false) c.requires)
