use Rattle.std.proofs.Common.{sym, ◌∙◌, subst}
use Rattle.txf_calls.specs.Fits.{IsFit}
use Rattle.txf_opens.specs.Acts.{open_of}
use Rattle.txf_calls.proofs.Fitting.{fit-set_end}
use Rattle.txf_calls.proofs.handle.end_refusal.Goals as goal

pub disk_refusal-requires : goal.disk_refusal-requires
disk_refusal-requires g c =
    let files = g.V.Volume.files c.args.volume.now in
    subst (IsFit files c.args.file.transaction) (sym c.cut-plan.ensures) (fit-set_end files (open_of c.args.file) c.args.size (sym c.writes.ensures ∙ c.if-not-writes.false) c.requires)
