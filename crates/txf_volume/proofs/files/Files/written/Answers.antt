use Rattle.std.proofs.Common.{sym, ◌∙◌, ap}
use Rattle.std.specs.Option.{option_copied}
use Rattle.txf_volume.proofs.FilesShown.{recorded-rise}
use Rattle.txf_volume.proofs.Recording.{written-none, written-some}
use Rattle.txf_volume.proofs.files.Files.written.Goals as goal

pub invariant_of-result : goal.invariant_of-result
invariant_of-result c = recorded-rise c.in-Some.overlay.now.written (c.in-Some.ensures.over).own.rise

pub returns-in-Some : goal.returns-in-Some
returns-in-Some c =
    written-some c.args.self.now c.args.transaction c.in-Some.overlay.now (sym c.overlay.ensures.overlay ∙ ap option_copied c.in-Some.is) (c.in-Some.ensures.over).own
    c.law_of_files.ensures.pages

pub returns-in-None : goal.returns-in-None
returns-in-None c = written-none c.args.self.now c.args.transaction c.none.result (sym c.overlay.ensures.overlay ∙ ap option_copied c.in-None.is) c.none.ensures
