use Rattle.std.proofs.Common.{Option, sym, subst}
use Rattle.ktm_world.specs.declared.change.Change.{Change}
use Rattle.ktm_world.specs.Files.{FilesNow}
use Rattle.txf_volume.specs.Held.{files_of}
use Rattle.txf_volume.specs.Transacted.{changed_by}
use Rattle.txf_laws.specs.FileEffects.{CanBeCounted}
use Rattle.txf_volume.proofs.files.Files.own_if.Goals as goal

pub own-requires-clause-counted : goal.own-requires-clause-counted
own-requires-clause-counted c =
    subst (λ (change : Option Change). CanBeCounted (changed_by (files_of c.make_room.new.self) c.args.transaction change)) c.in-Some.is
    (subst (λ (files : FilesNow). CanBeCounted (changed_by files c.args.transaction c.args.change)) (sym c.in_default.ensures.files) c.requires.counted)
