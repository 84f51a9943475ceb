use Rattle.std.proofs.Common.{[], ◌∙◌}
use Rattle.ktm_links.specs.Mapped.{Begins}
use Rattle.txf_versions.specs.Names.{holder_name, version_bytes}
use Rattle.txf_versions.specs.VersionsState.{fixes}
use Rattle.txf_versions.proofs.Indexes.{any_told}
use Rattle.txf_versions.proofs.NamesTold.{fixes_from, fixes_to}
use Rattle.txf_versions.proofs.opens.Opens.is_pinned.Goals as goal

pub returns : goal.returns
returns c =
    rw (← c.self.view_is)
    (c.is_some.ensures
    ∙ any_told (Begins (version_bytes c.args.file c.args.version [])) _ _ holder_name (fixes c.args.file c.args.version) _
    (fixes_from c.args.file c.args.version) (fixes_to c.args.file c.args.version) c.self.invariant.by_version
    (rw c.version_name.ensures at c.first_under.ensures.first) (rw c.version_name.ensures at c.first_under.ensures.none))
