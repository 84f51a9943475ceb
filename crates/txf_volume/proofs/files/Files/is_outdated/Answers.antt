use Rattle.std.proofs.Common.{◌≡◌, Some, None, not, find, sym, ◌∙◌, ap, subst}
use Rattle.std.specs.Option.{option_map}
use Rattle.txf_versions.specs.VersionsState.{is_open_of}
use Rattle.txf_versions.specs.declared.opened.Opened.{Opened}
use Rattle.txf_volume.specs.Held.{FilesHeld}
use Rattle.txf_volume.proofs.Seen.{outdated-is}
use Rattle.txf_volume.proofs.files.Files.is_outdated.Goals as goal

pub returns-in-Some : goal.returns-in-Some
returns-in-Some c =
    let found = subst (λ (h : FilesHeld). c.first_open.result ≡ option_map (λ (o : Opened). o.version) (find (is_open_of c.args.transaction c.args.file) h.versions.opens)) c.self.view_is c.first_open.ensures in
    ap not c.is_last.ensures ∙ sym (outdated-is c.args.self.now c.args.transaction c.args.file (Some c.in-Some.version) (sym c.in-Some.is ∙ found))

pub returns-in-None : goal.returns-in-None
returns-in-None c =
    let found = subst (λ (h : FilesHeld). c.first_open.result ≡ option_map (λ (o : Opened). o.version) (find (is_open_of c.args.transaction c.args.file) h.versions.opens)) c.self.view_is c.first_open.ensures in
    sym (outdated-is c.args.self.now c.args.transaction c.args.file None (sym c.in-None.is ∙ found))
