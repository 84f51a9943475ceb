use Rattle.std.proofs.Common.{◌≡◌, Some, None, find, sym, ◌∙◌, subst}
use Rattle.std.specs.Option.{option_map}
use Rattle.txf_versions.specs.VersionsState.{is_open_of}
use Rattle.txf_versions.specs.declared.opened.Opened.{Opened}
use Rattle.txf_volume.specs.Held.{FilesHeld}
use Rattle.txf_volume.proofs.Seen.{opened-is}
use Rattle.txf_volume.proofs.files.Files.has_opened.Goals as goal

pub returns-in-Some : goal.returns-in-Some
returns-in-Some c =
    let found = subst (λ (h : FilesHeld). c.first_open.result ≡ option_map (λ (o : Opened). o.version) (find (is_open_of c.args.transaction c.args.file) h.versions.opens)) c.self.view_is c.first_open.ensures in
    sym (opened-is c.args.self.now c.args.transaction c.args.file (Some c.in-Some.field-0) (sym c.in-Some.is ∙ found))

pub returns-in-None : goal.returns-in-None
returns-in-None c =
    let found = subst (λ (h : FilesHeld). c.first_open.result ≡ option_map (λ (o : Opened). o.version) (find (is_open_of c.args.transaction c.args.file) h.versions.opens)) c.self.view_is c.first_open.ensures in
    sym (opened-is c.args.self.now c.args.transaction c.args.file None (sym c.in-None.is ∙ found))
