use Rattle.std.proofs.Common.{[], if◌then◌else◌, sym, ◌∙◌, ap}
use Rattle.txf_overlay.specs.Written.{bytes_or}
use Rattle.txf_volume.specs.Held.{FilesHeld}
use Rattle.txf_volume.proofs.Seen.{fixed, seen-some}
use Rattle.txf_volume.proofs.files.Files.bytes_over.Goals as goal

pub returns-in-Some : goal.returns-in-Some
returns-in-Some c = ap (bytes_or _) c.in-Some.ensures ∙ sym (seen-some c.args.self.now c.args.transaction c.args.file c.args.overlay.now c.requires.there c.requires.own)

pub returns-in-None : goal.returns-in-None
returns-in-None c =
    c.none.ensures
    ∙ ap (λ b. if b then [] else fixed c.args.self.now c.args.transaction c.args.file) c.if-has_made.ensures
    ∙ ap (bytes_or _) c.in-None.ensures
    ∙ sym (seen-some c.args.self.now c.args.transaction c.args.file c.args.overlay.now c.requires.there c.requires.own)

pub returns-in-None-2 : goal.returns-in-None-2
returns-in-None-2 c =
    c.fixed_bytes.ensures c.args.self.now (ap (λ (h : FilesHeld). h.tree) (sym c.self.view_is)) (ap (λ (h : FilesHeld). h.versions) (sym c.self.view_is))
    ∙ ap (λ b. if b then [] else fixed c.args.self.now c.args.transaction c.args.file) c.if-has_made.ensures
    ∙ ap (bytes_or _) c.in-None.ensures
    ∙ sym (seen-some c.args.self.now c.args.transaction c.args.file c.args.overlay.now c.requires.there c.requires.own)
