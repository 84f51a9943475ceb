use Rattle.std.proofs.Common.{◌∙◌, ap, length, ◌==◌}
use Rattle.txf_overlay.proofs.FilesMap.{changes-none, changes-some}
use Rattle.txf_overlay.proofs.overlay.Overlay.is_empty.Goals as goal

pub returns-in-Some : goal.returns-in-Some
returns-in-Some c = changes-some c.args.self.now.names c.args.self.now.written _ c.in-Some.ensures

pub returns-in-None : goal.returns-in-None
returns-in-None c =
    c.is_empty.ensures ∙ ap (λ names. length names == 0) c.names.ensures.names ∙ changes-none c.args.self.now.names c.args.self.now.written c.in-None.ensures
