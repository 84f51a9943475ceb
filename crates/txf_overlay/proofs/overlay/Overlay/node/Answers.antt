use Rattle.txf_overlay.proofs.Views.{sight-some, sight-none}
use Rattle.txf_overlay.proofs.overlay.Overlay.node.Goals as goal

pub returns-in-Some : goal.returns-in-Some
returns-in-Some c = sight-some _ c.in-Some.parent c.is_file.result c.in-Some.ensures c.is_file.ensures

pub returns-in-None : goal.returns-in-None
returns-in-None c = sight-none _ c.in-None.ensures
