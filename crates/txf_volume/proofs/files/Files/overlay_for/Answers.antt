use Rattle.std.proofs.Common.{sym, ◌∙◌, ap}
use Rattle.std.specs.Option.{option_copied}
use Rattle.ktm_world.specs.Files.{tree_seen}
use Rattle.txf_tree.specs.TreeState.{tree_of}
use Rattle.txf_volume.specs.Held.{files_of}
use Rattle.txf_volume.proofs.Sights.{own-lent, tree-seen}
use Rattle.txf_volume.proofs.files.Files.overlay_for.Goals as goal

pub returns-in-Some-clause-tree : goal.returns-in-Some-clause-tree
returns-in-Some-clause-tree c =
    ap (tree_seen (files_of c.args.self.now)) c.in-Some.is
    ∙ tree-seen c.args.self.now c.in-Some.transaction (option_copied c.overlay.result) (sym c.overlay.ensures.overlay) (own-lent (tree_of c.args.self.now.tree) c.overlay.result c.overlay.ensures.over)
