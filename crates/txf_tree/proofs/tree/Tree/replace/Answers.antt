use Rattle.std.proofs.Common.{◌<◌, ◌^◌, ◌-◌, ◌∙◌, ap, arith}
use Rattle.ktm_world.specs.Committed.{version_of}
use Rattle.txf_nodes.specs.NodesState.{raised}
use Rattle.txf_tree.specs.TreeState.{bytes_now, versions_of}
use Rattle.txf_tree.proofs.Refilling.{other-rooms, tree-final, versions-final}
use Rattle.txf_tree.proofs.tree.Tree.replace.Goals as goal

pub replace-requires-clause-file : goal.replace-requires-clause-file
replace-requires-clause-file c = (bytes_now, rw (← c.self.view_is) at c.requires.file)

pub replace-requires-clause-few : goal.replace-requires-clause-few
replace-requires-clause-few c =
    let few : version_of (versions_of c.self.inside.nodes) c.args.file < 2 ^ 64 - 2 = rw (← c.self.view_is) at c.requires.few in
    omega (arith, few, c.changes_to-changes.ensures.few)

pub returns-clause-bytes : goal.returns-clause-bytes
returns-clause-bytes c = rw (← c.self.view_is) (c.new.ensures ∙ c.replace.ensures.bytes bytes_now)

pub returns-clause-tree : goal.returns-clause-tree
returns-clause-tree c = rw (← c.self.view_is) (tree-final _ _ c.args.file _ _ c.args.bytes c.replace.ensures.refilled c.into_content.ensures)

pub returns-clause-versions : goal.returns-clause-versions
returns-clause-versions c =
    rw (← c.self.view_is)
    (c.replace.ensures.refilled.versions
    ∙ ap (λ n. raised n (versions_of c.self.inside.nodes) c.args.file) (c.changes_to-changes.ensures.changes c.args.file)
    ∙ versions-final (versions_of c.self.inside.nodes) c.args.file c.args.bytes)

pub returns-clause-rooms : goal.returns-clause-rooms
returns-clause-rooms c = rw (← c.self.view_is) (λ other differs. other-rooms _ _ c.args.file _ c.replace.ensures.refilled.contents other differs)
