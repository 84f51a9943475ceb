use Rattle.std.proofs.Common.{sym, ◌∙◌, ap}
use Rattle.std.specs.Option.{option_or}
use Rattle.ktm_world.specs.Tree.{is_file}
use Rattle.txf_tree.specs.TreeState.{tree_of}
use Rattle.txf_volume.proofs.PlainKept.{EndsThese, ends-these, keeps-ended, last-absent}
use Rattle.txf_volume.proofs.plain.apply.Goals as goal
use Rattle.txf_volume.proofs.plain.apply.Goals.{In-Some}

-- the change ends these bytes
ended : (c : In-Some) → EndsThese c.args.tree.now c.args.change c.in-Some.bytes
ended c =
    ends-these c.args.tree.now c.args.versions.now.opens c.args.change c.in-Some.bytes c.requires.does_apply
    ((λ i. option_or (sym c.requires.copied i) (sym c.apply-dropped.ensures.bytes i)) ∙ sym c.or.ensures ∙ c.in-Some.is)

pub end_version-requires-clause-absent : goal.end_version-requires-clause-absent
end_version-requires-clause-absent c =
    last-absent c.args.tree.now c.args.versions.now.opens c.args.versions.now.older c.node_of-file.result c.version-version.result c.requires.opened
    (ap (is_file (tree_of c.args.tree.now)) c.node_of-file.ensures ∙ (ended (goal.at.end_version-requires-clause-absent c).In-Some).file) c.version-version.ensures

pub returns-in-Some-clause-older : goal.returns-in-Some-clause-older
returns-in-Some-clause-older c =
    keeps-ended c.args.tree.now c.args.change c.args.versions.now c.end_version.new.versions c.node_of-file.result c.version-version.result c.in-Some.bytes
    (ended (goal.at.returns-in-Some-clause-older c).In-Some) c.node_of-file.ensures c.version-version.ensures c.end_version.ensures
