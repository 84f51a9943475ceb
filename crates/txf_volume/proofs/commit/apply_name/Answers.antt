use Rattle.std.proofs.Common.{◌∷◌, [], ◌-◌, true, sym, arith}
use Rattle.std.proofs.lemmas.Bool.{and_parts}
use Rattle.txf_overlay.specs.OverlayState.{is_of_names}
use Rattle.txf_tree.specs.TreeState.{tree_of}
use Rattle.txf_volume.specs.Making.{parts}
use Rattle.txf_volume.proofs.CommitParts.{Follows, name-follows, name-kept, names-can}
use Rattle.txf_volume.proofs.commit.apply_name.Goals as goal
use Rattle.txf_volume.proofs.commit.apply_name.Goals.{In-Some}

-- a file is dropped
drops : (c : In-Some) → Follows (parts c.args.tree.now c.args.versions.now c.args.units.now) c.apply.new.self (c.args.change ∷ []) 0 c.node_of-file.result c.version-version.result c.in-Some.bytes
drops c =
    name-follows (parts c.args.tree.now c.args.versions.now c.args.units.now) c.args.change c.requires c.apply.new.self
    (record { tree = c.in-Some.ensures.tree; versions = c.in-Some.ensures.versions; spare = c.in-Some.ensures.spare }) c.node_of-file.result c.version-version.result c.in-Some.bytes c.node_of-file.ensures c.version-version.ensures c.in-Some.ensures.bytes

pub apply-requires-clause-units : goal.apply-requires-clause-units
apply-requires-clause-units c = names-can (tree_of c.args.tree.now) c.args.change (and_parts (is_of_names c.args.change) true c.requires.only).0

pub overflow_sub-units : goal.overflow_sub-units
overflow_sub-units c = let lost = (drops (goal.at.overflow_sub-units c).In-Some).lost in omega arith

pub end_version-requires-clause-absent : goal.end_version-requires-clause-absent
end_version-requires-clause-absent c = (drops (goal.at.end_version-requires-clause-absent c).In-Some).absent

pub end_version-requires-clause-few : goal.end_version-requires-clause-few
end_version-requires-clause-few c = (drops (goal.at.end_version-requires-clause-few c).In-Some).few

pub returns-in-Some : goal.returns-in-Some
returns-in-Some c =
    let is = drops (goal.at.returns-in-Some c).In-Some in
    let lost = is.lost in
    is.made c.end_version.new.versions (c.args.units.now - c.units_of.result) c.end_version.ensures (omega arith)

pub returns-in_default : goal.returns-in_default
returns-in_default c =
    name-kept (parts c.args.tree.now c.args.versions.now c.args.units.now) c.args.change c.requires c.apply.new.self
    (record { tree = c.in_default.ensures.tree; versions = c.in_default.ensures.versions; spare = c.in_default.ensures.spare }) (sym c.in_default.ensures.bytes)
