use Rattle.std.proofs.Common.{[], ◌+◌, ◌-◌, ◌∙◌, ap, arith}
use Rattle.ktm_world.specs.Changes.{changed_all}
use Rattle.ktm_world.specs.Committed.{final_bytes, versions_after}
use Rattle.ktm_world.specs.Tree.{units_of}
use Rattle.std.proofs.Common.{fold}
use Rattle.txf_overlay.specs.OverlayState.{final_of}
use Rattle.txf_tree.specs.TreeState.{tree_of, versions_of}
use Rattle.txf_volume.specs.Making.{parts}
use Rattle.txf_volume.proofs.CommitParts.{Follows, final-follows}
use Rattle.txf_volume.proofs.commit.replace_file.Goals as goal
use Rattle.txf_volume.proofs.commit.replace_file.Goals.{After-replace-was}

-- its bytes are replaced
replaces : (c : After-replace-was) → Follows (parts c.args.tree.now c.args.versions.now c.args.units.now) c.replace-was.new.self (final_of c.args.written) (units_of c.args.written.bytes) c.file-file.result c.version-version.result c.replace-was.result
replaces c =
    final-follows (parts c.args.tree.now c.args.versions.now c.args.units.now) c.args.written [] c.requires c.replace-was.new.self
    (record {
      tree = c.replace-was.ensures.tree ∙ (λ i. changed_all (tree_of c.args.tree.now) (final_bytes (c.file-file.ensures i) (c.into_bytes-bytes.ensures i)));
      versions = c.replace-was.ensures.versions ∙ (λ i. fold versions_after (versions_of c.args.tree.now) (final_bytes (c.file-file.ensures i) (c.into_bytes-bytes.ensures i)));
      spare = c.replace-was.ensures.spare;
    })
    c.file-file.result c.version-version.result c.replace-was.result c.file-file.ensures c.version-version.ensures c.replace-was.ensures.bytes

pub overflow_sub-units : goal.overflow_sub-units
overflow_sub-units c = let lost = (replaces (goal.at.overflow_sub-units c).After-replace-was).lost in let more = ap units_of c.into_bytes-bytes.ensures in omega arith

pub end_version-requires-clause-absent : goal.end_version-requires-clause-absent
end_version-requires-clause-absent c = (replaces (goal.at.end_version-requires-clause-absent c).After-replace-was).absent

pub end_version-requires-clause-few : goal.end_version-requires-clause-few
end_version-requires-clause-few c = (replaces (goal.at.end_version-requires-clause-few c).After-replace-was).few

pub returns : goal.returns
returns c =
    let is = replaces (goal.at.returns c).After-replace-was in
    let lost = is.lost in
    let more = ap units_of c.into_bytes-bytes.ensures in
    is.made c.end_version.new.versions (c.args.units.now + c.units_of.result - c.units_of-2.result) c.end_version.ensures (omega arith)
