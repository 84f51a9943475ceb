use Rattle.std.proofs.Common.{List, subst}
use Rattle.ktm_world.specs.declared.change.Change.{Change}
use Rattle.ktm_world.specs.Changes.{changed_all}
use Rattle.txf_tree.specs.TreeState.{tree_of}
use Rattle.txf_durable.specs.Waiting.{HoldsChanges}
use Rattle.txf_durable.proofs.HeldMore.{holds-bytes, holds-from, holds-next}
use Rattle.txf_durable.proofs.Recordings.{all-bytes}
use Rattle.txf_durable.proofs.Trying.{parts-apply}
use Rattle.txf_durable.proofs.waiting.hold_changes.Goals as goal

pub hold_names-requires-clause-apply : goal.hold_names-requires-clause-apply
hold_names-requires-clause-apply c =
    (parts-apply (tree_of c.args.tree.now) c.args.changes.now c.split_at_bytes.result.0.now c.split_at_bytes.result.1.now c.split_at_bytes.ensures.whole c.requires.apply).0

pub returns-clause-holds : goal.returns-clause-holds
returns-clause-holds c =
    let tree = tree_of c.args.tree.now in
    let id = c.args.transaction in
    let names = c.split_at_bytes.result.0.now in
    let bytes = c.split_at_bytes.result.1.now in
    let split = c.split_at_bytes.ensures in
    let all = all-bytes c.args.changes.now names bytes split.whole split.names split.bytes c.requires.recorded in
    let behind = holds-bytes (changed_all tree names) bytes id c.hold_names.new.reserve c.hold_bytes.new.reserve all c.hold_bytes.ensures in
    let both = holds-next tree names bytes id c.reserve.new.self c.hold_names.new.reserve c.hold_bytes.new.reserve c.in_default-hold_names.ensures.holds behind in
    subst (λ (cs : List Change). HoldsChanges tree cs id c.args.reserve.now c.hold_bytes.new.reserve) split.whole
    (holds-from _ _ _ _ id c.args.reserve.now c.reserve.new.self c.hold_bytes.new.reserve c.reserve.ensures.same both)
