use Rattle.std.proofs.Common.{◌∙◌, List, sym, ap, subst}
use Rattle.std.specs.List.{list_all}
use Rattle.ktm_world.specs.Changes.{changes_apply}
use Rattle.ktm_world.specs.Durable.{Recorded, is_new_in, recorded_at}
use Rattle.txf_tree.specs.TreeState.{tree_of}
use Rattle.txf_tree.specs.UnitChanges.{CanAllBeMade}
use Rattle.ktm_waiting.specs.Table.{decided_in}
use Rattle.ktm_waiting.specs.Waiting.{AreHeld, AreSpared}
use Rattle.ktm_waiting.proofs.offered.Keeping.{changes-apply-at, changes-new-at, decide-spared}
use Rattle.ktm_waiting.proofs.offered.Reserving.{held-decided, held-idle}
use Rattle.ktm_replayed.proofs.Made.{kept-made}
use Rattle.ktm_replayed.proofs.replayed.Replayed.decide.Goals as goal

pub decide-changes-requires : goal.decide-changes-requires
decide-changes-requires c = c.self.invariant.kept.each

pub release_changes-requires : goal.release_changes-requires
release_changes-requires c none =
    held-idle c.self.inside.waiting (tree_of c.self.inside.files.tree) c.self.inside.transactions.transactions c.args.transaction c.self.invariant
    (sym c.decide-changes.ensures.changes ∙ sym c.deref.ensures.value ∙ none)

pub invariant_of-self : goal.invariant_of-self
invariant_of-self c =
    let tree = tree_of c.self.inside.files.tree in
    let r' = c.release_changes.new.waiting in
    subst (AreHeld r' tree) (sym c.decide-changes.ensures.rest)
    (held-decided c.self.inside.waiting tree c.self.inside.transactions.transactions c.self.invariant r' c.args.transaction c.release_changes.ensures)

pub commit-requires-clause-apply : goal.commit-requires-clause-apply
commit-requires-clause-apply c =
    let tree = tree_of c.self.inside.files.tree in
    ap (changes_apply tree) c.decide-changes.ensures.changes ∙ changes-apply-at tree c.self.inside.transactions.transactions c.args.transaction c.self.invariant.kept

pub commit-requires-clause-new : goal.commit-requires-clause-new
commit-requires-clause-new c =
    let tree = tree_of c.self.inside.files.tree in
    ap (list_all (is_new_in tree)) c.decide-changes.ensures.changes ∙ changes-new-at tree c.self.inside.transactions.transactions c.args.transaction c.self.invariant.kept

pub commit-requires-clause-units : goal.commit-requires-clause-units
commit-requires-clause-units c =
    let tree = tree_of c.self.inside.files.tree in
    subst (CanAllBeMade tree) (sym c.decide-changes.ensures.changes) (kept-made tree c.self.inside.transactions.transactions c.args.transaction c.self.invariant.kept)

pub commit-requires-clause-spared : goal.commit-requires-clause-spared
commit-requires-clause-spared c =
    let tree = tree_of c.self.inside.files.tree in
    let ts = c.self.inside.transactions.transactions in
    subst (λ (us : List Recorded). AreSpared tree us c.decide-changes.result.0.items) (sym c.decide-changes.ensures.rest)
    (subst (AreSpared tree (decided_in ts (recorded_at ts c.args.transaction))) (sym c.decide-changes.ensures.changes) (decide-spared tree ts c.args.transaction c.self.invariant.kept))
