use Rattle.std.proofs.Common.{◌≡◌, ◌+◌, ◌<◌, ◌^◌, Some, true, sym, subst, rules}
use Rattle.txf_laws.specs.OwnChange.{owned}
use Rattle.ktm_world.specs.Changes.{applies}
use Rattle.ktm_world.specs.Files.{bytes_seen, tree_seen}
use Rattle.txf_tree.specs.UnitChanges.{CanBeMadeOver}
use Rattle.txf_volume.specs.Held.{FilesHeld, files_of}
use Rattle.txf_laws.specs.FileEffects.{CanBeCounted}
use Rattle.txf_volume.specs.Transacted.{HasTreeRoom}
use Rattle.txf_volume.specs.contracts.files.Files.{the_view}
use Rattle.txf_volume.proofs.OwnCounts.{names-part, nodes-part, units-part}
use Rattle.txf_volume.proofs.TransactedCalls.{files-bare, tied-bare}
use Rattle.txf_volume.proofs.TransactedChange.{counted-then, counts-fit, made-files, made-tied, seen-is, units-few, units-over}
use Rattle.txf_volume.proofs.files.Files.own.Goals as goal
use Rattle.txf_volume.proofs.files.Files.own.Goals.{After-without}

pub change-requires-clause-can : goal.change-requires-clause-can
change-requires-clause-can c = record {
  over = search rules;
  applies =
      subst (λ tree. applies tree c.args.change ≡ true)
      (seen-is _ c.self.inside.units c.self.inside.counts c.self.invariant c.law_of_own_forms.ensures c.args.transaction c.args.change c.fixed_bytes-fixed.result
      c.node_of.result c.node_of.ensures c.fixed_bytes-fixed.ensures)
      (subst (λ (h : FilesHeld). applies (tree_seen (files_of h) (Some c.args.transaction)) c.args.change ≡ true) (sym c.self.view_is) c.requires.applies);
  units =
      units-over _ c.self.inside.units c.self.inside.counts c.self.invariant c.law_of_own_forms.ensures c.args.transaction c.args.change c.fixed_bytes-fixed.result
      c.node_of.result c.node_of.ensures c.fixed_bytes-fixed.ensures
      (subst (λ (h : FilesHeld). CanBeMadeOver (bytes_seen (files_of h) (Some c.args.transaction)) c.args.change) (sym c.self.view_is) c.requires.units);
  few =
      units-few _ c.self.inside.units c.self.inside.counts c.self.invariant c.law_of_own_forms.ensures c.args.transaction c.args.change c.fixed_bytes-fixed.result
      c.node_of.result c.node_of.ensures c.fixed_bytes-fixed.ensures
      (subst (λ (h : FilesHeld). CanBeCounted (owned (files_of h) c.args.transaction c.args.change)) (sym c.self.view_is) c.requires.counted);
}

pub invariant_of-self-in-Err : goal.invariant_of-self-in-Err
invariant_of-self-in-Err c = tied-bare _ c.self.inside.units c.self.inside.counts c.self.invariant c.change.new.self c.change.new.reserve c.in-Err.ensures.err c.in-Err.ensures.same

pub returns-in-Err-clause-same : goal.returns-in-Err-clause-same
returns-in-Err-clause-same c = rw (← c.self.view_is)
    (files-bare _ c.self.inside.units c.self.inside.counts c.self.invariant c.change.new.self c.change.new.reserve c.in-Err.ensures.err c.in-Err.ensures.same)

pub without-requires-clause-units : goal.without-requires-clause-units
without-requires-clause-units c = units-part _ c.args.transaction c.self.inside.counts c.self.invariant.counted c.in-Ok.counted.before c.in-Ok.ensures.counted.before

pub without-requires-clause-nodes : goal.without-requires-clause-nodes
without-requires-clause-nodes c = nodes-part _ c.args.transaction c.self.inside.counts c.self.invariant.counted c.in-Ok.counted.before c.in-Ok.ensures.counted.before

pub without-requires-clause-names : goal.without-requires-clause-names
without-requires-clause-names c = names-part _ c.args.transaction c.self.inside.counts c.self.invariant.counted c.in-Ok.counted.before c.in-Ok.ensures.counted.before

-- what transactions changed can be counted
fit : (c : After-without) → (c.without.result.units + c.in-Ok.counted.after.units < 2 ^ 64) × (c.without.result.nodes + c.in-Ok.counted.after.nodes < 2 ^ 64) × (c.without.result.names + c.in-Ok.counted.after.names < 2 ^ 64)
fit c =
    counts-fit (the_view c.self.inside) c.self.inside.units c.self.inside.counts c.self.invariant c.law_of_own_forms.ensures c.args.transaction c.args.change c.fixed_bytes-fixed.result
    c.node_of.result c.node_of.ensures c.fixed_bytes-fixed.ensures
    c.change.new.self c.change.new.reserve c.in-Ok.ensures.ok (subst (λ (h : FilesHeld). CanBeCounted (owned (files_of h) c.args.transaction c.args.change)) (sym c.self.view_is) c.requires.counted)
    c.in-Ok.counted c.in-Ok.ensures.counted c.without.result c.without.ensures.units c.without.ensures.nodes c.without.ensures.names

pub with-self-inside-requires-clause-units : goal.with-self-inside-requires-clause-units
with-self-inside-requires-clause-units c = (fit (goal.at.with-self-inside-requires-clause-units c).After-without).0

pub with-self-inside-requires-clause-nodes : goal.with-self-inside-requires-clause-nodes
with-self-inside-requires-clause-nodes c = (fit (goal.at.with-self-inside-requires-clause-nodes c).After-without).1

pub with-self-inside-requires-clause-names : goal.with-self-inside-requires-clause-names
with-self-inside-requires-clause-names c = (fit (goal.at.with-self-inside-requires-clause-names c).After-without).2

pub invariant_of-self : goal.invariant_of-self
invariant_of-self c =
    let counted = subst (λ (h : FilesHeld). CanBeCounted (owned (files_of h) c.args.transaction c.args.change)) (sym c.self.view_is) c.requires.counted in
    rw c.next_after-next.ensures
    (made-tied (the_view c.self.inside) c.self.inside.units c.self.inside.counts c.self.invariant c.law_of_own_forms.ensures c.args.transaction c.args.change c.fixed_bytes-fixed.result
    c.node_of.result c.node_of.ensures c.fixed_bytes-fixed.ensures
    c.change.new.self c.change.new.reserve c.in-Ok.ensures.ok counted c.with-self-inside.result
    (counted-then (the_view c.self.inside) c.self.inside.units c.self.inside.counts c.self.invariant c.law_of_own_forms.ensures c.args.transaction c.args.change c.fixed_bytes-fixed.result
    c.node_of.result c.node_of.ensures c.fixed_bytes-fixed.ensures
    c.change.new.self c.change.new.reserve c.in-Ok.ensures.ok counted
    c.in-Ok.counted c.in-Ok.ensures.counted c.without.result c.without.ensures.units c.without.ensures.nodes c.without.ensures.names
    c.with-self-inside.result c.with-self-inside.ensures.units c.with-self-inside.ensures.nodes c.with-self-inside.ensures.names)
    (subst (λ (h : FilesHeld). HasTreeRoom h (Some c.args.change)) (sym c.self.view_is) c.requires.tree))

pub returns-in-Ok-clause-done : goal.returns-in-Ok-clause-done
returns-in-Ok-clause-done c = rw (c.next_after-next.ensures, ← c.self.view_is)
    (made-files (the_view c.self.inside) c.self.inside.units c.self.inside.counts c.self.invariant c.law_of_own_forms.ensures c.args.transaction c.args.change c.fixed_bytes-fixed.result
    c.node_of.result c.node_of.ensures c.fixed_bytes-fixed.ensures
    c.change.new.self c.change.new.reserve c.in-Ok.ensures.ok (subst (λ (h : FilesHeld). CanBeCounted (owned (files_of h) c.args.transaction c.args.change)) (sym c.self.view_is) c.requires.counted))
