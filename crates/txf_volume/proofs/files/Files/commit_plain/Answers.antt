use Rattle.std.proofs.Common.{◌+◌, ◌≤◌, None, All, sum_by, sym, ◌∙◌, ap, subst}
use Rattle.ktm_world.specs.FileOutcome.{changing, files_after}
use Rattle.txf_tree.specs.TreeState.{takes, tree_of}
use Rattle.txf_tree.specs.UnitChanges.{CanBeMade}
use Rattle.txf_volume.specs.Held.{FilesHeld, OwnHeld, files_of, names_held}
use Rattle.txf_laws.specs.FileEffects.{IsPlainChange}
use Rattle.txf_volume.specs.Plain.{IsLeftOver}
use Rattle.txf_volume.specs.contracts.files.Files.{the_view}
use Rattle.txf_volume.proofs.PlainTies.{files-then, tied-then}
use Rattle.txf_volume.proofs.files.Files.commit_plain.Goals as goal

pub apply-requires-clause-units : goal.apply-requires-clause-units
apply-requires-clause-units c = subst (λ (h : FilesHeld). CanBeMade (tree_of h.tree) c.args.change) (sym c.self.view_is) c.requires.can

pub invariant_of-self : goal.invariant_of-self
invariant_of-self c =
    tied-then (the_view c.self.inside) c.self.inside.units c.self.inside.counts c.self.invariant c.args.change (subst (λ (h : FilesHeld). IsPlainChange (files_of h) c.args.change) (sym c.self.view_is) c.requires.plain)
    c.apply.new.tree c.apply.new.versions c.next_after-self-inside.result c.apply.ensures.tree c.apply.ensures.versions c.apply.ensures.opens c.apply.ensures.older c.law_of_forms.ensures c.law_of_other_trees.ensures
    (subst (λ (h : FilesHeld). All (λ (own : OwnHeld). IsLeftOver (tree_of h.tree) c.args.change own.overlay) h.overlays) (sym c.self.view_is) c.requires.left) c.units_after-self-inside.result c.units_after-self-inside.ensures c.apply.ensures.spare
    (subst (λ (h : FilesHeld). sum_by names_held h.overlays + takes c.args.change ≤ h.tree.spare) (sym c.self.view_is) c.requires.room)

pub returns-clause-files : goal.returns-clause-files
returns-clause-files c =
    files-then (the_view c.self.inside) c.self.inside.units c.self.inside.counts c.self.invariant c.args.change (subst (λ (h : FilesHeld). IsPlainChange (files_of h) c.args.change) (sym c.self.view_is) c.requires.plain)
    c.apply.new.tree c.apply.new.versions c.next_after-self-inside.result c.apply.ensures.tree c.apply.ensures.versions c.apply.ensures.opens c.apply.ensures.older c.next_after-self-inside.ensures
    ∙ ap (λ (h : FilesHeld). files_after (files_of h) None (changing c.args.change)) c.self.view_is
