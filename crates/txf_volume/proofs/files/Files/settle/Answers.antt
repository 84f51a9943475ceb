use Rattle.std.proofs.Common.{◌≡◌, Option, Some, IfSome, sym, ◌∙◌, ap, subst}
use Rattle.ktm_world.specs.declared.change.Change.{Change}
use Rattle.ktm_world.specs.FileOutcome.{FileOutcome}
use Rattle.txf_tree.specs.TreeState.{tree_of}
use Rattle.txf_tree.specs.UnitChanges.{CanBeMade}
use Rattle.txf_versions.specs.VersionsState.{AreHeld}
use Rattle.txf_volume.specs.Held.{FilesHeld, files_of}
use Rattle.txf_laws.specs.FileEffects.{IsPlainChange}
use Rattle.txf_volume.specs.Ties.{AreTied}
use Rattle.txf_volume.proofs.PlainTies.{few-kept, few-units, left-over}
use Rattle.txf_volume.proofs.files.Files.settle.Goals as goal

tied : (c : goal.After-commit_plain-arg-1) → AreTied c.args.self.now c.self.inside.units c.self.inside.counts
tied c = subst (λ (h : FilesHeld). AreTied h c.self.inside.units c.self.inside.counts) c.self.view_is c.self.invariant

held : (c : goal.After-commit_plain-arg-1) → AreHeld c.args.self.now.versions.opens c.args.self.now.versions.older
held c = subst (λ (h : FilesHeld). AreHeld h.versions.opens h.versions.older) c.self.view_is c.law_of_older.ensures

change-is : (c : goal.After-commit_plain-arg-1) → c.args.plan.change ≡ Some c.in-Some.change
change-is c = ap (λ (o : FileOutcome). o.change) (sym c.plan.view_is) ∙ c.in-Some.is

plain : (c : goal.After-commit_plain-arg-1) → IsPlainChange (files_of c.args.self.now) c.in-Some.change
plain c = subst (λ (o : Option Change). IfSome o (IsPlainChange (files_of c.args.self.now))) (change-is c) c.requires.plain.change

pub commit_plain-requires-clause-can : goal.commit_plain-requires-clause-can
commit_plain-requires-clause-can c = subst (λ (o : Option Change). IfSome o (CanBeMade (tree_of c.args.self.now.tree))) (change-is c) c.requires.units

pub commit_plain-requires-clause-left : goal.commit_plain-requires-clause-left
commit_plain-requires-clause-left c = left-over c.args.self.now c.self.inside.units c.self.inside.counts (tied c) c.in-Some.change (plain c) c.args.plan (change-is c) c.requires.left

pub commit_plain-requires-clause-units : goal.commit_plain-requires-clause-units
commit_plain-requires-clause-units c = few-units c.args.self.now c.self.inside.units c.self.inside.counts (tied c) c.in-Some.change (plain c) (held c) c.args.plan (change-is c) c.requires.counted.units

pub commit_plain-requires-clause-kept : goal.commit_plain-requires-clause-kept
commit_plain-requires-clause-kept c = few-kept c.args.self.now c.self.inside.units c.self.inside.counts (tied c) c.in-Some.change (plain c) (held c) c.args.plan (change-is c) c.requires.counted.units
