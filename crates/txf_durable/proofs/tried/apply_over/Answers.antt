use Rattle.std.proofs.Common.{◌∙◌, ◌&&◌, Ok, sym, ap}
use Rattle.std.proofs.lemmas.Bool.{and_left}
use Rattle.ktm_world.specs.Changes.{changed_all, changes_apply}
use Rattle.txf_overlay.specs.OverlayState.{seen}
use Rattle.txf_tree.specs.TreeState.{tree_of}
use Rattle.txf_durable.proofs.Trying.{apply-split, bytes-apply}
use Rattle.txf_durable.proofs.tried.apply_over.Goals as goal

pub returns-then-not-branch-clause-applies : goal.returns-then-not-branch-clause-applies
returns-then-not-branch-clause-applies c =
    let tree = tree_of c.args.tree.now in
    let names = sym c.in_ok-lay_all.ensures.applies ∙ c.if-not-branch.true in
    sym (apply-split tree c.args.names.now c.args.bytes.now ∙ and_left (changes_apply tree c.args.names.now) (changes_apply (changed_all tree c.args.names.now) c.args.bytes.now) names)

pub returns-clause-applies : goal.returns-clause-applies
returns-clause-applies c =
    let tree = tree_of c.args.tree.now in
    let names = sym c.in_ok-lay_all.ensures.applies ∙ c.if-not-branch.false in
    let laid = c.in_ok-lay_all.ensures.names (ap Ok c.if-not-branch.false) in
    c.all_apply.ensures ∙ bytes-apply (seen tree c.lay_all.new.overlay) c.args.bytes.now c.requires.bytes ∙ ap (λ ds. changes_apply (changed_all tree ds) c.args.bytes.now) laid
    ∙ ap (λ b. b && changes_apply (changed_all tree c.args.names.now) c.args.bytes.now) (sym names)
    ∙ sym (apply-split tree c.args.names.now c.args.bytes.now)
