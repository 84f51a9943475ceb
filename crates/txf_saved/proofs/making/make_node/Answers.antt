use Rattle.std.proofs.Common.{◌≡◌, ◌∙◌, true, Some, None, Ok, ap, sym}
use Rattle.std.proofs.lemmas.Bool.{true≢false}
use Rattle.ktm_snapshot.specs.Shown.{node_of}
use Rattle.ktm_world.specs.Changes.{applies}
use Rattle.ktm_world.specs.Tree.{with_node}
use Rattle.txf_laws.proofs.offered.ChangeTests.{Applies-from, is_there-none}
use Rattle.txf_saved.proofs.Filling.{can-fill, directory-made, filled-tree, fills, made-next, made-tree, makes}
use Rattle.txf_saved.proofs.making.make_node.Goals as goal
use Rattle.txf_saved.specs.Making.{make_of}
use Rattle.txf_tree.specs.TreeState.{tree_of}

pub commit_one-requires : goal.commit_one-requires
commit_one-requires c = rw c.in_ok-make.ensures tt

pub returns-then-not-branch-clause-not_made : goal.returns-then-not-branch-clause-not_made
returns-then-not-branch-clause-not_made c = λ is. makes _ _ _ _ c.in_ok-make.ensures c.in_ok-commit_one.ensures.applies ∙ c.if-not-branch.true

pub returns-in_default-clause-made : goal.returns-in_default-clause-made
returns-in_default-clause-made c = λ is.
    let x = node_of c.args.node.now in
    let tree = tree_of c.args.files.now.tree in
    let after = c.in_ok-commit_one.ensures.after (ap Ok c.if-not-branch.false) in
    let none : x.content ≡ None = cc in (
      makes tree x _ _ c.in_ok-make.ensures c.in_ok-commit_one.ensures.applies ∙ c.if-not-branch.false,
      made-tree tree _ x _ c.in_ok-make.ensures after.0 ∙ ap (with_node tree) (directory-made x none),
      made-next _ _ x _ c.in_ok-make.ensures after.1,
    )

pub commit_one-requires-2 : goal.commit_one-requires-2
commit_one-requires-2 c =
    let x = node_of c.args.node.now in
    let tree = tree_of c.args.files.now.tree in
    let first = c.in_ok-commit_one.ensures.after (ap Ok c.if-not-branch.false) in
    let applies' : applies tree (make_of x) ≡ true = makes tree x _ _ c.in_ok-make.ensures c.in_ok-commit_one.ensures.applies ∙ c.if-not-branch.false in
    let some : x.content ≡ Some c.new-contents.result = c.in-Some.is ∙ ap Some (sym (c.new-contents.ensures ∙ c.in_ok-copy.ensures)) in
    can-fill tree _ x _ some (is_there-none tree x.number (Applies-from tree (make_of x) applies').1) (made-tree tree _ x _ c.in_ok-make.ensures first.0)

pub returns-clause-made : goal.returns-clause-made
returns-clause-made c = λ is.
    let x = node_of c.args.node.now in
    let tree = tree_of c.args.files.now.tree in
    let first = c.in_ok-commit_one.ensures.after (ap Ok c.if-not-branch.false) in
    let second = c.commit_one-2.ensures.after is in
    let applies' : applies tree (make_of x) ≡ true = makes tree x _ _ c.in_ok-make.ensures c.in_ok-commit_one.ensures.applies ∙ c.if-not-branch.false in
    let some : x.content ≡ Some c.new-contents.result = c.in-Some.is ∙ ap Some (sym (c.new-contents.ensures ∙ c.in_ok-copy.ensures)) in (
      applies',
      filled-tree tree _ _ x _ some (is_there-none tree x.number (Applies-from tree (make_of x) applies').1) (made-tree tree _ x _ c.in_ok-make.ensures first.0) second.0,
      second.1 ∙ made-next _ _ x _ c.in_ok-make.ensures first.1,
    )

pub returns-clause-not_made : goal.returns-clause-not_made
returns-clause-not_made c = λ is.
    let x = node_of c.args.node.now in
    let tree = tree_of c.args.files.now.tree in
    let first = c.in_ok-commit_one.ensures.after (ap Ok c.if-not-branch.false) in
    let applies' : applies tree (make_of x) ≡ true = makes tree x _ _ c.in_ok-make.ensures c.in_ok-commit_one.ensures.applies ∙ c.if-not-branch.false in
    let some : x.content ≡ Some c.new-contents.result = c.in-Some.is ∙ ap Some (sym (c.new-contents.ensures ∙ c.in_ok-copy.ensures)) in
    let given = rw is at c.commit_one-2.ensures.applies in
    absurd (true≢false (sym (fills tree _ x _ _ some (is_there-none tree x.number (Applies-from tree (make_of x) applies').1) (made-tree tree _ x _ c.in_ok-make.ensures first.0) given)))
