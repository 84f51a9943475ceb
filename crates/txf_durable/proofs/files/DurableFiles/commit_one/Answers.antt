use Rattle.std.proofs.Common.{◌≡◌, subst}
use Rattle.std.specs.Prelude.{IfOk}
use Rattle.txf_tree.specs.TreeState.{tree_of}
use Rattle.txf_durable.proofs.Trying.{alone}
use Rattle.txf_durable.proofs.files.DurableFiles.commit_one.Goals as goal

pub returns-clause-applies : goal.returns-clause-applies
returns-clause-applies c =
    subst (λ applies. IfOk c.make.result (λ done. done ≡ applies)) (alone (tree_of c.args.self.now.tree) c.args.change) c.make.ensures.applies
