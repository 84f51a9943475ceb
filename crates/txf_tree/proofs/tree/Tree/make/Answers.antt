use Rattle.std.proofs.Common.{◌∙◌, ap, arith}
use Rattle.ktm_world.specs.Tree.{with_node}
use Rattle.txf_tree.specs.TreeState.{bytes_now, tree_of}
use Rattle.txf_tree.proofs.Refilling.{rooms-inserted}
use Rattle.txf_tree.proofs.tree.Tree.make.Goals as goal

pub make-requires-clause-applies : goal.make-requires-clause-applies
make-requires-clause-applies c = (bytes_now, c.args.kind, rw (← c.self.view_is) at c.requires.applies)

pub returns : goal.returns
returns c =
    rw (← c.self.view_is)
    (record {
      tree =
          c.make.ensures.tree bytes_now
          ∙ ap (λ content. with_node (tree_of c.self.inside.nodes) (record { number = c.args.node; parent = c.args.parent; name = c.args.name; content = content }))
          c.new_content-content.ensures;
      versions = c.make.ensures.versions;
      rooms = λ file _. rooms-inserted _ _ _ _ _ _ c.make.ensures file;
      spare = omega (arith, c.make.ensures.spare);
    })
