use Rattle.std.proofs.Common.{◌∙◌, ap, arith, sym}
use Rattle.ktm_world.specs.Tree.{with_node}
use Rattle.txf_tree.specs.TreeState.{bytes_now, tree_of}
use Rattle.txf_tree.proofs.Refilling.{rooms-inserted}
use Rattle.txf_tree.proofs.tree.Tree.make_new.Goals as goal

pub returns-clause-applies : goal.returns-clause-applies
returns-clause-applies c = rw (← c.self.view_is) (sym (c.in_default.ensures.applies bytes_now c.args.kind))

pub returns-clause-applied : goal.returns-clause-applied
returns-clause-applied c = λ _.
    let inserted = c.in_default.ensures.inserted in
    rw (← c.self.view_is)
    (record {
      tree =
          inserted.tree bytes_now
          ∙ ap (λ content. with_node (tree_of c.self.inside.nodes) (record { number = c.args.node; parent = c.args.parent; name = c.args.name; content = content }))
          c.new_content-content.ensures;
      versions = inserted.versions;
      rooms = λ file _. rooms-inserted _ _ _ _ _ _ inserted file;
      spare = omega (arith, inserted.spare);
    })

pub returns-in-Err-clause-applies : goal.returns-in-Err-clause-applies
returns-in-Err-clause-applies c = rw (← c.self.view_is) (sym (c.in-Err.ensures.refused bytes_now c.args.kind))
