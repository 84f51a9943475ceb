use Rattle.std.proofs.Common.{◌∙◌, Some, ap, nat_cmp, rules, sym}
use Rattle.std.proofs.lemmas.Fn.{always_returns_same}
use Rattle.ktm_snapshot.specs.declared.node.ReadNode.{ReadNode}
use Rattle.ktm_snapshot.specs.Shown.{node_read}
use Rattle.txf_saved.proofs.Finding.{found, missing}
use Rattle.txf_saved.proofs.listed.find.Goals as goal

pub returns-in-Ok : goal.returns-in-Ok
returns-in-Ok c =
    let node = c.index-nodes-place.result in
    rw c.show.ensures (ap (λ (x : ReadNode). Some (node_read x)) c.index-nodes-place.is ∙ sym (found c.args.nodes.now c.args.number c.in-Ok.place node c.requires c.in-Ok.ensures.bound
    (c.in-Ok.ensures.position (λ (x : ReadNode). nat_cmp x.number c.args.number) (always_returns_same _ _ _ (λ a r f' called. search rules)))))

pub returns-in-Err : goal.returns-in-Err
returns-in-Err c =
    sym (missing c.args.nodes.now c.args.number _ c.requires
    (c.in-Err.ensures.position (λ (x : ReadNode). nat_cmp x.number c.args.number) (always_returns_same _ _ _ (λ a r f' called. search rules))))
