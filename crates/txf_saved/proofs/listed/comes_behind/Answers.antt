use Rattle.std.proofs.Common.{◌-◌, length, sym}
use Rattle.std.proofs.lemmas.Option.{get_or_from_slice_get}
use Rattle.txf_saved.proofs.Finding.{first_of, last_of, some_left}
use Rattle.txf_saved.proofs.listed.comes_behind.Goals as goal

pub returns-in-Some : goal.returns-in-Some
returns-in-Some c =
    let xs = c.args.nodes.now in
    sym (last_of xs c.args.node.now c.in-Some.last.now c.args.node.now (length xs - 1) (some_left xs _ (sym c.in-Some.ensures.value)) (get_or_from_slice_get xs (length xs - 1) c.in-Some.last.now c.args.node.now (sym c.in-Some.ensures.value)) c.requires)

pub returns-in-None : goal.returns-in-None
returns-in-None c = sym (first_of c.args.nodes.now c.args.node.now (sym c.in-None.ensures.value))
