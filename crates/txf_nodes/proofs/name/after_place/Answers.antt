use Rattle.std.proofs.Common.{◌+◌, ◌-◌, length, take, refl, ap, ◌∙◌, arith}
use Rattle.txf_nodes.proofs.Zeros.{take-room}
use Rattle.txf_nodes.proofs.name.after_place.Goals as goal

pub returns : goal.returns
returns c =
    let n = length c.args.place.now in
    c.new.ensures ∙ ap (take (n + 1)) c.write_front.ensures ∙ take-room c.args.place.now n 264 (263 - n) refl (omega arith)
