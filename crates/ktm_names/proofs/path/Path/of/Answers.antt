use Rattle.std.proofs.lemmas.List.{length-map}
use Rattle.std.proofs.lemmas.List.Elements.{All-map}
use Rattle.ktm_base.specs.Names.{IsName}
use Rattle.ktm_names.proofs.path.Path.of.Goals as goal

pub invariant_of-result : goal.invariant_of-result
invariant_of-result c =
    rw c.in_ok-of.ensures (rw (length-map c.args.names.now (λ name. name.now)) c.requires.few, All-map IsName (λ name. name.now) c.args.names.now c.requires.names)
