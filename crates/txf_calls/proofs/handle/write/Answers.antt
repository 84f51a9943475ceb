use Rattle.std.proofs.Common.{◌≤◌, length, subst}
use Rattle.std.proofs.lemmas.Bool.{le-ltb}
use Rattle.ktm_base.specs.declared.limits.TheConstants.{MOST_AT_ONCE}
use Rattle.txf_calls.proofs.Writing.{at_once}
use Rattle.txf_calls.proofs.handle.write.Goals as goal

pub returns : goal.returns
returns g c who =
    let few = le-ltb MOST_AT_ONCE (length c.args.bytes) (subst (λ n. n ≤ MOST_AT_ONCE) c.len.ensures c.if-len.false) in
    at_once (g.V.Volume.files c.args.volume.now) c.args.room.now who c.args.file c.args.offset c.args.bytes c.write_units.result few (c.write_units.ensures who)
