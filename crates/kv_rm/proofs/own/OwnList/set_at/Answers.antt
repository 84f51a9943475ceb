use Rattle.std.proofs.Common.{◌∙◌, ap}
use Rattle.ktm_world.specs.Keys.{Own}
use Rattle.kv_rm.proofs.Places.{owners-set}
use Rattle.kv_rm.proofs.own.OwnList.set_at.Goals as goal

pub invariant_of-self : goal.invariant_of-self
invariant_of-self c =
    let same = c.set_in.ensures.transaction ∙ ap (λ (own : Own). own.transaction) c.index_mut-own.ensures.value in
    rw (owners-set c.self.inside.entries.items c.in-Some.place c.set_in.new.self c.index_mut-own.result.now same) c.self.invariant
