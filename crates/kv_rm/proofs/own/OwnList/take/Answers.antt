use Rattle.kv_rm.proofs.Places.{owners, owners-remove, owner_at}
use Rattle.kv_rm.proofs.own.OwnList.take.Goals as goal

pub invariant_of-self : goal.invariant_of-self
invariant_of-self c =
    let own = c.self.inside.entries.items in
    let at = owner_at _ _ _ (rw (← c.self.view_is) at c.in-Some.ensures) in
    rw (c.remove-own.ensures.items, owners-remove own c.in-Some.place) (c.remove.ensures (owners own) c.in-Some.place at.0 at.1 c.self.invariant)
