use Rattle.ktm_keyed.proofs.KeyedLemmas.{is_rising-without}
use Rattle.ktm_keyed.proofs.keyed.KeyedList.remove.Goals as goal

pub invariant_of-self : goal.invariant_of-self
invariant_of-self g c =
    let here = rw (← c.self.view_is) at c.in-Here.ensures in
    rw (c.remove.ensures.items, ← here.removes) (is_rising-without _ c.args.key.now c.self.invariant)
