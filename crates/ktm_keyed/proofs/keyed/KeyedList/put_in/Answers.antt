use Rattle.ktm_keyed.proofs.KeyedLemmas.{is_rising-put}
use Rattle.ktm_keyed.proofs.keyed.KeyedList.put_in.Goals as goal

pub invariant_of-self : goal.invariant_of-self
invariant_of-self g c =
    let here = rw (← c.self.view_is, c.in-Here.is) at c.requires in
    rw (← here.replaces c.args.value) (is_rising-put c.args.key c.args.value _ c.self.invariant)

pub invariant_of-self-in_default : goal.invariant_of-self-in_default
invariant_of-self-in_default g c =
    let free = rw (← c.self.view_is, c.in-Free.is) at c.requires in
    rw (c.in_default.ensures.items, ← free.adds c.args.value) (is_rising-put c.args.key c.args.value _ c.self.invariant)
