use Rattle.std.proofs.Common.{arith}
use Rattle.kv_rm.proofs.Hashes.{are_held-with, few_held}
use Rattle.kv_rm.proofs.rm.KvRm.add.Goals as goal

pub count_key-requires-clause-few : goal.count_key-requires-clause-few
count_key-requires-clause-few c = λ hash.
    rw ((c.reserve-2.ensures.held _ c.self.invariant.held).counted hash) (few_held _ _ c.self.invariant.counted c.self.invariant.few hash)

pub invariant_of-self-2 : goal.invariant_of-self-2
invariant_of-self-2 c =
    let seat = rw (← c.self.view_is) at c.requires.seat in
    let counts = rw (← c.self.view_is) at c.requires.counts in
    rw c.in_ok-set_for.ensures.ok (record {
      counted = counts;
      few = c.requires.few;
      held = are_held-with _ _ _ _ _ _ _ seat (c.reserve-2.ensures.held _ c.self.invariant.held) c.count_key.ensures;
      room = omega (arith, c.all.ensures, c.in_ok-reserve.ensures.room);
    })
