use Rattle.std.proofs.Common.{◌≤◌, length, ap, arith, length-take}
use Rattle.ktm_event.proofs.KeptLemmas.{kept_none, holds_none}
use Rattle.ktm_event.proofs.kept.Events.clear.Goals as goal

pub invariant_of-self : goal.invariant_of-self
invariant_of-self c =
    let few : length c.truncate.new.self.items ≤ 8 = omega (arith, ap length c.truncate.ensures.items, length-take 8 c.self.inside.bytes.items) in
    kept_none c.truncate.new.self.items _ few c.close.ensures.items _ _ (omega (arith, c.close.ensures.room, c.truncate.ensures.capacity, c.self.invariant.reserved)) c.self.invariant.few

pub returns-clause-empty : goal.returns-clause-empty
returns-clause-empty c =
    let few : length c.truncate.new.self.items ≤ 8 = omega (arith, ap length c.truncate.ensures.items, length-take 8 c.self.inside.bytes.items) in
    holds_none c.truncate.new.self.items _ few c.close.ensures.items _ _
