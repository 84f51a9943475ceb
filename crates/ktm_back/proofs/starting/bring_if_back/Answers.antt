use Rattle.std.proofs.Common.{◌≡◌, Bool, true, false, refl}
use Rattle.ktm_world.specs.Durable.{Recorded, is_held}
use Rattle.ktm_world.specs.World.{transaction_back}
use Rattle.ktm_world.specs.Transactions.{is_live}
use Rattle.ktm_back.proofs.starting.bring_if_back.Goals as goal

-- one that comes back is in doubt or commits
back_live : (t : Recorded) (held : Bool) → is_held t.stage ≡ held → is_live (transaction_back t) ≡ true
back_live t true is = rw is refl
back_live t false is = rw is refl

pub bring_back-requires-clause-live : goal.bring_back-requires-clause-live
bring_back-requires-clause-live c = rw c.transaction_back.ensures (back_live c.args.t.now _ refl)
