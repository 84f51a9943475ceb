use Rattle.ktm_enlist.proofs.Told.{given_place, nobody_given}
use Rattle.ktm_enlist.proofs.enlistments.Enlistments.caller_place.Goals as goal

pub returns-in-Some : goal.returns-in-Some
returns-in-Some c = rw (← c.self.view_is, c.in-Some.is) (given_place c.self.inside.items.items c.in-Some.id c.place.result (rw c.deref.ensures.value at c.place.ensures))

pub returns-in-None : goal.returns-in-None
returns-in-None c = rw c.in-None.is (nobody_given c.args.self.now.enlistments)
