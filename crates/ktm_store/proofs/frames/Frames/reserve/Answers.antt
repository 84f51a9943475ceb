use Rattle.ktm_store.proofs.Framing.{went}
use Rattle.ktm_store.proofs.frames.Frames.reserve.Goals as goal

pub returns-in_err-give_up-clause-went : goal.returns-in_err-give_up-clause-went
returns-in_err-give_up-clause-went c = rw (← c.self.view_is) (went c.self.inside.bytes.items c.args.stored.now c.self.inside.owners c.give_up.new.self c.give_up.ensures.gave)

pub returns-clause-went : goal.returns-clause-went
returns-clause-went c = rw (c.add_up_to.ensures.kept, ← c.self.view_is) (went c.self.inside.bytes.items c.args.stored.now c.self.inside.owners c.give_up.new.self c.give_up.ensures.gave)
