use Rattle.ktm_route.proofs.asked.decide_routed.Goals as goal

pub returns-in-Ok-clause-rules : goal.returns-in-Ok-clause-rules
returns-in-Ok-clause-rules c = rw c.in-Ok.is c.decide_routed.ensures.rules
