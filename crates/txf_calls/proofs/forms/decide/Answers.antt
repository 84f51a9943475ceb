use Rattle.std.proofs.Common.{refl}
use Rattle.txf_calls.proofs.forms.decide.Goals as goal

pub returns-in-Write : goal.returns-in-Write
returns-in-Write g c = rw c.in-Write.is (record { plan = c.write.ensures c.args.who; enough = λ takes. refl })

pub returns-in-WriteUnits : goal.returns-in-WriteUnits
returns-in-WriteUnits g c = rw c.in-WriteUnits.is (record { plan = c.write_units.ensures c.args.who; enough = λ takes. refl })

pub returns-in-SetEnd : goal.returns-in-SetEnd
returns-in-SetEnd g c = rw c.in-SetEnd.is (record { plan = c.set_end.ensures c.args.who; enough = λ takes. refl })

pub returns-in-Size : goal.returns-in-Size
returns-in-Size g c = rw c.in-Size.is (record { plan = c.size.ensures c.args.room.now c.args.who; enough = λ takes. refl })

pub returns-in-Flush : goal.returns-in-Flush
returns-in-Flush g c = rw c.in-Flush.is (record { plan = c.flush.ensures c.args.room.now c.args.who; enough = λ takes. refl })
