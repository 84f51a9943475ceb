use Rattle.ktm_memory.proofs.Records.{counted_from, nothing_recorded, recorded}
use Rattle.ktm_memory.proofs.memory.Memory.record.Goals as goal

pub returns-then-is_empty : goal.returns-then-is_empty
returns-then-is_empty g c = nothing_recorded c.args.events.now c.args.self.now _ _ _ c.if-is_empty.true c.is_empty.ensures.count.0 c.requires.headed c.requires.up c.requires.pending

pub returns : goal.returns
returns g c = rw (← c.self.view_is) (recorded c.args.events.now _ c.append.new.self _ _ _ _ c.append.result (counted_from c.args.events.now.count _ c.if-is_empty.false c.is_empty.ensures.count.1) c.append.ensures)
