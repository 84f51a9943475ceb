use Rattle.ktm_dump.proofs.line.put_head.Goals as goal

pub returns : goal.returns
returns g c = rw (c.from.ensures, c.units.ensures, c.events.ensures, c.from-2.ensures, c.boots.ensures) at c.put_counts.ensures
