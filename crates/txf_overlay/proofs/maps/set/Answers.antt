use Rattle.txf_overlay.proofs.Entries.{key_at-free}
use Rattle.txf_overlay.proofs.maps.set.Goals as goal

pub insert-requires-clause-free : goal.insert-requires-clause-free
insert-requires-clause-free g c = key_at-free c.remove.new.self.entries (g.K.Name.bytes c.args.name) (rw c.as_slice.ensures at c.remove.ensures.gone)
