use Rattle.ktm_links.proofs.offered.Indexes.{key_at-free}
use Rattle.txf_opens.proofs.index.add.Goals as goal

pub insert-requires-clause-free : goal.insert-requires-clause-free
insert-requires-clause-free g c = key_at-free c.args.map.now.entries (g.K.Name.bytes c.args.name) c.requires.free
