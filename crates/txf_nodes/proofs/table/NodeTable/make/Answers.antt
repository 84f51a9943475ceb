use Rattle.txf_nodes.proofs.Applying.{can_make}
use Rattle.txf_nodes.proofs.table.NodeTable.make.Goals as goal

pub insert-requires-clause-few : goal.insert-requires-clause-few
insert-requires-clause-few g c = (can_make _ c.args.number c.args.parent c.requires.applies.1 c.args.name c.requires.applies.2).place.few

pub insert-requires-clause-not_root : goal.insert-requires-clause-not_root
insert-requires-clause-not_root g c = (can_make _ c.args.number c.args.parent c.requires.applies.1 c.args.name c.requires.applies.2).place.not_root

pub insert-requires-clause-number : goal.insert-requires-clause-number
insert-requires-clause-number g c = (
  c.requires.applies.0,
  (can_make _ c.args.number c.args.parent c.requires.applies.1 c.args.name c.requires.applies.2).place.number,
)

pub insert-requires-clause-name : goal.insert-requires-clause-name
insert-requires-clause-name g c = (
  c.requires.applies.0,
  (can_make _ c.args.number c.args.parent c.requires.applies.1 c.args.name c.requires.applies.2).free,
)
