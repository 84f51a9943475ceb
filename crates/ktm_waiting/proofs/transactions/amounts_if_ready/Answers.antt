use Rattle.ktm_waiting.proofs.offered.Keeping.{kept-form}
use Rattle.ktm_waiting.proofs.transactions.amounts_if_ready.Goals as goal

pub amounts_of-requires-clause-parts : goal.amounts_of-requires-clause-parts
amounts_of-requires-clause-parts c = c.requires.parts

pub amounts_of-requires-clause-form : goal.amounts_of-requires-clause-form
amounts_of-requires-clause-form c = kept-form c.args.transaction.now c.requires.changes

pub amounts_of-requires-clause-apply : goal.amounts_of-requires-clause-apply
amounts_of-requires-clause-apply c = c.requires.apply

pub amounts_of-requires-clause-new : goal.amounts_of-requires-clause-new
amounts_of-requires-clause-new c = c.requires.new
