use Rattle.std.proofs.Common.{sym}
use Rattle.txf_laws.proofs.offered.Tables.{recorded_at-found}
use Rattle.txf_tree.specs.TreeState.{tree_of}
use Rattle.ktm_waiting.specs.Waiting.{IsWaitingKept}
use Rattle.ktm_waiting.proofs.offered.Keeping.{kept-form}
use Rattle.ktm_waiting.proofs.transactions.amounts_at.Goals as goal

kept : (c : goal.In-Some) → IsWaitingKept (tree_of c.args.files.now.tree) c.in-Some.t.now
kept c = c.requires c.in-Some.t.now (recorded_at-found c.args.table.now.transactions c.args.id c.in-Some.t.now (sym c.in-Some.ensures.found)).0

pub amounts_of-requires-clause-parts : goal.amounts_of-requires-clause-parts
amounts_of-requires-clause-parts c = (kept c).parts

pub amounts_of-requires-clause-form : goal.amounts_of-requires-clause-form
amounts_of-requires-clause-form c = kept-form c.in-Some.t.now (kept c).changes

pub amounts_of-requires-clause-apply : goal.amounts_of-requires-clause-apply
amounts_of-requires-clause-apply c = (kept c).apply

pub amounts_of-requires-clause-new : goal.amounts_of-requires-clause-new
amounts_of-requires-clause-new c = (kept c).new
