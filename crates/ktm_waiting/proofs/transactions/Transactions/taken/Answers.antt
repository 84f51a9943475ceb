use Rattle.std.proofs.Common.{◌∙◌, sym, ap, subst}
use Rattle.ktm_waiting.specs.Totals.{AllApply, TransactionsState}
use Rattle.ktm_waiting.specs.Waiting.{total}
use Rattle.ktm_waiting.proofs.Together.{together-total}
use Rattle.ktm_waiting.proofs.transactions.Transactions.taken.Goals as goal

pub returns : goal.returns
returns c tree apply =
    together-total tree c.self.inside.taken c.self.inside.table.transactions c.self.invariant (subst (λ (s : TransactionsState). AllApply tree s.transactions) (sym c.self.view_is) apply)
    ∙ ap (λ (s : TransactionsState). total tree s.transactions) c.self.view_is
