use Rattle.std.proofs.Common.{◌<◌, ap, arith, filter, sym, ◌∙◌, subst}
use Rattle.std.proofs.lemmas.List.{drop_all}
use Rattle.std.proofs.lemmas.List.Sums.{length-filter}
use Rattle.ktm_world.specs.TransactionCalls.{is_due, later}
use Rattle.ktm_world.specs.Transactions.{is_live}
use Rattle.ktm_tm.specs.TmState.{TmState}
use Rattle.ktm_tm.specs.Timeouts.{NoneDueBefore}
use Rattle.ktm_tm.proofs.Early.{none-due}
use Rattle.ktm_tm.proofs.tm.Tm.due_from.Goals as goal

pub returns-then-saturating_add-self : goal.returns-then-saturating_add-self
returns-then-saturating_add-self c =
    let items = c.args.self.now.now.items in
    let clock = later c.args.self.now.now.clock c.args.ms in
    let none : NoneDueBefore c.self.inside.earliest items = subst (λ (s : TmState). NoneDueBefore c.self.inside.earliest s.now.items) c.self.view_is c.self.invariant.5 in
    let before : clock < c.self.inside.earliest = omega (arith, c.if-saturating_add-self.true, c.saturating_add.ensures, ap (λ (s : TmState). s.now.clock) c.self.view_is) in
    ap (filter (is_due clock)) (drop_all c.live_count.result (filter is_live items) (omega (arith, length-filter is_live items, c.live_count.ensures))) ∙ sym (none-due clock items (none clock before))
