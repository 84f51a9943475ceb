use Rattle.std.proofs.Common.{◌≡◌, ◌+◌, ap, arith}
use Rattle.std.specs.Prelude.{count_by}
use Rattle.std.proofs.lemmas.List.Sums.{count_by-le-length}
use Rattle.ktm_world.specs.Enlistments.{is_live_enlistment}
use Rattle.ktm_tm.specs.Table.{TableState}
use Rattle.ktm_tm.specs.Timeouts.{NoneDueBefore}
use Rattle.ktm_tm.proofs.Early.{early-push}
use Rattle.ktm_tm.proofs.LiveCounts.{live-begun}
use Rattle.ktm_tm.proofs.tm.Tm.bring_back.Goals as goal

-- those of the transaction are live with it
counted : (c : goal.After-live) → c.self.inside.live_enlistments + c.live.result ≡ count_by (is_live_enlistment c.bring_back.new.self.items) c.self.inside.enlistments.enlistments
counted c =
    let more = live-begun c.self.inside.transactions.items c.args.t c.self.inside.enlistments.enlistments c.bring_back.ensures.rising c.requires.live in
    let items = ap (λ (s : TableState). count_by (is_live_enlistment s.items) c.self.inside.enlistments.enlistments) c.bring_back.ensures.now in
    omega (arith, c.self.invariant.4, c.live.ensures.live, more, items)

pub overflow_add-self : goal.overflow_add-self
overflow_add-self c = omega (arith, counted c, count_by-le-length (is_live_enlistment c.bring_back.new.self.items) c.self.inside.enlistments.enlistments, c.live.ensures.enlisted.few)

early : (c : goal.After-self-2-1) → NoneDueBefore c.min-self-inside.result c.bring_back.new.self.items
early c = rw (c.min-self-inside.ensures, ap (λ (s : TableState). s.items) c.bring_back.ensures.now) (early-push _ _ c.self.inside.transactions.items c.args.t c.self.invariant.5 c.due_time.ensures)

pub invariant_of-self : goal.invariant_of-self
invariant_of-self c = rw (ap (λ (s : TableState). s.boot) c.bring_back.ensures.now) (c.self.invariant.0, c.self.invariant.1, c.self.invariant.2, c.self.invariant.3, counted c.before, early c)
