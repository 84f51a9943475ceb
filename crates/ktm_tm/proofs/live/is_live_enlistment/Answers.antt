use Rattle.std.proofs.Common.{◌&&◌, ap, sym, ◌∙◌}
use Rattle.std.specs.Prelude.{find}
use Rattle.ktm_world.specs.Enlistments.{Enlistment}
use Rattle.ktm_world.specs.Transactions.{is_live, same_id}
use Rattle.ktm_tm.proofs.LiveCounts.{live-found, live-missing}
use Rattle.ktm_tm.proofs.live.is_live_enlistment.Goals as goal

pub returns-in-Some : goal.returns-in-Some
returns-in-Some c =
    let found = ap (λ (e : Enlistment). find (λ u. is_live u && same_id u.id e.transaction) c.args.transactions.now.items) (sym c.e.view_is) ∙ sym c.find_live.ensures.first ∙ c.in-Some.is in
    c.is_live.ensures ∙ live-found c.args.transactions.now.items c.args.e.now c.in-Some.t found

pub returns-in-None : goal.returns-in-None
returns-in-None c =
    let missing = ap (λ (e : Enlistment). find (λ u. is_live u && same_id u.id e.transaction) c.args.transactions.now.items) (sym c.e.view_is) ∙ sym c.find_live.ensures.first ∙ c.in-None.is in
    sym (live-missing c.args.transactions.now.items c.args.e.now missing)
