use Rattle.std.proofs.Common.{◌∙◌, sym, ap}
use Rattle.std.specs.List.{insert}
use Rattle.ktm_trace.specs.Joined.{HeadsState, head_id}
use Rattle.ktm_trace.specs.Placed.{placed}
use Rattle.ktm_trace.proofs.Placed.{placed-absent}
use Rattle.ktm_trace.proofs.heads.Heads.put.Goals as goal

pub returns-clause-heads : goal.returns-clause-heads
returns-clause-heads c =
    let hs = c.self.inside.items.items in
    let place = rw c.deref.ensures.value at c.place_of-place.ensures.place in
    (rw c.unwrap.ensures at c.insert.ensures.items) ∙ ap (λ n. insert hs n c.args.head) place
    ∙ sym (placed-absent head_id hs c.args.head (rw (← c.self.view_is) at c.requires.new))
    ∙ ap (λ (s : HeadsState). placed head_id s.heads c.args.head) c.self.view_is
