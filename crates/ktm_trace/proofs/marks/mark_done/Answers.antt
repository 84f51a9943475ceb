use Rattle.std.proofs.Common.{◌≡◌, ◌||◌, ◌∙◌, ◌++◌, false, drop, get_or, map, set, take, ap}
use Rattle.ktm_base.specs.declared.id.Id.{Id}
use Rattle.ktm_world.specs.declared.event.DonePart.{DonePart}
use Rattle.ktm_trace.specs.declared.marks.Mark.{Mark}
use Rattle.ktm_trace.specs.Joined.{is_mark_by}
use Rattle.ktm_trace.proofs.Changed.{changed-more, changed-not-yet}
use Rattle.ktm_trace.proofs.Joining.{done_of}
use Rattle.ktm_trace.proofs.marks.mark_done.Goals as goal

pub loop-m-preserved : goal.loop-m-preserved
loop-m-preserved c =
    let none : Id = record { boot = 0; number = 0 } in
    let d : Mark = record { transaction = none; is_done = false; who = DonePart.Enlistment none } in
    let ms = c.args.marks.now in
    let i = c.loop-m.m-index in
    let f : Mark → Mark = done_of c.args.transaction c.args.done in
    let old = get_or ms i d in
    let was = ap (λ l. get_or l i d) c.loop-m.invariant ∙ changed-not-yet f ms i d c.loop-m-test.true in
    let done = c.is_done_then-m.ensures ∙ ap (λ (m : Mark). m.is_done || is_mark_by c.args.transaction c.args.done m) was in
    let now : record (get_or c.loop-m.marks i d) { is_done = c.is_done_then-m.result } ≡ f old =
    ap (λ b. record (get_or c.loop-m.marks i d) { is_done = b }) done ∙ ap (λ (m : Mark). record m { is_done = old.is_done || is_mark_by c.args.transaction c.args.done old }) was in
    ap (λ l. set l i (record (get_or c.loop-m.marks i d) { is_done = c.is_done_then-m.result })) c.loop-m.invariant
    ∙ ap (set (map f (take i ms) ++ drop i ms) i) now ∙ changed-more f ms i d c.loop-m-test.true
