use Rattle.std.proofs.Common.{◌≡◌, ◌||◌, ◌∙◌, ◌++◌, drop, get_or, map, set, take, ap}
use Rattle.ktm_world.specs.declared.recorded.RecordedPart.{RecordedPart}
use Rattle.ktm_world.specs.Durable.{is_part_of}
use Rattle.ktm_waiting.proofs.OneOfKind.{changed-more, changed-not-yet}
use Rattle.ktm_waiting.proofs.parts.mark.Goals as goal

pub loop-p-preserved : goal.loop-p-preserved
loop-p-preserved c =
    let ps = c.args.parts.now in
    let i = c.loop-p.p-index in
    let f : RecordedPart → RecordedPart = λ p. record p { is_done = p.is_done || is_part_of c.args.done p.part } in
    let old = get_or ps i c.p-item.result in
    let was = ap (λ l. get_or l i c.p-item.result) c.loop-p.invariant ∙ changed-not-yet f ps i c.p-item.result c.loop-p-test.true in
    let done = c.is_done_then-p.ensures ∙ ap (λ (p : RecordedPart). p.is_done || is_part_of c.args.done p.part) was in
    let now : record { is_done = c.is_done_then-p.result; part = (get_or c.loop-p.parts i c.p-item.result).part } ≡ f old =
    ap (λ b. record (get_or c.loop-p.parts i c.p-item.result) { is_done = b }) done ∙ ap (λ (p : RecordedPart). record p { is_done = old.is_done || is_part_of c.args.done old.part }) was in
    ap (λ l. set l i (record { is_done = c.is_done_then-p.result; part = (get_or c.loop-p.parts i c.p-item.result).part })) c.loop-p.invariant
    ∙ ap (set (map f (take i ps) ++ drop i ps) i) now ∙ changed-more f ps i c.p-item.result c.loop-p-test.true
