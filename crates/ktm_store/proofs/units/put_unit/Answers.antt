use Rattle.std.proofs.Common.{◌∙◌, ap, Some, set, sym, List, ℕ}
use Rattle.ktm_store.specs.Change.{bytes_in, from_in, head_in, tail_in}
use Rattle.ktm_store.proofs.Filled.{filled-none, no-bytes}
use Rattle.ktm_store.proofs.units.put_unit.Goals as goal

pub returns-then-is_empty-3-clause-kept : goal.returns-then-is_empty-3-clause-kept
returns-then-is_empty-3-clause-kept c =
    let change = c.args.change.now in
    let unit = c.args.unit in
    c.blank.ensures.kept
    ∙ ap (λ (l : List ℕ). set c.args.frames.now.kept c.args.page (Some l))
    (filled-none (head_in change unit) (from_in change unit) (bytes_in change unit) (tail_in change unit)
    (sym c.head_in-head.ensures ∙ no-bytes c.head_in-head.result.now c.if-is_empty.ensures)
    (sym c.bytes_in-bytes.ensures.bytes ∙ no-bytes c.bytes_in-bytes.result.now c.if-is_empty-2.ensures)
    (sym c.tail_in-tail.ensures ∙ no-bytes c.tail_in-tail.result.now c.if-is_empty-3.ensures))
