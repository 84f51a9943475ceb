use Rattle.std.proofs.Common.{ap, ◌∙◌}
use Rattle.txf_tree.specs.TreeState.{tree_of}
use Rattle.txf_tree.specs.Children.{entries_in}
use Rattle.txf_tree.specs.Places.{entries_from}
use Rattle.txf_overlay.specs.OverlayState.{seen}
use Rattle.txf_overlay.proofs.Entering.{any-seen, begun}
use Rattle.txf_overlay.proofs.overlay.Overlay.has_entries.Goals as goal

pub step-requires-clause-reached : goal.step-requires-clause-reached
step-requires-clause-reached c = (
  entries_from c.args.directory c.number_bytes-from.result (entries_in (seen (tree_of c.args.tree.now) c.args.self.now) c.args.directory),
  begun _ _ _ _ _ _ c.next_seat-seat.ensures.only c.children-children.ensures c.next_seat-seat.ensures.some c.next_seat-seat.ensures.none,
)

pub returns : goal.returns
returns c =
    let tree = seen (tree_of c.args.tree.now) c.args.self.now in
    let all = entries_from c.args.directory c.number_bytes-from.result (entries_in tree c.args.directory) in
    let stepped =
    c.step.ensures.steps all
    (begun _ _ _ _ _ _ c.next_seat-seat.ensures.only c.children-children.ensures c.next_seat-seat.ensures.some c.next_seat-seat.ensures.none) in
    c.is_some.ensures
    ∙ any-seen tree c.args.directory c.step.result.entry all stepped.rest (ap (λ p. entries_from c.args.directory p (entries_in tree c.args.directory)) c.number_bytes-from.ensures)
    stepped.first stepped.none
