use Rattle.std.proofs.Common.{◌≡◌, ◌+◌, ◌-◌, suc, false, ◌==◌, sym, ap, ◌∙◌, arith}
use Rattle.std.proofs.lemmas.Bool.{ne_eqb}
use Rattle.txf_tree.specs.TreeState.{tree_of}
use Rattle.txf_overlay.specs.OverlayState.{seen}
use Rattle.txf_overlay.proofs.Upward.{is_up, is_up-end, is_up-next, seen-length, up-far}
use Rattle.txf_overlay.proofs.overlay.Overlay.is_at_or_below.Goals as goal

pub loop-init : goal.loop-init
loop-init c =
    let tree = seen (tree_of c.args.tree.now) c.args.self.now in
    let few = seen-length c.args.self.now.names (tree_of c.args.tree.now) in
    up-far tree c.args.number c.args.other (c.len.result + c.changes_len.result - 0) c.requires.stands.after c.requires.there
    (omega (arith, few, c.len.ensures, c.changes_len.ensures))

pub returns-then-above-at : goal.returns-then-above-at
returns-then-above-at c =
    let tree = seen (tree_of c.args.tree.now) c.args.self.now in
    let apart : (c.loop.at == c.args.other) ≡ false = ne_eqb c.loop.at c.args.other c.if-at-other.false in
    sym
    (c.loop.invariant
    ∙ is_up-end tree c.loop.at c.args.other (c.len.result + c.changes_len.result - c.loop.counter + 1)
    (sym c.parent_or_root-above.ensures ∙ c.if-above-at.true) apart)

pub loop-preserved : goal.loop-preserved
loop-preserved c =
    let tree = seen (tree_of c.args.tree.now) c.args.self.now in
    let left = c.len.result + c.changes_len.result - c.loop.counter in
    let apart : (c.loop.at == c.args.other) ≡ false = ne_eqb c.loop.at c.args.other c.if-at-other.false in
    let more : left + 1 ≡ suc left = omega arith in
    let next : left ≡ c.len.result + c.changes_len.result - (c.loop.counter + 1) + 1 = omega arith in
    c.loop.invariant ∙ is_up-next tree c.loop.at c.args.other (left + 1) left more apart
    ∙ ap (λ n. is_up tree n c.args.other left) (sym c.parent_or_root-above.ensures)
    ∙ ap (is_up tree c.parent_or_root-above.result c.args.other) next
