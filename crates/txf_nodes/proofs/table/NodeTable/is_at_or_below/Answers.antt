use Rattle.std.proofs.Common.{◌≡◌, ◌+◌, ◌-◌, suc, false, eqb, length, sym, ap, ◌∙◌, arith}
use Rattle.std.proofs.lemmas.Bool.{eq-eqb, ne_eqb}
use Rattle.txf_nodes.specs.NodesState.{tree_by}
use Rattle.txf_nodes.proofs.Upward.{is_up, is_up-end, is_up-here, is_up-next}
use Rattle.txf_nodes.proofs.table.NodeTable.is_at_or_below.Goals as goal

pub loop-init : goal.loop-init
loop-init g c =
    record {
      end = c.len-end.ensures.nodes;
      rest = λ bytes.
          let same : length (tree_by bytes c.args.self.now) + 1 ≡ c.len-end.result - 0 + 1 = let is = c.len-end.ensures.tree bytes in omega arith in
          ap (is_up (tree_by bytes c.args.self.now) c.args.number c.args.other) same;
    }

pub returns-then-at-other : goal.returns-then-at-other
returns-then-at-other g c = λ bytes.
    let tree = tree_by bytes c.args.self.now in
    let left = c.len-end.result - c.loop.counter in
    let more : left + 1 ≡ suc left = omega arith in
    sym (c.loop.invariant.rest bytes ∙ is_up-here tree c.loop.at c.args.other (left + 1) left more (eq-eqb c.loop.at c.args.other c.if-at-other.true))

pub returns-then-above-at : goal.returns-then-above-at
returns-then-above-at g c = λ bytes.
    let tree = tree_by bytes c.args.self.now in
    let apart : eqb c.loop.at c.args.other ≡ false = ne_eqb c.loop.at c.args.other c.if-at-other.false in
    sym
    (c.loop.invariant.rest bytes
    ∙ is_up-end tree c.loop.at c.args.other (c.len-end.result - c.loop.counter + 1) (sym (c.parent_of-above.ensures bytes) ∙ c.if-above-at.true) apart)

pub loop-preserved : goal.loop-preserved
loop-preserved g c =
    let left = c.len-end.result - c.loop.counter in
    let apart : eqb c.loop.at c.args.other ≡ false = ne_eqb c.loop.at c.args.other c.if-at-other.false in
    let more : left + 1 ≡ suc left = omega arith in
    let next : left ≡ c.len-end.result - (c.loop.counter + 1) + 1 = omega arith in
    record {
      end = c.loop.invariant.end;
      rest = λ bytes.
          let tree = tree_by bytes c.args.self.now in
          c.loop.invariant.rest bytes ∙ is_up-next tree c.loop.at c.args.other (left + 1) left more apart
          ∙ ap (λ n. is_up tree n c.args.other left) (sym (c.parent_of-above.ensures bytes))
          ∙ ap (is_up tree c.parent_of-above.result c.args.other) next;
    }
