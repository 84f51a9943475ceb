use Rattle.std.proofs.Common.{◌≡◌, ◌+◌, ◌-◌, length, sym, subst, refl, arith}
use Rattle.std.proofs.lemmas.List.{length-map}
use Rattle.ktm_snapshot.specs.Shown.{node_of, node_read}
use Rattle.txf_saved.proofs.Ways.{Rest, climbs, no_root, rest-begins, rest-missing, rest-next, rest-over}
use Rattle.txf_saved.proofs.making.climb.Goals as goal
use Rattle.txf_saved.specs.Making.{nodes_of}
use Rattle.txf_tree.specs.TreeState.{tree_of}

pub up-init : goal.up-init
up-init c = record {
  way = rw c.requires.none refl;
  left = length c.args.nodes.now + 1;
  counted = omega arith;
  rest = subst (λ n. Rest (nodes_of c.args.nodes.now) c.args.number (n + 1)) (length-map c.args.nodes.now node_read) (rest-begins (nodes_of c.args.nodes.now) c.args.number c.requires.known.0 c.requires.known.1);
}

pub returns-then-is_there-clause-leads : goal.returns-then-is_there-clause-leads
returns-then-is_there-clause-leads c = λ is. record { top = c.up.top; there = cc; up = c.up.invariant.way }

pub returns-in_default-clause-astray : goal.returns-in_default-clause-astray
returns-in_default-clause-astray c = λ is.
    rest-missing (nodes_of c.args.nodes.now) c.up.top c.up.invariant.left (no_root (tree_of c.args.files.now.tree) c.up.top (cc)) (sym c.in_default.ensures) c.up.invariant.rest

pub up-preserved : goal.up-preserved
up-preserved c =
    let nodes = nodes_of c.args.nodes.now in
    let tree = tree_of c.args.files.now.tree in
    let left = c.up.invariant.left in
    record {
      way = climbs nodes tree c.args.number c.up.top c.up.way.items c.push.new.self.items c.in-Some.node c.in_ok-push.ensures.items (cc) (sym c.in-Some.ensures) c.up.invariant.way;
      left = left - 1;
      counted = omega (arith, c.up.invariant.counted);
      rest = rest-next nodes c.up.top left (left - 1) (node_of c.in-Some.node) (omega (arith, c.up.invariant.counted)) (no_root tree c.up.top (cc)) (sym c.in-Some.ensures) c.up.invariant.rest;
    }

pub returns-clause-astray : goal.returns-clause-astray
returns-clause-astray c = λ is.
    let over : c.up.invariant.left ≡ 0 = omega (arith, c.up.invariant.counted) in
    rest-over (nodes_of c.args.nodes.now) c.up.top (subst (λ n. Rest (nodes_of c.args.nodes.now) c.up.top n) over c.up.invariant.rest)
