use Rattle.std.proofs.Common.{◌≡◌, ◌<◌, ◌^◌, ◌-◌, ◌∙◌, true, ap, arith, is_some}
use Rattle.ktm_world.specs.Committed.{version_of}
use Rattle.ktm_world.specs.Tree.{bytes_of, bytes_or_none, cut_to, is_file}
use Rattle.txf_tree.specs.TreeState.{bytes_now, tree_of, versions_of}
use Rattle.txf_tree.proofs.Refilling.{rooms-set, tree-refilled}
use Rattle.txf_tree.proofs.tree.Tree.cut.Goals as goal

pub content_mut-requires : goal.content_mut-requires
content_mut-requires c =
    let few : version_of (versions_of c.self.inside.nodes) c.args.node < 2 ^ 64 - 2 = rw (← c.self.view_is) at c.requires.few in
    λ _. omega (arith, few)

pub unreachable-requires : goal.unreachable-requires
unreachable-requires c =
    let file : is_file (tree_of c.self.inside.nodes) c.args.node ≡ true = rw (← c.self.view_is) at c.requires.file in
    absurd (let none = ap is_some (c.in-None.ensures.bytes bytes_now) ∙ file in cc)

pub cut-requires : goal.cut-requires
cut-requires c =
    let was : c.in-Some.content.now.bytes ≡ bytes_of (tree_of c.self.inside.nodes) c.args.node = ap bytes_or_none (c.in-Some.ensures.bytes bytes_now) in
    rw was (rw (← c.self.view_is) at c.requires.shorter)

pub returns : goal.returns
returns c =
    let was = c.in-Some.content.now in
    let refilled = c.in-Some.ensures.refilled c.cut.new.self in
    rw (← c.self.view_is)
    (record {
      tree = tree-refilled _ _ c.args.node 1 was c.cut.new.self (λ bytes. cut_to bytes c.args.size) c.in-Some.ensures.value refilled c.cut.ensures.bytes;
      versions = refilled.versions;
      rooms = λ file _. rooms-set _ _ c.args.node was c.cut.new.self c.in-Some.ensures.value refilled.contents (omega (arith, c.cut.ensures.room)) file;
      spare = omega arith;
    })
