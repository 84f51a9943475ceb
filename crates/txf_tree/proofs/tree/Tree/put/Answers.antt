use Rattle.std.proofs.Common.{◌≡◌, ◌<◌, ◌^◌, ◌-◌, ◌∙◌, true, ap, arith, is_some}
use Rattle.std.proofs.lemmas.Bool.{and_parts}
use Rattle.ktm_world.specs.Changes.{bytes_in, is_whole}
use Rattle.ktm_world.specs.Committed.{version_of}
use Rattle.ktm_world.specs.Tree.{bytes_of, bytes_or_none, is_file, put_over}
use Rattle.txf_tree.specs.TreeState.{bytes_now, tree_of, versions_of}
use Rattle.txf_tree.proofs.Refilling.{room-there, rooms-set, tree-refilled}
use Rattle.txf_tree.proofs.tree.Tree.put.Goals as goal

pub content_mut-requires : goal.content_mut-requires
content_mut-requires c =
    let few : version_of (versions_of c.self.inside.nodes) c.args.node < 2 ^ 64 - 2 = rw (← c.self.view_is) at c.requires.few in
    λ _. omega (arith, few)

pub unreachable-requires : goal.unreachable-requires
unreachable-requires c =
    let file : is_file (tree_of c.self.inside.nodes) c.args.node ≡ true =
    (and_parts _ (is_whole c.args.contents.now) (rw (← c.self.view_is) at c.requires.applies)).0 in
    absurd (let none = ap is_some (c.in-None.ensures.bytes bytes_now) ∙ file in cc)

pub put-requires-clause-can : goal.put-requires-clause-can
put-requires-clause-can c =
    let was : c.in-Some.content.now.bytes ≡ bytes_of (tree_of c.self.inside.nodes) c.args.node = ap bytes_or_none (c.in-Some.ensures.bytes bytes_now) in
    rw (was, c.bytes_in.ensures) (rw (← c.self.view_is) at c.requires.units)

pub put-requires-clause-room : goal.put-requires-clause-room
put-requires-clause-room c =
    let file : is_file (tree_of c.self.inside.nodes) c.args.node ≡ true =
    (and_parts _ (is_whole c.args.contents.now) (rw (← c.self.view_is) at c.requires.applies)).0 in
    rw c.bytes_in.ensures (room-there c.self.inside.nodes c.args.node _ _ c.in-Some.ensures.value file (rw (← c.self.view_is) at c.requires.fits))

pub returns : goal.returns
returns c =
    let was = c.in-Some.content.now in
    let refilled = c.in-Some.ensures.refilled c.put.new.self in
    rw (← c.self.view_is)
    (record {
      tree =
          tree-refilled _ _ c.args.node 1 was c.put.new.self (λ bytes. put_over bytes c.args.offset (bytes_in c.args.contents.now)) c.in-Some.ensures.value refilled
          (c.put.ensures.bytes ∙ ap (put_over was.bytes c.args.offset) c.bytes_in.ensures);
      versions = refilled.versions;
      rooms = λ file _. rooms-set _ _ c.args.node was c.put.new.self c.in-Some.ensures.value refilled.contents c.put.ensures.room file;
      spare = omega arith;
    })
