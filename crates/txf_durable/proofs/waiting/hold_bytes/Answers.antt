use Rattle.std.proofs.Common.{◌≡◌, ◌+◌, ◌∷◌, [], ◌++◌, false, map, sym, ◌∙◌, ap, take, arith, refl}
use Rattle.std.proofs.lemmas.List.{map-append, take_more}
use Rattle.ktm_world.specs.Changes.{node_of}
use Rattle.ktm_world.specs.Holds.{directory_dropped, is_move_of_directory, places_changed}
use Rattle.txf_durable.proofs.HeldMore.{holds-same, holds-then}
use Rattle.txf_durable.proofs.waiting.hold_bytes.Goals as goal

pub loop-change-preserved : goal.loop-change-preserved
loop-change-preserved c =
    let bytes = c.args.bytes.now in
    let i = c.loop-change.change-index in
    let change = c.change-item.result in
    let was = c.loop-change.invariant in
    let held = c.held_by.ensures in
    let act = c.writing.ensures.act in
    let took : take (i + 1) bytes ≡ take i bytes ++ change ∷ [] = take_more bytes i change c.loop-change-test.true ∙ ap (λ x. take i bytes ++ x ∷ []) (sym c.change-item.is) in
    let one =
    holds-same _ (node_of change ∷ []) _ [] _ [] _ false c.args.transaction c.loop-change.reserve c.hold.new.self
    (held.node ∙ ap (λ n. n ∷ []) c.node_of-file.ensures) (held.places ∙ ap places_changed act) (held.dropped ∙ ap directory_dropped act) (held.moves ∙ ap is_move_of_directory act) c.hold.ensures.holds in
    record {
      spare = omega (arith, was.spare, c.hold.ensures.spare);
      holds =
          holds-same _ (map node_of (take (i + 1) bytes)) [] [] [] [] false false c.args.transaction c.args.reserve.now c.hold.new.self
          (sym (map-append node_of (take i bytes) (change ∷ [])) ∙ ap (map node_of) (sym took)) refl refl refl
          (holds-then (map node_of (take i bytes)) (node_of change ∷ []) [] [] [] [] false false c.args.transaction c.args.reserve.now c.loop-change.reserve c.hold.new.self was.holds one);
    }
