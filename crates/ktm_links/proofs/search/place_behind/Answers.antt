use Rattle.std.proofs.Common.{◌≡◌, ◌∙◌, ◌<◌, ◌+◌, Some, length, refl, sym}
use Rattle.std.specs.List.{slice_get}
use Rattle.std.proofs.lemmas.Option.{slice_get_read}
use Rattle.ktm_links.specs.Blocks.{block_at}
use Rattle.ktm_links.proofs.Blocks.{block_is, spot_gap}
use Rattle.ktm_links.proofs.Found.{behind}
use Rattle.ktm_links.proofs.search.place_behind.Goals as goal

pub returns-then-goes_between-clause-gap : goal.returns-then-goes_between-clause-gap
returns-then-goes_between-clause-gap g c =
    let inside : c.args.spot.block < length c.args.blocks.now = c.in-Some.ensures.lookup.3.0 in
    let same : block_at c.args.blocks.now c.args.spot.block ≡ c.as_slice-keys.result.now = block_is _ _ _ inside c.in-Some.ensures.lookup.1 ∙ sym c.as_slice-keys.ensures.keys in
    let there : c.args.spot.place + 1 < length (block_at c.args.blocks.now c.args.spot.block) = rw same c.in-Some-get-2.ensures.lookup.3.0 in
    spot_gap _ _ (record { block = inside; place = there })

pub returns-then-goes_between-clause-position : goal.returns-then-goes_between-clause-position
returns-then-goes_between-clause-position g c = λ _.
    let inside : c.args.spot.block < length c.args.blocks.now = c.in-Some.ensures.lookup.3.0 in
    let same : block_at c.args.blocks.now c.args.spot.block ≡ c.as_slice-keys.result.now = block_is _ _ _ inside c.in-Some.ensures.lookup.1 ∙ sym c.as_slice-keys.ensures.keys in
    let here : slice_get (block_at c.args.blocks.now c.args.spot.block) c.args.spot.place ≡ Some c.in-Some-get.before.now =
    rw same (slice_get_read _ _ _ _ refl c.in-Some-get.ensures.lookup.3.0 c.in-Some-get.ensures.lookup.1) in
    let there : slice_get (block_at c.args.blocks.now c.args.spot.block) (c.args.spot.place + 1) ≡ Some c.in-Some-get-2.after.now =
    rw same (slice_get_read _ _ _ _ refl c.in-Some-get-2.ensures.lookup.3.0 c.in-Some-get-2.ensures.lookup.1) in
    behind _ _ _ _ _ _ _ c.requires inside here there (c.if-goes_between.ensures.before refl) (c.if-goes_between.ensures.after refl)
