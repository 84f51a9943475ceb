use Rattle.std.proofs.Common.{◌≡◌, ◌∙◌, ◌<◌, ap, arith, length, sym}
use Rattle.ktm_links.specs.Blocks.{block_at, IsSpot}
use Rattle.ktm_links.proofs.Blocks.{block_is, spot_gap}
use Rattle.ktm_links.proofs.Found.{between, end_point, found_here, last_below}
use Rattle.ktm_links.proofs.search.search_in.Goals as goal

pub returns-then-block-blocks-clause-position : goal.returns-then-block-blocks-clause-position
returns-then-block-blocks-clause-position g c = λ _.
    end_point _ _ _ _ c.requires.ordered c.requires.used
    (last_below _ _ _ _ c.requires.used c.requires.ordered c.if-block-blocks.true c.requires.above) c.end_of.ensures.end

pub returns-in-Ok-clause-position : goal.returns-in-Ok-clause-position
returns-in-Ok-clause-position g c =
    let inside : c.args.block < length c.args.blocks.now = grind (arith, c.requires.bound, c.if-block-blocks.false) in
    let same : block_at c.args.blocks.now c.args.block ≡ c.as_slice.result.now = block_is _ _ _ inside c.index-blocks-block.is ∙ sym c.as_slice.ensures.keys in
    let there : IsSpot c.args.blocks.now (record { block = c.args.block; place = c.in-Ok.place }) =
    record { block = inside; place = omega (arith, c.in-Ok.ensures.bound, ap (λ l. length l) same) } in
    found_here _ _ _ _ _ _ there same c.in-Ok.ensures.position

pub returns-in-Err-clause-gap : goal.returns-in-Err-clause-gap
returns-in-Err-clause-gap g c =
    let inside : c.args.block < length c.args.blocks.now = grind (arith, c.requires.bound, c.if-block-blocks.false) in
    let same : c.as_slice.result.now ≡ block_at c.args.blocks.now c.args.block = c.as_slice.ensures.keys ∙ sym (block_is _ _ _ inside c.index-blocks-block.is) in
    spot_gap _ _
    (between _ _ _ _ c.in-Err.place c.requires.used c.requires.ordered inside (rw same at c.in-Err.ensures.bound) c.requires.above (rw same at c.in-Err.ensures.position)).0

pub returns-in-Err-clause-position : goal.returns-in-Err-clause-position
returns-in-Err-clause-position g c = λ _.
    let inside : c.args.block < length c.args.blocks.now = grind (arith, c.requires.bound, c.if-block-blocks.false) in
    let same : c.as_slice.result.now ≡ block_at c.args.blocks.now c.args.block = c.as_slice.ensures.keys ∙ sym (block_is _ _ _ inside c.index-blocks-block.is) in
    (between _ _ _ _ c.in-Err.place c.requires.used c.requires.ordered inside (rw same at c.in-Err.ensures.bound) c.requires.above (rw same at c.in-Err.ensures.position)).1
