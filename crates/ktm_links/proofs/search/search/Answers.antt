use Rattle.std.proofs.Common.{◌∙◌, ap, length, sym, ◌-◌}
use Rattle.ktm_links.proofs.Blocks.{block_is}
use Rattle.ktm_links.proofs.Found.{found_last}
use Rattle.ktm_links.proofs.search.search.Goals as goal

pub returns-in-Ok-clause-position : goal.returns-in-Ok-clause-position
returns-in-Ok-clause-position g c =
    let same = block_is _ _ _ c.in-Ok.ensures.bound c.index-blocks-block.is in
    found_last _ _ _ _ _ c.requires.used c.in-Ok.ensures.bound (ap (λ n. n - 1) (c.len.ensures.keys ∙ ap (λ l. length l) (sym same))) c.in-Ok.ensures.position
