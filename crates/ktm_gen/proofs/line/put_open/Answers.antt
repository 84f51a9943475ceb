use Rattle.std.specs.Prelude.{codes, decimal}
use Rattle.ktm_gen.specs.Script.{chosen}
use Rattle.ktm_gen.proofs.Parts.{three_parts}
use Rattle.ktm_gen.proofs.line.put_open.Goals as goal

pub returns : goal.returns
returns c =
    three_parts c.args.line.now.items _ _ _ (codes "p1 CreateFileTransacted h2 \"\\f") (decimal (chosen c.args.word)) (codes "\" rw - OPEN_ALWAYS h1")
    c.in_ok-extend_from_slice.ensures.items (rw c.chosen.ensures at c.in_ok-put_number.ensures) c.in_ok-extend_from_slice-2.ensures.items
