use Rattle.std.proofs.Common.{ℕ, ◌++◌, List, ap, ◌∙◌}
use Rattle.std.proofs.lemmas.List.{take-replicate}
use Rattle.ktm_codec.specs.Hex.{hex_of}
use Rattle.ktm_gen.proofs.line.put_written.Goals as goal

pub returns : goal.returns
returns c = c.in_ok-put_hex.ensures.ok ∙ ap (λ (l : List ℕ). c.args.line.now.items ++ hex_of l) (take-replicate c.args.size 4096 c.args.value c.requires)
