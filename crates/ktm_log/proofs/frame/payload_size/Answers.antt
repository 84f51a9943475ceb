use Rattle.std.proofs.Common.{ℕ, List, take, sym, ◌∙◌, ap}
use Rattle.std.specs.Int.{from_le_bytes, w32}
use Rattle.std.proofs.lemmas.List.{drop-drop}
use Rattle.ktm_log.proofs.frame.payload_size.Goals as goal

pub returns : goal.returns
returns c = c.u32_in.ensures ∙ ap (λ (l : List ℕ). from_le_bytes w32 (take 4 l)) (sym (drop-drop 1 c.args.at c.args.bytes.now))
