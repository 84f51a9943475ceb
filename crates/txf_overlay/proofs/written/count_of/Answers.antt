use Rattle.std.proofs.Common.{◌<◌, ◌^◌, ℕ, arith}
use Rattle.std.proofs.lemmas.List.Elements.{All-from_get_or}
use Rattle.txf_overlay.proofs.written.count_of.Goals as goal

pub returns-clause-fit : goal.returns-clause-fit
returns-clause-fit c = All-from_get_or (λ (page : ℕ). page < 2 ^ 32) c.args.pages.now 0 (λ k low. omega (arith, c.type_inv.pages k))
