use Rattle.std.proofs.Common.{arith}
use Rattle.wattorju.proofs.Bytes.{bytes_fit}
use Rattle.wattorju.proofs.law.law_of_slices.Goals as goal

pub returns : goal.returns
returns c = bytes_fit c.args.bytes.now (λ i. omega (arith, c.type_inv.bytes i))
