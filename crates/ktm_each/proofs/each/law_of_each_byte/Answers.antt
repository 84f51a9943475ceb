use Rattle.ktm_each.proofs.EachLaws.{each_law}
use Rattle.ktm_each.proofs.each.law_of_each_byte.Goals as goal

pub returns : goal.returns
returns g c = each_law g.P.OfBytes.holds
