use Rattle.ktm_units.proofs.UnitsLaws.{units_law}
use Rattle.ktm_units.proofs.units.law_of_units.Goals as goal

pub returns : goal.returns
returns c = units_law c.law_of_alike_presents.ensures c.law_of_replaced_files.ensures
