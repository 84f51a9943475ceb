-- Writes of bytes come to what puts of units come to.
use Rattle.ktm_alike.specs.Laws.{AlikeLaw}
use Rattle.ktm_replaced.specs.Laws.{ReplacedLaw}
use Rattle.ktm_units.specs.Units.{UnitsLaw}
use Rattle.ktm_units.proofs.Same.{commands-same}
use Rattle.ktm_units.proofs.Seen.{seen_law}
use Rattle.ktm_units.proofs.Writing.{writes-same}

pub units_law : AlikeLaw → ReplacedLaw → UnitsLaw
units_law alike replaced = (seen_law, λ f blank. (commands-same alike f blank, λ x process file o tree named. writes-same replaced f blank x tree alike process file o named))
