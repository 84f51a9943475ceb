use Rattle.ktm_names.proofs.PathLemmas.{one_pattern}
use Rattle.ktm_names.proofs.pattern.law_of_one_pattern.Goals as goal

pub returns : goal.returns
returns c x y text h k =
    let same = one_pattern x.directory y.directory x.last y.last text h k in
    λ i. record { directory = same.0 i; last = same.1 i }
