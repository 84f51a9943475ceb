use Rattle.ktm_owned.proofs.offered.KeysKept.{own_keys_law}
use Rattle.ktm_owned.proofs.owned.law_of_own_keys.Goals as goal

pub returns : goal.returns
returns c = own_keys_law
