use Rattle.ktm_codec.proofs.GuidLemmas.{guid_is, guid_again}
use Rattle.ktm_codec.proofs.guid.law_of_guids.Goals as goal

pub returns : goal.returns
returns c = record { found = guid_is; every = guid_again }
