use Rattle.std.proofs.Common.{◌≡◌, [], take, drop}
use Rattle.ktm_codec.specs.Quoted.{text_from}
use Rattle.ktm_codec.proofs.quoted.to_quotation_mark.Given as goal

abbrev pub invariant-loop-index : goal.invariant-loop-index
invariant-loop-index l = text_from (take l.index l.text) (drop l.index l.text) ≡ text_from [] l.text
