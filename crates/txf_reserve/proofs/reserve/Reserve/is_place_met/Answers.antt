use Rattle.std.proofs.Common.{[]}
use Rattle.txf_reserve.proofs.Folding.{short-first}
use Rattle.txf_reserve.proofs.reserve.Reserve.is_place_met.Goals as goal

pub is_place_held-requires : goal.is_place_held-requires
is_place_held-requires c = short-first c.in-Some.place.directory c.in-Some.place.name.now [] (rw c.in-Some.is at c.requires)
