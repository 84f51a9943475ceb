use Rattle.std.proofs.Common.{sym}
use Rattle.ktm_manager.proofs.offered.Places.{found_at, none_found}
use Rattle.ktm_tm.proofs.Numbers.{id_of}
use Rattle.ktm_tm.proofs.place.find_in.Goals as goal

pub returns-in-Some : goal.returns-in-Some
returns-in-Some c = sym (found_at id_of c.args.ts.now c.args.id c.in-Some.place _ c.in-Some.ensures.place)

pub returns-in-None : goal.returns-in-None
returns-in-None c = sym (none_found id_of c.args.ts.now c.args.id c.in-None.ensures.place)
