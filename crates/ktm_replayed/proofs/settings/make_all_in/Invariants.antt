use Rattle.ktm_replayed.proofs.InPlace.{MadeSoFar}
use Rattle.ktm_replayed.proofs.settings.make_all_in.Given as goal

abbrev pub invariant-settings : goal.invariant-settings
invariant-settings l = MadeSoFar l.bytes l.start l.end l.counter l.last l.initial.keys.items l.keys.items
