use Rattle.std.proofs.Common.{◌≡◌, drop}
use Rattle.ktm_world.specs.Lawful.{set_both}
use Rattle.ktm_waiting.proofs.beside.set_both.Given as goal

abbrev pub invariant-loop-setting : goal.invariant-loop-setting
invariant-loop-setting l = set_both (drop l.setting-index l.a) l.b ≡ set_both l.a l.b
