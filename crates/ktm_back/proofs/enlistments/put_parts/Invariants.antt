use Rattle.std.proofs.Common.{◌≡◌, drop}
use Rattle.std.specs.List.{flat_map}
use Rattle.ktm_world.specs.World.{enlistment_back}
use Rattle.ktm_back.specs.Coming.{with_all}
use Rattle.ktm_back.proofs.enlistments.put_parts.Given as goal

-- those of the parts from here on are at their places
abbrev pub invariant-loop-i : goal.invariant-loop-i
invariant-loop-i l = l.enlistments.items ≡ with_all l.initial.enlistments.items (flat_map (enlistment_back l.transaction) (drop l.i l.parts))
