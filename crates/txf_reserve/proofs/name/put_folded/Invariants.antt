use Rattle.std.proofs.Common.{◌≡◌, ◌+◌, ◌++◌, take}
use Rattle.ktm_base.specs.Names.{folded}
use Rattle.txf_reserve.proofs.name.put_folded.Given as goal

-- the bytes so far are folded
abbrev pub invariant-loop-index : goal.invariant-loop-index
invariant-loop-index l = take (l.at + l.index) l.room ≡ take l.at l.initial.room ++ folded (take l.index l.name)
