use Rattle.std.proofs.Common.{◌≡◌, ◌+◌, ◌++◌, take, drop}
use Rattle.ktm_base.specs.Names.{folded}
use Rattle.txf_nodes.proofs.name.write_folded.Given as goal

abbrev pub invariant-loop-index : goal.invariant-loop-index
invariant-loop-index l = record {
  front : take (l.first + l.index) l.room ≡ take l.first l.initial.room ++ folded (take l.index l.name);
  rest : drop (l.first + l.index) l.room ≡ drop (l.first + l.index) l.initial.room;
}
