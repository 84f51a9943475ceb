use Rattle.std.proofs.Common.{◌≡◌, drop, take}
use Rattle.ktm_world.specs.Tree.{root}
use Rattle.txf_calls.specs.Leads.{way}
use Rattle.txf_calls.proofs.along.way.Given as goal

abbrev pub invariant-loop-i : goal.invariant-loop-i
invariant-loop-i g l = record {
  rest : way (g.V.View.tree l.view) l.directory (drop l.i (take l.names l.path)) ≡ way (g.V.View.tree l.fn.view) root (take l.fn.names l.fn.path);
}
