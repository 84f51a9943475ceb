use Rattle.std.proofs.Common.{◌≡◌, ◌+◌, ◌++◌, length}
use Rattle.std.specs.Vec.Iter.{into_iter_items}
use Rattle.txf_volume.specs.Making.{parts, AreMade, CanName}
use Rattle.txf_volume.proofs.commit.apply_names.Given as goal

-- those so far are made, and the others can be
abbrev pub invariant-loop-change : goal.invariant-loop-change
invariant-loop-change g l = record {
  made : AreMade (parts l.initial.tree l.initial.versions l.initial.units) (parts l.tree l.versions l.units) l.yielded;
  can : CanName (parts l.tree l.versions l.units) (into_iter_items l.change-iterator);
  counted : l.steps ≡ l.initial.steps + length l.yielded;
  rest : l.yielded ++ into_iter_items l.change-iterator ≡ l.fn.names.items;
}
