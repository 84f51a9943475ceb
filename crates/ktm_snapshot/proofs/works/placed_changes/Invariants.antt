use Rattle.std.proofs.Common.{◌≡◌, ◌++◌, map}
use Rattle.std.specs.List.{list_all}
use Rattle.std.specs.Vec.Iter.{into_iter_items}
use Rattle.ktm_snapshot.proofs.works.placed_changes.Given as goal
use Rattle.ktm_snapshot.specs.Works.{is_of_work, placed_change}

abbrev pub invariant-loop-change : goal.invariant-loop-change
invariant-loop-change l = record {
  all : list_all is_of_work (into_iter_items l.change-iterator) ≡ list_all is_of_work l.fn.recorded;
  placed : l.changes.items ++ map placed_change (into_iter_items l.change-iterator) ≡ map placed_change l.fn.recorded;
}
