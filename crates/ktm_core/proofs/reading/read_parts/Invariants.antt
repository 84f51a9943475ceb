use Rattle.std.proofs.Common.{◌≡◌, ◌⊎◌, ℕ, ◌+◌, ◌-◌, ◌/◌, ◌%◌, ◌≤◌, false, List, ◌++◌, drop, take, vec_len}
use Rattle.std.specs.Prelude.{min, vec_capacity}
use Rattle.ktm_base.specs.Disk.{OnlyReads}
use Rattle.ktm_store.specs.Pool.{Shows}
use Rattle.ktm_store.specs.Store.{bytes_at}
use Rattle.ktm_core.specs.Reading.{Agrees, IsLonger, OnlyLets}
use Rattle.ktm_core.proofs.reading.read_parts.Given as goal

abbrev pub invariant-loop-at : goal.invariant-loop-at
invariant-loop-at g l = record {
  begins : l.from ≤ l.at;
  ends : l.at ≤ l.end;
  aligned : (l.at ≡ l.from) ⊎ ((l.at % 4096 ≡ 0) ⊎ (l.at ≡ l.end));
  room : vec_len l.onto + (l.end - l.at) ≤ vec_capacity l.onto;
  rows : (row : List ℕ) → Shows l.initial.store row → Agrees l.journal.units l.initial.store row (g.D.Disk.told l.initial.disk)
      → Shows l.store row × (l.onto.items ≡ l.initial.onto.items ++ take (l.at - l.from) (drop l.from (bytes_at row l.content)));
  long : IsLonger (l.at - l.from) l.initial.onto.items l.onto.items;
  lets : OnlyLets l.initial.store l.store;
  reads : OnlyReads (min (l.at - l.from) ((l.at + 4095) / 4096 - l.from / 4096)) (g.D.Disk.told l.initial.disk) (g.D.Disk.told l.disk) (g.D.Disk.status l.initial.disk) (g.D.Disk.status l.disk) false;
}

abbrev pub decreases-loop-at : goal.decreases-loop-at
decreases-loop-at g l = l.end - l.at
