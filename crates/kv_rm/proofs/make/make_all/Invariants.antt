use Rattle.std.proofs.Common.{◌≡◌, ◌+◌, ◌≤◌, length}
use Rattle.ktm_world.specs.Keys.{stored_all}
use Rattle.kv_rm.proofs.make.make_all.Given as goal

abbrev pub invariant-loop-setting : goal.invariant-loop-setting
invariant-loop-setting g l = record {
  made : l.store.items ≡ stored_all l.initial.store.items l.yielded;
  in_place : l.store.spare + length l.store.items ≡ l.initial.store.spare + length l.initial.store.items;
  room : l.initial.store.spare ≤ l.store.spare + length l.yielded;
  counted : l.steps ≡ l.initial.steps + length l.yielded;
}
