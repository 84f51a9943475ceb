use Rattle.std.proofs.Common.{◌≡◌, ℕ, ◌+◌, ◌≤◌, Bool, true, List, All, length, sum_by}
use Rattle.std.specs.List.{flat_map}
use Rattle.ktm_event.specs.Work.{changes_of_file}
use Rattle.ktm_event.proofs.FilesShown.{changes_left, files_left}
use Rattle.ktm_store.specs.Store.{WantsMore}
use Rattle.ktm_store.specs.Stored.{is_stored}
use Rattle.ktm_memory.specs.Stored.{NamesBelow, NamesStored, pages_named}
use Rattle.ktm_memory.proofs.pages.want_written.Given as goal

abbrev pub invariant-loop-next : goal.invariant-loop-next
invariant-loop-next g l = record {
  wants : WantsMore l.initial.store l.store;
  below : All (NamesBelow (length l.initial.store.marks.held)) (changes_left (g.F.WrittenFiles.files l.files) l.next);
  -- with those that are left, all are stored
  stored : (final : List Bool) → ((page : ℕ) → is_stored l.store.stored page ≡ true → is_stored final page ≡ true) → All (NamesStored final) (changes_left (g.F.WrittenFiles.files l.files) l.next)
      → All (NamesStored final) (flat_map changes_of_file (g.F.WrittenFiles.files l.files));
  few : length l.store.wanted + sum_by pages_named (changes_left (g.F.WrittenFiles.files l.files) l.next) ≤ length l.initial.store.wanted + sum_by pages_named (flat_map changes_of_file (g.F.WrittenFiles.files l.files));
}

abbrev pub decreases-loop-next : goal.decreases-loop-next
decreases-loop-next g l = length (files_left (g.F.WrittenFiles.files l.files) l.next)
