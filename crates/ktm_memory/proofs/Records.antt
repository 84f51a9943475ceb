-- What the recording of a list of events leaves.
use Rattle.std.proofs.Common.{◌≡◌, ℕ, ◌+◌, ◌≤◌, Bool, true, false, List, [], ◌∷◌, ◌++◌, length, Option, Some, None, Result, Ok, Err, refl, sym, ◌∙◌, ap, subst, arith, inl, inr}
use Rattle.std.proofs.lemmas.Bool.{cases_eq, both_ways}
use Rattle.std.proofs.lemmas.List.{append-nil}
use Rattle.std.specs.Prelude.{IsTrue, IfSome, IsSomeAnd}
use Rattle.ktm_base.specs.Disk.{DiskState, DiskStatus}
use Rattle.ktm_base.specs.Told.{Goes}
use Rattle.ktm_event.specs.Kept.{EventsState, Holds}
use Rattle.ktm_journal.specs.Append.{RecordLeaves, has_no_room, with_group}
use Rattle.ktm_journal.specs.Image.{IsHeaded, JournalState, JournalAt}
use Rattle.ktm_journal.specs.Pages.{KeepsPages}
use Rattle.ktm_log.specs.declared.fault.AppendFault.{AppendFault}
use Rattle.ktm_log.specs.declared.fault.AppendFault.TheVariants.{Down, Full}
use Rattle.ktm_log.specs.OnDisk.{AllSynced, OnDisk, on}
use Rattle.ktm_world.specs.Sizes.{log_size}
use Rattle.ktm_world.specs.Logs.{Group, as_groups}
use Rattle.ktm_memory.specs.Memory.{MemoryState, appended}
use Rattle.ktm_memory.specs.Recorded.{AreRecorded, LeavesWithOr, RecordingLeaves}

-- ---- a list without events

none_held : (events : EventsState) (group : Group) → events.count ≡ 0 → Holds events group → [] ≡ group
none_held events [] none holds = refl
none_held events (e ∷ es) none holds = absurd (omega (arith, none, holds.counted))

nothing_appended : (j : JournalState) → j ≡ appended j []
nothing_appended j =
    ap (λ (n : ℕ). record j { events = n }) (omega arith)
    ∙ ap (λ (n : ℕ). record j { events = j.events + 0; log = record j.log { end = n } }) (omega arith)

no_calls : (status : DiskStatus) → status.is_down ≡ false → status.pending ≡ 0 → AllSynced 4 status status
no_calls status up pending = record {
  calls = record { later = omega arith; counted = omega arith; few = omega arith; cause = λ refused. absurd (cc); down = rw up refl; plan = refl; places = refl };
  pending = pending;
  up = up;
}

pages_stay : (units : ℕ) (told : Option DiskState) → Goes (KeepsPages units) told told
pages_stay units None = tt
pages_stay units (Some s) = refl

-- nothing is done for it
pub nothing_recorded : (events : EventsState) (m : MemoryState) (told : Option DiskState) (status : DiskStatus) (empty : Bool) → empty ≡ true → (IsTrue empty → events.count ≡ 0)
    → IfSome told (λ s. IsHeaded m.journal.units m.journal.image m.journal.selector s.seen) → status.is_down ≡ false → status.pending ≡ 0 → AreRecorded events (on m told status) (on m told status)
nothing_recorded events m told status empty is tells headed up pending =
    let none = tells is in
    record {
      room = λ group holds. subst (λ (g : Group). has_no_room m.journal g ≡ false) (none_held events group none holds) refl;
      grows = λ group holds. subst (λ (g : Group). m ≡ record m { journal = appended m.journal g }) (none_held events group none holds) (ap (λ (j : JournalState). record m { journal = j }) (nothing_appended m.journal));
      adds = λ snapshot log group holds at. subst (λ (g : Group). IsSomeAnd told (JournalAt m.journal snapshot (log ++ as_groups g))) (none_held events group none holds)
          (subst (λ (l : List Group). IsSomeAnd told (JournalAt m.journal snapshot l)) (sym (append-nil log)) at);
      none = λ holds. record { told = refl; status = refl };
      pages = pages_stay m.journal.units told;
      headed = headed;
      synced = no_calls status up pending;
    }

-- ---- a list with events

-- one that is not empty has one at least
pub counted_from : (count : ℕ) (empty : Bool) → empty ≡ false → (count ≡ 0 → IsTrue empty) → 1 ≤ count
counted_from count empty not_empty tells = elim (cases_eq count 0) [
  | inl none ↦ absurd (both_ways empty not_empty (tells none))
  | inr some ↦ omega (arith, some)
]

-- what a group of events is, that is one group
as_one : (P : List Group → Type 0) (events : EventsState) (group : Group) → 1 ≤ events.count → Holds events group → P (group ∷ []) → P (as_groups group)
as_one P events [] some holds is = absurd (omega (arith, some, holds.counted))
as_one P events (e ∷ es) some holds is = is

not_none : (events : EventsState) → 1 ≤ events.count → Holds events [] → ⊥
not_none events some holds = let none = holds.counted in omega (arith, some, none)

appended_one : (events : EventsState) (group : Group) (j : JournalState) → 1 ≤ events.count → Holds events group → with_group j group ≡ appended j group
appended_one events group j some holds = as_one (λ (gs : List Group). with_group j group ≡ record j { events = j.events + length group; log = record j.log { end = j.log.end + log_size gs } }) events group some holds
    (ap (λ (n : ℕ). record j { events = j.events + length group; log = record j.log { end = j.log.end + n } }) (omega arith))

-- what an append to the journal leaves, memory is left with
pub recorded : (events : EventsState) (m : MemoryState) (k : JournalState) (o n : Option DiskState) (s t : DiskStatus) (r : Result (Unit {0}) AppendFault) → 1 ≤ events.count
    → RecordLeaves events (on m.journal o s) (on k n t) r → RecordingLeaves events (on m o s) (on (record m { journal = k }) n t) r
recorded events m k o n s t (Ok done) some leaves = record {
  room = leaves.room;
  grows = λ group holds. ap (λ (j : JournalState). record m { journal = j }) (leaves.grows group holds ∙ appended_one events group m.journal some holds);
  adds = λ snapshot log group holds at. as_one (λ gs. IsSomeAnd n (JournalAt k snapshot (log ++ gs))) events group some holds (leaves.adds snapshot log group holds at);
  none = λ holds. absurd (not_none events some holds);
  pages = leaves.pages;
  headed = leaves.headed;
  synced = leaves.synced;
}
recorded events m k o n s t (Err Down) some leaves = record {
  same = ap (λ (j : JournalState). record m { journal = j }) leaves.same;
  some = not_none events some;
  room = leaves.room;
  either = λ snapshot log group holds at. as_one (λ gs. IsSomeAnd n (LeavesWithOr m.journal snapshot log gs)) events group some holds (leaves.either snapshot log group holds at);
  pages = leaves.pages;
  calls = leaves.calls;
}
recorded events m k o n s t (Err Full) some leaves = record {
  same = ap (λ (d : OnDisk JournalState). on (record m { journal = d.it }) d.told d.status) leaves.same;
  some = not_none events some;
  room = leaves.room;
}
