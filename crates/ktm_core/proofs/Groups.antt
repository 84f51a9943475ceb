-- How a group is recorded: in a log that has room for it, or behind a snapshot of all that was recorded before.
use Rattle.std.proofs.Common.{◌≡◌, ◌+◌, ◌-◌, ◌≤◌, ℕ, not, Bool, true, false, [], ◌∷◌, length, Option, None, Some, Result, Ok, Err, refl, sym, ◌∙◌, ap, subst, arith, inl, inr}
use Rattle.std.proofs.lemmas.Bool.{le-ltb, ltb-false}
use Rattle.std.specs.Prelude.{if◌then◌else◌}
use Rattle.ktm_base.proofs.offered.Images.{calls_law}
use Rattle.ktm_base.proofs.offered.ToldSteps.{IsSomeAnd-map}
use Rattle.ktm_base.specs.declared.fault.Down.{Down}
use Rattle.ktm_base.specs.Disk.{DeviceCalls, DiskStatus}
use Rattle.ktm_base.specs.Told.{Goes}
use Rattle.ktm_debts.specs.Debts.{frame_of}
use Rattle.ktm_event.specs.Kept.{EventsState, Holds}
use Rattle.ktm_journal.specs.Append.{has_no_room}
use Rattle.ktm_journal.specs.Compact.{compacted}
use Rattle.ktm_journal.specs.Image.{JournalState}
use Rattle.ktm_journal.specs.Pages.{KeepsPages, LeavesPages}
use Rattle.ktm_log.specs.OnDisk.{AllSynced, OnDisk}
use Rattle.ktm_memory.specs.Memory.{MemoryState, appended, present_of}
use Rattle.ktm_memory.specs.Recorded.{AreCutOff, AreRecorded}
use Rattle.ktm_memory.proofs.offered.Standing.{kept}
use Rattle.ktm_route.specs.Frames.{FitsEmptyLog}
use Rattle.ktm_saving.specs.Saved.{IsHalfSaved, IsSaved}
use Rattle.txf_laws.specs.GoodState.{IsGoodState}
use Rattle.ktm_world.specs.Groups.{Group}
use Rattle.ktm_world.specs.Sizes.{area_len, frame_size}
use Rattle.ktm_world.specs.Durable.{Durable, after_events}
use Rattle.ktm_core.specs.Core.{log_left}
use Rattle.ktm_core.specs.Recording.{AppendLeaves, GroupLeaves, IsGroupCutOff, IsGroupRecorded, IsSameMemory, LeavesPaged, MayRecord, lacks_room_beside}
use Rattle.ktm_core.proofs.Journals.{appended_for, appended_or_not, appended_pages, saved_for, saved_or_not, saved_pages}

-- ---- room

-- an empty log has room for what fits it
pub room_behind : (j : JournalState) (group : Group) → FitsEmptyLog j.units group → has_no_room (compacted j) group ≡ false
room_behind j [] fits = refl
room_behind j (event ∷ events) fits = le-ltb ((compacted j).log.area.len - (compacted j).log.end) (frame_size (event ∷ events) + 1) (omega (arith, fits))

-- what a test of the room says
pub room_there : (b room : Bool) → room ≡ not b → room ≡ true → b ≡ false
room_there true room is holds = absurd (cc)
room_there false room is holds = refl

pub room_missing : (b room : Bool) → room ≡ not b → room ≡ false → b ≡ true
room_missing true room is holds = refl
room_missing false room is holds = absurd (cc)

-- where there is room for a group and more beside it there is room for the group
pub room_alone : (beside : ℕ) (j : JournalState) (group : Group) → lacks_room_beside beside j group ≡ false → has_no_room j group ≡ false
room_alone beside j [] room = refl
room_alone beside j (event ∷ events) room = le-ltb (log_left j) (frame_size (event ∷ events) + 1) (omega (arith, ltb-false (log_left j) (frame_size (event ∷ events) + beside + 1) room))

-- a group takes its frame of what is left
pub appended_left : (j : JournalState) (group : Group) → log_left (appended j group) ≡ log_left j - frame_of group
appended_left j [] = omega arith
appended_left j (event ∷ events) = omega arith

-- behind a snapshot the whole log is left
pub compacted_left : (j : JournalState) → log_left (compacted j) ≡ area_len j.units
compacted_left j = omega arith

-- what was left, or all of the log, where there was no room
abbrev before_by : JournalState → Bool → ℕ
before_by j full = if full then area_len j.units else log_left j

-- ---- device calls

pub more_calls : (few most : ℕ) (s t : DiskStatus) (refused : Bool) → few ≤ most → DeviceCalls few s t refused → DeviceCalls most s t refused
more_calls few most s t refused less calls = record {
  later = calls.later;
  counted = calls.counted;
  few = omega (arith, calls.few, less);
  cause = calls.cause;
  down = calls.down;
  plan = calls.plan;
  places = calls.places;
}

pub synced_more : (few most : ℕ) (s t : DiskStatus) → few ≤ most → AllSynced few s t → AllSynced most s t
synced_more few most s t less synced = record { calls = more_calls few most s t false less synced.calls; pending = synced.pending; up = synced.up }

-- first all is synced, and then again
pub synced_both : (first second : ℕ) (a b c : DiskStatus) → AllSynced first a b → AllSynced second b c → AllSynced (first + second) a c
synced_both first second a b c one two = record { calls = calls_law a b c first second false one.calls two.calls; pending = two.pending; up = two.up }

-- ---- what is told, step by step

pub goes-then : {S : Type 0} {P Q R : S → S → Type 0} → ((a b c : S) → P a b → Q b c → R a c) → (first next last : Option S) → Goes P first next → Goes Q next last → Goes R first last
goes-then f None None None one two = tt
goes-then f None None (Some c) one two = two
goes-then f None (Some b) last one two = absurd one
goes-then f (Some a) None last one two = absurd one
goes-then f (Some a) (Some b) None one two = absurd two
goes-then f (Some a) (Some b) (Some c) one two = f a b c one two

-- ---- in a log that has room

-- nothing of memory has changed
same_memory : (old new : MemoryState) → new ≡ old → IsSameMemory old new
same_memory old new same = record {
  is = same ∙ ap (λ (j : JournalState). record old { journal = j }) (sym (ap (λ (m : MemoryState). m.journal) same));
  units = ap (λ (m : MemoryState). m.journal.units) same;
  image = ap (λ (m : MemoryState). m.journal.image) same;
}

-- but that its journal has a group more
pub same_appended : (old new : MemoryState) (group : Group) → new ≡ record old { journal = appended old.journal group } → IsSameMemory old new
same_appended old new group grows = record {
  is = grows ∙ ap (λ (j : JournalState). record old { journal = j }) (sym (ap (λ (m : MemoryState). m.journal) grows));
  units = ap (λ (m : MemoryState). m.journal.units) grows;
  image = ap (λ (m : MemoryState). m.journal.image) grows;
}

-- by whether there is room, so many device calls at most are made
abbrev most_by : Bool → ℕ
most_by full = if full then 10 else 4

module _ (beside : ℕ) (events : EventsState) (old new : OnDisk MemoryState) (there : (group : Group) × Holds events group) (room : (group : Group) → Holds events group → lacks_room_beside beside old.it.journal group ≡ false) where
  recorded_at_once : AreRecorded events old new → IsGroupRecorded beside events old new
  recorded_at_once recorded = record {
    same = same_appended old.it new.it there.0 (recorded.grows there.0 there.1);
    counts = λ group holds. ap (λ (m : MemoryState). m.journal.events) (recorded.grows group holds);
    disk = λ raw group may disk. appended_for events (present_of old.it).recorded raw group may.holds may.applies may.means old new disk recorded;
    pages = recorded.pages;
    headed = recorded.headed;
    left = λ group holds. ap (λ (m : MemoryState). log_left m.journal) (recorded.grows group holds) ∙ appended_left old.it.journal group ∙ ap (λ b. before_by old.it.journal b - frame_of group) (sym (room group holds));
    synced = λ group holds. subst (λ b. AllSynced (most_by b) old.status new.status) (sym (room group holds)) recorded.synced;
  }

  cut_at_once : AreCutOff events old new → IsGroupCutOff beside events old new
  cut_at_once cut = record {
    same = same_memory old.it new.it cut.same;
    counts = ap (λ (m : MemoryState). m.journal.events) cut.same;
    disk = λ raw group may disk. (
      appended_or_not events (present_of old.it).recorded raw group may.holds may.applies may.means old new disk cut,
      appended_pages events (present_of old.it).recorded raw group may.holds may.applies may.means old new disk cut,
    );
    calls = λ group holds. subst (λ b. DeviceCalls (most_by b) old.status new.status true) (sym (room group holds)) cut.calls;
  }

  pub at_once : (r : Result (Unit {0}) Down) → AppendLeaves events old new r → GroupLeaves beside events old new r
  at_once (Ok done) leaves = recorded_at_once leaves
  at_once (Err down) leaves = cut_at_once leaves

-- ---- behind a snapshot

module _ (beside : ℕ) (events : EventsState) (old : OnDisk MemoryState) (full : (group : Group) → Holds events group → lacks_room_beside beside old.it.journal group ≡ true) where
  abbrev state : Durable
  state = (present_of old.it).recorded

  -- what was recorded is good
  good_before : (raw group : Group) → MayRecord old.it events raw group → IsGoodState state
  good_before raw group may = (kept (present_of old.it) may.stands).good

  -- the power went while the snapshot was written
  pub half_saved : (new : OnDisk MemoryState) → IsHalfSaved old new → IsGroupCutOff beside events old new
  half_saved new half = record {
    same = same_memory old.it new.it half.same;
    counts = ap (λ (m : MemoryState). m.journal.events) half.same;
    disk = λ raw group may disk. (
      IsSomeAnd-map new.told (LeavesPaged state state) (LeavesPaged state (after_events state group)) (saved_or_not state old new (good_before raw group may) may.owner may.sound disk half)
          (λ s either bytes left. elim (either bytes left) [ inl was ↦ inl was | inr is ↦ inl is ]),
      saved_pages state old new (good_before raw group may) may.owner may.sound disk half,
    );
    calls = λ group holds. subst (λ b. DeviceCalls (most_by b) old.status new.status true) (sym (full group holds)) (more_calls 6 10 old.status new.status true (omega arith) half.cut.calls);
  }

  module _ (mid new : OnDisk MemoryState) (saved : IsSaved old mid) where
    -- memory is as it was before the snapshot
    same_before : IsSameMemory mid.it new.it → IsSameMemory old.it new.it
    same_before same = record {
      is = same.is ∙ ap (λ (m : MemoryState). record m { journal = new.it.journal }) saved.is;
      units = same.units ∙ ap (λ (m : MemoryState). m.journal.units) saved.is;
      image = same.image ∙ ap (λ (m : MemoryState). m.journal.image) saved.is;
    }

    counted_before : mid.it.journal.events ≡ old.it.journal.events
    counted_before = ap (λ (m : MemoryState). m.journal.events) saved.is

    units_before : mid.it.journal.units ≡ old.it.journal.units
    units_before = ap (λ (m : MemoryState). m.journal.units) saved.is

    -- the pages are as they were before the snapshot
    pages_both : Goes (KeepsPages old.it.journal.units) mid.told new.told → Goes (KeepsPages old.it.journal.units) old.told new.told
    pages_both = goes-then (λ a b c first second. second ∙ first) old.told mid.told new.told saved.compacts.pages

    left_both : Goes (LeavesPages old.it.journal.units) mid.told new.told → Goes (LeavesPages old.it.journal.units) old.told new.told
    left_both = goes-then (λ a b c first second image may. second image may ∙ first) old.told mid.told new.told saved.compacts.pages

    saved_recorded : (there : (group : Group) × Holds events group) → AreRecorded events mid new → IsGroupRecorded beside events old new
    saved_recorded there recorded = record {
      same = same_before (same_appended mid.it new.it there.0 (recorded.grows there.0 there.1));
      counts = λ group holds. ap (λ (m : MemoryState). m.journal.events) (recorded.grows group holds) ∙ ap (λ n. n + length group) counted_before;
      disk = λ raw group may disk. appended_for events state raw group may.holds may.applies may.means mid new (saved_for state old mid (good_before raw group may) may.owner may.sound disk saved) recorded;
      pages = pages_both (subst (λ u. Goes (KeepsPages u) mid.told new.told) units_before recorded.pages);
      headed = recorded.headed;
      left = λ group holds. ap (λ (m : MemoryState). log_left m.journal) (recorded.grows group holds) ∙ appended_left mid.it.journal group
          ∙ ap (λ n. n - frame_of group) (ap (λ (m : MemoryState). log_left m.journal) saved.is ∙ compacted_left old.it.journal ∙ ap (before_by old.it.journal) (sym (full group holds)));
      synced = λ group holds. subst (λ b. AllSynced (most_by b) old.status new.status) (sym (full group holds)) (synced_both 6 4 old.status mid.status new.status saved.compacts.synced recorded.synced);
    }

    saved_cut : AreCutOff events mid new → IsGroupCutOff beside events old new
    saved_cut cut = record {
      same = same_before (same_memory mid.it new.it cut.same);
      counts = ap (λ (m : MemoryState). m.journal.events) cut.same ∙ counted_before;
      disk = λ raw group may disk. (let between = saved_for state old mid (good_before raw group may) may.owner may.sound disk saved in (
        appended_or_not events state raw group may.holds may.applies may.means mid new between cut,
        left_both (subst (λ u. Goes (LeavesPages u) mid.told new.told) units_before (appended_pages events state raw group may.holds may.applies may.means mid new between cut)),
      ));
      calls = λ group holds. subst (λ b. DeviceCalls (most_by b) old.status new.status true) (sym (full group holds)) (calls_law old.status mid.status new.status 6 4 true saved.compacts.synced.calls cut.calls);
    }

    pub behind : (there : (group : Group) × Holds events group) (r : Result (Unit {0}) Down) → AppendLeaves events mid new r → GroupLeaves beside events old new r
    behind there (Ok done) leaves = saved_recorded there leaves
    behind there (Err down) leaves = saved_cut leaves
