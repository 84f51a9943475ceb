-- The recording of a start: as a group of the log, or by a snapshot of what the start makes of the state.
use Rattle.std.proofs.Common.{◌≡◌, ◌+◌, ◌≤◌, ◌^◌, true, false, [], length, Result, Ok, Err, refl, sym, ◌∙◌, ap, subst, arith, inl, inr}
use Rattle.std.proofs.lemmas.Bool.{ltb-false}
use Rattle.std.specs.Prelude.{IsSomeAnd}
use Rattle.ktm_base.proofs.offered.ToldSteps.{IsSomeAnd-map}
use Rattle.ktm_base.specs.declared.fault.Down.{Down}
use Rattle.ktm_base.specs.declared.limits.TheConstants.{MOST_UNITS}
use Rattle.ktm_base.specs.Told.{Goes}
use Rattle.ktm_each.specs.Each.{EachOfDurable, EachOfFiles}
use Rattle.ktm_each.proofs.offered.Durables.{after_events-each, opened-each, own_group-each}
use Rattle.ktm_paged.specs.Paged.{IsSound}
use Rattle.ktm_paged.specs.Recorded.{IsRecordOf, RecordsLaw}
use Rattle.ktm_restart.specs.Loads.{MayStart}
use Rattle.ktm_debts.specs.Debts.{frame_of, most_debts}
use Rattle.ktm_event.specs.Kept.{EventsState, Holds}
use Rattle.ktm_journal.specs.Image.{JournalState, page_count}
use Rattle.ktm_journal.specs.Pages.{LeavesPages}
use Rattle.ktm_journal.proofs.offered.Images.{counted_at}
use Rattle.ktm_laws.proofs.offered.LogCounts.{own-applies, own-counts}
use Rattle.ktm_log.specs.OnDisk.{OnDisk, on}
use Rattle.ktm_memory.specs.Memory.{MemoryState, Shows, appended, present_of}
use Rattle.ktm_memory.specs.Recorded.{AreCutOff, AreRecorded}
use Rattle.ktm_memory.proofs.offered.Shown.{shown-is}
use Rattle.ktm_memory.proofs.offered.Standing.{kept as kept_now}
use Rattle.ktm_records.specs.Kept.{IsKept}
use Rattle.ktm_records.specs.Spelling.{AreTexts, SpellingLaw}
use Rattle.ktm_restart.specs.Logs.{AppliesTo, IsOnPages, JournalFor, PagedFor}
use Rattle.ktm_saving.specs.Saved.{IsHalfSaved, IsSaved, SavingLeaves}
use Rattle.ktm_standing.specs.Laws.{FreshLaw}
use Rattle.ktm_standing.specs.Standing.{IsStandingNow, fresh}
use Rattle.txf_laws.specs.OwnGroup.{OwnGroupLaw}
use Rattle.ktm_trace.specs.Contents.{ContentsLaw}
use Rattle.ktm_world.specs.Durable.{Durable, is_worn}
use Rattle.ktm_world.specs.Groups.{Group}
use Rattle.ktm_world.specs.Present.{Present}
use Rattle.ktm_world.specs.World.{own_group}
use Rattle.ktm_world.proofs.offered.Durables.{after_events-events, after_events-image, after_events-units}
use Rattle.ktm_core.specs.Recording.{AppendLeaves, LeavesPaged}
use Rattle.ktm_core.specs.Starting.{IsNotRecorded, IsOnStart, IsRecorded, IsStarting, LeavesOwnOrNot, StartLeaves, started}
use Rattle.ktm_core.proofs.Journals.{appended_for, appended_or_not, appended_pages, saved_for, saved_or_not, saved_pages}
use Rattle.ktm_core.proofs.Lying.{on_pages-sound, sound-is}
use Rattle.ktm_core.proofs.offered.Places.{durable-weaker}
use Rattle.ktm_core.specs.Core.{AreSoundFiles, is_sound, log_left}
use Rattle.ktm_core.specs.Done.{lacks_room}
use Rattle.ktm_memory.specs.Rules.{Follows}
use Rattle.ktm_core.proofs.Bare.{own-bare}
use Rattle.ktm_core.proofs.Groups.{appended_left, compacted_left, more_calls, same_appended}

-- ---- what memory shows

-- memory is on the start from this state
module _ (begins : FreshLaw) (contents : ContentsLaw) (state : Durable) (m : MemoryState) (events : EventsState) (is : IsOnStart state m events) where
  -- what is so then stands
  pub fresh_stands : IsStandingNow (fresh state)
  fresh_stands = begins.stands state is.may.good is.may.texts is.may.most is.unworn

  shows_with : (j : JournalState) → Shows (record m { journal = j }) (fresh state)
  shows_with j = record {
    is_up = is.shows.is_up;
    boot = is.shows.boot;
    transactions = is.shows.transactions;
    managers = is.shows.managers;
    traces = is.shows.traces;
    files = is.shows.files;
    next_node = is.shows.next_node;
    keys = is.shows.keys;
    handles = is.shows.handles;
  }

  -- with a journal that counts what the start records, memory shows all that is so then
  pub shown_fresh : (j : JournalState) → j.units ≡ m.journal.units → j.image ≡ m.journal.image → j.events ≡ m.journal.events + length (own_group state) → present_of (record m { journal = j }) ≡ fresh state
  shown_fresh j units image counts =
      shown-is contents (record m { journal = j }) (fresh state) (shows_with j)
      (record {
        units = units ∙ is.journal.units ∙ sym (after_events-units state (own_group state));
        image = image ∙ is.journal.image ∙ sym (after_events-image state (own_group state));
        events = counts ∙ ap (λ n. n + length (own_group state)) is.journal.counted ∙ sym (after_events-events state (own_group state));
      })
      (kept_now (fresh state) fresh_stands)

-- ---- as a group of the log

-- events that put nothing are recorded as they are, and apply
own_applies : OwnGroupLaw → SpellingLaw → RecordsLaw → (state : Durable) → MayStart state → is_worn state ≡ false → IsRecordOf state (own_group state) (own_group state) × AppliesTo state (own_group state)
own_applies owns spelling records state may unworn =
    let bare : IsRecordOf state (own_group state) (own_group state) = records.bare state (own_group state) (own-bare state) in (
      bare,
      records.applies (page_count state.units) may.on_pages.apart.0 state (own_group state) (own_group state) bare (on_pages-sound state may.on_pages)
          (own_group-each (IsSound may.on_pages.apart.0 (page_count state.units)) state) (own-applies owns spelling state may.good unworn),
    )

module _ (begins : FreshLaw) (contents : ContentsLaw) (owns : OwnGroupLaw) (spelling : SpellingLaw) (records : RecordsLaw) (events : EventsState) (old new : OnDisk MemoryState) (starts : IsStarting old.it events)
    (room : (group : Group) → Holds events group → lacks_room old.it.journal group ≡ false) where
  -- the greatest debts have room behind it
  room_behind_start : AreRecorded events old new → most_debts new.it.journal.units + 1 ≤ log_left new.it.journal
  room_behind_start recorded =
      let group = own_group starts.0 in
      let left = ap (λ (m : MemoryState). log_left m.journal) (recorded.grows group starts.1.lists.holds) ∙ appended_left old.it.journal group in
      let units = ap (λ (m : MemoryState). m.journal.units) (recorded.grows group starts.1.lists.holds) in
      let free = ltb-false (log_left old.it.journal) (frame_of group + most_debts old.it.journal.units + 1) (room group starts.1.lists.holds) in
      omega (arith, left, units, free)

  start_appended : AreRecorded events old new → IsRecorded events old new
  start_appended recorded =
      let same = same_appended old.it new.it (own_group starts.0) (recorded.grows (own_group starts.0) starts.1.lists.holds) in
      record {
        now = λ state is. ap present_of (recorded.grows (own_group state) is.lists.holds) ∙ shown_fresh begins contents state old.it events is (appended old.it.journal (own_group state)) refl refl refl;
        journal = same.is;
        units = same.units;
        disk = λ state is disk. (let own = own_applies owns spelling records state is.may is.unworn in appended_for events state (own_group state) (own_group state) is.lists.holds own.1 own.0.means old new disk recorded);
        pages = recorded.pages;
        headed = recorded.headed;
        left = room_behind_start recorded;
        synced = record { calls = more_calls 4 6 old.status new.status false (omega arith) recorded.synced.calls; pending = recorded.synced.pending; up = recorded.synced.up };
      }

  start_cut : AreCutOff events old new → IsNotRecorded events old new
  start_cut left = record {
    disk = λ state is disk. (let own = own_applies owns spelling records state is.may is.unworn in (
      IsSomeAnd-map new.told (LeavesPaged state (started state)) (LeavesOwnOrNot state)
          (appended_or_not events state (own_group state) (own_group state) is.lists.holds own.1 own.0.means old new disk left)
          (λ s either bytes may. elim (either bytes may) [ inl without ↦ inl without | inr with_it ↦ inr (is.unworn, with_it) ]),
      appended_pages events state (own_group state) (own_group state) is.lists.holds own.1 own.0.means old new disk left,
    ));
    calls = more_calls 4 6 old.status new.status true (omega arith) left.calls;
  }

  pub start_at_once : (r : Result (Unit {0}) Down) → AppendLeaves events old new r → StartLeaves events old new r
  start_at_once (Ok done) leaves = start_appended leaves
  start_at_once (Err down) leaves = start_cut leaves

-- ---- by a snapshot

-- memory whose journal has counted the events of the list
abbrev pub counted : EventsState → OnDisk MemoryState → OnDisk MemoryState
counted events old = on (record old.it { journal = record old.it.journal { events = old.it.journal.events + events.count } }) old.told old.status

module _ (begins : FreshLaw) (contents : ContentsLaw) (events : EventsState) (old : OnDisk MemoryState) (state : Durable) (is : IsOnStart state old.it events) where
  pub counted_fresh : present_of (counted events old).it ≡ fresh state
  counted_fresh = shown_fresh begins contents state old.it events is (counted events old).it.journal refl refl (ap (λ n. old.it.journal.events + n) (sym is.lists.holds.counted))

  counted_stands : IsStandingNow (present_of (counted events old).it)
  counted_stands = subst IsStandingNow (sym counted_fresh) (fresh_stands begins contents state old.it events is)

  pub counted_kept : IsKept (present_of (counted events old).it)
  counted_kept = kept_now (present_of (counted events old).it) counted_stands

  pub counted_texts : AreTexts (present_of (counted events old).it)
  counted_texts = subst AreTexts counted_stands.is counted_stands.stands.texts

  -- the journal came to the state, whatever it counts
  counted_for : IsSomeAnd old.told (JournalFor old.it.journal state) → IsSomeAnd old.told (JournalFor (counted events old).it.journal state)
  counted_for disk = IsSomeAnd-map old.told (JournalFor old.it.journal state) (JournalFor (counted events old).it.journal state) disk (λ s at. record {
    units = at.units;
    image = at.image;
    snapshot = at.snapshot;
    log = at.log;
    at = counted_at old.it.journal (old.it.journal.events + events.count) at.snapshot at.log s at.at;
    come = at.come;
  })

  recorded_fresh : (present_of (counted events old).it).recorded ≡ started state
  recorded_fresh = ap (λ (x : Present). x.recorded) counted_fresh

  -- each place of what memory shows that was recorded has its owner
  counted_sound : EachOfDurable (IsSound is.may.on_pages.apart.0 (page_count (present_of (counted events old).it).recorded.units)) (present_of (counted events old).it).recorded
  counted_sound =
      let here : EachOfDurable (IsSound is.may.on_pages.apart.0 (page_count state.units)) (started state) =
      after_events-each (IsSound is.may.on_pages.apart.0 (page_count state.units)) (λ file index. inl refl) state (own_group state) (on_pages-sound state is.may.on_pages)
      (own_group-each (IsSound is.may.on_pages.apart.0 (page_count state.units)) state) in
      subst (λ (d : Durable). EachOfDurable (IsSound is.may.on_pages.apart.0 (page_count d.units)) d) (sym recorded_fresh)
      (subst (λ n. EachOfDurable (IsSound is.may.on_pages.apart.0 (page_count n)) (started state)) (sym (after_events-units state (own_group state))) here)

  saved_here : (new : OnDisk MemoryState) → IsSaved (counted events old) new → IsSomeAnd old.told (JournalFor old.it.journal state) → IsSomeAnd new.told (JournalFor new.it.journal (started state))
  saved_here new saved disk =
      subst (λ (d : Durable). IsSomeAnd new.told (JournalFor new.it.journal d)) recorded_fresh (saved_for state (counted events old) new counted_kept.good is.may.on_pages.apart.0 counted_sound (counted_for disk) saved)

  half_saved_here : (new : OnDisk MemoryState) → IsHalfSaved (counted events old) new → IsSomeAnd old.told (JournalFor old.it.journal state) → IsSomeAnd new.told (LeavesOwnOrNot state)
  half_saved_here new half disk =
      IsSomeAnd-map new.told (LeavesPaged state (present_of (counted events old).it).recorded) (LeavesOwnOrNot state) (saved_or_not state (counted events old) new counted_kept.good is.may.on_pages.apart.0 counted_sound (counted_for disk) half)
      (λ s either bytes may. elim (either bytes may) [ inl without ↦ inl without | inr with_it ↦ inr (is.unworn, subst (λ (d : Durable). PagedFor d bytes) recorded_fresh with_it) ])

  half_saved_pages : (new : OnDisk MemoryState) → IsHalfSaved (counted events old) new → IsSomeAnd old.told (JournalFor old.it.journal state) → Goes (LeavesPages old.it.journal.units) old.told new.told
  half_saved_pages new half disk = saved_pages state (counted events old) new counted_kept.good is.may.on_pages.apart.0 counted_sound (counted_for disk) half

module _ (begins : FreshLaw) (contents : ContentsLaw) (events : EventsState) (old new : OnDisk MemoryState) where
  start_saved : IsSaved (counted events old) new → IsRecorded events old new
  start_saved saved = record {
    now = λ state is. ap present_of saved.is ∙ counted_fresh begins contents events old state is;
    journal = saved.is ∙ ap (λ (j : JournalState). record old.it { journal = j }) (sym (ap (λ (m : MemoryState). m.journal) saved.is));
    units = ap (λ (m : MemoryState). m.journal.units) saved.is;
    disk = λ state is disk. saved_here begins contents events old state is new saved disk;
    pages = saved.compacts.pages;
    headed = saved.compacts.headed;
    left = (
        let left = ap (λ (m : MemoryState). log_left m.journal) saved.is ∙ compacted_left (counted events old).it.journal in
        let units = ap (λ (m : MemoryState). m.journal.units) saved.is in
        omega (arith, left, units));
    synced = saved.compacts.synced;
  }

  start_half_saved : IsHalfSaved (counted events old) new → IsNotRecorded events old new
  start_half_saved half = record { disk = λ state is disk. (half_saved_here begins contents events old state is new half disk, half_saved_pages begins contents events old state is new half disk); calls = half.cut.calls }

  pub start_by_snapshot : (r : Result (Unit {0}) Down) → SavingLeaves (counted events old) new r → StartLeaves events old new r
  start_by_snapshot (Ok done) leaves = start_saved leaves
  start_by_snapshot (Err down) leaves = start_half_saved leaves

-- ---- what that asks for

module _ (events : EventsState) (m : MemoryState) (starts : IsStarting m events) where
  -- the image has a size that there is
  pub small_start : m.journal.units ≤ MOST_UNITS
  small_start = omega (arith, starts.1.journal.units, starts.1.may.most)

  -- a start records something
  pub some_start : 1 ≤ events.count
  some_start = omega (arith, starts.1.lists.holds.counted)

  -- the count of events does not come to its end
  pub counts_start : SpellingLaw → m.journal.events + events.count ≤ 2 ^ 63
  counts_start spelling =
      let few = own-counts spelling starts.0 starts.1.may.good starts.1.unworn in
      let all = after_events-events starts.0 (own_group starts.0) in
      let count = starts.1.lists.holds.counted in
      let before = starts.1.journal.counted in
      omega (arith, few, all, count, before)

-- what is so once a machine started has its owners from the state
pub fresh_sound : FreshLaw → (state : Durable) → IsOnPages state → AreSoundFiles (page_count state.units) (fresh state).files
fresh_sound begins state on_pages =
    let owner = on_pages.apart.0 in
    let count = page_count state.units in
    let each : EachOfDurable (Follows (is_sound owner count)) state = durable-weaker (IsSound owner count) (Follows (is_sound owner count)) (sound-is owner count) state (on_pages-sound state on_pages) in
    (owner, subst (λ (x : Present). EachOfFiles (Follows (is_sound owner count)) x.files) (begins.opens state []) (opened-each (Follows (is_sound owner count)) state [] each))
