-- A group that is recorded behind the pages that it puts.
use Rattle.std.proofs.Common.{◌≡◌, ℕ, ◌+◌, ◌*◌, ◌≤◌, Bool, true, false, Option, None, Some, List, [], length, refl, sym, ◌∙◌, ap, subst, arith, inl, inr}
use Rattle.std.specs.Prelude.{min, Contains, IsSomeAnd, OnErr, OnOk, Result, Ok, Err}
use Rattle.ktm_base.specs.declared.fault.Down.{Down}
use Rattle.ktm_base.proofs.offered.Images.{calls_law}
use Rattle.ktm_base.specs.Disk.{DiskState, DiskStatus, MayLeave}
use Rattle.ktm_base.specs.Told.{Goes}
use Rattle.ktm_content.specs.Places.{byte_at}
use Rattle.ktm_each.proofs.offered.Durables.{after_events-each}
use Rattle.ktm_event.specs.Kept.{EventsState}
use Rattle.ktm_journal.specs.Image.{IsImage, JournalAt, JournalState, page_count, row_of}
use Rattle.ktm_journal.specs.Pages.{KeepsPages, LeavesPages}
use Rattle.ktm_log.specs.OnDisk.{on}
use Rattle.ktm_memory.specs.Memory.{MemoryState, present_of}
use Rattle.ktm_memory.specs.Stored.{AreEventsStored, units_put}
use Rattle.ktm_page.specs.Row.{page_of}
use Rattle.ktm_restart.specs.Logs.{JournalFor, PagedFor}
use Rattle.ktm_store.specs.Marks.{MarksState}
use Rattle.ktm_store.specs.Pool.{Shows, kept_at, on_row}
use Rattle.ktm_store.specs.Store.{IsStoredAt, PoolState, StoreState, WantsMore, page_at}
use Rattle.ktm_store.specs.Stored.{is_stored}
use Rattle.ktm_store.proofs.offered.Holding.{byte-same}
use Rattle.ktm_world.specs.Groups.{Group}
use Rattle.ktm_world.specs.Durable.{Durable, after_events}
use Rattle.ktm_world.proofs.offered.Durables.{after_events-units}
use Rattle.ktm_core.specs.Core.{ArePlacesStored, HoldsState, LeavesEitherPlaces, LeftPlaces, PagesAgree}
use Rattle.ktm_core.specs.Done.{page_calls}
use Rattle.ktm_core.specs.Pages.{ArePagesTorn, ArePagesWritten, LeavesBut, WritingLeaves, WrotePages}
use Rattle.ktm_core.specs.Recording.{append_calls, AreWaitingTorn, AreWaitingWritten, GroupLeaves, IsGroupCutOff, IsGroupRecorded, IsNotPut, IsPut, LeavesPaged, MayRecord, PutLeaves, WaitingLeaves, kept_on, put_calls}
use Rattle.ktm_core.proofs.Groups.{more_calls, synced_more}
use Rattle.ktm_core.proofs.Meant.{fewer-calls, frame-fewer}
use Rattle.ktm_core.proofs.offered.Places.{durable-weaker}

-- ---- images that are left

-- an image that comes to the state has the bytes of the row where each stored page is that of the row
pub left-places : (row : List ℕ) (stored : List Bool) (state : Durable) (units : ℕ) (image : List ℕ) → state.units ≡ units → ArePlacesStored stored state
    → ((page : ℕ) → is_stored stored page ≡ true → page_of (row_of units image) page ≡ page_of row page) → PagedFor state image → LeftPlaces row state image
left-places row stored state units image is all same paged = record {
  paged = paged;
  same = durable-weaker (λ file index place. IsStoredAt stored place) (λ file index place. byte_at (row_of state.units image) place ≡ byte_at row place)
      (λ file index place at. byte-same (row_of state.units image) row place (λ some. ap (λ n. page_of (row_of n image) (page_at place)) is ∙ same (page_at place) (at some))) state all;
}

-- what was stored is stored still
stored-still : (old new : List Bool) (state : Durable) → ((page : ℕ) → is_stored old page ≡ true → is_stored new page ≡ true) → ArePlacesStored old state → ArePlacesStored new state
stored-still old new state kept all = durable-weaker (λ file index place. IsStoredAt old place) (λ file index place. IsStoredAt new place) (λ file index place at some. kept (page_at place) (at some)) state all

-- so is what a group puts
stored-after : (stored : List Bool) (state : Durable) (group : Group) → ArePlacesStored stored state → AreEventsStored stored group → ArePlacesStored stored (after_events state group)
stored-after stored state group all more = after_events-each (λ file index place. IsStoredAt stored place) (λ file index some. absurd (some refl)) state group all more

-- ---- what the disk stands for, with its pages as they were

module _ (j : JournalState) (state after : Durable) (t : StoreState) (stored : ArePlacesStored t.stored state → ArePlacesStored t.stored after) where
  -- another journal comes to another state
  pub holds-with : (k : JournalState) (before now : Option DiskState) → k.units ≡ j.units → IsSomeAnd before (HoldsState j state t) → IsSomeAnd now (JournalFor k after) → Goes (KeepsPages j.units) before now
      → IsSomeAnd now (HoldsState k after t)
  holds-with k None now units at then pages = absurd at
  holds-with k (Some b) None units at then pages = absurd then
  holds-with k (Some b) (Some c) units at then pages = record {
    journal = then;
    pages = λ page is. ap (λ n. page_of (row_of n c.seen) page) units ∙ ap (λ (l : List ℕ). page_of l page) pages ∙ at.pages page is;
    stored = stored at.stored;
  }

  -- the power went
  pub leaves-with : (before now : Option DiskState) → after.units ≡ state.units → IsSomeAnd before (HoldsState j state t) → IsSomeAnd now (LeavesPaged state after) → Goes (LeavesPages j.units) before now
      → IsSomeAnd now (LeavesEitherPlaces t.seen state after)
  leaves-with None now units at either pages = absurd at
  leaves-with (Some b) None units at either pages = absurd either
  leaves-with (Some b) (Some c) units at either pages = λ image power. (
      let same : (page : ℕ) → is_stored t.stored page ≡ true → page_of (row_of j.units image) page ≡ page_of t.seen page = λ page is. ap (λ (l : List ℕ). page_of l page) (pages image power) ∙ at.pages page is in
      elim (either image power) [
        | inl was ↦ inl (left-places t.seen t.stored state j.units image at.journal.units at.stored same was)
        | inr is ↦ inr (left-places t.seen t.stored after j.units image (units ∙ at.journal.units) (stored at.stored) same is)
      ])

-- ---- pages that were not stored are written

-- a row that one store shows is shown by another one that has the same pages in memory
pub shows-alike : (old new : PoolState) (row : List ℕ) → new.seen ≡ old.seen → new.marks ≡ old.marks → Shows old row → Shows new row
shows-alike old new row seen marks shows = record {
  size = shows.size ∙ sym (ap (λ (m : MarksState). length m.held * 4096) marks);
  bytes = λ page bytes is. shows.bytes page bytes (sym (ap (λ (l : List (Option (List ℕ))). kept_at l page) seen) ∙ is);
}

-- so it is with the row
pub wants-row : (old new : PoolState) (row : List ℕ) → WantsMore old new → WantsMore (on_row old row) (on_row new row)
wants-row old new row wants = record { seen = refl; marks = wants.marks; stored = wants.stored; only = wants.only; wanted = wants.wanted; fresh = wants.fresh }

module _ (j : JournalState) (t t1 : StoreState) (wants : WantsMore t t1) (before now : Option DiskState) (s u : DiskStatus) (state : Durable) where
  module _ (none : t.wanted ≡ []) (torn : ArePagesTorn j t1.wanted before now s u) where
    -- no page that was stored was written
    not-written : (page : ℕ) → is_stored t.stored page ≡ true → Contains t1.wanted page → ⊥
    not-written page is there = elim (wants.fresh page there) [
      | inl (k, low, at) ↦ (let empty : length t.wanted ≡ 0 = ap (λ (l : List ℕ). length l) none in omega (arith, low, empty))
      | inr missing ↦ (let both : true ≡ false = sym is ∙ missing in cc)
    ]

    torn-image : (a b : DiskState) → (at : HoldsState j state t a) → LeavesBut j t1.wanted at.journal.snapshot at.journal.log a b → (image : List ℕ) → MayLeave b image → LeftPlaces t.seen state image
    torn-image a b at left image may =
        let one = left image may in
        left-places t.seen t.stored state j.units image at.journal.units at.stored (λ page is. one.1.others page (not-written page is) ∙ at.pages page is) (record {
          snapshot = at.journal.snapshot;
          log = at.journal.log;
          is = subst (λ n. IsImage n state.image at.journal.snapshot at.journal.log image) (sym at.journal.units) (subst (λ i. IsImage j.units i at.journal.snapshot at.journal.log image) (sym at.journal.image) one.0);
          come = at.journal.come;
        })

    -- the power went while pages were written
    pub torn-disk : (other : Durable) → IsSomeAnd before (HoldsState j state t) → IsSomeAnd now (LeavesEitherPlaces t.seen state other)
    torn-disk other at = go before now at torn.left
      where
        go : (before now : Option DiskState) → IsSomeAnd before (HoldsState j state t)
            → ((snapshot : List ℕ) (log : List Group) → IsSomeAnd before (JournalAt j snapshot log) → Goes (LeavesBut j t1.wanted snapshot log) before now) → IsSomeAnd now (LeavesEitherPlaces t.seen state other)
        go None now at left = absurd at
        go (Some a) None at left = absurd (left at.journal.snapshot at.journal.log at.journal.at)
        go (Some a) (Some b) at left = λ image may. inl (torn-image a b at (left at.journal.snapshot at.journal.log at.journal.at) image may)

  module _ (written : ArePagesWritten j t1.wanted t1.seen before now s u) where
    abbrev settled : StoreState
    settled = record t1 { wanted = [] }

    -- each stored page is on the disk then
    agree-then : (a b : DiskState) → WrotePages j.units t1.wanted t1.seen a b → PagesAgree j.units t a → PagesAgree j.units t1 b
    agree-then a b wrote agree page is = elim (wants.only page is) [
      | inl was ↦ wrote.kept page (agree page was ∙ ap (λ (l : List ℕ). page_of l page) (sym wants.seen))
      | inr (k, low, at) ↦ subst (λ p. page_of (row_of j.units b.seen) p ≡ page_of t1.seen p) at (wrote.written k page low)
    ]

    -- they were written
    pub holds-then : IsSomeAnd before (HoldsState j state t) → IsSomeAnd now (HoldsState j state settled)
    holds-then at = go before now at written.at written.wrote
      where
        go : (before now : Option DiskState) → IsSomeAnd before (HoldsState j state t) → ((snapshot : List ℕ) (log : List Group) → IsSomeAnd before (JournalAt j snapshot log) → IsSomeAnd now (JournalAt j snapshot log))
            → Goes (WrotePages j.units t1.wanted t1.seen) before now → IsSomeAnd now (HoldsState j state settled)
        go None now at keeps wrote = absurd at
        go (Some a) None at keeps wrote = absurd wrote
        go (Some a) (Some b) at keeps wrote = record {
          journal = record {
            units = at.journal.units;
            image = at.journal.image;
            snapshot = at.journal.snapshot;
            log = at.journal.log;
            at = keeps at.journal.snapshot at.journal.log at.journal.at;
            come = at.journal.come;
          };
          pages = agree-then a b wrote at.pages;
          stored = stored-still t.stored t1.stored state wants.stored at.stored;
        }

-- what that leaves where all pages that were not stored are wanted
pub waiting-ends : (j : JournalState) (old mid new : PoolState) (row : List ℕ) (before now : Option DiskState) (s u : DiskStatus) → old.wanted ≡ [] → WantsMore old mid → length mid.wanted ≤ page_count j.units
    → (r : Result (Unit {0}) Down) → WritingLeaves j mid.wanted row before now s u r → OnOk r (new ≡ record mid { wanted = [] }) → OnErr r (new ≡ mid) → WaitingLeaves j (on_row old row) (on_row new row) before now s u r
waiting-ends j old mid new row before now s u none wants few (Ok done) written ok err =
    let step = wants-row old mid row wants in
    subst (λ (p : PoolState). AreWaitingWritten j (on_row old row) (on_row p row) before now s u) (sym ok) (record {
      store = record { seen = refl; marks = wants.marks };
      wanted = refl;
      disk = λ state at. holds-then j (on_row old row) (on_row mid row) step before now s u state written at;
      headed = written.headed;
      synced = synced_more (page_calls (length mid.wanted)) (page_calls (page_count j.units)) s u (omega (arith, few)) written.synced;
    })
waiting-ends j old mid new row before now s u none wants few (Err down) torn ok err =
    let step = wants-row old mid row wants in
    subst (λ (p : PoolState). AreWaitingTorn j (on_row old row) (on_row p row) before now s u) (sym err) (record {
      store = record { seen = refl; marks = wants.marks };
      disk = λ state at. torn-disk j (on_row old row) (on_row mid row) step before now s u state none torn state at;
      calls = more_calls (page_calls (length mid.wanted)) (page_calls (page_count j.units)) s u true (omega (arith, few)) torn.calls;
    })

-- ---- a group behind them

module _ (beside : ℕ) (events : EventsState) (group : Group) (m : MemoryState) (t t1 : StoreState) (none : t.wanted ≡ []) (wants : WantsMore t t1) (before : Option DiskState) (s : DiskStatus) where
  abbrev state : Durable
  state = (present_of m).recorded

  -- ---- the power went while pages were written

  module _ (now : Option DiskState) (u : DiskStatus) (few : length t1.wanted ≤ min (units_put group) (page_count m.journal.units)) (torn : ArePagesTorn m.journal t1.wanted before now s u) where
    pub put-torn : IsNotPut beside events group (kept_on m t before s) (kept_on m t1 now u)
    put-torn = record {
      same = record { is = refl; units = refl; image = refl };
      store = record { seen = wants.seen; marks = wants.marks };
      counts = refl;
      disk = λ raw may at. torn-disk m.journal t t1 wants before now s u state none torn (after_events state group) at;
      calls = λ raw may. more_calls (page_calls (length t1.wanted)) (put_calls beside m.journal group) s u true (omega (arith, few)) torn.calls;
    }

  -- ---- they were written

  module _ (mid : Option DiskState) (s1 : DiskStatus) (written : ArePagesWritten m.journal t1.wanted t1.seen before mid s s1) where
    abbrev t2 : StoreState
    t2 = record t1 { wanted = [] }

    between-at : IsSomeAnd before (HoldsState m.journal state t) → IsSomeAnd mid (HoldsState m.journal state t2)
    between-at at = holds-then m.journal t t1 wants before mid s s1 state written at

    journal-of : (told : Option DiskState) (j : JournalState) (d : Durable) (w : StoreState) → IsSomeAnd told (HoldsState j d w) → IsSomeAnd told (JournalFor j d)
    journal-of None j d w at = absurd at
    journal-of (Some a) j d w at = at.journal

    module _ (r : MemoryState) (now : Option DiskState) (u : DiskStatus) (few : length t1.wanted ≤ min (units_put group) (page_count m.journal.units)) (stored : AreEventsStored t1.stored group) where
      calls-then : (raw : Group) → MayRecord m events raw group → page_calls (length t1.wanted) + append_calls beside m.journal raw ≤ put_calls beside m.journal group
      calls-then raw may = omega (arith, few, fewer-calls beside m.journal raw group (frame-fewer state raw group may.means may.size))

      recorded-disk : (raw : Group) → MayRecord m events raw group → IsGroupRecorded beside events (on m mid s1) (on r now u) → IsSomeAnd before (HoldsState m.journal state t) → IsSomeAnd now (HoldsState r.journal (after_events state group) t2)
      recorded-disk raw may recorded at =
          let between = between-at at in
          holds-with m.journal state (after_events state group) t2 (λ there. stored-after t1.stored state group there stored) r.journal mid now recorded.same.units between
          (recorded.disk raw group may (journal-of mid m.journal state t2 between)) recorded.pages

      pub put-recorded : IsGroupRecorded beside events (on m mid s1) (on r now u) → IsPut beside events group (kept_on m t before s) (kept_on r t2 now u)
      put-recorded recorded = record {
        same = recorded.same;
        store = record { seen = wants.seen; marks = wants.marks };
        wanted = refl;
        counts = recorded.counts;
        disk = λ raw may at. recorded-disk raw may recorded at;
        headed = recorded.headed;
        left = recorded.left;
        synced = λ raw may. (
            let last = recorded.synced raw may.holds in
            record {
              calls = more_calls (page_calls (length t1.wanted) + append_calls beside m.journal raw) (put_calls beside m.journal group) s u false (calls-then raw may)
                  (calls_law s s1 u (page_calls (length t1.wanted)) (append_calls beside m.journal raw) false written.synced.calls last.calls);
              pending = last.pending;
              up = last.up;
            });
      }

      cut-disk : (raw : Group) → MayRecord m events raw group → IsGroupCutOff beside events (on m mid s1) (on r now u) → IsSomeAnd before (HoldsState m.journal state t) → IsSomeAnd now (LeavesEitherPlaces t.seen state (after_events state group))
      cut-disk raw may left at =
          let between = between-at at in
          let both = left.disk raw group may (journal-of mid m.journal state t2 between) in
          subst (λ (row : List ℕ). IsSomeAnd now (LeavesEitherPlaces row state (after_events state group))) wants.seen
          (leaves-with m.journal state (after_events state group) t2 (λ there. stored-after t1.stored state group there stored) mid now (after_events-units state group) between both.0 both.1)

      pub put-cut : IsGroupCutOff beside events (on m mid s1) (on r now u) → IsNotPut beside events group (kept_on m t before s) (kept_on r t2 now u)
      put-cut left = record {
        same = left.same;
        store = record { seen = wants.seen; marks = wants.marks };
        counts = left.counts;
        disk = λ raw may at. cut-disk raw may left at;
        calls = λ raw may. more_calls (page_calls (length t1.wanted) + append_calls beside m.journal raw) (put_calls beside m.journal group) s u true (calls-then raw may)
            (calls_law s s1 u (page_calls (length t1.wanted)) (append_calls beside m.journal raw) true written.synced.calls (left.calls raw may.holds));
      }

      -- by whether it was recorded
      pub put-ends : (done : Result (Unit {0}) Down) → GroupLeaves beside events (on m mid s1) (on r now u) done → PutLeaves beside events group (kept_on m t before s) (kept_on r t2 now u) done
      put-ends (Ok done) leaves = put-recorded leaves
      put-ends (Err down) leaves = put-cut leaves
