-- What a restart finds on a disk, and what it makes of it.
use Rattle.std.proofs.Common.{◌≡◌, ℕ, ◌+◌, ◌*◌, ◌≤◌, Bool, true, false, List, length, drop, Option, None, Some, Vec, refl, sym, ◌∙◌, ap, subst, arith, inl, inr, length-take}
use Rattle.std.proofs.lemmas.List.{length-drop}
use Rattle.std.specs.Prelude.{IfSome, IsSomeAnd, vec_capacity}
use Rattle.ktm_base.specs.declared.limits.TheConstants.{MOST_UNITS, UNIT_BYTES}
use Rattle.ktm_base.specs.Disk.{DeviceCalls, DiskState, DiskStatus, IsSafe}
use Rattle.ktm_base.specs.Told.{Goes}
use Rattle.ktm_base.proofs.offered.Images.{calls_law, safe_law}
use Rattle.ktm_base.proofs.offered.ToldSteps.{IfSome-map, IsSomeAnd-map}
use Rattle.ktm_alike.specs.Alike.{mapped_present}
use Rattle.ktm_alike.specs.Laws.{AlikeLaw}
use Rattle.ktm_content.specs.Places.{byte_at}
use Rattle.ktm_core.specs.Core.{AreSoundFiles, ArePlacesStored, HoldsPlaces, log_left}
use Rattle.ktm_core.specs.Debts.{DebtsLaw, debts}
use Rattle.ktm_core.specs.Starting.{Begun, IsNotRecorded, IsOnStart, ListsStart, LeavesOwnOrNot as LeavesPlaces, started as what_starts}
use Rattle.ktm_core.proofs.offered.Places.{files-weaker, recorded-each}
use Rattle.ktm_event.specs.Kept.{EventsState}
use Rattle.ktm_journal.specs.Image.{JournalState, IsHeaded, image_len, page_count, pages_at, row_of}
use Rattle.ktm_journal.specs.Open.{log_reads}
use Rattle.ktm_journal.specs.Pages.{KeepsPages, LeavesPages}
use Rattle.ktm_laws.proofs.offered.LogCounts.{own-counts}
use Rattle.ktm_log.specs.declared.area.Area.{Area}
use Rattle.ktm_log.specs.OnDisk.{OnDisk, ReadsInto, on}
use Rattle.ktm_mapped.specs.Laws.{MappedLaw}
use Rattle.ktm_mapped.specs.Mapped.{IsBlank, mapped_durable}
use Rattle.ktm_core.specs.Memory.{IsRoomy, MemoryState, held, present_of}
use Rattle.ktm_core.specs.Stored.{AreFilesHeld}
use Rattle.ktm_records.specs.Spelling.{AreRecordedTexts, SpellingLaw}
use Rattle.ktm_core.specs.Loads.{IsBadImage, IsJournalOf, IsLoaded}
use Rattle.ktm_core.specs.Loaded.{Loaded}
use Rattle.ktm_core.specs.Logs.{IsSafeFor, JournalFor, PagedFor, StandsFor, bytes_seen}
use Rattle.ktm_slots.specs.Owed.{owed_slots}
use Rattle.ktm_standing.specs.Laws.{FreshLaw, KeptLaw, StandingLaw}
use Rattle.ktm_standing.specs.Standing.{IsStandingNow, fresh}
use Rattle.ktm_store.specs.Store.{IsHeldAt, IsStoredAt, PoolState, page_at}
use Rattle.ktm_store.specs.Pool.{Shows}
use Rattle.ktm_store.proofs.offered.Holding.{held-page}
use Rattle.ktm_world.specs.Sizes.{area_len}
use Rattle.ktm_world.specs.Durable.{Durable, is_worn, stand}
use Rattle.ktm_world.specs.Logs.{Group}
use Rattle.ktm_world.specs.Present.{Present}
use Rattle.ktm_world.specs.World.{in_doubt, opened, own_group}
use Rattle.ktm_world.proofs.offered.Durables.{after_events-units}
use Rattle.txf_volume.specs.Held.{files_of}
use Rattle.ktm_kernel.specs.Begun.{IsBegun}
use Rattle.ktm_kernel.specs.Buffers.{BuffersState, KeepBuffers}
use Rattle.ktm_kernel.specs.Restarts.{FoundBad, FoundWorn, IsFreshlyCounted, IsStarted, IsUnpowered, IsUnwritten, IsWorn, LeavesOwnOrNot, MayOpen, NoStartLeaves, Started}
use Rattle.ktm_kernel.specs.declared.restart.Restarted.{Restarted}
use Rattle.ktm_kernel.specs.declared.restart.RestartFault.{RestartFault}
use Rattle.ktm_kernel.specs.Stands.{IsCoreReady, KernelAt, KernelState, core_on, kernel_of}
use Rattle.ktm_kernel.proofs.Sizes.{more_calls}
use Rattle.ktm_kernel.proofs.InBytes.{doubts-mapped, fresh-mapped, started-mapped, texts-mapped}

-- ---- what was loaded, and what is to start from it

-- the list of a start has room for whatever the log has room for
pub roomy_begun : (loaded : Loaded) (events : EventsState) (m : MemoryState) → loaded.journal.units ≤ MOST_UNITS → Begun loaded events m → IsRoomy m.journal events
roomy_begun loaded events m most begun = subst (λ (j : JournalState). IsRoomy j events) (sym begun.journal) (record { most = most; room = omega (arith, begun.lists.room) })

-- the disk has the image of its journal
pub headed_begun : (loaded : Loaded) (events : EventsState) (m : MemoryState) (told : Option DiskState) → Begun loaded events m → IfSome told (λ s. IsHeaded loaded.journal.units loaded.journal.image loaded.journal.selector s.seen)
    → IfSome told (λ s. IsHeaded m.journal.units m.journal.image m.journal.selector s.seen)
headed_begun loaded events m told begun headed = subst (λ (j : JournalState). IfSome told (λ s. IsHeaded j.units j.image j.selector s.seen)) (sym begun.journal) headed

-- a journal of as many units has room for as much
pub roomy_then : (j k : JournalState) (events : EventsState) → k.units ≡ j.units → IsRoomy j events → IsRoomy k events
roomy_then j k events units roomy = record { most = omega (arith, units, roomy.most); room = omega (arith, ap area_len units, roomy.room) }

-- ---- states of bytes, and the places that they are on

-- bytes are an image of one state over places at most
abbrev pub PlacesLaw : Type 0
PlacesLaw = (a b : Durable) (bytes : List ℕ) → PagedFor a bytes → PagedFor b bytes → a ≡ b

-- a safe disk has this state over places, and the other one is that with the bytes on its pages
record IsRead (places state : Durable) (s : DiskState) : Type 0 where
  safe : IsSafe s
  paged : PagedFor places s.seen
  is : state ≡ bytes_seen s.seen places

-- the state for which a safe disk stands is that of the places that were read
read_is : PlacesLaw → (places state : Durable) (told : Option DiskState) → IfSome told (λ s. PagedFor places s.seen) → IsSomeAnd told (IsSafeFor state) → IsSomeAnd told (IsRead places state)
read_is law places state None paged safe = absurd safe
read_is law places state (Some s) paged safe = record {
  safe = safe.0;
  paged = paged;
  is = safe.1.is ∙ ap (bytes_seen s.seen) (law safe.1.places places s.seen safe.1.paged paged);
}

-- it has some byte for each place
read_by : (places state : Durable) (told : Option DiskState) → IsSomeAnd told (IsRead places state) → (f : ℕ → ℕ) × IsBlank f × (state ≡ mapped_durable f places)
read_by places state None read = absurd read
read_by places state (Some s) read = (byte_at (row_of places.units s.seen), refl, read.is)

-- the pages of an image, one behind another, are as long as they are many
row-long : (units : ℕ) (bytes : List ℕ) → image_len units ≤ length bytes → length (row_of units bytes) ≡ page_count units * UNIT_BYTES
row-long units bytes long = omega (arith, long, length-take (UNIT_BYTES * page_count units) (drop (pages_at units) bytes), length-drop (pages_at units) bytes)

-- a row that the pages show has the bytes of the state, and the disk has all that was recorded
record HasRow (m : MemoryState) (pool : PoolState) (state : Durable) (now : Option DiskState) : Type 0 where
  row : List ℕ
  shows : Shows pool row
  bytes : mapped_present (byte_at row) (present_of m) ≡ fresh state
  disk : IsSomeAnd now (HoldsPlaces (core_on (kernel_of m pool) row))

-- what a disk may leave whose pages stay is what the places are in bytes
leaves-bytes : MappedLaw → (units : ℕ) (places state : Durable) → units ≡ places.units → (told now : Option DiskState) → IsSomeAnd told (IsRead places state) → IsSomeAnd now (LeavesPlaces places) → Goes (LeavesPages units) told now
    → IsSomeAnd now (LeavesOwnOrNot state)
leaves-bytes law units places state same None now read leaves pages = absurd read
leaves-bytes law units places state same (Some s) None read leaves pages = absurd leaves
leaves-bytes law units places state same (Some s) (Some t) read leaves pages = λ image may.
    let row : row_of places.units s.seen ≡ row_of places.units image = sym (subst (λ u. row_of u image ≡ row_of u s.seen) same (pages image may)) in
    let f : ℕ → ℕ = byte_at (row_of places.units s.seen) in
    elim (leaves image may) [
      | inl first ↦ inl (record { places = places; paged = first; is = read.is ∙ ap (λ (l : List ℕ). mapped_durable (byte_at l) places) row })
      | inr then ↦ inr (
        ap is_worn read.is ∙ then.0,
        record {
          places = what_starts places;
          paged = then.1;
          is = ap what_starts read.is ∙ started-mapped f refl law places
              ∙ ap (λ (l : List ℕ). mapped_durable (byte_at l) (what_starts places)) (row ∙ ap (λ u. row_of u image) (sym (after_events-units places (own_group places))));
        },
      )
    ]

-- what a disk that nothing was written to may leave
unwritten_leaves : (state : Durable) (told : Option DiskState) → IsSomeAnd told (IsSafeFor state) → IsSomeAnd told (LeavesOwnOrNot state)
unwritten_leaves state told holds =
    IsSomeAnd-map told (IsSafeFor state) (LeavesOwnOrNot state) holds (λ s held bytes may. inl (subst (λ (l : List ℕ). StandsFor state l) (sym ((safe_law s bytes held.0).0 may)) held.1))

-- ---- a load

module _ {Z : Type 0} (most : ℕ) (old mid : OnDisk (Vec ℕ Z)) (loaded : Loaded) (is : IsLoaded most old mid loaded) where
  -- the buffer has room for whatever the log has room for
  pub reserved : area_len loaded.journal.units ≤ vec_capacity mid.it
  reserved = omega (arith, ap area_len is.journal.units, ap (λ (a : Area). a.len) is.journal.area, is.room)

  pub small : loaded.journal.units ≤ MOST_UNITS
  small = omega (arith, is.journal.units, is.state.most)

  -- the disk stands for a state that is worn or is not
  pub found_state : MappedLaw → (worn : Bool) → is_worn loaded.state ≡ worn → IfSome old.told (IsWorn worn)
  found_state law worn test = IfSome-map old.told (λ s. PagedFor loaded.state s.seen) (IsWorn worn) is.stands (λ s paged. (
    bytes_seen s.seen loaded.state,
    record { places = loaded.state; paged = paged; is = refl },
    record { good = (law (byte_at (row_of loaded.state.units s.seen)) refl).2.good loaded.state is.state.good; small = is.state.most; applies = refl },
    test,
  ))

  -- nothing was written, and the buffers lost no memory
  pub unwritten : (a b : BuffersState) → KeepBuffers a b → IsUnwritten (on a old.told old.status) (on b mid.told mid.status)
  unwritten a b kept = record { told = is.read.reads.reads.same; pending = is.read.reads.reads.pending; kept = kept }

  pub found_worn : MappedLaw → (a b : BuffersState) → KeepBuffers a b → is_worn loaded.state ≡ true → FoundWorn (on a old.told old.status) (on b mid.told mid.status)
  found_worn law a b kept worn = record { found = found_state law true worn; unwritten = unwritten a b kept }

  -- what the disk told before the load
  read_state : PlacesLaw → (state : Durable) → IsSomeAnd old.told (IsSafeFor state) → IsSomeAnd mid.told (IsRead loaded.state state)
  read_state law state safe = subst (λ (t : Option DiskState). IsSomeAnd t (IsRead loaded.state state)) (sym is.read.reads.reads.same) (read_is law loaded.state state old.told is.stands safe)

  module _ (unworn : is_worn loaded.state ≡ false) (events : EventsState) (m : MemoryState) (begun : Begun loaded events m) where
    pub on_start : IsOnStart loaded.state m events
    on_start = record {
      may = is.state;
      unworn = unworn;
      journal = subst (λ (j : JournalState). IsJournalOf loaded.state j) (sym begun.journal) is.journal;
      shows = begun.shows;
      lists = subst (λ (j : JournalState). ListsStart loaded.state j.units events) (sym begun.journal) begun.lists;
    }

    -- its image has so many units
    units_of_state : m.journal.units ≡ loaded.state.units
    units_of_state = on_start.journal.units

    -- its files are sound
    pub sound_begun : AreSoundFiles (page_count m.journal.units) (files_of m.files)
    sound_begun =
        subst (λ n. AreSoundFiles (page_count n) (files_of m.files)) (sym units_of_state)
        (subst (AreSoundFiles (page_count loaded.state.units)) (sym begun.shows.files) begun.sound)

    -- the journal comes to the state, where the disk is safe
    knows : PlacesLaw → (state : Durable) → IsSomeAnd old.told (IsSafeFor state) → IsSomeAnd mid.told (JournalFor m.journal loaded.state)
    knows law state safe =
        subst (λ (j : JournalState). IsSomeAnd mid.told (JournalFor j loaded.state)) (sym begun.journal)
        (is.knows loaded.state (IsSomeAnd-map old.told (IsRead loaded.state state) (λ s. IsSafe s × PagedFor loaded.state s.seen) (read_is law loaded.state state old.told is.stands safe) (λ s read. (read.safe, read.paged))))

    -- it takes no more device calls than those of any image ask for
    pub all_calls : (t : DiskStatus) (refused : Bool) → most ≤ log_reads MOST_UNITS + 5 → DeviceCalls 6 mid.status t refused → DeviceCalls (2 * MOST_UNITS + 27) old.status t refused
    all_calls t refused few calls =
        more_calls (most + 6) (2 * MOST_UNITS + 27) old.status t refused (omega (arith, few)) (calls_law old.status mid.status t most 6 refused is.read.reads.reads.calls calls)

    -- the start was recorded
    module _ (new : OnDisk BuffersState) (n : MemoryState) (pool : PoolState) (b : IsBegun events (on m mid.told mid.status) (on n new.told new.status) pool) where
      -- over the places
      places_now : present_of n ≡ fresh loaded.state
      places_now = b.leaves.now loaded.state on_start

      same_files : files_of n.files ≡ files_of m.files
      same_files = ap (λ (k : MemoryState). files_of k.files) b.leaves.journal

      held_then : AreFilesHeld pool (files_of n.files)
      held_then = subst (AreFilesHeld pool) (sym same_files) b.held

      count_then : length pool.marks.held ≡ page_count n.journal.units
      count_then = b.count ∙ ap page_count (sym b.leaves.units)

      -- pages that are held are stored, as all are
      stored_recorded : ArePlacesStored pool.stored (present_of n).recorded
      stored_recorded =
          recorded-each (λ file index place. IsStoredAt pool.stored place) (held n)
          (files-weaker (λ file index place. IsHeldAt pool.marks place) (λ file index place. IsStoredAt pool.stored place)
          (λ file index place held some. b.stored (page_at place) (held-page pool.marks.held (page_at place) (held some))) (files_of n.files) held_then)

      -- the row of a disk that tells has all that the machine recorded, and the bytes of the state
      row_then : FreshLaw → AlikeLaw → (state : Durable) (told now : Option DiskState) → IsSomeAnd told (IsRead loaded.state state) → Goes (KeepsPages m.journal.units) told now
          → IfSome now (λ s. IsHeaded n.journal.units n.journal.image n.journal.selector s.seen) → IsSomeAnd now (JournalFor n.journal (what_starts loaded.state)) → HasRow n pool state now
      row_then begins alike state None now read keeps headed journal = absurd read
      row_then begins alike state (Some s) None read keeps headed journal = absurd keeps
      row_then begins alike state (Some s) (Some t) read keeps headed journal =
          let row : List ℕ = row_of n.journal.units t.seen in
          let same : row ≡ row_of loaded.state.units s.seen = ap (λ u. row_of u t.seen) b.leaves.units ∙ keeps ∙ ap (λ u. row_of u s.seen) units_of_state in
          record {
            row = row;
            shows = b.shows row (row-long n.journal.units t.seen headed.long ∙ ap (λ pages. pages * UNIT_BYTES) (sym count_then));
            bytes = ap (λ (l : List ℕ). mapped_present (byte_at l) (present_of n)) same
                ∙ ap (mapped_present (byte_at (row_of loaded.state.units s.seen))) places_now
                ∙ sym (fresh-mapped (byte_at (row_of loaded.state.units s.seen)) refl alike begins loaded.state)
                ∙ ap fresh (sym read.is);
            disk = record { journal = subst (λ (x : Present). JournalFor n.journal x.recorded t) (sym places_now) journal; pages = λ page stored. refl; stored = stored_recorded };
          }

      -- what the machine holds
      standing_then : FreshLaw → IsStandingNow (present_of n)
      standing_then begins = subst IsStandingNow (sym places_now) (begins.stands loaded.state is.state.good is.state.texts is.state.most unworn)

      slots_then : owed_slots (present_of n) ≤ n.tm.slots
      slots_then =
          subst (λ (x : Present). owed_slots x ≤ n.tm.slots) (sym places_now)
          (subst (λ slots. owed_slots (fresh loaded.state) ≤ slots) (sym (ap (λ (k : MemoryState). k.tm.slots) b.leaves.journal)) begun.slots)

      -- its log has room for what transactions may still record
      room_left : FreshLaw → KeptLaw → DebtsLaw → debts (present_of n) + 1 ≤ log_left n.journal
      room_left begins keeps owes = omega (arith, owes.most (present_of n) (keeps (present_of n) (standing_then begins)), b.leaves.left)

      sound_then : AreSoundFiles (page_count n.journal.units) (files_of n.files)
      sound_then =
          subst (λ u. AreSoundFiles (page_count u) (files_of n.files)) (sym b.leaves.units)
          (subst (AreSoundFiles (page_count m.journal.units)) (sym same_files) sound_begun)

      core_ready : FreshLaw → KeptLaw → DebtsLaw → IsCoreReady (kernel_of n pool) new.told new.status
      core_ready begins keeps owes = record {
        ready = λ row. record {
          powered = record { power = λ up. b.leaves.synced.up; settled = λ up. b.leaves.synced.pending; image = λ up. b.leaves.headed; wanted = λ up. b.wanted };
          standing = standing_then begins;
          slots = slots_then;
          room = room_left begins keeps owes;
        };
        count = count_then;
        sound = sound_then;
        held = held_then;
      }

      module _ (r : Restarted) (kernel : r.kernel ≡ kernel_of n pool) (states : PlacesLaw) (mapped : MappedLaw) (alike : AlikeLaw) (begins : FreshLaw) (keeps : KeptLaw) (owes : DebtsLaw) where
        -- the machine is this one
        by_machine : (P : KernelState → Type 0) → P (kernel_of n pool) → P r.kernel
        by_machine P there = subst P (sym kernel) there

        starts : StandingLaw → r.events ≡ loaded.state.events → r.in_doubt ≡ length (in_doubt loaded.state) → (base : Durable) (log : List Group) → MayOpen base log → IsSomeAnd old.told (IsSafeFor (stand base log))
            → Started base log r.kernel r.events r.in_doubt new.told
        starts law count doubts base log may safe =
            let read = read_state states (stand base log) safe in
            let (g, blank, same) = read_by loaded.state (stand base log) mid.told read in
            let fine : is_worn (stand base log) ≡ false = ap is_worn same ∙ unworn in
            let has = row_then begins alike (stand base log) mid.told new.told read b.leaves.pages b.leaves.headed (b.leaves.disk loaded.state on_start (knows states (stand base log) safe)) in
            record {
              unworn = fine;
              stands = by_machine (λ k. KernelAt k new.told (opened base log)) (
                has.row,
                has.shows,
                record {
                  is = refl;
                  now = has.bytes ∙ sym (begins.opens base log);
                  standing = law.restarts base log may.good may.small may.applies (subst AreRecordedTexts (sym same) (texts-mapped g loaded.state is.state.texts)) fine;
                  disk = has.disk;
                },
              );
              events_are = count ∙ ap (λ (d : Durable). d.events) (sym same);
              in_doubt_are = doubts ∙ sym (doubts-mapped g loaded.state) ∙ ap (λ (d : Durable). length (in_doubt d)) (sym same);
            }

        pub restarted : StandingLaw → SpellingLaw → r.events ≡ loaded.state.events → r.in_doubt ≡ length (in_doubt loaded.state) → (a : BuffersState) → IsStarted (on a old.told old.status) new r
        restarted law spelling count doubts a = record {
          starts = starts law count doubts;
          ready = record {
            powered = record {
              power = λ up. b.leaves.synced.up;
              settled = λ up. b.leaves.synced.pending;
              image = λ up. by_machine (λ k. IfSome new.told (λ s. IsHeaded k.journal.units k.journal.image k.journal.selector s.seen)) b.leaves.headed;
            };
            slots = λ up. by_machine (λ k. owed_slots k.now ≤ k.slots) slots_then;
            core = λ up. by_machine (λ k. IsCoreReady k new.told new.status) (core_ready begins keeps owes);
          };
          up = by_machine (λ k. k.now.machine.is_up ≡ true) (ap (λ (x : Present). x.machine.is_up) places_now);
          counts = by_machine (λ k. IsFreshlyCounted k.now) (subst IsFreshlyCounted (sym places_now) (own-counts spelling loaded.state is.state.good unworn));
          found = found_state mapped false unworn;
        }

    -- it was not
    pub not_restarted : PlacesLaw → MappedLaw → (a : BuffersState) (new : OnDisk BuffersState) (n : MemoryState) → IsNotRecorded events (on m mid.told mid.status) (on n new.told new.status) → KeepBuffers a new.it
        → IsUnpowered (on a old.told old.status) new
    not_restarted states law a new n unrecorded kept = record {
      leaves = λ state safe.
          let left = unrecorded.disk loaded.state on_start (knows states state safe) in
          leaves-bytes law m.journal.units loaded.state state units_of_state mid.told new.told (read_state states state safe) left.0 left.1;
      kept = kept;
    }

-- ---- a load that gives no state

-- the buffers, of which the one was read into
abbrev buffers_of : {Z : Type 0} → Vec ℕ Z → ℕ → BuffersState
buffers_of v snapshot = record { log = vec_capacity v; snapshot = snapshot }

module _ {Z : Type 0} (most : ℕ) (old new : OnDisk (Vec ℕ Z)) (snapshot : ℕ) where
  kept_read : vec_capacity old.it ≤ vec_capacity new.it → KeepBuffers (buffers_of old.it snapshot) (buffers_of new.it snapshot)
  kept_read kept = record { log = kept; snapshot = omega arith }

  -- the disk went down
  pub unloaded : ReadsInto most old new true → IsUnpowered (on (buffers_of old.it snapshot) old.told old.status) (on (buffers_of new.it snapshot) new.told new.status)
  unloaded reads = record { leaves = λ state safe. rw reads.reads.same (unwritten_leaves state old.told safe); kept = kept_read reads.kept }

  -- out of memory
  pub not_loaded : ReadsInto most old new false → IsUnwritten (on (buffers_of old.it snapshot) old.told old.status) (on (buffers_of new.it snapshot) new.told new.status)
  not_loaded reads = record { told = reads.reads.same; pending = reads.reads.pending; kept = kept_read reads.kept }

  -- the image is bad
  pub badly_loaded : (offset : ℕ) → IsBadImage most old new offset → FoundBad (on (buffers_of old.it snapshot) old.told old.status) (on (buffers_of new.it snapshot) new.told new.status) offset
  badly_loaded offset is = record { bad = is.bad; unwritten = not_loaded is.read.reads }

-- ---- buffers

-- where a machine did not start, they lost no memory
pub kept_by : (old new : OnDisk BuffersState) (fault : RestartFault) → NoStartLeaves old new fault → KeepBuffers old.it new.it
kept_by old new RestartFault.Down leaves = leaves.kept
kept_by old new (RestartFault.Bad offset) leaves = leaves.unwritten.kept
kept_by old new RestartFault.Worn leaves = leaves.unwritten.kept
kept_by old new RestartFault.NoMemory leaves = leaves.kept
