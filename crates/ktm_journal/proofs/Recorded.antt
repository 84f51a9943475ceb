-- What an append to the log says of the journal.
use Rattle.std.specs.Prelude.{IfSome}
use Rattle.std.proofs.Common.{◌≡◌, ℕ, ◌+◌, ◌-◌, ◌<◌, ◌≤◌, true, false, Err, Option, List, [], ◌∷◌, length, refl, sym, ◌∙◌, ap, arith}
use Rattle.std.proofs.lemmas.Bool.Decides.{nat_tests}
use Rattle.ktm_base.specs.Disk.{DiskState, DiskStatus}
use Rattle.ktm_event.specs.Kept.{EventsState, Holds}
use Rattle.ktm_log.specs.Append.{AppendLeaves, Appends, HasRoom}
use Rattle.ktm_log.specs.declared.fault.AppendFault.{AppendFault}
use Rattle.ktm_log.specs.declared.fault.AppendFault.TheVariants.{Down, Full}
use Rattle.ktm_log.specs.Log.{LogState}
use Rattle.ktm_log.specs.OnDisk.{OnDisk, on}
use Rattle.ktm_log.specs.Settle.{IsBodyOf}
use Rattle.ktm_world.specs.EventGrammar.{IsGroupOf}
use Rattle.ktm_world.specs.Sizes.{frame_size}
use Rattle.ktm_world.specs.Groups.{Group, is_full}
use Rattle.ktm_journal.specs.Append.{RecordLeaves, Records, has_no_room, with_group}
use Rattle.ktm_journal.specs.Image.{IsHeaded, JournalState, half_of, log_area}
use Rattle.ktm_journal.proofs.offered.Images.{group_added, group_or_not, keeps_pages, leaves_pages, stays_headed}

-- a group has room where its frame has it
has_room : (len end size : ℕ) (group : Group) → 1 ≤ length group → size ≡ frame_size group → end + size + 1 ≤ len → is_full (len - end) group ≡ false
has_room len end size [] some is room = absurd (omega arith)
has_room len end size (event ∷ events) some is room = grind (arith, nat_tests)

-- a group has no room where its frame has none
no_room : (len end size : ℕ) (group : Group) → 1 ≤ length group → size ≡ frame_size group → len < end + size + 1 → is_full (len - end) group ≡ true
no_room len end size [] some is room = absurd (omega arith)
no_room len end size (event ∷ events) some is room = grind (arith, nat_tests)

-- the frame with this body holds the events, of which there are some
module _ (j : JournalState) (events : EventsState) (body : List ℕ) (some : 1 ≤ events.count) (body_is : IsBodyOf events.payload body) (size : (group : Group) → Holds events group → length body ≡ frame_size group)
    (is_group : (group : Group) → Holds events group → 1 ≤ length group → IsGroupOf group events.payload) where
  some_of : (group : Group) → Holds events group → 1 ≤ length group
  some_of group held = omega (arith, held.counted)

  room_of : HasRoom j.log body → (group : Group) → Holds events group → has_no_room j group ≡ false
  room_of room group held = has_room j.log.area.len j.log.end (length body) group (some_of group held) (size group held) room

  -- a journal has a frame more
  grown : (l : LogState) (group : Group) → Holds events group → l ≡ record j.log { end = j.log.end + length body } → record j { log = l; events = j.events + events.count } ≡ with_group j group
  grown l group held is =
      ap (λ (l : LogState). record j { log = l; events = j.events + events.count }) is
      ∙ ap (λ n. record j { log = record j.log { end = j.log.end + n }; events = j.events + events.count }) (size group held)
      ∙ ap (λ n. record j { log = record j.log { end = j.log.end + frame_size group }; events = j.events + n }) (sym held.counted)

  pub recorded : (l : LogState) (count : ℕ) (o n : Option DiskState) (s t : DiskStatus) → count ≡ j.events + events.count → j.log.area ≡ log_area j.units (half_of j.selector) → IfSome o (λ s. IsHeaded j.units j.image j.selector s.seen)
      → Appends body (on j.log o s) (on l n t) → Records events (on j o s) (on (record j { log = l; events = count }) n t)
  recorded l count o n s t counted area headed appends = record {
    same = record { units = refl; image = refl; selector = refl; area = ap (λ (l : LogState). l.area) appends.log };
    room = room_of appends.room;
    grows = λ group held. ap (λ k. record j { log = l; events = k }) counted ∙ grown l group held appends.log;
    adds = λ snapshot log group held at.
        group_added j snapshot log group events.payload (is_group group held (some_of group held)) l count o n (ap (λ (l : LogState). l.area) appends.log) at
        (λ ps rests. appends.frame ps events.payload body_is rests) appends.elsewhere;
    headed = stays_headed j o n area headed appends.elsewhere;
    pages = keeps_pages j o n area headed appends.elsewhere;
    synced = appends.synced;
  }

  pub unrecorded : (fault : AppendFault) (l : LogState) (o n : Option DiskState) (s t : DiskStatus)
      → AppendLeaves body (on j.log o s) (on l n t) (Err fault) → RecordLeaves events (on j o s) (on (record j { log = l }) n t) (Err fault)
  unrecorded Down l o n s t cut = record {
    same = ap (λ (l : LogState). record j { log = l }) cut.log;
    room = room_of cut.room;
    either = λ snapshot log group held at.
        group_or_not j snapshot log group events.payload (is_group group held (some_of group held)) o n at (λ ps rests. cut.either ps events.payload body_is rests);
    pages = λ snapshot log at. leaves_pages j snapshot log events.payload o n at (λ ps rests. cut.either ps events.payload body_is rests);
    calls = cut.calls;
  }
  unrecorded Full l o n s t full = record {
    room = λ group held. no_room j.log.area.len j.log.end (length body) group (some_of group held) (size group held) full.room;
    same = ap (λ (x : OnDisk LogState). on (record j { log = x.it }) x.told x.status) full.same;
  }
