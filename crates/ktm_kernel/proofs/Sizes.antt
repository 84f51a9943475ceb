-- What is recorded of bytes takes as many device calls as what is recorded of their places.
use Rattle.std.proofs.Common.{◌≡◌, ℕ, ◌+◌, ◌*◌, ◌/◌, ◌≤◌, ◌||◌, nat_lt, Bool, true, false, List, [], ◌∷◌, length, map, refl, sym, ◌∙◌, ap, subst, arith, inl, inr}
use Rattle.std.specs.Prelude.{min, sum_by, if◌then◌else◌}
use Rattle.std.proofs.Math.Nat.{le-min, min-le_left, min-le_right}
use Rattle.std.proofs.lemmas.Bool.{cases_Bool}
use Rattle.std.proofs.lemmas.List.{length-map}
use Rattle.std.proofs.lemmas.List.Sums.{sum_by-cons}
use Rattle.ktm_base.specs.Disk.{DeviceCalls, DiskStatus}
use Rattle.ktm_core.specs.Core.{log_left}
use Rattle.ktm_core.specs.Debts.{most_debts}
use Rattle.ktm_core.specs.Done.{lacks_room, most_calls as most_core_calls, page_calls, waiting_calls}
use Rattle.ktm_alike.proofs.offered.Files.{bytes_of-mapped}
use Rattle.ktm_alike.specs.Alike.{mapped_present}
use Rattle.ktm_journal.specs.Image.{JournalState, page_count}
use Rattle.ktm_mapped.specs.Mapped.{mapped_change, mapped_contents, mapped_event, mapped_group, mapped_part}
use Rattle.ktm_core.specs.Stored.{units_of_change, units_put}
use Rattle.txf_laws.specs.Grammatical.{changes_of_event}
use Rattle.ktm_world.specs.Groups.{Group}
use Rattle.ktm_world.specs.Sizes.{change_size, event_size, frame_size, part_size, put_size}
use Rattle.ktm_world.specs.declared.change.Change.{Change}
use Rattle.ktm_world.specs.declared.change.Change.TheVariants.{Make, Put, Cut, Move, Drop}
use Rattle.ktm_world.specs.declared.change.Contents.{Contents}
use Rattle.ktm_world.specs.declared.change.Contents.TheVariants.{Whole, Paged}
use Rattle.ktm_world.specs.declared.event.Event.{Event}
use Rattle.ktm_world.specs.declared.event.Event.TheVariants.{Boot, MadeRm, Plain, Ready, Single, Held, Decide, Undo}
use Rattle.ktm_world.specs.declared.event.Part.{Part}
use Rattle.ktm_world.specs.declared.event.Part.TheVariants.{Enlistment, Changes, Settings}
use Rattle.ktm_units.specs.Units.{AreEventsSame}
use Rattle.ktm_paged.specs.Meaning.{first_unit, size_before, units_from}
use Rattle.ktm_world.specs.Changes.{node_of}
use Rattle.ktm_world.specs.Tree.{bytes_of}
use Rattle.ktm_world.specs.Durable.{changes_in}
use Rattle.ktm_world.specs.Present.{Present}
use Rattle.ktm_kernel.specs.Done.{is_write, most_calls, units_touched, units_written}

-- more calls are allowed
pub more_calls : (few most : ℕ) (old new : DiskStatus) (refused : Bool) → few ≤ most → DeviceCalls few old new refused → DeviceCalls most old new refused
more_calls few most old new refused more calls = record { later = calls.later; counted = calls.counted; few = omega (arith, more, calls.few); cause = calls.cause; down = calls.down; plan = calls.plan; places = calls.places }

-- more units take no fewer calls
pages-more : (a b most : ℕ) → a ≤ b → page_calls (min a most) ≤ page_calls (min b most)
pages-more a b most more =
    let least = min-le_left a most in
    let last = min-le_right a most in
    let less : min a most ≤ b = omega (arith, least, more) in
    let both = le-min less last in
    omega (arith, both)

-- a sum of what stays in each thing
sum-mapped : {X : Type 0} (size : X → ℕ) (g : X → X) → ((x : X) → size (g x) ≡ size x) → (xs : List X) → sum_by size (map g xs) ≡ sum_by size xs
sum-mapped size g same [] = refl
sum-mapped size g same (x ∷ xs) = sum_by-cons size (g x) (map g xs) ∙ (λ i. same x i + sum-mapped size g same xs i) ∙ sym (sum_by-cons size x xs)

module _ (f : ℕ → ℕ) where
  -- ---- nothing

  -- what records nothing of the bytes records nothing of the places
  pub no-events : (events asked : Group) → AreEventsSame f events asked → asked ≡ [] → events ≡ []
  no-events [] asked are none = refl
  no-events (e ∷ es) asked (inl is) none = (let more = sym is ∙ none in absurd (cc))
  no-events (e ∷ es) asked (inr writes) none = (let more = sym writes.asked_are ∙ none in absurd (cc))

  -- ---- sizes

  put-same : (contents : Contents) → put_size (mapped_contents f contents) ≡ put_size contents
  put-same (Whole bytes) = ap (λ n. 8 + 4 * ((n + 4095) / 4096)) (length-map bytes f)
  put-same (Paged len pages) = refl

  change-same : (c : Change) → change_size (mapped_change f c) ≡ change_size c
  change-same (Make node parent kind name) = refl
  change-same (Put node offset contents) = ap (λ n. 17 + n) (put-same contents)
  change-same (Cut node size pages) = refl
  change-same (Move node parent name) = refl
  change-same (Drop node) = refl

  part-same : (part : Part) → part_size (mapped_part f part) ≡ part_size part
  part-same (Enlistment enlistment manager information) = refl
  part-same (Changes cs) = ap (λ n. 5 + n) (sum-mapped change_size (mapped_change f) change-same cs)
  part-same (Settings settings) = refl

  event-same : (e : Event) → event_size (mapped_event f e) ≡ event_size e
  event-same (Boot boot) = refl
  event-same (MadeRm manager) = refl
  event-same (Plain change) = ap (λ n. 1 + n) (change-same change)
  event-same (Ready transaction part) = ap (λ n. 9 + n) (part-same part)
  event-same (Single transaction part) = ap (λ n. 9 + n) (part-same part)
  event-same (Held transaction enlistment manager information) = refl
  event-same (Decide transaction) = refl
  event-same (Undo transaction) = refl
  event-same (Event.Done transaction done) = refl

  frame-same : (events : Group) → frame_size (mapped_group f events) ≡ frame_size events
  frame-same events = ap (λ n. 5 + (4 + n)) (sum-mapped event_size (mapped_event f) event-same events)

  -- ---- units

  units-same : (c : Change) → units_of_change (mapped_change f c) ≡ units_of_change c
  units-same (Make node parent kind name) = refl
  units-same (Put node offset (Whole bytes)) = ap units_of_length (length-map bytes f)
    where
      units_of_length : ℕ → ℕ
      units_of_length n = (n + 4095) / 4096
  units-same (Put node offset (Paged len pages)) = refl
  units-same (Cut node size pages) = refl
  units-same (Move node parent name) = refl
  units-same (Drop node) = refl

  part-units : (part : Part) → sum_by units_of_change (changes_in (mapped_part f part)) ≡ sum_by units_of_change (changes_in part)
  part-units (Enlistment enlistment manager information) = refl
  part-units (Changes cs) = sum-mapped units_of_change (mapped_change f) units-same cs
  part-units (Settings settings) = refl

  event-units : (e : Event) → sum_by units_of_change (changes_of_event (mapped_event f e)) ≡ sum_by units_of_change (changes_of_event e)
  event-units (Plain change) = ap (λ n. 0 + n) (units-same change)
  event-units (Ready transaction part) = part-units part
  event-units (Single transaction part) = part-units part
  event-units (Boot boot) = refl
  event-units (MadeRm manager) = refl
  event-units (Held transaction enlistment manager information) = refl
  event-units (Decide transaction) = refl
  event-units (Undo transaction) = refl
  event-units (Event.Done transaction done) = refl

  group-units : (events : Group) → units_put (mapped_group f events) ≡ units_put events
  group-units events = sum-mapped (λ event. sum_by units_of_change (changes_of_event event)) (mapped_event f) event-units events

  -- the bytes in the place of the places touch no fewer
  change-touches : (size : ℕ) (c : Change) → units_of_change c ≤ units_touched size (mapped_change f c)
  change-touches size (Put node offset (Whole bytes)) =
      let least = min-le_right size offset in
      let same = length-map bytes f in
      omega (arith, least, same)
  change-touches size c = omega arith

  pub group-writes : (x : Present) (events : Group) → units_put events ≤ units_written x (mapped_group f events)
  group-writes x [] = omega arith
  group-writes x (Plain c ∷ []) = let few = change-touches (size_before x.files.tree (mapped_change f c)) c in omega (arith, few)
  group-writes x (e ∷ es) = let same = group-units (e ∷ es) in omega (arith, same)

  -- ---- device calls

  lacks-same : (journal : JournalState) (events : Group) → lacks_room journal (mapped_group f events) ≡ lacks_room journal events
  lacks-same journal [] = refl
  lacks-same journal (e ∷ es) = ap (λ n. nat_lt (log_left journal) (n + most_debts journal.units + 1)) (frame-same (e ∷ es))

  -- what is recorded of the bytes takes no more
  most-enough : (completing writing more : Bool) (writes : writing ≡ true → more ≡ true) (x : Present) (journal : JournalState) (events asked : Group) → AreEventsSame f events asked → units_put events ≤ units_written x asked
      → most_core_calls completing writing journal events ≤ most_calls completing more x journal asked
  most-enough completing writing more writes x journal events asked same few =
      let pages = pages-more (units_put events) (units_written x asked) (page_count journal.units) few in
      let logs = log-more completing journal events asked same in
      let waits = waiting-more writing more writes journal.units events asked same in
      omega (arith, pages, logs, waits)
    where
      log-more : (completing : Bool) (journal : JournalState) (events asked : Group) → AreEventsSame f events asked
          → (if completing then 4 else if lacks_room journal events then 10 else 4) ≤ (if completing then 4 else if is_write asked || lacks_room journal asked then 10 else 4)
      log-more true journal events asked same = omega arith
      log-more false journal events asked same = elim (cases_Bool (is_write asked)) [
        | inl write ↦ rw write (most-of (lacks_room journal events))
        | inr other ↦ rw other (elim same [
          | inl is ↦ rw (ap (lacks_room journal) is ∙ lacks-same journal events) (omega arith)
          | inr writes ↦ (let e : true ≡ false = sym writes.second ∙ sym (ap is_write writes.asked_are) ∙ other in absurd (cc))
        ])
      ]
        where
          most-of : (b : Bool) → (if b then 10 else 4) ≤ 10
          most-of true = omega arith
          most-of false = omega arith

      waiting-more : (writing more : Bool) → (writing ≡ true → more ≡ true) → (units : ℕ) (events asked : Group) → AreEventsSame f events asked → waiting_calls writing units events ≤ waiting_calls more units asked
      waiting-more writing more writes units (e ∷ es) asked same = omega arith
      waiting-more writing more writes units [] asked (inr are) = (let e = are.events_are in absurd (cc))
      waiting-more writing more writes units [] asked (inl is) = rw is (go writing more writes)
        where
          go : (writing more : Bool) → (writing ≡ true → more ≡ true) → (if writing then page_calls (page_count units) else 0) ≤ (if more then page_calls (page_count units) else 0)
          go false more writes = omega arith
          go true true writes = omega arith
          go true false writes = (let e : false ≡ true = writes refl in absurd (cc))

  -- with the bytes replaced it takes as many
  written-same : (x : Present) (events : Group) → units_written (mapped_present f x) (mapped_group f events) ≡ units_written x events
  written-same x [] = refl
  written-same x (Plain c ∷ []) = ap (λ n. units_touched n (mapped_change f c)) (size-same c) ∙ touched-same (size_before x.files.tree c) c
    where
      size-same : (c : Change) → size_before (mapped_present f x).files.tree (mapped_change f c) ≡ size_before x.files.tree c
      size-same c = ap (λ n. length (bytes_of (mapped_present f x).files.tree n)) (node-same c) ∙ ap length (bytes_of-mapped f x.files.tree (node_of c)) ∙ length-map (bytes_of x.files.tree (node_of c)) f
        where
          node-same : (c : Change) → node_of (mapped_change f c) ≡ node_of c
          node-same (Make node parent kind name) = refl
          node-same (Put node offset contents) = refl
          node-same (Cut node size pages) = refl
          node-same (Move node parent name) = refl
          node-same (Drop node) = refl

      touched-same : (n : ℕ) (c : Change) → units_touched n (mapped_change f c) ≡ units_touched n c
      touched-same n (Put node offset (Whole bytes)) = ap (λ m. units_from (first_unit n offset) (offset + m)) (length-map bytes f)
      touched-same n (Put node offset (Paged len pages)) = refl
      touched-same n (Make node parent kind name) = refl
      touched-same n (Cut node size pages) = refl
      touched-same n (Move node parent name) = refl
      touched-same n (Drop node) = refl
  written-same x (e ∷ es) = group-units (e ∷ es)

  write-same : (events : Group) → is_write (mapped_group f events) ≡ is_write events
  write-same [] = refl
  write-same (Plain (Put node offset contents) ∷ []) = refl
  write-same (Plain (Make node parent kind name) ∷ []) = refl
  write-same (Plain (Cut node size pages) ∷ []) = refl
  write-same (Plain (Move node parent name) ∷ []) = refl
  write-same (Plain (Drop node) ∷ []) = refl
  write-same (e ∷ es) = refl

  waiting-same : (writing : Bool) (units : ℕ) (events : Group) → waiting_calls writing units (mapped_group f events) ≡ waiting_calls writing units events
  waiting-same writing units [] = refl
  waiting-same writing units (e ∷ es) = refl

  most-same : (completing writing : Bool) (x : Present) (journal : JournalState) (events : Group) → most_calls completing writing (mapped_present f x) journal (mapped_group f events) ≡ most_calls completing writing x journal events
  most-same completing writing x journal events = λ i.
      page_calls (min (written-same x events i) (page_count journal.units)) + (if completing then 4 else if write-same events i || lacks-same journal events i then 10 else 4) + waiting-same writing journal.units events i

  -- so what is recorded of places takes no more than what is recorded of others in their place
  pub calls-over : (completing writing more : Bool) (writes : writing ≡ true → more ≡ true) (x : Present) (journal : JournalState) (events asked : Group) → AreEventsSame f events (mapped_group f asked)
      → units_put events ≤ units_written (mapped_present f x) (mapped_group f asked) → most_core_calls completing writing journal events ≤ most_calls completing more x journal asked
  calls-over completing writing more writes x journal events asked same few =
      subst (λ n. most_core_calls completing writing journal events ≤ n) (most-same completing more x journal asked) (most-enough completing writing more writes (mapped_present f x) journal events (mapped_group f asked) same few)
