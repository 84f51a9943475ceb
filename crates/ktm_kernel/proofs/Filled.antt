-- What is read at both ends of what is put, and pages that are filled then.
use Rattle.std.proofs.Common.{◌≡◌, ℕ, ◌-◌, ◌*◌, Bool, true, false, List, [], ◌++◌, length, take, drop, Option, Some, None, Result, Ok, Err, refl, sym, ◌∙◌, ap, subst, arith, inl, inr}
use Rattle.std.specs.Prelude.{min, IfErr, IsErr, IsErrAnd}
use Rattle.std.proofs.Math.Nat.{min-eq_left, min-eq_right}
use Rattle.std.proofs.lemmas.Bool.{cases_lt}
use Rattle.std.proofs.lemmas.List.{drop_min, length-drop, length-map, take_min}
use Rattle.ktm_base.specs.declared.limits.TheConstants.{UNIT_BYTES}
use Rattle.ktm_base.specs.Disk.{DiskState, DiskStatus, OnlyReads}
use Rattle.ktm_base.specs.Laws.{CallsLaw}
use Rattle.ktm_base.proofs.offered.ToldSteps.{IsSomeAnd-map}
use Rattle.ktm_content.specs.Places.{byte_at}
use Rattle.ktm_core.specs.Core.{AreSoundFiles, PagesAgree}
use Rattle.ktm_core.specs.Reading.{Agrees, bytes_read, many_read}
use Rattle.ktm_core.specs.Stored.{AreFilesHeld}
use Rattle.ktm_core.specs.Target.{Target}
use Rattle.ktm_core.specs.declared.reading.ReadFault.{ReadFault}
use Rattle.ktm_core.specs.declared.reading.ReadFault.TheVariants.{Down, NoMemory as OutOfMemory}
use Rattle.ktm_store.specs.Marks.{MarksState, free_ahead, is_held}
use Rattle.ktm_store.specs.Pool.{FilledPages, FillsPages, KeepsAll, Shows, TookPages, kept_at, on_row}
use Rattle.ktm_store.specs.Store.{AreFree, IsTouched, PoolState, bytes_at, touched}
use Rattle.ktm_store.specs.Stored.{is_stored}
use Rattle.ktm_world.specs.Files.{FilesNow}
use Rattle.ktm_world.specs.Outcome.{Outcome}
use Rattle.ktm_world.specs.Present.{Present}
use Rattle.ktm_kernel.specs.Staging.{ComesTo, IsFilled, IsUnfilled, KeepsContents, KeepsMarks, KeepsPlaces, KeepsRows, MayStage, went_down}
use Rattle.ktm_kernel.specs.declared.staging.Staged.{Staged}
use Rattle.ktm_kernel.proofs.Stages.{places-read, places-then, places-took, rows-filled, rows-marked, rows-then}

-- ---- what is read

-- what is left behind an offset is left behind as much of it as there is
minus-min : (m n : ℕ) → n - min m n ≡ n - m
minus-min m n = elim (cases_lt m n) [
  | inl less ↦ ap (λ k. n - k) (min-eq_left (omega (arith, less)))
  | inr more ↦ ap (λ k. n - k) (min-eq_right more) ∙ omega (arith, more)
]

-- the bytes that are read are those from the offset on
read-bytes : (row places : List ℕ) (offset most : ℕ) → bytes_read row places offset most ≡ take most (drop offset (bytes_at row places))
read-bytes row places offset most =
    ap (λ (ys : List ℕ). take (many_read (length places) offset most) ys) (ap (λ n. drop (min offset n) (bytes_at row places)) (sym long) ∙ drop_min offset (bytes_at row places))
    ∙ ap (λ n. take (min most n) (drop offset (bytes_at row places))) (minus-min offset (length places) ∙ ap (λ n. n - offset) (sym long) ∙ sym (length-drop offset (bytes_at row places)))
    ∙ take_min most (drop offset (bytes_at row places))
  where
    long : length (bytes_at row places) ≡ length places
    long = length-map places (byte_at row)

-- put behind none, they are all that is there
pub read-alone : (row places : List ℕ) (offset most : ℕ) (old new : List ℕ) → old ≡ [] → new ≡ old ++ bytes_read row places offset most → new ≡ take most (drop offset (bytes_at row places))
read-alone row places offset most old new none is = is ∙ ap (λ (xs : List ℕ). xs ++ bytes_read row places offset most) none ∙ read-bytes row places offset most

-- ---- pages that came into memory, or went

pub marks-then : (a b c : PoolState) → KeepsMarks a b → KeepsMarks b c → KeepsMarks a c
marks-then a b c first then = record { marks = then.marks ∙ first.marks; stored = then.stored ∙ first.stored; wanted = then.wanted ∙ first.wanted }

-- the disk agrees with a row as before
agrees-read : (units : ℕ) (told : Option DiskState) (old new : PoolState) (row : List ℕ) → KeepsMarks old new → Agrees units old row told → Agrees units new row told
agrees-read units told old new row keeps agrees = IsSomeAnd-map told (PagesAgree units (on_row old row)) (PagesAgree units (on_row new row)) agrees
    (λ s pages page is. pages page (subst (λ (l : List Bool). is_stored l page ≡ true) keeps.stored is))

-- where pages went, and no more
went-marks : (old new : PoolState) → KeepsAll old new → KeepsMarks old new
went-marks old new keeps = record { marks = keeps.marks; stored = keeps.stored; wanted = keeps.wanted }

went-shows : (old new : PoolState) (row : List ℕ) → KeepsAll old new → Shows old row → Shows new row
went-shows old new row keeps shown = record {
  size = shown.size ∙ ap (λ (m : MarksState). length m.held * UNIT_BYTES) (sym keeps.marks);
  bytes = λ page bytes is. elim (keeps.pages page) [
    | inl same ↦ shown.bytes page bytes (sym same ∙ is)
    | inr went ↦ (let none : None ≡ Some bytes = sym went.0 ∙ is in absurd (cc))
  ];
}

-- ---- what is filled

module _ (units : ℕ) (told : Option DiskState) (old mid new : PoolState) (keeps : KeepsMarks old mid) where
  -- what was put once pages were read was put
  took-before : (many : ℕ) (places : List ℕ) (start : ℕ) (part : List ℕ) → TookPages many places mid new start part → TookPages many places old new start part
  took-before many places start part took = record {
    pages = took.pages;
    lie = took.lie;
    once = took.once;
    can = took.can;
    were_free = subst (λ (m : MarksState). AreFree m.held part) keeps.marks took.were_free;
    held = took.held;
    fewer = took.fewer ∙ ap (λ (m : MarksState). free_ahead m) keeps.marks;
    count = took.count ∙ ap (λ (m : MarksState). length m.held) keeps.marks;
    kept = λ page is. took.kept page (ap (λ (m : MarksState). is_held m.held page) keeps.marks ∙ is);
    stored = λ page is. took.stored page (ap (λ (m : MarksState). is_held m.held page) keeps.marks ∙ is) ∙ ap (λ (l : List Bool). is_stored l page) keeps.stored;
    were_stored = λ page is. ap (λ (l : List Bool). is_stored l page) (sym keeps.stored) ∙ took.were_stored page is;
    wanted = took.wanted ∙ keeps.wanted;
  }

  -- whatever the ends are, where they are read in each row that the disk agrees with
  module _ (edges : List ℕ → Type 0) (places : List ℕ) (reads : (row : List ℕ) → Shows old row → Agrees units old row told → Shows mid row × edges (bytes_at row places)) where
    fills-before : (after : List ℕ → List ℕ) (start : ℕ) (part : List ℕ) → FillsPages after places mid new start part edges → (row : List ℕ) → Shows old row → Agrees units old row told → (then : List ℕ) × FilledPages after places old new start part row then
    fills-before after start part fills row shown agrees =
        let (shows, ends) = reads row shown agrees in
        let (then, filled) = fills row shows ends in (
          then,
          record {
            shows = filled.shows;
            bytes = filled.bytes;
            held = λ page is. filled.held page (ap (λ (m : MarksState). is_held m.held page) keeps.marks ∙ is);
            stored = filled.stored;
          },
        )

    pub is-filled : (after : List ℕ → List ℕ) (at end start : ℕ) (part lent : List ℕ) → lent ≡ places → TookPages (touched (length lent) at end) lent mid new start part → IsTouched (length lent) at end start part
        → FillsPages after lent mid new start part edges → IsFilled after at end (touched (length places) at end) places units told old new start part
    is-filled after at end start part lent same took touches fills = record {
      took = took-before (touched (length places) at end) places start part (subst (λ (xs : List ℕ). TookPages (touched (length xs) at end) xs mid new start part) same took);
      touched = subst (λ (xs : List ℕ). IsTouched (length xs) at end start part) same touches;
      rows = fills-before after start part (subst (λ (xs : List ℕ). FillsPages after xs mid new start part edges) same fills);
    }

  -- nothing was put once pages were read
  pub is-unfilled : KeepsAll mid new → ((row : List ℕ) → Shows old row → Agrees units old row told → Shows mid row) → IsUnfilled units told old new
  is-unfilled went reads = record {
    keeps = marks-then old mid new keeps (went-marks mid new went);
    rows = λ row shown agrees. went-shows mid new row went (reads row shown agrees);
  }

-- ---- one read after another

-- the disk told the same while pages were read
pub rows-read : (units : ℕ) (told then : Option DiskState) (a b c : PoolState) (row : List ℕ) (P Q : Type 0) → then ≡ told → KeepsMarks a b → (Shows a row → Agrees units a row told → Shows b row × P) → (Shows b row → Agrees units b row then → Shows c row × Q)
    → Shows a row → Agrees units a row told → Shows c row × (P × Q)
rows-read units told then a b c row P Q same keeps first second shown agrees =
    let (shows, is) = first shown agrees in
    let (last, more) = second shows (agrees-read units then a b row keeps (subst (λ (o : Option DiskState). Agrees units a row o) (sym same) agrees)) in
    (last, (is, more))

-- two device calls
pub two-reads : CallsLaw → (o m n : Option DiskState) (a b c : DiskStatus) (refused : Bool) → OnlyReads 1 o m a b false → OnlyReads 1 m n b c refused → OnlyReads 2 o n a c refused
two-reads law o m n a b c refused first then = record { same = then.same ∙ first.same; pending = then.pending ∙ first.pending; calls = law a b c 1 1 refused first.calls then.calls }

-- what was not read, whatever it was to be read for
pub went-same : {A : Type 0} (B : Type 0) (r : Result A ReadFault) (fault : ReadFault) → IsErrAnd r (λ e. e ≡ fault) → went_down {T = B} (Err fault) ≡ went_down r
went-same B (Ok x) fault is = absurd is
went-same B (Err Down) fault is = rw (sym is) refl
went-same B (Err OutOfMemory) fault is = rw (sym is) refl

-- what is so is so where it was not read
pub if-err : {A E P : Type 0} (r : Result A E) → P → IfErr r (λ e. P)
if-err (Ok x) is = tt
if-err (Err e) is = is

-- ---- where room was made before

module _ (files : FilesNow) (units : ℕ) (told : Option DiskState) (old room : PoolState) (held : AreFilesHeld old files) (seen : room.seen ≡ old.seen) (stored : room.stored ≡ old.stored) (keeps : KeepsPlaces files old room) where
  -- each row that was shown is shown
  room-shows : (row : List ℕ) → Shows old row → Shows room row
  room-shows row shown = record {
    size = shown.size ∙ ap (λ n. n * UNIT_BYTES) (sym keeps.count);
    bytes = λ page bytes is. shown.bytes page bytes (subst (λ (kept : List (Option (List ℕ))). kept_at kept page ≡ Some bytes) seen is);
  }

  room-rows : (row : List ℕ) → Shows old row → Agrees units old row told → (later : List ℕ) × Shows room later × KeepsContents files (on_row old row) (on_row room later)
  room-rows row shown agrees =
      let (later, shows, kept, none) = rows-marked files units told old room held stored keeps (λ row shown agrees. room-shows row shown) (λ row. Unit {0}) (λ row shown agrees. tt) row shown agrees in
      (later, shows, kept)

  -- pages that were filled then
  pub filled-rows : (after : List ℕ → List ℕ) (at end many : ℕ) (places : List ℕ) (new : PoolState) (start : ℕ) (part : List ℕ) → IsFilled after at end many places units told room new start part → (then : List ℕ → Type 0)
      → ((row later : List ℕ) → FilledPages after places room new start part row later → then later) → KeepsRows files units told old new then
  filled-rows after at end many places new start part filled then is =
      rows-then files units told old room new then room-rows (rows-filled files units told after many places room new start part keeps.held filled.took filled.rows then is)

  pub filled-places : (after : List ℕ → List ℕ) (at end many : ℕ) (places : List ℕ) (new : PoolState) (start : ℕ) (part : List ℕ) → IsFilled after at end many places units told room new start part → KeepsPlaces files old new
  filled-places after at end many places new start part filled = places-then files old room new keeps (places-took files many places room new start part keeps.held filled.took)

  -- and pages that were not
  pub unfilled-rows : (new : PoolState) → IsUnfilled units told room new → (then : List ℕ → Type 0) → ((row : List ℕ) → then row) → KeepsRows files units told old new then
  unfilled-rows new unfilled then is =
      rows-then files units told old room new then room-rows
      (rows-marked files units told room new keeps.held unfilled.keeps.stored (places-read files room new keeps.held unfilled.keeps) unfilled.rows then (λ row shown agrees. is row))

  pub unfilled-places : (new : PoolState) → IsUnfilled units told room new → KeepsPlaces files old new
  unfilled-places new unfilled = places-then files old room new keeps (places-read files room new keeps.held unfilled.keeps)

-- nothing is claimed of what was not staged
pub comes-none : (x : Present) (decides : Present → Outcome) (r : Result Staged ReadFault) → IsErr r → (row : List ℕ) → ComesTo x decides r row
comes-none x decides (Ok staged) is row = absurd (let e : false ≡ true = is in cc)
comes-none x decides (Err fault) is row = tt

-- what was filled for the contents that are seen was filled for those of the target
pub of-target : (t : Target) (seen : List ℕ) → t.contents ≡ seen → (after : List ℕ → List ℕ) (at end units : ℕ) (told : Option DiskState) (old new : PoolState) (start : ℕ) (part : List ℕ)
    → IsFilled after at end (touched (length seen) at end) seen units told old new start part → IsFilled after at end (touched (length t.contents) at end) t.contents units told old new start part
of-target t seen is after at end units told old new start part filled = subst (λ (xs : List ℕ). IsFilled after at end (touched (length xs) at end) xs units told old new start part) (sym is) filled

-- where nothing was done
pub nothing-rows : (files : FilesNow) (units : ℕ) (told : Option DiskState) (pool : PoolState) → AreFilesHeld pool files → (then : List ℕ → Type 0) → ((row : List ℕ) → then row) → KeepsRows files units told pool pool then
nothing-rows files units told pool held then is =
    rows-marked files units told pool pool held refl (record { count = refl; held = held; wanted = refl }) (λ row shown agrees. shown) then (λ row shown agrees. is row)

-- each place is that of one byte on one of the pages
pub sound-there : (x : Present) (units : ℕ) (old room : PoolState) → MayStage x units old → KeepsPlaces x.files old room → AreSoundFiles (length room.marks.held) x.files
sound-there x units old room may keeps = subst (λ n. AreSoundFiles n x.files) (sym (keeps.count ∙ may.count)) may.sound
