-- What a run begins from, on a disk that was prepared.
use Rattle.std.specs.Prelude.{IfSome, IsSomeAnd, IsTrue}
use Rattle.std.proofs.Common.{◌≡◌, ◌⊎◌, inl, inr, ℕ, ◌+◌, ◌*◌, ◌^◌, ◌<◌, ◌≤◌, Bool, true, false, List, [], ◌∷◌, length, Option, Some, None, Result, Err, refl, sym, ◌∙◌, ap, subst, arith}
use Rattle.std.proofs.lemmas.Bool.{both_ways, or_right}
use Rattle.ktm_base.specs.declared.limits.TheConstants.{LEAST_UNITS, MOST_UNITS, NEW_UNITS}
use Rattle.ktm_base.specs.Disk.{DiskState, DiskStatus, DeviceCalls, IsSafe, MayLeave}
use Rattle.ktm_base.specs.Told.{Goes}
use Rattle.ktm_base.proofs.offered.Images.{calls_law, safe_law}
use Rattle.ktm_base.proofs.offered.ToldSteps.{IsSomeAnd-map, IsSomeAnd-step}
use Rattle.ktm_core.specs.Bad.{IsBadAt}
use Rattle.ktm_core.specs.Logs.{IsSafeFor, StandsFor}
use Rattle.ktm_journal.specs.Image.{IsHeaded, IsImage, empty_snapshot}
use Rattle.ktm_kernel.specs.Buffers.{BuffersState}
use Rattle.ktm_kernel.specs.Restarts.{IsStarted, IsWorn, LeavesOwnOrNot, MayOpen, NoStartLeaves, Started, restart_went_down}
use Rattle.ktm_kernel.specs.declared.restart.Restarted.{Restarted}
use Rattle.ktm_log.specs.OnDisk.{on}
use Rattle.ktm_kernel.specs.Stands.{KernelState}
use Rattle.ktm_kernel.specs.declared.restart.RestartFault.{RestartFault}
use Rattle.ktm_kernel.specs.declared.restart.RestartFault.TheVariants as kernel
use Rattle.ktm_kernel.specs.declared.fault.OpenFault.{OpenFault}
use Rattle.ktm_kernel.specs.declared.fault.OpenFault.TheVariants as opening
use Rattle.ktm_kernel.specs.Begins.{Begins, BeginsAs}
use Rattle.ktm_kernel.specs.Opened.{IsFoundBad, IsFoundDown, IsFoundWorn, IsNotRecorded, IsOpened, MayBegin, NotOpenedLeaves}
use Rattle.ktm_kernel.specs.Opening.{OpeningCounts, Prepared, open_fault_of}
use Rattle.ktm_world.specs.Groups.{Group}
use Rattle.ktm_world.specs.Durable.{Durable, empty_state, is_worn, stand}

-- bytes stand for one state at most
abbrev pub StatesLaw : Type 0
StatesLaw = (a b : Durable) (bytes : List ℕ) → StandsFor a bytes → StandsFor b bytes → a ≡ b

-- bytes that stand for a state are bad nowhere
abbrev pub BadImagesLaw : Type 0
BadImagesLaw = (state : Durable) (bytes : List ℕ) (offset : ℕ) → StandsFor state bytes → IsBadAt bytes offset → ⊥

-- a new image stands for the empty state
abbrev pub NewImagesLaw : Type 0
NewImagesLaw = (units image : ℕ) (bytes : List ℕ) → LEAST_UNITS ≤ units → units ≤ MOST_UNITS → image < 2 ^ 16 → IsImage units image empty_snapshot [] bytes → StandsFor (empty_state units image) bytes

-- a new image's state
abbrev new_state : Durable
new_state = empty_state NEW_UNITS 1

any_bytes : (bytes : List ℕ) → (bytes ≡ []) ⊎ (0 < length bytes)
any_bytes [] = inl refl
any_bytes (byte ∷ bytes) = inr (omega arith)

no_bytes : (bytes : List ℕ) → length bytes ≡ 0 → bytes ≡ []
no_bytes [] none = refl
no_bytes (byte ∷ bytes) none = absurd (omega arith)

-- a disk became a new image, all of which is safe
abbrev Made : DiskState → DiskState → Type 0
Made old new = IsSafe new × IsImage NEW_UNITS 1 empty_snapshot [] new.seen

-- a disk without a byte that became one was prepared
pub prepared_new : NewImagesLaw → (old mid new : Option DiskState) (len : ℕ) → mid ≡ old → IfSome old (λ s. len ≡ length s.seen) → len ≡ 0
    → Goes Made mid new → Goes Prepared old new
prepared_new law old mid new len same value none goes = go old new value (subst (λ (o : Option DiskState). Goes Made o new) same goes)
  where
    go : (old new : Option DiskState) → IfSome old (λ s. len ≡ length s.seen) → Goes Made old new → Goes Prepared old new
    go None None value goes = tt
    go None (Some t) value goes = absurd goes
    go (Some s) None value goes = absurd goes
    go (Some s) (Some t) value (safe, image) = inl (no_bytes s.seen (sym value ∙ none), safe, law NEW_UNITS 1 t.seen (omega arith) (omega arith) (omega arith) image)

begins_there : (base : Durable) (bytes : List ℕ) → 0 < length bytes → BeginsAs base bytes → StandsFor base bytes
begins_there base [] some begins = absurd (omega arith)
begins_there base (byte ∷ bytes) some begins = begins

begins_new : (base : Durable) (bytes : List ℕ) → bytes ≡ [] → BeginsAs base bytes → base ≡ new_state
begins_new base bytes none begins = subst (λ (l : List ℕ). BeginsAs base l) none begins

-- no image is without a byte
begins_as : (base : Durable) (bytes : List ℕ) → StandsFor base bytes → BeginsAs base bytes
begins_as base [] stands = absurd (omega (arith, stands.paged.is.formatted.headed.long))
begins_as base (byte ∷ bytes) stands = stands

-- a disk that was prepared is safe, and stands for what the run begins from
prepared_base : (base : Durable) (old new : DiskState) → Begins base old → Prepared old new → IsSafeFor base new
prepared_base base old new (safe, begins) prepared = elim prepared [
  | inl (none, all, stands) ↦ subst (λ (d : Durable). IsSafeFor d new) (sym (begins_new base old.seen none begins)) (all, stands)
  | inr (some, same) ↦ subst (λ (s : DiskState). IsSafeFor base s) (sym same) (safe, begins_there base old.seen some begins)
]

tells_base : (base : Durable) (old new : Option DiskState) → IsSomeAnd old (Begins base) → Goes Prepared old new → IsSomeAnd new (IsSafeFor base)
tells_base base old new tells goes = IsSomeAnd-step old new (Begins base) (IsSafeFor base) tells goes (prepared_base base)

-- ---- what a run begins from

module _ (base : Durable) where
  -- it is what was found
  found_base : StatesLaw → (worn : Bool) (told : Option DiskState) → IsSomeAnd told (IsSafeFor base) → IfSome told (IsWorn worn) → MayOpen base [] × (is_worn base ≡ worn)
  found_base law worn None is found = absurd is
  found_base law worn (Some s) (safe, stands) (state, read, may, test) = subst (λ (d : Durable). MayOpen d [] × (is_worn d ≡ worn)) (law state base s.seen read stands) (may, test)

  -- the machine that started stands for the world that was opened from it, and is told what it has
  starts_from : StatesLaw → (told new : Option DiskState) (kernel : KernelState) (events waiting : ℕ) → IsSomeAnd told (IsSafeFor base) → IfSome told (IsWorn false)
      → ((base : Durable) (log : List Group) → MayOpen base log → IsSomeAnd told (IsSafeFor (stand base log)) → Started base log kernel events waiting new) → Started base [] kernel events waiting new
  starts_from law told new kernel events waiting is found starts = starts base [] (found_base law false told is found).0 is

  -- what is left where nothing was written may begin the same run
  left_begins : (told : Option DiskState) → IsSomeAnd told (IsSafeFor base) → IsSomeAnd told (λ s. (image : List ℕ) → MayLeave s image → BeginsAs base image)
  left_begins told tells = IsSomeAnd-map told (IsSafeFor base) _ tells (λ s is image left. subst (λ (l : List ℕ). BeginsAs base l) (sym ((safe_law s image is.0).0 left)) (begins_as base s.seen is.1))

  pub safe_begins : (told : Option DiskState) → IsSomeAnd told (Begins base) → IsSomeAnd told (λ s. (image : List ℕ) → MayLeave s image → BeginsAs base image)
  safe_begins told tells = IsSomeAnd-map told (Begins base) _ tells (λ s begins image left. subst (λ (l : List ℕ). BeginsAs base l) (sym ((safe_law s image begins.0).0 left)) begins.1)

  few_calls : (old new : DiskState) (a b c : DiskStatus) (x : Bool) → Begins base old → Prepared old new → DeviceCalls 9 a b x
      → ((units image selector : ℕ) → IsHeaded units image selector new.seen → c.calls ≤ b.calls + (2 * units + 27))
      → c.calls ≤ a.calls + (2 * base.units + 36)
  few_calls old new a b c x begins prepared first few =
      let stands = (prepared_base base old new begins prepared).1 in
      let units : base.units ≡ stands.places.units = ap (λ (d : Durable). d.units) stands.is in
      let calls : c.calls ≤ b.calls + (2 * base.units + 27) =
      subst (λ n. c.calls ≤ b.calls + (2 * n + 27)) (sym units) (few stands.places.units stands.places.image stands.paged.is.selector stands.paged.is.formatted.headed) in
      omega (arith, first.few, calls)

  opening_counts : (old new : Option DiskState) (a b c : DiskStatus) (x y : Bool) → IsSomeAnd old (Begins base) → Goes Prepared old new → DeviceCalls 9 a b x → DeviceCalls (2 * MOST_UNITS + 27) b c y
      → ((units image selector : ℕ) → IsSomeAnd new (λ s. IsHeaded units image selector s.seen) → c.calls ≤ b.calls + (2 * units + 27))
      → OpeningCounts base.units a c
  opening_counts None new a b c x y tells goes first second few = absurd tells
  opening_counts (Some old) None a b c x y tells goes first second few = absurd goes
  opening_counts (Some old) (Some new) a b c x y tells goes first second few = record {
    later = omega (arith, first.later, second.later);
    plan = second.plan ∙ first.plan;
    few = few_calls old new a b c x tells goes first few;
  }

  -- what begins a run is bad nowhere
  pub begins_good : BadImagesLaw → (told : Option DiskState) (offset : ℕ) → IsSomeAnd told (Begins base) → IfSome told (λ s. (0 < length s.seen) × IsBadAt s.seen offset) → ⊥
  begins_good law None offset tells bad = absurd tells
  begins_good law (Some s) offset tells bad = law base s.seen offset (begins_there base s.seen bad.0 tells.1) bad.1

-- an image that could be opened, or is worn, begins a run
begins_run : (worn : Bool) (old new : Option DiskState) → Goes Prepared old new → IfSome new (IsWorn worn) → MayBegin old
begins_run worn None new goes found = tt
begins_run worn (Some old) None goes found = absurd goes
begins_run worn (Some old) (Some new) goes (state, stands, may, test) = elim goes [
  | inl (none, all, made) ↦ (new_state, subst (λ (l : List ℕ). BeginsAs new_state l) (sym none) refl)
  | inr (some, same) ↦ (state, subst (λ (s : DiskState). BeginsAs state s.seen) same (begins_as state new.seen stands))
]

-- ---- an image that was there, and is as it was

-- where what was found is not so of a new image, the disk was no new one
kept : (old new : Option DiskState) (P : DiskState → Type 0) → Goes Prepared old new → IfSome new P → ((s : DiskState) → StandsFor new_state s.seen → P s → ⊥) → (new ≡ old) × IfSome old (λ s. (0 < length s.seen) × P s)
kept None None P goes found never = (refl, tt)
kept None (Some new) P goes found never = absurd goes
kept (Some old) None P goes found never = absurd goes
kept (Some old) (Some new) P goes found never = elim goes [
  | inl (none, all, stands) ↦ absurd (never new stands found)
  | inr (some, same) ↦ (ap (λ (s : DiskState). Some s) same, (some, subst P same found))
]

-- a new image is not worn
new_unworn : StatesLaw → (s : DiskState) → StandsFor new_state s.seen → IsWorn true s → ⊥
new_unworn law s stands (state, read, may, worn) = both_ways false refl (ap is_worn (sym (law state new_state s.seen read stands)) ∙ worn)

-- ---- an opening in which the disk went down

-- in the preparation
cut_before : (base : Durable) (old new : Option DiskState) → IsSomeAnd old (Begins base) → Goes (λ old new. (old.seen ≡ []) ⊎ (new ≡ old)) old new
    → IsSomeAnd old (λ s. s.seen ≡ []) ⊎ IsSomeAnd new (LeavesOwnOrNot base)
cut_before base None new tells goes = absurd tells
cut_before base (Some old) None tells goes = absurd goes
cut_before base (Some old) (Some new) tells goes = elim goes [
  | inl none ↦ inl none
  | inr same ↦ elim (any_bytes old.seen) [
    | inl none ↦ inl none
    | inr some ↦ inr (subst (λ (s : DiskState). LeavesOwnOrNot base s) (sym same) (λ image left.
        inl (subst (λ (l : List ℕ). StandsFor base l) (sym ((safe_law old image tells.0).0 left)) (begins_there base old.seen some tells.1))))
  ]
]

-- ---- an opening, by what the restart says

module _ (states : StatesLaw) (bad_images : BadImagesLaw) (old mid new : Option DiskState) (s u t : DiskStatus) (b d : BuffersState) (goes : Goes Prepared old mid) (prepared : DeviceCalls 9 s u false) where
  pub opens : (r : Restarted) → IsStarted (on b mid u) (on d new t) r → DeviceCalls (2 * MOST_UNITS + 27) u t false
      → ((units image selector : ℕ) → IsSomeAnd mid (λ s. IsHeaded units image selector s.seen) → t.calls ≤ u.calls + (2 * units + 27)) → IsOpened r old new s t
  opens r is calls few = record {
    stands = λ base tells. let start = start_of base tells in (start.stands, start.unworn);
    found = λ base tells. let start = start_of base tells in (start.events_are, start.in_doubt_are);
    counts = λ base tells. opening_counts base _ _ _ _ _ _ _ tells goes prepared calls few;
    ready = is.ready;
    up = is.up;
    fresh = is.counts;
    begins = begins_run false old mid goes is.found;
  }
    where
      start_of : (base : Durable) → IsSomeAnd old (Begins base) → Started base [] r.kernel r.events r.in_doubt new
      start_of base tells = starts_from base states mid new r.kernel r.events r.in_doubt (tells_base base old mid tells goes) is.found is.starts

  pub not_opened : (most : ℕ) (fault : RestartFault) → NoStartLeaves (on b mid u) (on d new t) fault → (let r : Result ℕ RestartFault = Err fault in DeviceCalls most u t (restart_went_down r)) → NotOpenedLeaves old new s t (open_fault_of fault)
  not_opened most kernel.Down is calls = record {
    went_down = (calls_law s u t 9 most true prepared calls).cause refl;
    leaves = λ base tells. inr (is.leaves base (tells_base base old mid tells goes));
  }
  not_opened most (kernel.Bad offset) is calls =
      let (same, bad) = kept old mid (λ s. IsBadAt s.seen offset) goes is.bad (λ s stands. bad_images new_state s.seen offset stands) in
      record { same = is.unwritten.told ∙ same; bad = bad }
  not_opened most kernel.Worn is calls =
      let (same, there) = kept old mid (IsWorn true) goes is.found (new_unworn states) in
      record {
        same = is.unwritten.told ∙ same;
        there = there;
        worn = λ base tells. (found_base base states true mid (tells_base base old mid tells goes) is.found).1;
        begins = begins_run true old mid goes is.found;
      }
  not_opened most kernel.NoMemory is calls = record {
    prepared = rw is.told goes;
    leaves = λ base tells. rw is.told (left_begins base mid (tells_base base old mid tells goes));
  }

-- the disk went down in the preparation
pub not_prepared : (old new : Option DiskState) (s t : DiskStatus) (most : ℕ) → Goes (λ old new. (old.seen ≡ []) ⊎ (new ≡ old)) old new → DeviceCalls most s t true → IsFoundDown old new s t
not_prepared old new s t most goes calls = record { went_down = calls.cause refl; leaves = λ base tells. cut_before base old new tells goes }

-- ---- what waits for a sync where no machine was started

-- a disk that refused a call is down
pub refused_down : (most : ℕ) (s t : DiskStatus) → DeviceCalls most s t true → IsTrue t.is_down
refused_down most s t calls = calls.down ∙ or_right s.is_down true refl

pub down_or_settled : (mid new : Option DiskState) (u t : DiskStatus) (b d : BuffersState) (most : ℕ) (fault : RestartFault) → u.pending ≡ 0 → NoStartLeaves (on b mid u) (on d new t) fault
    → (let r : Result ℕ RestartFault = Err fault in DeviceCalls most u t (restart_went_down r)) → IsTrue t.is_down ⊎ (t.pending ≡ 0)
down_or_settled mid new u t b d most kernel.Down settled is calls = inl (refused_down most u t calls)
down_or_settled mid new u t b d most (kernel.Bad offset) settled is calls = inr (is.unwritten.pending ∙ settled)
down_or_settled mid new u t b d most kernel.Worn settled is calls = inr (is.unwritten.pending ∙ settled)
down_or_settled mid new u t b d most kernel.NoMemory settled is calls = inr (is.pending ∙ settled)

-- ---- what is left, by the fault that it is

module _ (old new : Option DiskState) (s t : DiskStatus) (why : OpenFault) where
  pub faults_bad : (offset : ℕ) → why ≡ opening.BadImage offset → NotOpenedLeaves old new s t why → IsFoundBad offset old new
  faults_bad offset is leaves = subst (λ f. NotOpenedLeaves old new s t f) is leaves

  pub faults_worn : why ≡ opening.Worn → NotOpenedLeaves old new s t why → IsFoundWorn old new
  faults_worn is leaves = subst (λ f. NotOpenedLeaves old new s t f) is leaves

  pub faults_down : why ≡ opening.Down → NotOpenedLeaves old new s t why → IsFoundDown old new s t
  faults_down is leaves = subst (λ f. NotOpenedLeaves old new s t f) is leaves

  pub faults_memory : why ≡ opening.NoMemory → NotOpenedLeaves old new s t why → IsNotRecorded old new
  faults_memory is leaves = subst (λ f. NotOpenedLeaves old new s t f) is leaves
