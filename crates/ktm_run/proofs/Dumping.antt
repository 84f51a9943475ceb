-- From what was read of an image to what a dump of it leaves.
use Rattle.std.specs.Prelude.{IfSome, IsSomeAnd, Vec}
use Rattle.std.proofs.Common.{◌≡◌, ◌⊎◌, inl, inr, ℕ, ◌<◌, Bool, true, false, List, [], ◌∷◌, length, Option, Some, None, refl, sym, ◌∙◌, ap, subst, arith}
use Rattle.std.proofs.KnownBytes.{Keeps-refl, Keeps-trans}
use Rattle.std.specs.Io.KnownBytes.{Appends, Keeps}
use Rattle.ktm_base.specs.Count.{Rose}
use Rattle.ktm_base.specs.Disk.{DeviceCall, DiskState, DiskStatus, OnlyReads}
use Rattle.ktm_base.specs.Told.{Goes}
use Rattle.ktm_content.specs.Places.{byte_at}
use Rattle.ktm_dump.specs.Alike.{TextsAlike}
use Rattle.ktm_dump.specs.Text.{state_text}
use Rattle.ktm_dump.specs.Written.{AppendsPart}
use Rattle.ktm_journal.specs.Image.{row_of}
use Rattle.ktm_journal.specs.declared.fault.LoadFault.{LoadFault}
use Rattle.ktm_journal.specs.declared.fault.LoadFault.TheVariants as load
use Rattle.ktm_log.specs.OnDisk.{OnDisk}
use Rattle.ktm_kernel.specs.Opening.{WentDown}
use Rattle.ktm_kernel.proofs.Openings.{BadImagesLaw}
use Rattle.ktm_kernel.specs.Bad.{IsBadAt}
use Rattle.ktm_kernel.specs.Loads.{FaultLeaves}
use Rattle.ktm_kernel.specs.Logs.{PagedFor, StandsFor, bytes_seen}
use Rattle.ktm_run.proofs.Probed.{Appends-after, AppendsPart-after}
use Rattle.ktm_run.specs.Dumped.{DumpLeaves, IsNotDumped, IsReadable, OnlyRead, SaysBlank, SaysFault, Tells}
use Rattle.ktm_run.specs.Early.{FoundBad, FoundDown, NotRun, Outside, outside}
use Rattle.ktm_run.specs.Form.{blank_line}
use Rattle.ktm_run.specs.Formatted.{FormatLeaves, IsNew}
use Rattle.ktm_run.specs.declared.status.Status.{Status}
use Rattle.ktm_run.specs.declared.status.Status.TheVariants.{Done, Usage, SourceFault, SinkFault, NoMemory, BadImage, DiskFault, ScriptTooLong, Worn}
use Rattle.ktm_world.specs.Durable.{Durable}

both : {S : Type 0} (P Q : S → Type 0) (told : Option S) → IfSome told P → IfSome told Q → IfSome told (λ s. P s × Q s)
both P Q None h k = tt
both P Q (Some s) h k = (h, k)

keeps : (a b : Option (List ℕ)) → b ≡ a → Keeps a b
keeps a b is = subst (λ (o : Option (List ℕ)). Keeps a o) (sym is) (Keeps-refl a)

-- a disk without a byte
no_byte : (told : Option DiskState) (n : ℕ) → n ≡ 0 → IfSome told (λ s. n ≡ length s.seen) → IfSome told (λ s. s.seen ≡ [])
no_byte None n none len = tt
no_byte (Some s) n none len = empty s.seen (omega (arith, len, none))
  where
    empty : (bytes : List ℕ) → length bytes ≡ 0 → bytes ≡ []
    empty [] is = refl
    empty (b ∷ bs) is = absurd (omega (arith, is))

-- a disk with a byte
pub some_byte : (told : Option DiskState) (n : ℕ) → (n ≡ 0 → ⊥) → IfSome told (λ s. n ≡ length s.seen) → IfSome told (λ s. 0 < length s.seen)
some_byte None n some len = tt
some_byte (Some s) n some len = subst (λ m. 0 < m) len (omega (arith, some))

-- what was loaded is a state over the places of bytes; with the bytes there it is one for which the image stands, and of the same text
abbrev SeenLaw : Type 0
SeenLaw = (places : Durable) (bytes : List ℕ) → PagedFor places bytes → StandsFor (bytes_seen bytes places) bytes

tells_loaded : SeenLaw → TextsAlike → (told : Option DiskState) (places : Durable) → IfSome told (λ s. PagedFor places s.seen) → Tells told (state_text places)
tells_loaded seen alike None places paged = inr (places, tt, refl)
tells_loaded seen alike (Some s) places paged = inr (bytes_seen s.seen places, seen places s.seen paged, sym (alike (byte_at (row_of places.units s.seen)) places))

module _ (left taken now : Option (List ℕ)) where
  only_read : (most : ℕ) (before after : Option DiskState) (old new : DiskStatus) (refused : Bool) → OnlyReads most before after old new refused → OnlyRead (outside left taken before old) (outside left now after new)
  only_read most before after old new refused reads = record { not_run = record { not_read = refl; plan_is = reads.calls.plan }; same = reads.same }

  module _ (before after : Option DiskState) (old new : DiskStatus) where
    abbrev here : Outside
    here = outside left taken before old

    abbrev there : Outside
    there = outside left now after new

    -- what was loaded was written
    pub dumped : SeenLaw → TextsAlike → (most : ℕ) (state : Durable) → OnlyReads most before after old new false → IfSome before (λ s. PagedFor state s.seen) → Appends taken now (state_text state)
        → DumpLeaves Done here there
    dumped seen alike most state reads paged wrote =
        record { only_read = only_read most before after old new false reads; text = state_text state; tells = tells_loaded seen alike before state paged; wrote = wrote }

    pub dumped_part : SeenLaw → TextsAlike → (most : ℕ) (state : Durable) → OnlyReads most before after old new false → IfSome before (λ s. PagedFor state s.seen) → AppendsPart taken now (state_text state)
        → DumpLeaves SinkFault here there
    dumped_part seen alike most state reads paged wrote =
        inl (record { only_read = only_read most before after old new false reads; text = state_text state; tells = tells_loaded seen alike before state paged; wrote = wrote })

    -- it was asked how long the disk is, which has no byte
    pub blank : (n : ℕ) (result : Status) → n ≡ 0 → IfSome before (λ s. n ≡ length s.seen) → after ≡ before → DeviceCall old new false → SaysBlank result taken now → DumpLeaves result here there
    blank n result none len same call says =
        let only : OnlyRead here there = record { not_run = record { not_read = refl; plan_is = call.counts.plan }; same = same } in
        let empty = no_byte before n none len in elim says [
          | inl (is, wrote) ↦ subst (λ (r : Status). DumpLeaves r here there) (sym is) (record { only_read = only; text = blank_line; tells = inl (empty, refl); wrote = wrote })
          | inr (is, wrote) ↦ subst (λ (r : Status). DumpLeaves r here there) (sym is) (inl (record { only_read = only; text = blank_line; tells = inl (empty, refl); wrote = wrote }))
        ]

    -- it was asked how long the disk is, which was down or went down
    pub down_at_once : after ≡ before → now ≡ taken → DeviceCall old new true → DumpLeaves DiskFault here there
    down_at_once same is call =
        let not_written = keeps taken now is in (
          record { only_read = record { not_run = record { not_read = refl; plan_is = call.counts.plan }; same = same }; not_written = not_written },
          record { not_run = record { not_read = refl; plan_is = call.counts.plan }; not_written = not_written; went_down = call.counts.cause refl },
        )

-- the image was not loaded
pub undumped : {Z : Type 0} (left taken now : Option (List ℕ)) (most : ℕ) (a b : OnDisk (Vec ℕ Z)) (result : Status) (why : LoadFault) → IfSome a.told (λ s. 0 < length s.seen) → FaultLeaves most a b why
    → SaysFault result why taken now → DumpLeaves result (outside left taken a.told a.status) (outside left now b.told b.status)
undumped left taken now most a b result (load.Bad offset) some leaves says =
    let reads = leaves.read.reads.reads in
    let bad : FoundBad offset (outside left taken a.told a.status) (outside left now b.told b.status) = record {
      not_run = record { not_read = refl; plan_is = reads.calls.plan };
      same = reads.same;
      bad = both _ _ a.told some leaves.bad;
    } in elim says [
      | inl (is, wrote) ↦ subst (λ (r : Status). DumpLeaves r (outside left taken a.told a.status) (outside left now b.told b.status)) (sym is) (offset, bad, wrote)
      | inr (is, wrote) ↦ subst (λ (r : Status). DumpLeaves r (outside left taken a.told a.status) (outside left now b.told b.status)) (sym is) (inr (offset, bad, wrote))
    ]
undumped left taken now most a b result load.Down some leaves (is, same) =
    let reads = leaves.reads in
    subst (λ (r : Status). DumpLeaves r (outside left taken a.told a.status) (outside left now b.told b.status)) (sym is) (
      record { only_read = only_read left taken now most _ _ _ _ _ reads; not_written = keeps taken now same },
      record { not_run = record { not_read = refl; plan_is = reads.calls.plan }; not_written = keeps taken now same; went_down = reads.calls.cause refl },
    )
undumped left taken now most a b result load.NoMemory some leaves (is, same) =
    subst (λ (r : Status). DumpLeaves r (outside left taken a.told a.status) (outside left now b.told b.status)) (sym is)
    (record { only_read = only_read left taken now most _ _ _ _ _ leaves.reads; not_written = keeps taken now same })

-- ---- from an outside before, of which no more was asked than how long the disk is, and whether the sink works

module _ (old mid new : Outside) (source : mid.left ≡ old.left) (taken : Keeps old.taken mid.taken) (disk : mid.disk ≡ old.disk) (plan : mid.status.plan ≡ old.status.plan)
    (down : (s : DiskStatus) → WentDown mid.status s → WentDown old.status s) where
  not_run : NotRun mid new → NotRun old new
  not_run h = record { not_read = h.not_read ∙ source; plan_is = h.plan_is ∙ plan }

  only : OnlyRead mid new → OnlyRead old new
  only h = record { not_run = not_run h.not_run; same = h.same ∙ disk }

  found_bad : (offset : ℕ) → FoundBad offset mid new → FoundBad offset old new
  found_bad offset h =
      record { not_run = not_run h.not_run; same = h.same ∙ disk; bad = subst (λ (t : Option DiskState). IfSome t (λ s. (0 < length s.seen) × IsBadAt s.seen offset)) disk h.bad }

  found_down : FoundDown mid new → FoundDown old new
  found_down h = record { not_run = not_run h.not_run; not_written = Keeps-trans old.taken mid.taken new.taken taken h.not_written; went_down = down new.status h.went_down }

  not_dumped : IsNotDumped mid new → IsNotDumped old new
  not_dumped h = record { only_read = only h.only_read; not_written = Keeps-trans old.taken mid.taken new.taken taken h.not_written }

  tells : (text : List ℕ) → Tells mid.disk text → Tells old.disk text
  tells text h = subst (λ (t : Option DiskState). Tells t text) disk h

  pub dump_before : (result : Status) → DumpLeaves result mid new → DumpLeaves result old new
  dump_before Done h = record { only_read = only h.only_read; text = h.text; tells = tells h.text h.tells; wrote = Appends-after old.taken mid.taken new.taken h.text taken h.wrote }
  dump_before NoMemory h = not_dumped h
  dump_before DiskFault (h, k) = (not_dumped h, found_down k)
  dump_before BadImage (offset, h, wrote) = (offset, found_bad offset h, Appends-after old.taken mid.taken new.taken _ taken wrote)
  dump_before SinkFault (inl h) = inl (record { only_read = only h.only_read; text = h.text; tells = tells h.text h.tells; wrote = AppendsPart-after old.taken mid.taken new.taken h.text taken h.wrote })
  dump_before SinkFault (inr (offset, h, wrote)) = inr (offset, found_bad offset h, AppendsPart-after old.taken mid.taken new.taken _ taken wrote)
  dump_before Usage h = absurd h
  dump_before SourceFault h = absurd h
  dump_before ScriptTooLong h = absurd h
  dump_before Worn h = absurd h

  pub format_before : (units : ℕ) (result : Status) → FormatLeaves result units mid new → FormatLeaves result units old new
  format_before units Done h = record {
    not_run = not_run h.not_run;
    not_written = Keeps-trans old.taken mid.taken new.taken taken h.not_written;
    made = subst (λ (t : Option DiskState). Goes (λ _ s. IsNew units s) t new.disk) disk h.made;
  }
  format_before units DiskFault h = found_down h
  format_before units SinkFault h = absurd h
  format_before units Usage h = absurd h
  format_before units SourceFault h = absurd h
  format_before units NoMemory h = absurd h
  format_before units BadImage h = absurd h
  format_before units ScriptTooLong h = absurd h
  format_before units Worn h = absurd h

-- a disk that was asked how long it is
pub went_down_later : (a b c : DiskStatus) → DeviceCall a b false → WentDown b c → WentDown a c
went_down_later a b c call (inl down) = let up = call.down in absurd (cc)
went_down_later a b c call (inr rose) = inr (let later = call.counts.later in omega arith)

-- ---- what comes where the sink does not fail

pub format_complete : (units : ℕ) (result : Status) (old new : Outside) → FormatLeaves result units old new → (result ≡ Done) ⊎ ((result ≡ DiskFault) × FoundDown old new)
format_complete units Done old new h = inl refl
format_complete units DiskFault old new h = inr (refl, h)
format_complete units SinkFault old new h = absurd h
format_complete units Usage old new h = absurd h
format_complete units SourceFault old new h = absurd h
format_complete units NoMemory old new h = absurd h
format_complete units BadImage old new h = absurd h
format_complete units ScriptTooLong old new h = absurd h
format_complete units Worn old new h = absurd h

readable : BadImagesLaw → (told : Option DiskState) (offset : ℕ) → IsSomeAnd told (λ s. IsReadable s.seen) → IfSome told (λ s. (0 < length s.seen) × IsBadAt s.seen offset) → ⊥
readable law None offset holds bad = absurd holds
readable law (Some s) offset (inl none) (some, bad) = absurd (let e : length s.seen ≡ 0 = ap length none in omega arith)
readable law (Some s) offset (inr (state, stands)) (some, bad) = law state s.seen offset stands bad

pub dump_complete : BadImagesLaw → (result : Status) (old new : Outside) (before now : ℕ) → DumpLeaves result old new → (result ≡ SinkFault → Rose before now) → ¬ Rose before now → IsSomeAnd old.disk (λ s. IsReadable s.seen)
    → (result ≡ Done) ⊎ (result ≡ NoMemory) ⊎ ((result ≡ DiskFault) × FoundDown old new)
dump_complete law Done old new before now h fault works holds = inl refl
dump_complete law NoMemory old new before now h fault works holds = inr (inl refl)
dump_complete law DiskFault old new before now (h, k) fault works holds = inr (inr (refl, k))
dump_complete law SinkFault old new before now h fault works holds = absurd (works (fault refl))
dump_complete law BadImage old new before now (offset, h, wrote) fault works holds = absurd (readable law old.disk offset holds h.bad)
dump_complete law Usage old new before now h fault works holds = absurd h
dump_complete law SourceFault old new before now h fault works holds = absurd h
dump_complete law ScriptTooLong old new before now h fault works holds = absurd h
dump_complete law Worn old new before now h fault works holds = absurd h
