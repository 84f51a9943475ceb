-- What a read comes to, and what it leaves.
use Rattle.std.proofs.Common.{◌≡◌, ℕ, ◌+◌, ◌-◌, ◌/◌, ◌≤◌, ◌==◌, not, Bool, true, false, List, [], ◌∷◌, ◌++◌, length, length-take, map, Option, Some, None, refl, sym, ◌∙◌, ap, subst, inl, inr, arith, ltb-false}
use Rattle.std.specs.Prelude.{drop, take, is_none, min, nat_lt}
use Rattle.std.proofs.lemmas.Bool.{cases_Bool}
use Rattle.std.proofs.lemmas.Grind.{same_number_lists}
use Rattle.std.proofs.lemmas.List.{drop-map, length-drop, length-map, take-map}
use Rattle.std.proofs.Math.Nat.{min-eq_left, min-le_left}
use Rattle.ktm_alike.specs.Alike.{mapped_present, mapped_read}
use Rattle.ktm_base.specs.declared.id.Id.{Id}
use Rattle.ktm_base.specs.declared.id.Label.{Label}
use Rattle.ktm_base.specs.declared.id.Pid.{Pid}
use Rattle.ktm_base.specs.declared.limits.TheConstants.{MOST_AT_ONCE, UNIT_BYTES}
use Rattle.ktm_base.specs.declared.refusal.Refusal.{Refusal}
use Rattle.ktm_base.specs.declared.refusal.Refusal.TheVariants.{InvalidParameter, AccessDenied, MachineDown}
use Rattle.ktm_base.specs.Disk.{DiskState, DiskStatus, OnlyReads}
use Rattle.ktm_content.specs.Places.{byte_at}
use Rattle.ktm_core.specs.Memory.{MemoryState, present_of}
use Rattle.ktm_core.specs.Reading.{Agrees, many_read, units_read}
use Rattle.ktm_core.specs.Takes.{takes_memory}
use Rattle.ktm_each.specs.Each.{EachOfFiles}
use Rattle.ktm_laws.specs.Running.{HasEventsLeft}
use Rattle.ktm_log.specs.OnDisk.{on}
use Rattle.ktm_standing.proofs.offered.Applied.{apply-reply}
use Rattle.ktm_standing.proofs.offered.Decided.{decided_law}
use Rattle.ktm_store.proofs.offered.Holding.{held-below}
use Rattle.ktm_store.specs.Marks.{MarksState}
use Rattle.ktm_store.specs.Pool.{Shows}
use Rattle.ktm_store.specs.Store.{AreBelow, IsHeldAt, PoolState}
use Rattle.ktm_units.specs.Units.{UnitsLaw}
use Rattle.ktm_world.specs.Conflicts.{reads}
use Rattle.ktm_world.specs.declared.command.Command.TheVariants.{ReadFile}
use Rattle.ktm_world.specs.declared.command.Line.TheVariants.{Process}
use Rattle.ktm_world.specs.declared.reply.Reply.{Reply}
use Rattle.ktm_world.specs.declared.reply.Reply.TheVariants.{Contents, Refused}
use Rattle.ktm_world.specs.Decide.{command_effect, decide, of_files, on_file, own_tests, refusal_of}
use Rattle.ktm_world.specs.FileCalls.{read_file, read_file_tests}
use Rattle.ktm_world.specs.FileOutcome.{answering}
use Rattle.ktm_world.specs.Files.{OpenFile, bytes_seen}
use Rattle.ktm_world.specs.Labels.{file_named, file_tests}
use Rattle.ktm_world.specs.Outcome.{Outcome, apply, first_refusal, only_reply, refuse_or}
use Rattle.ktm_world.specs.Present.{Present}
use Rattle.ktm_world.specs.Values.{IsCommand}
use Rattle.ktm_kernel.specs.Answers.{IsLineAnswered, most_reads, no_byte, reply_but_bytes}
use Rattle.ktm_kernel.specs.Staging.{KeepsMarks}
use Rattle.ktm_kernel.specs.Stands.{IsReady, kernel_of}
use Rattle.ktm_core.specs.Done.{fallen}
use Rattle.ktm_kernel.proofs.Asking.{passed, seen-held, zero-at}
use Rattle.ktm_kernel.proofs.Calls.{reads-none}
use Rattle.ktm_kernel.proofs.Lines.{Laws, fell, replied}
use Rattle.ktm_kernel.proofs.Staged.{LeadsTo, leads-same, leads-to}
use Rattle.ktm_kernel.proofs.Stages.{keeps-marked, places-read}
use Rattle.ktm_kernel.proofs.Worlds.{call_goes_on}

-- ---- what is read is there

pub seen-below : (marks : MarksState) (x : Present) (process : Pid) (file : Label) (seen : List ℕ) → EachOfFiles (λ file index place. IsHeldAt marks place) x.files
    → ((o : OpenFile) × (file_named x process file ≡ Some o) × (seen ≡ bytes_seen x.files o.transaction o.node)) → AreBelow (length marks.held) seen
seen-below marks x process file seen held are =
    let (o, named, is) = are in
    held-below marks.held seen (seen-held marks x.files held (record { who = o.transaction; node = o.node; contents = seen }) is)

-- ---- a read answers alone

-- a call on files that changes none
file-alone : (x : Present) (who : Option Id) (reply : Reply) → of_files x who (answering reply) ≡ only_reply x reply
file-alone x None reply = refl
file-alone x (Some id) reply = refl

effect-alone : (x : Present) (o : Option OpenFile) (offset many : ℕ) → (let effect = on_file x o (λ o. read_file x.files o offset many) in effect ≡ only_reply x effect.reply)
unfolding read_file
effect-alone x None offset many = refl
effect-alone x (Some o) offset many = file-alone x o.transaction _

tested-alone : (x : Present) (tested : Option Refusal) (effect : Outcome) → effect ≡ only_reply x effect.reply → refuse_or x tested effect ≡ only_reply x (refuse_or x tested effect).reply
tested-alone x None effect alone = alone
tested-alone x (Some refusal) effect alone = refl

read-alone : (x : Present) (process : Pid) (file : Label) (offset many : ℕ) → decide x process (ReadFile file offset many) ≡ only_reply x (decide x process (ReadFile file offset many)).reply
read-alone x process file offset many = tested-alone x (refusal_of x process (ReadFile file offset many)) (command_effect x process (ReadFile file offset many)) (effect-alone x (file_named x process file) offset many)

-- over the bytes it answers what the bytes are of what it answers over the places
pub read-same : UnitsLaw → (f : ℕ → ℕ) → f 0 ≡ 0 → (x : Present) (process : Pid) (file : Label) (offset many : ℕ) (reply : Reply) → decide x process (ReadFile file offset many) ≡ only_reply x reply
    → decide (mapped_present f x) process (ReadFile file offset many) ≡ only_reply (mapped_present f x) (mapped_read f reply)
read-same law f blank x process file offset many reply is =
    read-alone (mapped_present f x) process file offset many
    ∙ ap (only_reply (mapped_present f x)) ((((law.1 f blank).0 x).read process file offset many).1 ∙ ap (λ (o : Outcome). mapped_read f o.reply) is)

-- so it is of the bytes of contents
pub contents-same : (f : ℕ → ℕ) (offset many : ℕ) (seen : List ℕ) → mapped_read f (Contents (take many (drop offset seen))) ≡ Contents (take many (drop offset (map f seen)))
contents-same f offset many seen = ap Contents (sym (take-map f many (drop offset seen)) ∙ ap (take many) (sym (drop-map f offset seen)))

-- ---- what takes memory

unrefused : (x : Present) (tested : Option Refusal) (effect : Outcome) (bytes : List ℕ) → (refuse_or x tested effect).reply ≡ Contents bytes → tested ≡ None
unrefused x None effect bytes is = refl
unrefused x (Some refusal) effect bytes is = absurd (cc)

first-part : (before after : List (Bool × Refusal)) → first_refusal (before ++ after) ≡ None → first_refusal before ≡ None
first-part [] after none = refl
first-part ((true, r) ∷ before) after none = absurd (cc)
first-part ((false, r) ∷ before) after none = first-part before after none

-- a read that tells bytes may take memory
pub read-takes : (x : Present) (process : Pid) (file : Label) (offset many : ℕ) (bytes : List ℕ) → decide x process (ReadFile file offset many) ≡ only_reply x (Contents bytes) → takes_memory x process (ReadFile file offset many) ≡ true
read-takes x process file offset many bytes is = ap is_none (first-part ((not x.machine.is_up, MachineDown) ∷ file_tests x process file) (own_tests (file_named x process file) (λ o. read_file_tests o many))
    (unrefused x (refusal_of x process (ReadFile file offset many)) (command_effect x process (ReadFile file offset many)) bytes (ap (λ (o : Outcome). o.reply) is)))

-- no more bytes are read than may be at once
read-once : (x : Present) (process : Pid) (file : Label) (offset many : ℕ) (bytes : List ℕ) (o : OpenFile) → file_named x process file ≡ Some o → decide x process (ReadFile file offset many) ≡ only_reply x (Contents bytes) → many ≤ MOST_AT_ONCE
unfolding read_file_tests
read-once x process file offset many bytes o named is = ltb-false MOST_AT_ONCE many
    (passed before (nat_lt MOST_AT_ONCE many, InvalidParameter) ((not (reads o.access), AccessDenied) ∷ [])
    (subst (λ (f : Option OpenFile). first_refusal (before ++ own_tests f (λ o. read_file_tests o many)) ≡ None) named
    (unrefused x (refusal_of x process (ReadFile file offset many)) (command_effect x process (ReadFile file offset many)) bytes (ap (λ (o : Outcome). o.reply) is))))
  where
    before : List (Bool × Refusal)
    before = (not x.machine.is_up, MachineDown) ∷ file_tests x process file

-- and no more pages are than are allowed
read-few : (size offset many : ℕ) → many ≤ MOST_AT_ONCE → units_read size offset many ≤ min many MOST_AT_ONCE / UNIT_BYTES + 2
read-few size offset many once =
    let all : min many MOST_AT_ONCE ≡ many = min-eq_left once in
    let least : many_read size offset many ≤ many = min-le_left many (size - min offset size) in
    subst (λ n. units_read size offset many ≤ n / UNIT_BYTES + 2) (sym all) (elim (cases_Bool (many_read size offset many == 0)) [
      | inl none ↦ rw none (omega arith)
      | inr some ↦ rw some (omega (arith, least))
    ])

-- as many bytes are read
pub length-part : (seen : List ℕ) (offset many : ℕ) → length (take many (drop offset seen)) ≡ many_read (length seen) offset many
length-part seen offset many = length-take many (drop offset seen) ∙ ap (min many) (length-drop offset seen ∙ omega arith)

zeros-same : (a b : List ℕ) → length a ≡ length b → map no_byte a ≡ map no_byte b
zeros-same a b same = same_number_lists (map no_byte a) (map no_byte b) (length-map a no_byte ∙ same ∙ sym (length-map b no_byte)) (λ k short. zero-at a k ∙ sym (zero-at b k))

-- ---- what a read leaves

module _ (laws : Laws) (units : UnitsLaw) (m : MemoryState) (old new : PoolState) (process : Pid) (file : Label) (offset many : ℕ) (given : IsCommand (ReadFile file offset many)) (told now : Option DiskState) (s t : DiskStatus)
    (up : (present_of m).machine.is_up ≡ true) (ready : IsReady (kernel_of m old) told s) (left : HasEventsLeft (present_of m)) where
  abbrev x : Present
  x = present_of m

  -- over the bytes of a row it answers what they are of what it answers over the places
  over-row : (row : List ℕ) (reply : Reply) → decide x process (ReadFile file offset many) ≡ only_reply x reply → decide (mapped_present (byte_at row) x) process (ReadFile file offset many) ≡ only_reply (mapped_present (byte_at row) x) (mapped_read (byte_at row) reply)
  over-row row reply is = read-same units (byte_at row) refl x process file offset many reply is

  alone : decide x process (ReadFile file offset many) ≡ only_reply x (decide x process (ReadFile file offset many)).reply
  alone = read-alone x process file offset many

  -- it is refused
  pub read-refused : (refusal : Refusal) → decide x process (ReadFile file offset many) ≡ only_reply x (Refused refusal)
      → IsLineAnswered (Process process (ReadFile file offset many)) (decide x process (ReadFile file offset many)) (on (kernel_of m old) told s) (on (kernel_of m old) told s) (Refused refusal)
  read-refused refusal is =
      replied laws (Process process (ReadFile file offset many)) (λ y. decide y process (ReadFile file offset many)) (λ w l b r does. does) (call_goes_on laws.standing process (ReadFile file offset many) given)
      (kernel_of m old) old told told s s 0 up ready left (omega arith) (Refused refusal) (reads-none told s) (record { count = refl; held = (ready.core up).held; wanted = refl })
      (leads-same (kernel_of m old) told _ (λ row. (
        ap (λ (o : Outcome). o.reply) (over-row row (Refused refusal) is),
        ap (apply (mapped_present (byte_at row) x)) (over-row row (Refused refusal) is) ∙ apply-reply (mapped_present (byte_at row) x) (Refused refusal),
      )))
      alone (ap (reply_but_bytes (Process process (ReadFile file offset many))) (sym (ap (λ (o : Outcome). o.reply) is)))
      (λ down. decided_law.is_up x process (ReadFile file offset many) up (ap (λ (o : Outcome). o.reply) is ∙ down)) (inl refl)

  module _ (places : List ℕ) (is : decide x process (ReadFile file offset many) ≡ only_reply x (Contents (take many (drop offset places))))
      (named : (o : OpenFile) × (file_named x process file ≡ Some o) × (places ≡ bytes_seen x.files o.transaction o.node)) (keeps : KeepsMarks old new) where
    allowed : units_read (length places) offset many ≤ most_reads (Process process (ReadFile file offset many))
    allowed = read-few (length places) offset many (read-once x process file offset many (take many (drop offset places)) named.0 named.1 is)

    leads : (comes : List ℕ → Type 0) → ((row : List ℕ) → Shows old row → Agrees m.journal.units old row told → Shows new row × comes row) → LeadsTo told (kernel_of m old) (kernel_of m new) comes
    leads comes rows = leads-to units.0 m old new told comes (λ row shows agrees. let (shown, so) = rows row shows agrees in
        (row, shown, keeps-marked x.files old new (ready.core up).held keeps.stored (places-read x.files old new (ready.core up).held keeps) row, so))

    -- its bytes were read
    pub read-answered : (bytes : List ℕ) → OnlyReads (units_read (length places) offset many) told now s t false → length bytes ≡ many_read (length places) offset many
        → ((row : List ℕ) → Shows old row → Agrees m.journal.units old row told → Shows new row × (bytes ≡ take many (drop offset (map (byte_at row) places))))
        → IsLineAnswered (Process process (ReadFile file offset many)) (decide x process (ReadFile file offset many)) (on (kernel_of m old) told s) (on (kernel_of m new) now t) (Contents bytes)
    read-answered bytes only long rows =
        replied laws (Process process (ReadFile file offset many)) (λ y. decide y process (ReadFile file offset many)) (λ w l b r does. does) (call_goes_on laws.standing process (ReadFile file offset many) given)
        (kernel_of m old) new told now s t (units_read (length places) offset many) up ready left allowed (Contents bytes) only (places-read x.files old new (ready.core up).held keeps)
        (leads (λ row. ((decide (mapped_present (byte_at row) x) process (ReadFile file offset many)).reply ≡ Contents bytes)
        × (apply (mapped_present (byte_at row) x) (decide (mapped_present (byte_at row) x) process (ReadFile file offset many)) ≡ mapped_present (byte_at row) x))
        (λ row shows agrees. let (shown, so) = rows row shows agrees in (
          shown,
          (
            ap (λ (o : Outcome). o.reply) (over-row row (Contents (take many (drop offset places))) is) ∙ contents-same (byte_at row) offset many places ∙ ap Contents (sym so),
            ap (apply (mapped_present (byte_at row) x)) (over-row row (Contents (take many (drop offset places))) is) ∙ apply-reply (mapped_present (byte_at row) x) (mapped_read (byte_at row) (Contents (take many (drop offset places)))),
          ),
        )))
        alone
        (ap Contents (zeros-same bytes (take many (drop offset places)) (long ∙ sym (length-part places offset many))) ∙ sym (ap (λ (o : Outcome). mapped_read no_byte o.reply) is))
        (λ down. cc) (inr (refl, λ refusal no_refusal. cc))

    -- the disk went down
    pub read-fell : OnlyReads (units_read (length places) offset many) told now s t true → ((row : List ℕ) → Shows old row → Agrees m.journal.units old row told → Shows new row)
        → IsLineAnswered (Process process (ReadFile file offset many)) (decide x process (ReadFile file offset many)) (on (kernel_of m old) told s) (on (record (kernel_of m new) { now = fallen x }) now t) (Refused MachineDown)
    read-fell only rows =
        fell laws (Process process (ReadFile file offset many)) (λ y. decide y process (ReadFile file offset many)) (λ w l b r does. does) (call_goes_on laws.standing process (ReadFile file offset many) given)
        (kernel_of m old) new told now s t (units_read (length places) offset many) up ready left allowed only (leads (λ row. Unit {0}) (λ row shows agrees. (rows row shows agrees, tt))) refl
