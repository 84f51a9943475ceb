-- A put of units that were filled may be asked, and comes to what the write of their bytes comes to.
use Rattle.std.proofs.Common.{◌≡◌, ℕ, zero, suc, ◌+◌, ◌-◌, ◌*◌, ◌/◌, ◌^◌, ◌<◌, ◌≤◌, not, Bool, true, false, List, [], ◌∷◌, ◌++◌, length, get_or, map, nat_lt, Option, Some, None, refl, sym, ◌∙◌, ap, subst, arith, inl, inr, ltb-false}
use Rattle.std.specs.Prelude.{min, max}
use Rattle.std.proofs.Math.Nat.{le-max_right, max-eq_left, max-eq_right, min-eq_left, min-le_left, min-le_right}
use Rattle.std.proofs.lemmas.Bool.{cases_lt}
use Rattle.std.proofs.lemmas.Grind.{same_number_lists}
use Rattle.std.proofs.lemmas.List.{length-map}
use Rattle.ktm_base.specs.declared.id.Id.{Id}
use Rattle.ktm_content.proofs.offered.PutBytes.{length-put_over, put-inside, put-none, put-outside}
use Rattle.std.proofs.lemmas.Option.{same_Some}
use Rattle.ktm_base.specs.declared.id.Label.{Label}
use Rattle.ktm_base.specs.declared.id.Pid.{Pid}
use Rattle.ktm_base.specs.declared.limits.TheConstants.{MOST_AT_ONCE, UNIT_BYTES}
use Rattle.ktm_base.specs.declared.refusal.Refusal.{Refusal}
use Rattle.ktm_base.specs.declared.refusal.Refusal.TheVariants.{InvalidParameter, MachineDown}
use Rattle.ktm_alike.specs.Alike.{mapped_outcome, mapped_present}
use Rattle.ktm_alike.specs.Laws.{AlikeLaw}
use Rattle.ktm_content.specs.Places.{byte_at}
use Rattle.ktm_core.specs.Core.{AreSoundFiles, is_sound}
use Rattle.ktm_each.specs.Each.{EachFrom, EachOfFiles}
use Rattle.ktm_each.proofs.offered.Files.{bytes_seen-each}
use Rattle.ktm_core.specs.Rules.{Follows}
use Rattle.ktm_core.specs.Stored.{AreFilesHeld}
use Rattle.ktm_core.specs.Units.{AreUnits, SuitsExtent}
use Rattle.ktm_core.specs.Extent.{Extent}
use Rattle.ktm_paged.specs.Laws.{StatesApart}
use Rattle.ktm_paged.specs.Paged.{owners_with}
use Rattle.ktm_core.specs.Asked.TheVariants.{Call, Units}
use Rattle.ktm_core.specs.Route.{IsOfPlaces}
use Rattle.ktm_laws.specs.ReservedFiles.{closes_handles, is_by}
use Rattle.ktm_world.specs.declared.command.Line.TheVariants.{Process}
use Rattle.ktm_standing.specs.Standing.{IsStandingNow}
use Rattle.ktm_store.specs.Pool.{FilledPages, TookPages, on_row}
use Rattle.ktm_kernel.specs.Answers.{completes_line, line_owes_more, line_writes, no_byte}
use Rattle.ktm_core.specs.Target.{Target}
use Rattle.ktm_core.specs.Targets.{IsTarget, MayBeSoLong}
use Rattle.ktm_store.specs.Marks.{MarksState}
use Rattle.ktm_store.specs.Store.{AreHeld, IsHeldAt, IsTouched, PoolState}
use Rattle.ktm_store.proofs.offered.Holding.{bytes-kept}
use Rattle.ktm_world.specs.Values.{IsCommand, IsLabel}
use Rattle.ktm_world.specs.declared.command.Command.TheVariants.{SetEndOfFile, WriteFile, WriteUnits}
use Rattle.ktm_standing.proofs.offered.Applied.{apply-reply}
use Rattle.ktm_standing.proofs.offered.Decided.{decided_law}
use Rattle.ktm_standing.specs.Laws.{FilesLaw}
use Rattle.ktm_world.specs.declared.command.Command.{Command}
use Rattle.ktm_world.specs.declared.reply.Reply.TheVariants.{Refused}
use Rattle.ktm_core.specs.Extent.TheVariants.{End, Put}
use Rattle.ktm_units.specs.Units.{IsOfNoBytes, IsSameOutcome, UnitsLaw}
use Rattle.ktm_world.specs.Decide.{decide, own_tests, refusal_of}
use Rattle.ktm_world.specs.FileCalls.{write_file_tests, write_units_tests}
use Rattle.ktm_world.specs.Files.{FilesNow, OpenFile, bytes_seen}
use Rattle.ktm_world.specs.Labels.{file_named, file_tests}
use Rattle.ktm_world.specs.Outcome.{Outcome, first_refusal, only_reply}
use Rattle.ktm_world.specs.Present.{Present}
use Rattle.ktm_world.specs.Tree.{cut_to, put_over}
use Rattle.ktm_world.specs.Uses.{file_room}
use Rattle.ktm_kernel.specs.Staging.{IsOverPlaces, MayAsk, is_held_at}
use Rattle.ktm_kernel.proofs.Given.{command-over, same-command, same-reply}
use Rattle.ktm_kernel.proofs.Rooms.{few-units, recorded-tree, suits-end, suits-put, touched-end, touched-some}
use Rattle.ktm_kernel.proofs.Rules.{held-rule}
use Rattle.ktm_kernel.proofs.Stages.{all-from, fills-held, files-sound, from-all, puts-sound}
use Rattle.ktm_kernel.proofs.Writing.{end-over, write-over}

-- contents that are seen of files are held
pub seen-held : (marks : MarksState) (files : FilesNow) → EachOfFiles (λ file index place. IsHeldAt marks place) files → (t : Target) → t.contents ≡ bytes_seen files t.who t.node → AreHeld marks.held t.contents
seen-held marks files held t is = subst (λ (xs : List ℕ). AreHeld marks.held xs) (sym is)
    (all-from (λ index place. IsHeldAt marks place) (IsHeldAt marks) (λ index place held. held) 0 (bytes_seen files t.who t.node)
    (bytes_seen-each (λ file index place. IsHeldAt marks place) (λ file index some. absurd (some refl)) files t.who t.node held))

-- ---- what passes the tests

-- no test of a list holds where nothing refuses
pub passed : (before : List (Bool × Refusal)) (test : Bool × Refusal) (rest : List (Bool × Refusal)) → first_refusal (before ++ test ∷ rest) ≡ None → test.0 ≡ false
passed [] (true, refusal) rest none = absurd (cc)
passed [] (false, refusal) rest none = refl
passed ((true, r) ∷ before) test rest none = absurd (cc)
passed ((false, r) ∷ before) test rest none = passed before test rest none

-- so many bytes may be written at once
pub at-once : (x : Present) (process : Pid) (file : Label) (offset : ℕ) (bytes : List ℕ) (o : OpenFile) → file_named x process file ≡ Some o → refusal_of x process (WriteFile file offset bytes) ≡ None → length bytes ≤ MOST_AT_ONCE
unfolding write_file_tests
at-once x process file offset bytes o named none = ltb-false MOST_AT_ONCE (length bytes)
    (passed before (nat_lt MOST_AT_ONCE (length bytes), InvalidParameter) (write_units_tests x.files (file_room x) o offset bytes)
    (subst (λ (f : Option OpenFile). first_refusal (before ++ own_tests f (λ o. write_file_tests x.files (file_room x) o offset bytes)) ≡ None) named none))
  where
    before : List (Bool × Refusal)
    before = (not x.machine.is_up, MachineDown) ∷ file_tests x process file

-- ---- zeros

-- each byte is zero
pub zero-at : (xs : List ℕ) (k : ℕ) → get_or (map no_byte xs) k 0 ≡ 0
zero-at [] k = refl
zero-at (x ∷ xs) zero = refl
zero-at (x ∷ xs) (suc k) = zero-at xs k

-- zeros are put over zeros, wherever they are put, where they end with the same
zeros-put : (seen : List ℕ) (start : ℕ) (part : List ℕ) (offset : ℕ) (bytes : List ℕ) → max (length seen) (start + length part) ≡ max (length seen) (offset + length bytes)
    → map no_byte (put_over seen start part) ≡ put_over (map no_byte seen) offset (map no_byte bytes)
zeros-put seen start part offset bytes same =
    same_number_lists (map no_byte (put_over seen start part)) (put_over (map no_byte seen) offset (map no_byte bytes))
    (length-map (put_over seen start part) no_byte ∙ length-put_over seen start part ∙ same
    ∙ sym (length-put_over (map no_byte seen) offset (map no_byte bytes) ∙ (λ i. max (length-map seen no_byte i) (offset + length-map bytes no_byte i))))
    (λ k short. zero-at (put_over seen start part) k ∙ sym (none k))
  where
    none : (k : ℕ) → get_or (put_over (map no_byte seen) offset (map no_byte bytes)) k 0 ≡ 0
    none k = elim (cases_lt k offset) [
      | inl before ↦ put-outside (map no_byte seen) offset (map no_byte bytes) k (inl before) ∙ zero-at seen k
      | inr from ↦ elim (cases_lt k (offset + length (map no_byte bytes))) [
        | inl within ↦ put-inside (map no_byte seen) offset (map no_byte bytes) k from within ∙ zero-at bytes (k - offset)
        | inr behind ↦ put-outside (map no_byte seen) offset (map no_byte bytes) k (inr behind) ∙ zero-at seen k
      ]
    ]

-- and so they are where contents become longer
zeros-cut : (seen : List ℕ) (start : ℕ) (part : List ℕ) (size : ℕ) → length seen < size → max (length seen) (start + length part) ≡ size → map no_byte (put_over seen start part) ≡ cut_to (map no_byte seen) size
zeros-cut seen start part size longer same =
    let whole : max (length seen) (size + 0) ≡ size = max-eq_right (omega (arith, longer)) ∙ omega arith in
    zeros-put seen start part size [] (same ∙ sym whole) ∙ put-none (map no_byte seen) size (let as_long = length-map seen no_byte in omega (arith, longer, as_long))

-- what was put ends where the contents end then
ends-same : (size at end start : ℕ) (part : List ℕ) → 1 ≤ end → IsTouched size at end start part → max size (start + length part) ≡ max size end
ends-same size at end start part some t = elim (cases_lt size end) [
  | inl longer ↦
      let all : max size end ≡ end = max-eq_right (omega (arith, longer)) in
      let unit : end ≤ ((end - 1) / 4096 + 1) * 4096 = omega (arith, some) in
      let whole : start + length part ≡ end = t.last ∙ ap (λ n. min n (((end - 1) / 4096 + 1) * 4096)) all ∙ min-eq_left unit in
      ap (max size) whole
  | inr shorter ↦
      let all : max size end ≡ size = max-eq_left shorter in
      let least : min (max size end) (((end - 1) / 4096 + 1) * 4096) ≤ max size end = min-le_left (max size end) (((end - 1) / 4096 + 1) * 4096) in
      let ends : start + length part ≤ size = omega (arith, t.last, least, all) in
      max-eq_left ends ∙ sym all
]

-- ---- what was filled

module _ (apart : StatesApart) (x : Present) (process : Pid) (file : Label) (t : Target) (target : IsTarget x process file t) (old new : PoolState) (start : ℕ) (part : List ℕ)
    (many : ℕ) (took : TookPages many t.contents old new start part) (held : AreFilesHeld old x.files) where
  -- whatever the label names is the target
  named-seen : (P : List ℕ → Type 0) → P t.contents → (o : OpenFile) → file_named x process file ≡ Some o → P (bytes_seen x.files o.transaction o.node)
  named-seen P is o named = subst (λ (f : OpenFile). P (bytes_seen x.files f.transaction f.node)) (same_Some target.file o (sym target.named ∙ named))
      (subst P (target.contents ∙ (λ i. bytes_seen x.files (sym target.who i) (sym target.node i))) is)

  named-node : (P : ℕ → Type 0) → P t.node → (o : OpenFile) → file_named x process file ≡ Some o → P o.node
  named-node P is o named = subst (λ (f : OpenFile). P f.node) (same_Some target.file o (sym target.named ∙ named)) (subst P (sym target.node) is)

  -- the bytes of what is put
  result : (f : ℕ → ℕ) (after : List ℕ → List ℕ) → map f (put_over t.contents start part) ≡ after (map f t.contents)
      → map f (put_over (bytes_seen x.files target.file.transaction target.file.node) start part) ≡ after (map f (bytes_seen x.files target.file.transaction target.file.node))
  result f after is = named-seen (λ seen. map f (put_over seen start part) ≡ after (map f seen)) is target.file target.named

  -- in a row where it was filled
  in-row : (after : List ℕ → List ℕ) (row later : List ℕ) → FilledPages after t.contents old new start part row later → map (byte_at later) (put_over t.contents start part) ≡ after (map (byte_at later) t.contents)
  in-row after row later fills = fills.bytes
      ∙ ap after (sym (bytes-kept (on_row old row) (on_row new later) t.contents (fills-held after many t.contents old new start part row later took fills) (seen-held old.marks x.files held t target.contents)))

  module _ (sound : AreSoundFiles (length old.marks.held) x.files) (extent : Extent) (suits : SuitsExtent (length t.contents) start part extent) (label : IsLabel file) (some : 1 ≤ length part) (few : length part < 2 ^ 32)
      (command : Command) (outcome : Outcome) (zeros : IsOverPlaces no_byte x (decide x process (WriteUnits file start part)) (mapped_outcome no_byte outcome))
      (completes : false ≡ completes_line (Process process command)) (owes : true ≡ line_owes_more (Process process command)) (writes : line_writes (Process process command) ≡ true)
      (by : (id : Id) → is_by x process (WriteUnits file start part) id ≡ is_by x process command id) (closes : false ≡ closes_handles command) where
    begins : start / UNIT_BYTES * UNIT_BYTES ≡ start
    begins = let is = took.can.begins in omega (arith, is)

    may-ask : MayAsk x new (Process process command) outcome (Units process file start part extent)
    may-ask = record {
      can = ((label, some, few), named-seen (λ seen. AreUnits seen start part extent) (record { can = took.can; suits = suits }));
      sound = record {
        owner = owners;
        files = files-sound apart old new start part took.pages took.lie took.once took.were_free took.held took.count (start / UNIT_BYTES) begins sound.0 t.node x.files held sound.1;
        puts = named-node (λ node. EachFrom (Follows (is_sound owners (length new.marks.held)) node) start part)
            (puts-sound apart old new start part took.pages took.lie took.once took.were_free took.held took.count (start / UNIT_BYTES) begins sound.0 t.node);
      };
      held = λ o named. from-all (Follows (is_held_at new.marks) o.node) (λ place. IsHeldAt new.marks place) (λ index place. held-rule new.marks o.node index place) start part took.held;
      zeros = zeros;
      completes = completes;
      owes = owes;
      writes = λ is. writes;
      by = by;
      closes = closes;
    }
      where
        owners : ℕ → ℕ × ℕ
        owners = owners_with sound.0 t.node (start / UNIT_BYTES) took.pages

-- ---- what is asked

module _ (units : UnitsLaw) (alike : AlikeLaw) (files : FilesLaw) (apart : StatesApart) (x : Present) (process : Pid) (file : Label) (t : Target) (old new : PoolState) (start : ℕ) (part : List ℕ)
    (many : ℕ) (took : TookPages many t.contents old new start part) (held : AreFilesHeld old x.files) (standing : IsStandingNow x) where
  few-there : (most : ℕ) → most ≤ x.recorded.units * UNIT_BYTES → start + length part ≤ most → length part < 2 ^ 32
  few-there most small ends = let most_units = few-units x standing in omega (arith, small, ends, most_units)

  -- the write of these bytes
  module _ (offset : ℕ) (bytes : List ℕ) (some : 1 ≤ length bytes) (long : MayBeSoLong x process file (max (length t.contents) (offset + length bytes)) t) (passes : refusal_of x process (WriteFile file offset bytes) ≡ None)
      (touched : IsTouched (length t.contents) offset (offset + length bytes) start part) where
    puts-some : 1 ≤ length part
    puts-some =
        let least = min-le_right (length t.contents) offset in
        touched-some (length t.contents) offset (offset + length bytes) start part touched (omega (arith, least, some))

    -- over the bytes that a function gives for each place
    over-by : (f : ℕ → ℕ) → f 0 ≡ 0 → (others : List ℕ) → length others ≡ length bytes → map f (put_over t.contents start part) ≡ put_over (map f t.contents) offset others
        → IsOverPlaces f x (decide x process (WriteUnits file start part)) (decide (mapped_present f x) process (WriteFile file offset others))
    over-by f blank others as_many is =
        let once : length bytes ≤ MOST_AT_ONCE = at-once x process file offset bytes long.target.file long.target.named passes in
        let any : 1 ≤ length others = omega (arith, as_many, some) in
        write-over f x process file t long.target start part offset others puts-some any
        (subst (λ n. IsTouched (length t.contents) offset (offset + n) start part) (sym as_many) touched)
        (((units.1 f blank).1 x process file long.target.file (recorded-tree files x standing) long.target.named).write start offset part others puts-some any (omega (arith, as_many, once))
        (result apart x process file t long.target old new start part many took held f (λ before. put_over before offset others) is))

    pub write-comes : (row later : List ℕ) → FilledPages (λ before. put_over before offset bytes) t.contents old new start part row later
        → IsOverPlaces (byte_at later) x (decide x process (WriteUnits file start part)) (decide (mapped_present (byte_at later) x) process (WriteFile file offset bytes))
    write-comes row later fills = over-by (byte_at later) refl bytes refl (in-row apart x process file t long.target old new start part many took held (λ before. put_over before offset bytes) row later fills)

    pub write-asks : AreSoundFiles (length old.marks.held) x.files → IsLabel file
        → MayAsk x new (Process process (WriteFile file offset bytes)) (decide x process (WriteFile file offset bytes)) (Units process file start part (Put offset (length bytes)))
    write-asks sound label =
        let reaches = le-max_right (length t.contents) (offset + length bytes) in
        let most_units = few-units x standing in
        let fits : offset + length bytes < 2 ^ 64 = omega (arith, reaches, long.small, most_units) in
        may-ask apart x process file t long.target old new start part many took held sound
        (Put offset (length bytes)) (suits-put (length t.contents) offset (length bytes) start part some fits touched) label puts-some
        (few-there (max (length t.contents) (offset + length bytes)) long.small (touched-end (length t.contents) offset (offset + length bytes) start part touched))
        (WriteFile file offset bytes) (decide x process (WriteFile file offset bytes))
        (subst (λ (o : Outcome). IsOverPlaces no_byte x (decide x process (WriteUnits file start part)) o) ((alike no_byte refl).0.decided x process (WriteFile file offset bytes))
        (over-by no_byte refl (map no_byte bytes) (length-map bytes no_byte)
        (zeros-put t.contents start part offset bytes (ends-same (length t.contents) offset (offset + length bytes) start part (omega (arith, some)) touched))))
        refl (owes bytes some) refl (λ id. refl) refl
      where
        owes : (bytes : List ℕ) → 1 ≤ length bytes → true ≡ line_owes_more (Process process (WriteFile file offset bytes))
        owes bytes some = refl

  -- the end that makes the file longer
  module _ (size : ℕ) (longer : length t.contents < size) (long : MayBeSoLong x process file size t) (touched : IsTouched (length t.contents) size size start part) where
    grows-some : 1 ≤ length part
    grows-some =
        let least = min-le_left (length t.contents) size in
        touched-some (length t.contents) size size start part touched (omega (arith, least, longer))

    whole : max (length t.contents) size ≡ size
    whole = max-eq_right (omega (arith, longer))

    grown-by : (f : ℕ → ℕ) → f 0 ≡ 0 → map f (put_over t.contents start part) ≡ cut_to (map f t.contents) size
        → IsOverPlaces f x (decide x process (WriteUnits file start part)) (decide (mapped_present f x) process (SetEndOfFile file size))
    grown-by f blank is =
        end-over f x process file t long.target start part size grows-some longer touched
        (((units.1 f blank).1 x process file long.target.file (recorded-tree files x standing) long.target.named).grow start size part grows-some
        (result apart x process file t long.target old new start part many took held f (λ before. cut_to before size) is))

    pub end-comes : (row later : List ℕ) → FilledPages (λ before. cut_to before size) t.contents old new start part row later
        → IsOverPlaces (byte_at later) x (decide x process (WriteUnits file start part)) (decide (mapped_present (byte_at later) x) process (SetEndOfFile file size))
    end-comes row later fills = grown-by (byte_at later) refl (in-row apart x process file t long.target old new start part many took held (λ before. cut_to before size) row later fills)

    pub end-asks : AreSoundFiles (length old.marks.held) x.files → IsLabel file
        → MayAsk x new (Process process (SetEndOfFile file size)) (decide x process (SetEndOfFile file size)) (Units process file start part End)
    end-asks sound label =
        let most_units = few-units x standing in
        let fits : size < 2 ^ 64 = omega (arith, long.small, most_units) in
        let ends : start + length part ≤ size = (let end = touched-end (length t.contents) size size start part touched in omega (arith, end, whole)) in
        may-ask apart x process file t long.target old new start part many took held sound
        End (suits-end (length t.contents) size start part longer fits touched) label grows-some (few-there size long.small ends)
        (SetEndOfFile file size) (decide x process (SetEndOfFile file size))
        (subst (λ (o : Outcome). IsOverPlaces no_byte x (decide x process (WriteUnits file start part)) o) ((alike no_byte refl).0.decided x process (SetEndOfFile file size))
        (grown-by no_byte refl (zeros-cut t.contents start part size longer (ends-same (length t.contents) size size start part (omega (arith, longer)) touched ∙ whole))))
        refl refl refl (λ id. refl) refl

-- a call that has no bytes
pub call-asks : UnitsLaw → AlikeLaw → (x : Present) (process : Pid) (c : Command) (pool : PoolState) → IsOfPlaces x process c → IsOfNoBytes c → AreSoundFiles (length pool.marks.held) x.files
    → MayAsk x pool (Process process c) (decide x process c) (Call process c)
call-asks units alike x process c pool can none sound = record {
  can = can;
  sound = record { owner = sound.0; files = sound.1; puts = tt };
  held = tt;
  zeros = subst (λ (o : Outcome). IsOverPlaces no_byte x (decide x process c) o)
      (ap (decide (mapped_present no_byte x) process) (sym (same-command no_byte c none)) ∙ (alike no_byte refl).0.decided x process c ∙ ap (λ r. record (mapped_outcome no_byte (decide x process c)) { reply = r }) (same-reply no_byte c none (decide x process c).reply))
      (command-over units alike no_byte refl x process c none);
  completes = refl;
  owes = refl;
  writes = λ is. (let e : false ≡ true = is in absurd (cc));
  by = λ id. refl;
  closes = refl;
}

-- an end that makes no file longer can be asked as it is
pub cuts-can : (x : Present) (process : Pid) (file : Label) (size : ℕ) (t : Target) → IsCommand (SetEndOfFile file size) → IsTarget x process file t → size ≤ length t.contents → IsOfPlaces x process (SetEndOfFile file size)
cuts-can x process file size t command target shorter = (
  command,
  λ o named. subst (λ (f : OpenFile). size ≤ length (bytes_seen x.files f.transaction f.node)) (same_Some target.file o (sym target.named ∙ named))
      (subst (λ (xs : List ℕ). size ≤ length xs) (target.contents ∙ (λ i. bytes_seen x.files (sym target.who i) (sym target.node i))) shorter),
)

-- ---- what is refused

-- the same refuses it over the bytes
pub refused-staged : (f : ℕ → ℕ) (x : Present) (process : Pid) (c : Command) (refusal : Refusal) → refusal_of (mapped_present f x) process c ≡ Some refusal
    → IsSameOutcome f x (only_reply x (Refused refusal)) (decide (mapped_present f x) process c)
refused-staged f x process c refusal is = subst (λ (o : Outcome). IsSameOutcome f x (only_reply x (Refused refusal)) o) (sym (decided_law.refused (mapped_present f x) process c refusal is)) (record {
  reply = refl;
  leaves = record {
    comes_to = apply-reply (mapped_present f x) (Refused refusal) ∙ ap (mapped_present f) (sym (apply-reply x (Refused refusal)));
    events = inl refl;
  };
})

-- and so it does a write, whatever its bytes
pub write-refused : UnitsLaw → (seen : List ℕ) (x : Present) (process : Pid) (file : Label) (offset : ℕ) (bytes : List ℕ) (refusal : Refusal) → refusal_of x process (WriteFile file offset bytes) ≡ Some refusal
    → IsSameOutcome (byte_at seen) x (only_reply x (Refused refusal)) (decide (mapped_present (byte_at seen) x) process (WriteFile file offset bytes))
write-refused units seen x process file offset bytes refusal is = refused-staged (byte_at seen) x process (WriteFile file offset bytes) refusal (((units.1 (byte_at seen) refl).0 x).refused process file offset bytes ∙ is)

-- so it does an end
pub end-refused : UnitsLaw → (seen : List ℕ) (x : Present) (process : Pid) (file : Label) (size : ℕ) (refusal : Refusal) → refusal_of x process (SetEndOfFile file size) ≡ Some refusal
    → IsSameOutcome (byte_at seen) x (only_reply x (Refused refusal)) (decide (mapped_present (byte_at seen) x) process (SetEndOfFile file size))
end-refused units seen x process file size refusal is =
    subst (λ (o : Outcome). IsSameOutcome (byte_at seen) x o (decide (mapped_present (byte_at seen) x) process (SetEndOfFile file size))) (decided_law.refused x process (SetEndOfFile file size) refusal is)
    (((units.1 (byte_at seen) refl).0 x).command process (SetEndOfFile file size) tt)
