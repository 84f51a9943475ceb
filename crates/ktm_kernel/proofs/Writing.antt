-- A put of units over places puts no more than the write of bytes touches that it stands for.
use Rattle.std.proofs.Common.{◌≡◌, ◌⊎◌, ℕ, ◌+◌, ◌/◌, ◌<◌, ◌≤◌, List, [], ◌∷◌, length, Option, Some, None, nat_lt, refl, sym, ◌∙◌, ap, subst, arith, inl, inr, lt-ltb}
use Rattle.std.specs.Prelude.{if◌then◌else◌}
use Rattle.std.proofs.Math.Nat.{min-eq_left}
use Rattle.std.proofs.lemmas.List.{length-map}
use Rattle.ktm_alike.proofs.offered.Files.{bytes_of-mapped}
use Rattle.ktm_alike.specs.Alike.{mapped_present}
use Rattle.ktm_base.specs.declared.id.Id.{Id}
use Rattle.ktm_base.specs.declared.id.Label.{Label}
use Rattle.ktm_base.specs.declared.id.Pid.{Pid}
use Rattle.ktm_base.specs.declared.limits.TheConstants.{UNIT_BYTES}
use Rattle.ktm_base.specs.declared.refusal.Refusal.{Refusal}
use Rattle.ktm_content.specs.Contents.{units_of}
use Rattle.ktm_core.specs.Stored.{units_of_change, units_put}
use Rattle.ktm_core.specs.Target.{Target}
use Rattle.ktm_core.specs.Targets.{IsTarget}
use Rattle.ktm_paged.specs.Meaning.{first_unit, size_before, units_from}
use Rattle.ktm_store.specs.Store.{IsTouched}
use Rattle.ktm_world.specs.declared.change.Change.{Change}
use Rattle.ktm_world.specs.declared.change.Change.TheVariants.{Cut, Put}
use Rattle.ktm_world.specs.declared.change.Contents.TheVariants.{Whole}
use Rattle.ktm_world.specs.declared.command.Command.TheVariants.{SetEndOfFile, WriteFile, WriteUnits}
use Rattle.ktm_world.specs.Decide.{decide, events_of, on_file, refusal_of}
use Rattle.ktm_world.specs.FileCalls.{set_end, write_file}
use Rattle.ktm_world.specs.FileOutcome.{FileOutcome, changing}
use Rattle.ktm_world.specs.Files.{OpenFile, bytes_seen}
use Rattle.ktm_world.specs.Groups.{Group}
use Rattle.ktm_world.specs.Labels.{file_named}
use Rattle.ktm_world.specs.Outcome.{Outcome, refuse_or}
use Rattle.ktm_world.specs.Present.{Present}
use Rattle.ktm_world.specs.Tree.{bytes_of}
use Rattle.ktm_units.specs.Units.{AreEventsSame, IsSameOutcome}
use Rattle.ktm_kernel.specs.Done.{units_touched, units_written}
use Rattle.ktm_kernel.specs.Staging.{IsOverPlaces}
use Rattle.ktm_kernel.proofs.Rooms.{touched-few}
use Rattle.ktm_kernel.proofs.Sizes.{no-events}

-- ---- what is recorded of one change

-- nothing, or the event of a plain change
abbrev RecordsChange : Option Id → Change → Group → Type 0
RecordsChange who c events = (events ≡ []) ⊎ (events ≡ events_of who (Some c))

-- a call on an open file records what it changes, if it is not refused
call-records : (x : Present) (refused : Option Refusal) (o : OpenFile) (named : Option OpenFile) (call : OpenFile → FileOutcome) (c : Change) → named ≡ Some o → call o ≡ changing c
    → RecordsChange o.transaction c (refuse_or x refused (on_file x named call)).events
call-records x (Some refusal) o named call c is makes = inl refl
call-records x None o named call c is makes = inr (rw is (rw makes refl))

-- one plain change puts no more than another one touches, and in a transaction nothing is recorded
change-writes : (f : ℕ → ℕ) (x : Present) (who : Option Id) (c d : Change) (events asked : Group) → RecordsChange who c events → RecordsChange who d asked → AreEventsSame f events asked
    → (who ≡ None → units_of_change c ≤ units_touched (size_before x.files.tree d) d) → units_put events ≤ units_written x asked
change-writes f x who c d events asked (inl none) is same few = rw none (omega arith)
change-writes f x who c d events asked (inr puts) (inl none) same few = rw (no-events f events asked same none) (omega arith)
change-writes f x (Some id) c d events asked (inr puts) (inr is) same few = rw puts (omega arith)
change-writes f x None c d events asked (inr puts) (inr is) same few = rw (puts, is) (let fewer = few refl in omega (arith, fewer))

-- ---- a put of units

module _ (f : ℕ → ℕ) (x : Present) (process : Pid) (file : Label) (t : Target) (target : IsTarget x process file t) (start : ℕ) where
  -- what is so with the bytes in the place of the places
  abbrev seen : Present
  seen = mapped_present f x

  -- the committed file has as many bytes as are seen of it in no transaction
  size : target.file.transaction ≡ None → length (bytes_of seen.files.tree target.file.node) ≡ length t.contents
  size plain =
      ap length (bytes_of-mapped f x.files.tree target.file.node) ∙ length-map (bytes_of x.files.tree target.file.node) f
      ∙ sym (ap length (target.contents ∙ (λ i. bytes_seen x.files (sym target.who i) (sym target.node i)) ∙ ap (λ who. bytes_seen x.files who target.file.node) plain))

  -- the put of these units
  abbrev put : List ℕ → Outcome
  put part = decide x process (WriteUnits file start part)

  puts : (k : ℕ) (ks : List ℕ) → RecordsChange target.file.transaction (Put target.file.node start (Whole (k ∷ ks))) (put (k ∷ ks)).events
  unfolding write_file
  puts k ks = call-records x (refusal_of x process (WriteUnits file start (k ∷ ks))) target.file (file_named x process file) (λ o. write_file o start (k ∷ ks)) (Put target.file.node start (Whole (k ∷ ks))) target.named refl

  -- a write of bytes
  pub write-over : (part : List ℕ) (offset : ℕ) (bytes : List ℕ) → 1 ≤ length part → 1 ≤ length bytes → IsTouched (length t.contents) offset (offset + length bytes) start part
      → IsSameOutcome f x (put part) (decide seen process (WriteFile file offset bytes)) → IsOverPlaces f x (put part) (decide seen process (WriteFile file offset bytes))
  unfolding write_file
  write-over [] offset bytes some any touched same = absurd (omega (arith, some))
  write-over (k ∷ ks) offset [] some any touched same = absurd (omega (arith, any))
  write-over (k ∷ ks) offset (b ∷ bs) some any touched same = record {
    same = same;
    few = change-writes f seen target.file.transaction (Put target.file.node start (Whole (k ∷ ks))) (Put target.file.node offset (Whole (b ∷ bs))) (put (k ∷ ks)).events (decide seen process (WriteFile file offset (b ∷ bs))).events
        (puts k ks)
        (call-records seen (refusal_of seen process (WriteFile file offset (b ∷ bs))) target.file (file_named seen process file) (λ o. write_file o offset (b ∷ bs)) (Put target.file.node offset (Whole (b ∷ bs))) target.named refl)
        same.leaves.events
        (λ plain. subst (λ n. units_of (k ∷ ks) ≤ units_from (first_unit n offset) (offset + length (b ∷ bs))) (sym (size plain))
        (touched-few (length t.contents) offset (offset + length (b ∷ bs)) start (k ∷ ks) touched (omega (arith, any))));
  }

  -- an end that makes the file longer
  pub end-over : (part : List ℕ) (end : ℕ) → 1 ≤ length part → length t.contents < end → IsTouched (length t.contents) end end start part
      → IsSameOutcome f x (put part) (decide seen process (SetEndOfFile file end)) → IsOverPlaces f x (put part) (decide seen process (SetEndOfFile file end))
  unfolding set_end
  end-over [] end some longer touched same = absurd (omega (arith, some))
  end-over (k ∷ ks) end some longer touched same = record {
    same = same;
    few = change-writes f seen target.file.transaction (Put target.file.node start (Whole (k ∷ ks))) (Cut target.file.node end []) (put (k ∷ ks)).events (decide seen process (SetEndOfFile file end)).events
        (puts k ks)
        (call-records seen (refusal_of seen process (SetEndOfFile file end)) target.file (file_named seen process file) (λ o. set_end o end) (Cut target.file.node end []) target.named refl)
        same.leaves.events
        (λ plain. subst (λ n. units_of (k ∷ ks) ≤ (if nat_lt n end then units_from (n / UNIT_BYTES) end else 0)) (sym (size plain))
        (rw (lt-ltb (length t.contents) end longer) few));
  }
    where
      few : units_of (k ∷ ks) ≤ units_from (length t.contents / UNIT_BYTES) end
      few = subst (λ n. units_of (k ∷ ks) ≤ units_from (n / UNIT_BYTES) end) (min-eq_left (omega (arith, longer)))
          (touched-few (length t.contents) end end start (k ∷ ks) touched (omega (arith, longer)))
