-- What an answer makes of the places of files, and what of it is sound.
use Rattle.std.proofs.Common.{◌≡◌, ℕ, ◌*◌, ◌≤◌, Bool, true, false, Result, Ok, Err, sym, ◌∙◌, ap, subst}
use Rattle.ktm_base.specs.declared.fault.Down.{Down}
use Rattle.ktm_each.specs.Each.{EachOfFiles, EachOfGroup}
use Rattle.ktm_journal.specs.Image.{page_count}
use Rattle.ktm_log.specs.OnDisk.{OnDisk}
use Rattle.ktm_memory.specs.Memory.{LayersNow, MemoryState, now_of, present_of}
use Rattle.ktm_memory.specs.Rules.{AllowsNone, Follows, KeepsRules, SettlesByRules}
use Rattle.ktm_memory.specs.declared.settlement.Settlement.{Settlement}
use Rattle.ktm_memory.specs.Settled.{left_to_do}
use Rattle.ktm_memory.specs.Stored.{FilesLieBelow}
use Rattle.ktm_paged.specs.Paged.{IsSound}
use Rattle.ktm_route.specs.declared.asked.Asked.{Asked}
use Rattle.ktm_route.specs.Route.{AskedPutsBy}
use Rattle.ktm_world.specs.Files.{FilesNow}
use Rattle.ktm_world.specs.Outcome.{Outcome}
use Rattle.ktm_core.specs.Core.{IsSoundFor, is_sound}
use Rattle.ktm_memory.specs.Held.{files_of}
use Rattle.ktm_core.specs.Recording.{IsSameMemory, RoomLeaves}
use Rattle.ktm_core.proofs.Ends.{IsSoundOutcome}
use Rattle.ktm_core.proofs.LeftToDo.{events_alike}
use Rattle.ktm_core.proofs.Lying.{is-sound, none-sound, sound-below}
use Rattle.ktm_core.proofs.offered.Places.{files-weaker, group-weaker, recorded-each}

module _ (h : LayersNow) (asked : Asked) (o : Outcome) (files : FilesNow) (sound : IsSoundFor (page_count h.journal.units) (now_of h) asked) (rules : KeepsRules (λ rule. AskedPutsBy (now_of h) rule asked) h.files o.events files) where
  abbrev count : ℕ
  count = page_count h.journal.units

  ruled : EachOfGroup (Follows (is_sound sound.owner count)) o.events × EachOfFiles (Follows (is_sound sound.owner count)) files
  ruled = rules (is_sound sound.owner count) (none-sound sound.owner count) sound.files sound.puts

  -- what is asked comes to what is sound
  pub sound_outcome : IsSoundOutcome (now_of h) o
  sound_outcome = record {
    owner = sound.owner;
    state = recorded-each (IsSound sound.owner count) h (files-weaker (Follows (is_sound sound.owner count)) (IsSound sound.owner count) (is-sound sound.owner count) h.files sound.files);
    events = group-weaker (Follows (is_sound sound.owner count)) (IsSound sound.owner count) (is-sound sound.owner count) o.events ruled.0;
  }

  -- and the files stay on the pages that there are
  pub files_below : FilesLieBelow count files
  files_below = files-weaker (Follows (is_sound sound.owner count)) (λ file index place. place ≤ count * 4096) (λ file index place is. sound-below sound.owner count file index place (is-sound sound.owner count file index place is)) files ruled.1

-- ---- rules

-- memory settles by the rules by which it was decided, whatever its journal has become
pub settled_rules : (n r m : MemoryState) (rest : Settlement) (o : Outcome) → IsSameMemory n r → (left_to_do (present_of n) rest).events ≡ o.events → SettlesByRules (files_of r.files) (left_to_do (present_of r) rest).events (files_of m.files)
    → (rule : ℕ → ℕ → ℕ → Bool) → AllowsNone rule → EachOfFiles (Follows rule) (files_of n.files) → EachOfGroup (Follows rule) o.events → EachOfFiles (Follows rule) (files_of m.files)
settled_rules n r m rest o same is settles rule none files events =
    settles rule none (subst (λ (b : MemoryState). EachOfFiles (Follows rule) (files_of b.files)) (sym same.is) files)
    (subst (EachOfGroup (Follows rule)) (sym (ap (λ (b : MemoryState). (left_to_do (present_of b) rest).events) same.is ∙ events_alike n r.journal rest ∙ is)) events)

-- where room is made the files are as they were
pub room_files : (b : Bool) (old new : OnDisk MemoryState) (result : Result (Unit {0}) Down) → RoomLeaves b old new result → new.it.files ≡ old.it.files
room_files true old new (Ok unit) saved = ap (λ (m : MemoryState). m.files) saved.is
room_files true old new (Err down) half = ap (λ (m : MemoryState). m.files) half.same
room_files false old new (Ok unit) same = ap (λ (d : OnDisk MemoryState). d.it.files) same
room_files false old new (Err down) never = absurd never
