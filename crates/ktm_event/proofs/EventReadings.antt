-- How what is read of an event at one place goes on at the next.
use Rattle.std.proofs.Common.{◌≢◌, ℕ, None, List, [], refl}
use Rattle.ktm_codec.specs.Spans.{Reads}
use Rattle.ktm_world.specs.declared.event.Event.{Event}
use Rattle.ktm_world.specs.declared.event.Event.TheVariants.{Boot, MadeRm, Plain, Ready, Single, Held, Decide, Undo}
use Rattle.ktm_world.specs.EventGrammar.{IsIdOf, IsPartOf, IsSoleOf, IsDoneOf, IsEventOf}
use Rattle.ktm_event.specs.Reading.{Behind, IsRecordedOf}
use Rattle.ktm_event.proofs.Tags.{other_tag, no_byte}
use Rattle.ktm_event.proofs.Pairs.{Both}
use Rattle.ktm_event.proofs.Readings.{Absent, tag_after}

module _ {bytes : List ℕ} {at : ℕ} where
  pub no_made_rm : Absent IsIdOf bytes at → Absent (Behind IsEventOf 2) bytes at
  no_made_rm absent = record { none = none }
    where
      none : Reads (Behind IsEventOf 2) bytes at None
      none (MadeRm manager) end spans = absent.none manager end (tag_after 2 spans)
      none event end spans = absurd (other_tag spans.form.1 refl)

  pub no_ready : Absent (Both IsIdOf IsPartOf) bytes at → Absent (Behind IsEventOf 4) bytes at
  no_ready absent = record { none = none }
    where
      none : Reads (Behind IsEventOf 4) bytes at None
      none (Ready transaction part) end spans = absent.none (transaction, part) end (tag_after 4 spans)
      none event end spans = absurd (other_tag spans.form.1 refl)

  pub no_single : Absent (Both IsIdOf IsSoleOf) bytes at → Absent (Behind IsEventOf 5) bytes at
  no_single absent = record { none = none }
    where
      none : Reads (Behind IsEventOf 5) bytes at None
      none (Single transaction part) end spans = absent.none (transaction, part) end (tag_after 5 spans)
      none event end spans = absurd (other_tag spans.form.1 refl)

  pub no_held : Absent (Both IsIdOf IsRecordedOf) bytes at → Absent (Behind IsEventOf 6) bytes at
  no_held absent = record { none = none }
    where
      none : Reads (Behind IsEventOf 6) bytes at None
      none (Held transaction enlistment manager information) end spans = absent.none (transaction, (enlistment, manager, information)) end (tag_after 6 spans)
      none event end spans = absurd (other_tag spans.form.1 refl)

  pub no_decide : Absent IsIdOf bytes at → Absent (Behind IsEventOf 7) bytes at
  no_decide absent = record { none = none }
    where
      none : Reads (Behind IsEventOf 7) bytes at None
      none (Decide transaction) end spans = absent.none transaction end (tag_after 7 spans)
      none event end spans = absurd (other_tag spans.form.1 refl)

  pub no_undo : Absent IsIdOf bytes at → Absent (Behind IsEventOf 8) bytes at
  no_undo absent = record { none = none }
    where
      none : Reads (Behind IsEventOf 8) bytes at None
      none (Undo transaction) end spans = absent.none transaction end (tag_after 8 spans)
      none event end spans = absurd (other_tag spans.form.1 refl)

  pub no_finished : Absent (Both IsIdOf IsDoneOf) bytes at → Absent (Behind IsEventOf 9) bytes at
  no_finished absent = record { none = none }
    where
      none : Reads (Behind IsEventOf 9) bytes at None
      none (Event.Done transaction done) end spans = absent.none (transaction, done) end (tag_after 9 spans)
      none event end spans = absurd (other_tag spans.form.1 refl)

  pub other_event : (tag : ℕ) → tag ≢ 1 → tag ≢ 2 → tag ≢ 3 → tag ≢ 4 → tag ≢ 5 → tag ≢ 6 → tag ≢ 7 → tag ≢ 8 → tag ≢ 9 → Reads (Behind IsEventOf tag) bytes at None
  other_event tag one two three four five six seven eight nine (Boot boot) end spans = let is = spans.form.1 in one cc
  other_event tag one two three four five six seven eight nine (MadeRm manager) end spans = let is = spans.form.1 in two cc
  other_event tag one two three four five six seven eight nine (Plain change) end spans = let is = spans.form.1 in three cc
  other_event tag one two three four five six seven eight nine (Ready transaction part) end spans = let is = spans.form.1 in four cc
  other_event tag one two three four five six seven eight nine (Single transaction part) end spans = let is = spans.form.1 in five cc
  other_event tag one two three four five six seven eight nine (Held transaction enlistment manager information) end spans = let is = spans.form.1 in six cc
  other_event tag one two three four five six seven eight nine (Decide transaction) end spans = let is = spans.form.1 in seven cc
  other_event tag one two three four five six seven eight nine (Undo transaction) end spans = let is = spans.form.1 in eight cc
  other_event tag one two three four five six seven eight nine (Event.Done transaction done) end spans = let is = spans.form.1 in nine cc

-- an event begins with its tag
pub event_starts : (event : Event) → IsEventOf event [] → ⊥
event_starts (Boot boot) is = no_byte is.1
event_starts event is = no_byte is.1
