-- How what is read of a piece at one place goes on at the next.
use Rattle.std.proofs.Common.{◌≡◌, ◌≢◌, ℕ, ◌+◌, ◌/◌, ◌<◌, true, false, Option, Some, None, Err, List, [], ◌∷◌, length, refl, sym, ◌∙◌, ap, subst, arith}
use Rattle.std.proofs.lemmas.Bool.{true≢false}
use Rattle.ktm_base.specs.declared.id.Id.{Id}
use Rattle.ktm_base.specs.Grammar.{IsU8, IsU32, IsU64, IsTextOf, IsValueOf, IsRow, IsListOf, Tagged, Then}
use Rattle.ktm_codec.specs.Spans.{Spans, Reads}
use Rattle.ktm_codec.proofs.Forms.{unambiguous_u8, unambiguous_text, unambiguous_value}
use Rattle.ktm_codec.proofs.SpansLemmas.{Spans-map, spans_then, spans_parts, one_reading, then_no_second, then_same, row_next}
use Rattle.ktm_content.specs.Places.{places_on}
use Rattle.ktm_event.proofs.Pairs.{Both}
use Rattle.ktm_event.proofs.Parts.{unambiguous_part}
use Rattle.ktm_event.proofs.Readings.{Absent}
use Rattle.ktm_event.proofs.Tags.{other_tag, no_byte}
use Rattle.ktm_event.specs.declared.fault.EventFault.{EventFault}
use Rattle.ktm_event.specs.declared.fault.EventFault.TheVariants.{NotAnEvent, NoMemory}
use Rattle.ktm_event.specs.Reading.{Behind, Gives, IsRecordedOf}
use Rattle.ktm_world.specs.EventGrammar.{IsPartOf}
use Rattle.ktm_world.specs.Values.{IsText}
use Rattle.ktm_world.specs.declared.event.Part.{Part}
use Rattle.ktm_world.specs.declared.recorded.RecordedPart.{RecordedPart}
use Rattle.ktm_world.specs.declared.recorded.Stage.{Stage}
use Rattle.ktm_world.specs.declared.recorded.Stage.TheVariants.{Ready, Held, Decided}
use Rattle.ktm_world.specs.declared.recorded.Superior.{Superior}
use Rattle.ktm_snapshot.proofs.OnePiece.{IsContentsPairOf, IsHeadPairOf, IsNodePairOf, IsStartPairOf, start_pair, unambiguous_contents_pair, unambiguous_start, unambiguous_marked}
use Rattle.ktm_snapshot.proofs.Placed.{lie-on}
use Rattle.ktm_snapshot.specs.Works.{IsPlaced, is_work, placed_part}
use Rattle.ktm_snapshot.specs.Shown.{IsNamedPairOf, IsBegunOf}
use Rattle.ktm_snapshot.specs.StateGrammar.{IsHeadOf, IsContentsOf, IsNodeOf, IsEntryOf, IsStageOf, IsSuperiorOf, IsMarkOf, IsPlacedPartOf, IsMarkedOf, IsTransactionOf}

module _ {bytes : List ℕ} {at : ℕ} where
  pub no_head : Absent IsHeadPairOf bytes at → Reads IsHeadOf bytes at None
  no_head absent head end spans = absent.none (head.events, (head.boots, head.next_node)) end spans

  -- ---- nodes

  pub no_node : Absent IsNodePairOf bytes at → Reads IsNodeOf bytes at None
  no_node absent node end spans = absent.none (node.number, (node.parent, (node.name, node.content))) end spans

  -- what stands behind a tag, whichever it is
  untagged : {P : List ℕ → Type 0} {end : ℕ} (tag other : ℕ) → Spans (λ part. Tagged other P (tag ∷ part)) bytes at end → Spans P bytes at end
  untagged {P} tag other spans = Spans-map (λ part (rest, is, p). let same : rest ≡ part = cc in subst P same p) spans

  pub no_name : (tag : ℕ) → Reads IsTextOf bytes at None → Absent (Behind IsNamedPairOf tag) bytes at
  no_name tag none_of = record { none = none }
    where
      none : Reads (Behind IsNamedPairOf tag) bytes at None
      none (name, Some contents) end spans =
          let (mid, text, rest) = spans_parts bytes at end (untagged {P = Then (IsTextOf name) (IsContentsOf contents)} tag 0 spans) in
          none_of name mid text
      none (name, None) end spans = none_of name end (untagged {P = IsTextOf name} tag 1 spans)

  -- ---- contents

  pub no_contents : Absent IsContentsPairOf bytes at → Absent IsContentsOf bytes at
  no_contents absent = record { none = λ contents end spans. absent.none (length contents, spans.form.pages) end (record { forward = spans.forward; within = spans.within; form = spans.form.spelled }) }

  module _ (size mid : ℕ) (pages : List ℕ) (end : ℕ) (first : Spans (IsU64 size) bytes at mid) (second : Spans (IsListOf IsU32 pages) bytes mid end) where
    -- there is a page for each unit
    pub contents_read : length pages ≡ (size + 4095) / 4096 → Spans (IsContentsOf (places_on pages size)) bytes at end
    contents_read many =
        let (long, lie) = lie-on pages size many in
        Spans-map (λ part is. record { pages = pages; lie = lie; spelled = subst (λ (n : ℕ). Then (IsU64 n) (IsListOf IsU32 pages) part) (sym long) is })
        (spans_then bytes at mid end first second)

    -- there is not
    pub other_contents : (length pages ≡ (size + 4095) / 4096 → ⊥) → Reads IsContentsOf bytes at None
    other_contents other contents end' spans =
        let read : Spans (IsContentsPairOf (length contents, spans.form.pages)) bytes at end' = record { forward = spans.forward; within = spans.within; form = spans.form.spelled } in
        let (same, ends) = one_reading IsContentsPairOf unambiguous_contents_pair bytes at (size, pages) (length contents, spans.form.pages) end end' (spans_then bytes at mid end first second) read in
        other (ap (λ (n : ℕ × List ℕ). length n.1) same ∙ spans.form.lie.units ∙ ap (λ (n : ℕ × List ℕ). (n.0 + 4095) / 4096) (sym same))

  pub no_named_contents : {name : List ℕ} {mid : ℕ} → Spans (IsTextOf name) bytes at mid → Reads IsContentsOf bytes mid None → Absent (Behind IsNamedPairOf 0) bytes at
  no_named_contents {name} {mid} text none_of = record { none = none }
    where
      none : Reads (Behind IsNamedPairOf 0) bytes at None
      none (name', Some contents) end spans =
          then_no_second IsTextOf IsContentsOf bytes at unambiguous_text name mid text none_of name' contents end (untagged {P = Then (IsTextOf name') (IsContentsOf contents)} 0 0 spans)
      none (name', None) end spans = absurd (other_tag spans.form.1 refl)

  pub other_named : (tag : ℕ) → tag ≢ 0 → tag ≢ 1 → Absent (Behind IsNamedPairOf tag) bytes at
  other_named tag file directory = record { none = none }
    where
      none : Reads (Behind IsNamedPairOf tag) bytes at None
      none (name, Some contents) end spans = let is = spans.form.1 in file cc
      none (name, None) end spans = let is = spans.form.1 in directory cc

  -- ---- committed keys

  pub no_entry : Absent (Both IsTextOf IsValueOf) bytes at → Reads IsEntryOf bytes at None
  no_entry absent entry end spans = absent.none (entry.key, entry.value) end (Spans-map (λ part is. is.parts) spans)

  pub key_other : {key value : List ℕ} {mid end : ℕ} → Spans (IsTextOf key) bytes at mid → Spans (IsValueOf value) bytes mid end → (IsText key → ⊥) → Reads IsEntryOf bytes at None
  key_other {key} {value} {mid} {end} first second other entry end' spans =
      let (same, values, ends) = then_same IsTextOf IsValueOf bytes at unambiguous_text key mid first unambiguous_value value end second entry.key entry.value end' (Spans-map (λ part is. is.parts) spans) in
      other (subst IsText (sym same) spans.form.text)

  pub entry_read : {key value : List ℕ} {mid end : ℕ} → Spans (IsTextOf key) bytes at mid → Spans (IsValueOf value) bytes mid end → IsText key
      → Spans (IsEntryOf (record { key = key; value = value })) bytes at end
  entry_read {mid} {end} first second text = Spans-map (λ part is. record { text = text; parts = is }) (spans_then bytes at mid end first second)

  -- ---- transactions

  pub no_stage : Reads IsU8 bytes at None → Reads IsStageOf bytes at None
  no_stage none Ready = none 0
  no_stage none Held = none 1
  no_stage none Decided = none 2

  pub other_stage : {tag mid : ℕ} → Spans (IsU8 tag) bytes at mid → tag ≢ 0 → tag ≢ 1 → tag ≢ 2 → Reads IsStageOf bytes at None
  other_stage {tag} {mid} read ready held decided Ready end spans = ready (one_reading IsU8 unambiguous_u8 bytes at tag 0 mid end read spans).0
  other_stage {tag} {mid} read ready held decided Held end spans = held (one_reading IsU8 unambiguous_u8 bytes at tag 1 mid end read spans).0
  other_stage {tag} {mid} read ready held decided Decided end spans = decided (one_reading IsU8 unambiguous_u8 bytes at tag 2 mid end read spans).0

  pub no_mark : Reads IsU8 bytes at None → Reads IsMarkOf bytes at None
  no_mark none false = none 0
  no_mark none true = none 1

  pub other_mark : {tag mid : ℕ} → Spans (IsU8 tag) bytes at mid → tag ≢ 0 → tag ≢ 1 → Reads IsMarkOf bytes at None
  other_mark {tag} {mid} read not_done done false end spans = not_done (one_reading IsU8 unambiguous_u8 bytes at tag 0 mid end read spans).0
  other_mark {tag} {mid} read not_done done true end spans = done (one_reading IsU8 unambiguous_u8 bytes at tag 1 mid end read spans).0

  -- a part that is none of a transaction's work
  other_part : (recorded : Part) {end : ℕ} → Spans (IsPartOf recorded) bytes at end → is_work recorded ≡ false → Reads IsPlacedPartOf bytes at None
  other_part recorded {end} read other = none
    where
      none : Reads IsPlacedPartOf bytes at None
      none part end' spans =
          let (same, ends) = one_reading IsPartOf unambiguous_part bytes at recorded spans.form.recorded end end' read (record { forward = spans.forward; within = spans.within; form = spans.form.spelled }) in
          true≢false (sym spans.form.work ∙ ap is_work (sym same) ∙ other)

  -- what is told of such a part
  pub placed_gives : (recorded : Part) {end : ℕ} (fault : EventFault) → Spans (IsPartOf recorded) bytes at end → IsPlaced (is_work recorded) (placed_part recorded) (Err fault) → Gives IsPlacedPartOf bytes at (Err fault)
  placed_gives recorded NotAnEvent read other = other_part recorded read other
  placed_gives recorded NoMemory read other = tt

  pub no_part : Absent IsPartOf bytes at → Absent IsPlacedPartOf bytes at
  no_part absent = record { none = λ part end spans. absent.none spans.form.recorded end (record { forward = spans.forward; within = spans.within; form = spans.form.spelled }) }

  pub part_read : (recorded part : Part) {end : ℕ} → is_work recorded ≡ true → part ≡ placed_part recorded → Spans (IsPartOf recorded) bytes at end → Spans (IsPlacedPartOf part) bytes at end
  part_read recorded part work is_placed = Spans-map (λ bytes' is. record { recorded = recorded; work = work; placed = is_placed; spelled = is })

  pub no_marked : Absent (Both IsMarkOf IsPlacedPartOf) bytes at → Absent IsMarkedOf bytes at
  no_marked absent = record { none = λ part end spans. absent.none (part.is_done, part.part) end spans }

  pub no_enlistment : Absent IsRecordedOf bytes at → Absent (Behind IsSuperiorOf 1) bytes at
  no_enlistment absent = record { none = none }
    where
      none : Reads (Behind IsSuperiorOf 1) bytes at None
      none (Some s) end spans =
          absent.none (s.enlistment, s.manager, s.information) end (untagged {P = IsRecordedOf (s.enlistment, s.manager, s.information)} 1 1 spans)
      none None end spans = absurd (other_tag spans.form.1 refl)

  pub other_superior : (tag : ℕ) → tag ≢ 0 → tag ≢ 1 → Reads (Behind IsSuperiorOf tag) bytes at None
  other_superior tag none some None end spans = let is = spans.form.1 in none cc
  other_superior tag none some (Some s) end spans = let is = spans.form.1 in some cc

  pub no_start : Absent IsStartPairOf bytes at → Absent IsBegunOf bytes at
  no_start absent = record { none = λ (id, stage, superior, count) end spans. absent.none (id, (stage, (superior, count))) end spans }

  pub no_transaction : Absent IsBegunOf bytes at → Absent IsTransactionOf bytes at
  no_transaction absent = record {
    none = λ t end spans. let (mid, start, parts) = spans_parts bytes at end spans in absent.none (t.id, t.stage, t.superior, length t.parts) mid start;
  }

  -- what a transaction begins with was read, and some of its parts
  module _ {id : Id} (stage : Stage) (superior : Option Superior) {count start : ℕ} (begun : Spans (IsBegunOf (id, stage, superior, count)) bytes at start) where
    pub part_missing : (parts : List RecordedPart) {here : ℕ} → Spans (IsRow IsMarkedOf parts) bytes start here → length parts < count → Absent IsMarkedOf bytes here → Absent IsTransactionOf bytes at
    part_missing parts {here} row fewer absent = record { none = none }
      where
        none : Reads IsTransactionOf bytes at None
        none t end spans =
            let (mid, begun', row') = spans_parts bytes at end spans in
            let (same, places) = one_reading IsStartPairOf unambiguous_start bytes at (id, (stage, (superior, count))) (start_pair t) start mid begun begun' in
            let counts : count ≡ length t.parts = ap (λ (s : Id × (Stage × (Option Superior × ℕ))). s.1.1.1) same in
            let (part, next, marked) = row_next IsMarkedOf unambiguous_marked bytes parts t.parts start here end row (subst (λ n. Spans (IsRow IsMarkedOf t.parts) bytes n end) (sym places) row') (omega (arith, counts, fewer)) in
            absent.none part next marked

    pub transaction_read : (parts : List RecordedPart) {end : ℕ} → Spans (IsRow IsMarkedOf parts) bytes start end → length parts ≡ count
        → Spans (IsTransactionOf (record { id = id; stage = stage; superior = superior; parts = parts })) bytes at end
    transaction_read parts {end} row all =
        spans_then bytes at start end (subst (λ n. Spans (IsBegunOf (id, stage, superior, n)) bytes at start) (sym all) begun) row

-- a name stands behind its tag, and so does a superior
pub named_starts : (named : List ℕ × Option (List ℕ)) → IsNamedPairOf named [] → ⊥
named_starts (name, Some contents) is = no_byte is.1
named_starts (name, None) is = no_byte is.1

pub superior_starts : (superior : Option Superior) → IsSuperiorOf superior [] → ⊥
superior_starts None is = no_byte is.1
superior_starts (Some s) is = no_byte is.1
