-- How what is read at one place goes on at the next.
use Rattle.std.proofs.Common.{◌≡◌, ◌⊎◌, inl, inr, ℕ, ◌<◌, ◌≤◌, None, Result, Ok, Err, List, [], ◌∷◌, ◌++◌, refl, sym, ◌∙◌, ap, subst, arith}
use Rattle.std.specs.Result.{IsErrAnd}
use Rattle.std.proofs.lemmas.Result.{err_from_is_err_and}
use Rattle.std.specs.List.{slice_range}
use Rattle.ktm_base.specs.Grammar.{IsU8, IsU32, IsTextOf, Tagged}
use Rattle.ktm_codec.specs.Spans.{Spans, Reads, Unambiguous}
use Rattle.ktm_codec.proofs.Forms.{unambiguous_u32, unambiguous_text}
use Rattle.ktm_codec.proofs.SpansLemmas.{Spans-map, spans_then, one_reading, then_no_first, then_no_second, then_same, tagged_rest, tagged_none}
use Rattle.ktm_world.specs.EventGrammar.{IsIdOf}
use Rattle.ktm_world.specs.Values.{IsText}
use Rattle.ktm_event.specs.declared.fault.EventFault.{EventFault}
use Rattle.ktm_event.specs.declared.fault.EventFault.TheVariants.{NotAnEvent, NoMemory}
use Rattle.ktm_event.specs.Reading.{Gives, Behind, IsKeyOf}
use Rattle.ktm_event.proofs.Pairs.{Both}

-- nothing of this kind is spelled from the place on
pub record Absent {X : Type 0} (Form : X → List ℕ → Type 0) (bytes : List ℕ) (at : ℕ) : Type 0 where
  pub none : Reads Form bytes at None

-- a fault in a part of a thing, which is passed on, is a fault in the thing
pub passes : {X Y : Type 0} {Part : X → List ℕ → Type 0} {Whole : Y → List ℕ → Type 0} {bytes : List ℕ} {at mid : ℕ} (fault : EventFault) (r : Result (Y × ℕ) EventFault)
    → IsErrAnd r (λ passed. passed ≡ fault) → Gives Part bytes mid (Err fault) → (Absent Part bytes mid → Absent Whole bytes at) → Gives Whole bytes at r
passes {Part} {Whole} {bytes} {at} {mid} fault r is gives none =
    let p = err_from_is_err_and r is in
    rw (p.1, p.2) (by_fault fault gives)
  where
    by_fault : (fault : EventFault) → Gives Part bytes mid (Err fault) → Gives Whole bytes at (Err fault)
    by_fault NotAnEvent gives = (none (record { none = gives })).none
    by_fault NoMemory gives = tt

-- one thing and then another
pub no_first : {X Y : Type 0} {First : X → List ℕ → Type 0} (Second : Y → List ℕ → Type 0) {bytes : List ℕ} {at : ℕ}
    → Absent First bytes at → Absent (Both First Second) bytes at
no_first {First} Second {bytes} {at} absent = record { none = λ (x, y) end spans. then_no_first First Second bytes at absent.none x y end spans }

pub after : {X Y : Type 0} {First : X → List ℕ → Type 0} {Second : Y → List ℕ → Type 0} {bytes : List ℕ} {at : ℕ}
    → Unambiguous First → {x : X} {mid : ℕ} → Spans (First x) bytes at mid → Absent Second bytes mid → Absent (Both First Second) bytes at
after {First} {Second} {bytes} {at} one {x} {mid} first absent =
    record { none = λ (x', y) end spans. then_no_second First Second bytes at one x mid first absent.none x' y end spans }

-- ---- behind a tag

pub tag_before : {P : List ℕ → Type 0} {bytes : List ℕ} {at end : ℕ} (tag : ℕ) → Spans P bytes at end → Spans (λ part. Tagged tag P (tag ∷ part)) bytes at end
tag_before tag spans = Spans-map (λ part is. (part, refl, is)) spans

pub tag_after : {P : List ℕ → Type 0} {bytes : List ℕ} {at end : ℕ} (tag : ℕ) → Spans (λ part. Tagged tag P (tag ∷ part)) bytes at end → Spans P bytes at end
tag_after {P} tag spans = Spans-map (λ part (rest, is, p). let same : rest ≡ part = cc in subst P same p) spans

module _ {X : Type 0} (Form : X → List ℕ → Type 0) (starts : (x : X) → Form x [] → ⊥) {bytes : List ℕ} {at mid tag : ℕ} (first : Spans (IsU8 tag) bytes at mid) where
  -- the tag and what is behind it
  read_behind : (x : X) (end : ℕ) → Spans (Behind Form tag x) bytes mid end → Spans (Form x) bytes at end
  read_behind x end rest =
      Spans-map (λ part (one, two, is, number, behind). subst (Form x) (sym (is ∙ ap (λ (l : List ℕ). l ++ two) number.value)) behind) (spans_then bytes at mid end first rest)

  split_behind : (x : X) (end : ℕ) (part : List ℕ) → slice_range bytes at end ≡ part → Spans (Form x) bytes at end → Spans (Behind Form tag x) bytes mid end
  split_behind x end [] is spans = absurd (starts x (subst (Form x) is spans.form))
  split_behind x end (b ∷ rest) is spans =
      let tagged : Spans (Tagged b (Behind Form b x)) bytes at end = record { forward = spans.forward; within = spans.within; form = (rest, is, subst (Form x) is spans.form) } in
      let (same, behind) = tagged_rest bytes at tag mid first b end tagged in
      subst (λ n. Spans (Behind Form n x) bytes mid end) (sym same) behind

  pub behind : (r : Result (X × ℕ) EventFault) → Gives (Behind Form tag) bytes mid r → Gives Form bytes at r
  behind (Ok (x, end)) rest = read_behind x end rest
  behind (Err NotAnEvent) none = λ x end spans. none x end (split_behind x end (slice_range bytes at end) refl spans)
  behind (Err NoMemory) gives = tt

  pub absent_behind : Absent (Behind Form tag) bytes mid → Absent Form bytes at
  absent_behind absent = record { none = behind (Err NotAnEvent) absent.none }

-- where there is no byte at all there is no thing that begins with one
pub no_tag : {X : Type 0} (Form : X → List ℕ → Type 0) (starts : (x : X) → Form x [] → ⊥) {bytes : List ℕ} {at : ℕ} → Absent IsU8 bytes at → Absent Form bytes at
no_tag {X} Form starts {bytes} {at} absent = record { none = λ x end spans. by_part x end (slice_range bytes at end) refl spans }
  where
    by_part : (x : X) (end : ℕ) (part : List ℕ) → slice_range bytes at end ≡ part → Spans (Form x) bytes at end → ⊥
    by_part x end [] is spans = starts x (subst (Form x) is spans.form)
    by_part x end (b ∷ rest) is spans =
        tagged_none {P = Behind Form b x} bytes at b end absent.none (record { forward = spans.forward; within = spans.within; form = (rest, is, subst (Form x) is spans.form) })

-- ---- Ids and keys

module _ {bytes : List ℕ} {at : ℕ} where
  pub no_id : Absent (Both IsU32 IsU32) bytes at → Absent IsIdOf bytes at
  no_id absent = record { none = λ id end spans. absent.none (id.boot, id.number) end (Spans-map (λ part is. is.numbers) spans) }

  pub id_zero : {boot mid number end : ℕ} → Spans (IsU32 boot) bytes at mid → Spans (IsU32 number) bytes mid end → (boot < 1) ⊎ (number < 1) → Reads IsIdOf bytes at None
  id_zero {boot} {mid} {number} {end} first second zero id end' spans =
      let (boots, numbers, ends) = then_same IsU32 IsU32 bytes at unambiguous_u32 boot mid first unambiguous_u32 number end second id.boot id.number end' (Spans-map (λ part is. is.numbers) spans) in
      elim zero [ inl z ↦ absurd (omega (arith, boots, spans.form.boot_from)) | inr z ↦ absurd (omega (arith, numbers, spans.form.number_from)) ]

  pub id_read : {boot mid number end : ℕ} → Spans (IsU32 boot) bytes at mid → Spans (IsU32 number) bytes mid end → 1 ≤ boot → 1 ≤ number → Spans (IsIdOf (record { boot = boot; number = number })) bytes at end
  id_read {boot} {mid} {number} {end} first second one two =
      Spans-map (λ part is. record { boot_from = one; number_from = two; numbers = is }) (spans_then bytes at mid end first second)

  pub key_other : {text : List ℕ} {end : ℕ} → Spans (IsTextOf text) bytes at end → (IsText text → ⊥) → Reads IsKeyOf bytes at None
  key_other {text} {end} spelled other key end' spans =
      let (same, ends) = one_reading IsTextOf unambiguous_text bytes at text key end end' spelled (Spans-map (λ part is. is.spelled) spans) in
      other (subst IsText (sym same) spans.form.text)
