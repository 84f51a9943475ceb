-- Bytes of contents that are read unit by unit, from memory and from the disk.
use Rattle.std.proofs.Common.{◌≡◌, ◌⊎◌, ℕ, ◌+◌, ◌-◌, ◌*◌, ◌/◌, ◌%◌, ◌<◌, ◌≤◌, Bool, false, Option, None, Some, List, ◌++◌, length, get_or, take, drop, refl, sym, ◌∙◌, ap, subst, arith, inl, inr, length-take, length-drop}
use Rattle.std.specs.Prelude.{min}
use Rattle.std.proofs.Math.Seq.{take-add}
use Rattle.std.proofs.lemmas.Bool.{cases_lt}
use Rattle.std.proofs.lemmas.Grind.{same_number_lists}
use Rattle.std.proofs.lemmas.List.{append-nil, append_assoc, drop-drop, get_or-drop, get_or-map, get_or-take, length-map, take-append-drop, take-append-le, take_all}
use Rattle.ktm_base.proofs.offered.Images.{calls_law}
use Rattle.ktm_base.specs.Disk.{DiskState, DiskStatus, OnlyReads}
use Rattle.ktm_content.specs.Places.{LieOn, byte_at}
use Rattle.ktm_content.proofs.offered.Bytes.{byte_at-place, place-lie}
use Rattle.ktm_page.specs.Row.{page_of}
use Rattle.ktm_store.specs.Store.{AreBelow, PoolState, bytes_at}
use Rattle.ktm_store.specs.Stored.{is_stored}
use Rattle.ktm_core.specs.Reading.{Agrees, IsLonger, OnlyLets}
use Rattle.ktm_core.proofs.Groups.{more_calls}
use Rattle.ktm_core.proofs.Writing.{no-calls}

-- ---- device calls

-- nothing is read
pub read-none : (most : ℕ) (told : Option DiskState) (s : DiskStatus) → OnlyReads most told told s s false
read-none most told s = record { same = refl; pending = refl; calls = more_calls 0 most s s false (omega arith) (no-calls s) }

pub reads-then : (few more most : ℕ) (a b c : Option DiskState) (s t u : DiskStatus) (refused : Bool) → few + more ≤ most → OnlyReads few a b s t false → OnlyReads more b c t u refused → OnlyReads most a c s u refused
reads-then few more most a b c s t u refused fits one two = record {
  same = two.same ∙ one.same;
  pending = two.pending ∙ one.pending;
  calls = more_calls (few + more) most s u refused fits (calls_law s t u few more refused one.calls two.calls);
}

-- ---- pages that come into memory

pub lets-none : (p : PoolState) → OnlyLets p p
lets-none p = record { count = refl; marks = refl; stored = refl; wanted = refl }

pub lets-then : (p q r : PoolState) → OnlyLets p q → OnlyLets q r → OnlyLets p r
lets-then p q r one two = record { count = two.count ∙ one.count; marks = two.marks ∙ one.marks; stored = two.stored ∙ one.stored; wanted = two.wanted ∙ one.wanted }

-- what is stored is on the disk still
pub agrees-still : (units : ℕ) (p q : PoolState) (row : List ℕ) (a b : Option DiskState) → OnlyLets p q → b ≡ a → Agrees units p row a → Agrees units q row b
agrees-still units p q row a b lets same agrees = subst (Agrees units q row) (sym same) (go a agrees)
  where
    go : (told : Option DiskState) → Agrees units p row told → Agrees units q row told
    go None agrees = absurd agrees
    go (Some s) agrees = λ page is. agrees page (sym (ap (λ (l : List Bool). is_stored l page) lets.stored) ∙ is)

-- ---- bytes behind others

pub longer-none : (old : List ℕ) → IsLonger 0 old old
longer-none old = record { long = omega arith; front = take_all (length old) old (omega arith) }

pub longer-then : (few more most : ℕ) (old mid new : List ℕ) → few + more ≡ most → IsLonger few old mid → IsLonger more mid new → IsLonger most old new
longer-then few more most old mid new is one two = record {
  long = omega (arith, one.long, two.long, is);
  front = ap (take (length old)) new-is ∙ take-append-le (length old) mid (drop (length mid) new) (omega (arith, one.long)) ∙ one.front;
}
  where
    new-is : new ≡ mid ++ drop (length mid) new
    new-is = sym (take-append-drop (length mid) new) ∙ ap (λ (l : List ℕ). l ++ drop (length mid) new) two.front

-- ---- a unit of contents

get_or-page : (seen : List ℕ) (page i : ℕ) → i < 4096 → get_or (page_of seen page) i 0 ≡ get_or seen (page * 4096 + i) 0
get_or-page seen page i low = get_or-take (page * 4096 + 4096 - page * 4096) (drop (page * 4096) seen) i 0 (omega arith) ∙ get_or-drop (page * 4096) seen i 0

-- a byte of a unit of contents is that of its page
byte-lie : (seen pages places : List ℕ) (unit i : ℕ) → LieOn pages places → i < 4096 → unit * 4096 + i < length places → get_or (bytes_at seen places) (unit * 4096 + i) 0 ≡ get_or seen (get_or pages unit 0 * 4096 + i) 0
byte-lie seen pages places unit i lie low there =
    get_or-map (byte_at seen) places (unit * 4096 + i) 0 0 there
    ∙ ap (byte_at seen) (place-lie pages places unit i lie low there)
    ∙ byte_at-place seen (get_or pages unit 0 * 4096 + i)

-- a unit is on a page that there is
pub unit-below : (count : ℕ) (pages places : List ℕ) (at : ℕ) → LieOn pages places → at < length places → AreBelow count places → get_or pages (at / 4096) 0 < count
unit-below count pages places at lie there below =
    let place = place-lie pages places (at / 4096) (at % 4096) lie (omega arith) (omega (arith, there)) in
    omega (arith, place, below (at / 4096 * 4096 + at % 4096) 0 (omega (arith, there)))

module _ (seen pages places : List ℕ) (at many : ℕ) (lie : LieOn pages places) (within : at % 4096 + many ≤ 4096) (fits : at + many ≤ length places) (whole : length (page_of seen (get_or pages (at / 4096) 0)) ≡ 4096) where
  abbrev page : ℕ
  page = get_or pages (at / 4096) 0

  abbrev of-page : List ℕ
  of-page = take (at % 4096 + many - at % 4096) (drop (at % 4096) (page_of seen page))

  abbrev of-bytes : List ℕ
  of-bytes = take many (drop at (bytes_at seen places))

  long-page : length of-page ≡ many
  long-page = omega (arith, within, whole, length-take (at % 4096 + many - at % 4096) (drop (at % 4096) (page_of seen page)), length-drop (at % 4096) (page_of seen page))

  long-bytes : length of-bytes ≡ many
  long-bytes = omega (arith, fits, length-take many (drop at (bytes_at seen places)), length-drop at (bytes_at seen places), length-map places (byte_at seen))

  each : (i : ℕ) → i < many → get_or of-page i 0 ≡ get_or of-bytes i 0
  each i low =
      get_or-take (at % 4096 + many - at % 4096) (drop (at % 4096) (page_of seen page)) i 0 (omega (arith, low))
      ∙ get_or-drop (at % 4096) (page_of seen page) i 0
      ∙ get_or-page seen page (at % 4096 + i) (omega (arith, low, within))
      ∙ sym (byte-lie seen pages places (at / 4096) (at % 4096 + i) lie (omega (arith, low, within)) (omega (arith, low, fits)))
      ∙ ap (λ (k : ℕ). get_or (bytes_at seen places) k 0) (omega arith)
      ∙ sym (get_or-drop at (bytes_at seen places) i 0)
      ∙ sym (get_or-take many (drop at (bytes_at seen places)) i 0 low)

  -- what a page has of a unit from a place on is what the contents have
  pub part-lie : of-page ≡ of-bytes
  part-lie = same_number_lists of-page of-bytes (long-page ∙ sym long-bytes) (λ i short. each i (omega (arith, short, long-page)))

-- a page of a row that is long enough is whole
pub page-whole : (row : List ℕ) (count page : ℕ) → length row ≡ count * 4096 → page < count → length (page_of row page) ≡ 4096
page-whole row count page long below = omega (arith, long, below, length-take (page * 4096 + 4096 - page * 4096) (drop (page * 4096) row), length-drop (page * 4096) row)

-- one part more behind those that were read
pub part-more : (before bytes : List ℕ) (from at many : ℕ) → from ≤ at → (before ++ take (at - from) (drop from bytes)) ++ take many (drop at bytes) ≡ before ++ take (at + many - from) (drop from bytes)
part-more before bytes from at many low =
    append_assoc before (take (at - from) (drop from bytes)) (take many (drop at bytes))
    ∙ ap (λ (l : List ℕ). before ++ (take (at - from) (drop from bytes) ++ take many l)) (ap (λ (n : ℕ). drop n bytes) (omega (arith, low)) ∙ sym (drop-drop (at - from) from bytes))
    ∙ ap (λ (l : List ℕ). before ++ l) (sym (take-add (at - from) many (drop from bytes)))
    ∙ ap (λ (n : ℕ). before ++ take n (drop from bytes)) (omega (arith, low))

-- no part
pub parts-none : (before bytes : List ℕ) (from : ℕ) → before ≡ before ++ take (from - from) (drop from bytes)
parts-none before bytes from =
    let none : 0 ≡ from - from = omega arith in
    sym (append-nil before) ∙ ap (λ (n : ℕ). before ++ take n (drop from bytes)) none

-- a part ends with its unit, or with the last one
pub part-ends : (at end many : ℕ) → at < end → many ≡ min (end - at) (4096 - at % 4096) → ((at + many) % 4096 ≡ 0) ⊎ (at + many ≡ end)
part-ends at end many more is = elim (cases_lt (end - at) (4096 - at % 4096)) [ inl last ↦ inr (omega (arith, more, is, last)) | inr whole ↦ inl (omega (arith, is, whole)) ]

-- ---- how many units are read

-- one more is read of the unit that an offset is in
pub one-more : (from at end many : ℕ) → from ≤ at → at < end → (at ≡ from) ⊎ ((at % 4096 ≡ 0) ⊎ (at ≡ end)) → many ≡ min (end - at) (4096 - at % 4096)
    → min (at - from) ((at + 4095) / 4096 - from / 4096) + 1 ≤ min (at + many - from) ((at + many + 4095) / 4096 - from / 4096)
one-more from at end many low more aligned is = elim aligned [
  | inl first ↦ omega (arith, low, more, is, first)
  | inr later ↦ elim later [ inl even ↦ omega (arith, low, more, is, even) | inr last ↦ absurd (omega (arith, more, last)) ]
]
