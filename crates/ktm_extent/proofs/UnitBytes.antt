-- What is read of a unit, and what is written for it.
use Rattle.std.proofs.Common.{◌≡◌, ◌⊎◌, ℕ, ◌+◌, ◌-◌, ◌*◌, ◌<◌, ◌≤◌, false, nat_lt, if◌then◌else◌, List, length, get_or, take, drop, sym, ◌∙◌, ap, arith, inl, inr}
use Rattle.std.proofs.lemmas.Bool.{cases_lt}
use Rattle.std.proofs.lemmas.Bool.Decides.{nat_tests}
use Rattle.std.proofs.lemmas.List.{get_or-drop, get_or-take}
use Rattle.ktm_page.specs.Row.{page_of}
use Rattle.ktm_world.specs.Tree.{put_over}
use Rattle.ktm_extent.specs.Extent.{AreBelow, ExtentState, IsExtent, contents}
use Rattle.ktm_extent.specs.Units.{IsUnit, Stays, byte_over, keeps}
use Rattle.ktm_extent.proofs.Bytes.{get_or-put_over, over-inside, over-outside}
use Rattle.ktm_extent.proofs.offered.Contents.{contents-end, get_or-contents}

cleared-inside : (i len old : ℕ) → i < len → (if nat_lt i len then old else 0) ≡ old
cleared-inside i len old low = grind (arith, nat_tests)

cleared-behind : (i len old : ℕ) → len ≤ i → (if nat_lt i len then old else 0) ≡ 0
cleared-behind i len old high = grind (arith, nat_tests)

-- a page that was read, with zeros behind the size
pub unit-read : (seen page buf : List ℕ) (count unit : ℕ) (e : ExtentState) → IsExtent e → count * 4096 ≤ length seen → AreBelow count e → page ≡ page_of seen (get_or e.pages unit 0)
    → ((i : ℕ) → i < 4096 → get_or buf i 0 ≡ (if nat_lt i (e.size - unit * 4096) then get_or page i 0 else 0)) → IsUnit (contents seen e) unit buf
unit-read seen page buf count unit e is long below read cleared = record {
  each = λ i low. cleared i low ∙ elim (cases_lt i (e.size - unit * 4096)) [
    | inl there ↦ cleared-inside i (e.size - unit * 4096) (get_or page i 0) there ∙ ap (λ (l : List ℕ). get_or l i 0) read ∙ sym (get_or-contents seen count e unit i is long below low (omega (arith, there)))
    | inr past ↦ cleared-behind i (e.size - unit * 4096) (get_or page i 0) past ∙ sym (contents-end seen e (unit * 4096 + i) (omega (arith, past)))
  ];
}

pub all-stays : (bytes : List ℕ) (at end unit : ℕ) (page : List ℕ) → IsUnit bytes unit page → Stays bytes at end unit page
all-stays bytes at end unit page is = record { each = λ i low out. is.each i low }

-- where no byte of a unit is kept
pub none-stays : (seen : List ℕ) (at end unit : ℕ) (e : ExtentState) (page : List ℕ) → keeps e.size at end (unit * 4096) ≡ false → unit * 4096 < end → ((i : ℕ) → i < 4096 → get_or page i 0 ≡ 0) → Stays (contents seen e) at end unit page
none-stays seen at end unit e page none there zeros = record {
  each = λ i low out. zeros i low ∙ sym (contents-end seen e (unit * 4096 + i) (past i low out));
}
  where
    past : (i : ℕ) → i < 4096 → (unit * 4096 + i < at) ⊎ (end ≤ unit * 4096 + i) → e.size ≤ unit * 4096 + i
    past i low out = grind (arith, nat_tests)

-- bytes over what stays are the unit of the bytes over the contents
pub unit-over : (old : List ℕ) (at unit : ℕ) (bytes before after : List ℕ) → Stays old at (at + length bytes) unit before
    → ((i : ℕ) → i < 4096 → get_or after i 0 ≡ byte_over at bytes (λ k. get_or before (k - unit * 4096) 0) (unit * 4096 + i)) → IsUnit (put_over old at bytes) unit after
unit-over old at unit bytes before after stays is = record {
  each = λ i low. is i low ∙ elim (cases_lt (unit * 4096 + i) at) [
    | inl front ↦ outside i low (inl front)
    | inr from ↦ elim (cases_lt (unit * 4096 + i) (at + length bytes)) [
      | inl within ↦ over-inside at bytes (λ k. get_or before (k - unit * 4096) 0) (unit * 4096 + i) from within
          ∙ sym (over-inside at bytes (λ k. get_or old k 0) (unit * 4096 + i) from within)
          ∙ sym (get_or-put_over old at bytes (unit * 4096 + i))
      | inr behind ↦ outside i low (inr behind)
    ]
  ];
}
  where
    outside : (i : ℕ) → i < 4096 → (unit * 4096 + i < at) ⊎ (at + length bytes ≤ unit * 4096 + i)
        → byte_over at bytes (λ k. get_or before (k - unit * 4096) 0) (unit * 4096 + i) ≡ get_or (put_over old at bytes) (unit * 4096 + i) 0
    outside i low out =
        over-outside at bytes (λ k. get_or before (k - unit * 4096) 0) (unit * 4096 + i) out
        ∙ ap (λ n. get_or before n 0) (omega arith)
        ∙ stays.each i low out
        ∙ sym (over-outside at bytes (λ k. get_or old k 0) (unit * 4096 + i) out)
        ∙ sym (get_or-put_over old at bytes (unit * 4096 + i))

-- a unit that lies within the bytes
pub whole-over : (old : List ℕ) (at unit : ℕ) (bytes whole : List ℕ) → at ≤ unit * 4096 → unit * 4096 + 4096 ≤ at + length bytes → whole ≡ take (unit * 4096 - at + 4096 - (unit * 4096 - at)) (drop (unit * 4096 - at) bytes)
    → IsUnit (put_over old at bytes) unit whole
whole-over old at unit bytes whole low high is = record {
  each = λ i less.
      ap (λ (l : List ℕ). get_or l i 0) is
      ∙ get_or-take (unit * 4096 - at + 4096 - (unit * 4096 - at)) (drop (unit * 4096 - at) bytes) i 0 (omega arith)
      ∙ get_or-drop (unit * 4096 - at) bytes i 0
      ∙ ap (λ n. get_or bytes n 0) (omega arith)
      ∙ sym (over-inside at bytes (λ k. get_or old k 0) (unit * 4096 + i) (omega arith) (omega arith))
      ∙ sym (get_or-put_over old at bytes (unit * 4096 + i));
}
