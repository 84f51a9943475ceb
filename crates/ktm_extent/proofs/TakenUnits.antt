-- One unit after the other on a page that was free.
use Rattle.std.proofs.Common.{◌≡◌, ◌⊎◌, ℕ, ◌+◌, ◌-◌, ◌*◌, ◌/◌, ◌<◌, ◌≤◌, min, Bool, true, false, ◌||◌, IsTrue, List, [], ◌∷◌, ◌++◌, length, take, Option, refl, sym, ◌∙◌, subst, arith, inl, inr, length-take}
use Rattle.std.proofs.lemmas.Bool.{cases_lt}
use Rattle.std.proofs.lemmas.Bool.Decides.{nat_tests}
use Rattle.std.proofs.lemmas.List.{take_more_set}
use Rattle.std.proofs.Math.ListN.{set}
use Rattle.ktm_base.specs.Disk.{DeviceCalls, DiskStatus}
use Rattle.ktm_base.specs.Told.{Goes}
use Rattle.ktm_base.proofs.offered.Images.{calls_law}
use Rattle.ktm_page.specs.Row.{RowState}
use Rattle.ktm_page.specs.Space.{Took, free_below}
use Rattle.ktm_extent.specs.Extent.{AreBelow, AreOut, ExtentState, uses_in}
use Rattle.ktm_extent.specs.Calls.{OnlyFree, most_calls}
use Rattle.ktm_extent.specs.Units.{AreTaken, AreWritten, WroteUnit, first_unit, keeps, read_calls, target}
use Rattle.ktm_extent.proofs.Rows.{written-more}
use Rattle.ktm_extent.proofs.Told.{Goes-then}
use Rattle.ktm_extent.proofs.Uses.{taken-more}

-- ---- how many calls

-- at most so many calls where so many units of all are written: the first and the last one may be read
abbrev pub calls_upto : ℕ → ℕ → ℕ
calls_upto all done = 2 * done + 2 * min done (min done 1 + (done + 1 - all))

pub more_calls : (most more : ℕ) (old new : DiskStatus) (refused : Bool) → most ≤ more → DeviceCalls most old new refused → DeviceCalls more old new refused
more_calls most more old new refused less calls = record {
  later = calls.later;
  counted = calls.counted;
  few = omega (arith, calls.few, less);
  cause = calls.cause;
  down = calls.down;
  plan = calls.plan;
  places = calls.places;
}

-- a unit of which bytes stay is the first one or the last one
outer-unit : (size at end first all done : ℕ) → keeps size at end ((first + done) * 4096) ≡ true → first ≡ first_unit size at → first + all ≡ (end - 1) / 4096 + 1 → done < all → (done ≡ 0) ⊎ (done + 1 ≡ all)
outer-unit size at end first all done is begins ends low =
    elim (cases_lt 0 done) [
      | inr none ↦ inl (omega (arith, none))
      | inl some ↦ elim (cases_lt (done + 1) all) [
        | inr last ↦ inr (omega (arith, last, low))
        | inl more ↦ absurd (false-between some more)
      ]
    ]
  where
    false-between : 0 < done → done + 1 < all → ⊥
    false-between some more = grind (arith, nat_tests)

few-reads : (size at end first all done : ℕ) (is : Bool) → keeps size at end ((first + done) * 4096) ≡ is → first ≡ first_unit size at → first + all ≡ (end - 1) / 4096 + 1 → done < all
    → calls_upto all done + (2 + read_calls size at end ((first + done) * 4096)) ≤ calls_upto all (done + 1)
few-reads size at end first all done true is begins ends low =
    let reads : read_calls size at end ((first + done) * 4096) ≡ 2 = rw is refl in
    elim (outer-unit size at end first all done is begins ends low) [
      | inl none ↦ omega (arith, reads, none, low)
      | inr last ↦ omega (arith, reads, last, low)
    ]
few-reads size at end first all done false is begins ends low =
    let reads : read_calls size at end ((first + done) * 4096) ≡ 0 = rw is refl in
    omega (arith, reads, low)

-- one unit more
pub calls-more : (size at end first all done : ℕ) (a b c : DiskStatus) (refused : Bool) → first ≡ first_unit size at → first + all ≡ (end - 1) / 4096 + 1 → done < all
    → DeviceCalls (calls_upto all done) a b false → DeviceCalls (2 + read_calls size at end ((first + done) * 4096)) b c refused → DeviceCalls (calls_upto all (done + 1)) a c refused
calls-more size at end first all done a b c refused begins ends low so more =
    more_calls _ _ a c refused (few-reads size at end first all done (keeps size at end ((first + done) * 4096)) refl begins ends low)
    (calls_law a b c (calls_upto all done) (2 + read_calls size at end ((first + done) * 4096)) refused so more)

pub calls-all : (all done : ℕ) (a b : DiskStatus) (refused : Bool) → done ≤ all → DeviceCalls (calls_upto all done) a b refused → DeviceCalls (most_calls all) a b refused
calls-all all done a b refused within calls = more_calls _ _ a b refused (omega (arith, within)) calls

pub calls-none : (most : ℕ) (a : DiskStatus) → DeviceCalls most a a false
calls-none most a = record { later = omega arith; counted = omega arith; few = omega arith; cause = λ is. absurd (not-true is); down = or-false a.is_down; plan = refl; places = refl }
  where
    not-true : IsTrue false → ⊥
    not-true is = cc

    or-false : (x : Bool) → x ≡ x || false
    or-false true = refl
    or-false false = refl

-- ---- what is written

-- where a page is free now it was free before
pub only-then : (count : ℕ) (held holds : ℕ → ℕ) (r s t : RowState) → ((page : ℕ) → held page ≤ holds page) → OnlyFree count held r s → OnlyFree count holds s t → OnlyFree count held r t
only-then count held holds r s t more first next = record {
  kept = λ page below out. next.kept page below (omega (arith, out, more page)) ∙ first.kept page below out;
  dirty = λ page there. elim (next.dirty page there) [ inl free ↦ inl (omega (arith, free, more page)) | inr was ↦ first.dirty page was ];
  front = next.front ∙ first.front;
}

-- none of the pages that were taken is taken again
fresh-page : (count page : ℕ) (pages : List ℕ) (held holds after : ℕ → ℕ) → AreTaken count pages held holds → Took count holds page after → (held page ≡ 0) × (uses_in pages page ≡ 0)
fresh-page count page pages held holds after taken took =
    let none : held page + uses_in pages page ≡ 0 = sym (taken.holders page) ∙ took.was_free in
    (omega (arith, none), omega (arith, none))

pub wrote-more : (e : ExtentState) (at first unit page count : ℕ) (bytes pages : List ℕ) (held holds after : ℕ → ℕ) (first_told told next_told : Option RowState) → AreBelow count e → AreOut held e → AreTaken count pages held holds → Took count holds page after
    → unit ≡ first + length pages → Goes (AreWritten (target e at bytes) first pages count held) first_told told → Goes (WroteUnit (target e at bytes) unit page) told next_told
    → Goes (AreWritten (target e at bytes) first (pages ++ page ∷ []) count held) first_told next_told
wrote-more e at first unit page count bytes pages held holds after first_told told next_told below out taken took is so wrote =
    let (free, none) = fresh-page count page pages held holds after taken took in
    Goes-then first_told told next_told so wrote (λ r s t. written-more e at first unit page count bytes pages held r s t below out free none is)

-- a unit that was lost after others that were written
pub lost-more : (f : List ℕ → List ℕ) (first count : ℕ) (pages : List ℕ) (held holds : ℕ → ℕ) (first_told told next_told : Option RowState) → AreTaken count pages held holds
    → Goes (AreWritten f first pages count held) first_told told → Goes (OnlyFree count holds) told next_told → Goes (OnlyFree count held) first_told next_told
lost-more f first count pages held holds first_told told next_told taken so lost =
    Goes-then first_told told next_told so lost (λ r s t wrote then. only-then count held holds r s t (λ page. omega (arith, taken.holders page)) wrote.only then)

-- ---- a list of pages that is filled

pub free-left : (count i : ℕ) (taken : List ℕ) (held holds : ℕ → ℕ) → i < length taken → length taken ≤ free_below held count → AreTaken count (take i taken) held holds → 0 < free_below holds count
free-left count i taken held holds low free so = omega (arith, low, free, so.free, length-take i taken)

pub took-next : (count i page : ℕ) (taken : List ℕ) (held holds after : ℕ → ℕ) → i < length taken → AreTaken count (take i taken) held holds → Took count holds page after → AreTaken count (take (i + 1) (set taken i page)) held after
took-next count i page taken held holds after low so took = subst (λ l. AreTaken count l held after) (sym (take_more_set taken i page low)) (taken-more count page (take i taken) held holds after so took)

pub wrote-next : (e : ExtentState) (at first unit i page count : ℕ) (bytes taken : List ℕ) (held holds after : ℕ → ℕ) (first_told told next_told : Option RowState) → i < length taken → AreBelow count e → AreOut held e → AreTaken count (take i taken) held holds → Took count holds page after
    → unit ≡ first + i → Goes (AreWritten (target e at bytes) first (take i taken) count held) first_told told → Goes (WroteUnit (target e at bytes) unit page) told next_told
    → Goes (AreWritten (target e at bytes) first (take (i + 1) (set taken i page)) count held) first_told next_told
wrote-next e at first unit i page count bytes taken held holds after first_told told next_told low below out so took is written wrote =
    subst (λ l. Goes (AreWritten (target e at bytes) first l count held) first_told next_told) (sym (take_more_set taken i page low))
    (wrote-more e at first unit page count bytes (take i taken) held holds after first_told told next_told below out so took (omega (arith, is, low, length-take i taken)) written wrote)
