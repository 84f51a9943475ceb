-- Files that are shown one after another.
use Rattle.std.proofs.Common.{◌≡◌, ℕ, ◌+◌, ◌<◌, ◌≤◌, ◌++◌, filter, List, [], ◌∷◌, length, length-append, Option, Some, None, option_map, sum_by, refl, sym, ◌∙◌, ap, arith, inl, inr}
use Rattle.std.proofs.lemmas.Bool.{cases_Bool, le-ltb, lt-ltb, ltb-true, ltb-false}
use Rattle.std.proofs.lemmas.List.Sums.{sum_by-append}
use Rattle.std.proofs.lemmas.Option.{same_Some, none-some}
use Rattle.std.specs.List.{flat_map}
use Rattle.std.specs.Prelude.{nat_lt}
use Rattle.ktm_world.specs.declared.change.Change.{Change}
use Rattle.ktm_world.specs.Sizes.{change_size}
use Rattle.ktm_event.specs.Work.{AreAbove, AreRising, FinalFile, changes_of_file, final_file, first_above, first_of}
use Rattle.ktm_event.specs.declared.work.FilePages.{FilePages}

-- the files above this number
abbrev files_above : List FinalFile → ℕ → List FinalFile
files_above fs number = filter (λ f. nat_lt number f.file) fs

-- what is left where this is the next one
abbrev pub files_left : List FinalFile → Option FilePages → List FinalFile
files_left fs None = []
files_left fs (Some f) = final_file f ∷ files_above fs f.file

-- the changes of these
abbrev pub changes_left : List FinalFile → Option FilePages → List Change
changes_left fs next = flat_map changes_of_file (files_left fs next)

-- where all are above a number, all are above a lower one
all-above : (fs : List FinalFile) (m n : ℕ) → m ≤ n → AreAbove n fs → files_above fs m ≡ fs
all-above [] m n le above = refl
all-above (f ∷ fs) m n le above = rw (lt-ltb m f.file (omega (arith, above.0))) (ap (λ (us : List FinalFile). f ∷ us) (all-above fs m n le above.1))

none-above : (fs : List FinalFile) (n : ℕ) → first_above fs n ≡ None → files_above fs n ≡ []
none-above [] n none = refl
none-above (f ∷ fs) n none = elim (cases_Bool (nat_lt n f.file)) [
  | inl above ↦ absurd (none-some f (sym (rw above at none)))
  | inr low ↦ rw low (none-above fs n (rw low at none))
]

-- behind the first of rising files are the others
behind-first : (f : FinalFile) (fs : List FinalFile) → AreRising (f ∷ fs) → files_above (f ∷ fs) f.file ≡ fs
behind-first f fs rise = rw (le-ltb f.file f.file (omega arith)) (all-above fs f.file f.file (omega arith) rise.0)

-- the first above a number, and the others behind it
record IsFirst (fs : List FinalFile) (n : ℕ) (f : FinalFile) : Type 0 where
  above : n < f.file
  all : files_above fs n ≡ f ∷ files_above fs f.file

first-above : (fs : List FinalFile) (n : ℕ) (f : FinalFile) → AreRising fs → first_above fs n ≡ Some f → IsFirst fs n f
first-above [] n f rise is = absurd (none-some f is)
first-above (g ∷ gs) n f rise is = elim (cases_Bool (nat_lt n g.file)) [
  | inl above ↦
      let same : g ≡ f = same_Some g f (rw above at is) in
      let less = ltb-true n g.file above in
      rw (← same) (record {
        above = less;
        all = rw above (ap (λ (us : List FinalFile). g ∷ us) (all-above gs n g.file (omega (arith, less)) rise.0 ∙ sym (behind-first g gs rise)));
      })
  | inr low ↦
      let rest = first-above gs n f rise.1 (rw low at is) in
      record {
        above = rest.above;
        all = rw (low, le-ltb f.file g.file (omega (arith, rest.above, ltb-false n g.file low))) rest.all;
      }
]

all-shown : (fs : List FinalFile) (next : Option FilePages) → AreRising fs → option_map final_file next ≡ first_of fs → files_left fs next ≡ fs
all-shown [] None rise is = refl
all-shown [] (Some g) rise is = absurd (none-some (final_file g) (sym is))
all-shown (f ∷ fs) None rise is = absurd (none-some f is)
all-shown (f ∷ fs) (Some g) rise is = ap (λ (h : FinalFile). h ∷ files_above (f ∷ fs) h.file) (same_Some (final_file g) f is) ∙ ap (λ (us : List FinalFile). f ∷ us) (behind-first f fs rise)

-- at first the changes of all files are left
pub left-all : (fs : List FinalFile) (next : Option FilePages) → AreRising fs → option_map final_file next ≡ first_of fs → changes_left fs next ≡ flat_map changes_of_file fs
left-all fs next rise is = ap (flat_map changes_of_file) (all-shown fs next rise is)

-- at last no changes are left
pub left-none : (fs : List FinalFile) (next : Option FilePages) → next ≡ None → changes_left fs next ≡ []
left-none fs next none = ap (changes_left fs) none

above-left : (fs : List FinalFile) (n : ℕ) (next : Option FilePages) → AreRising fs → option_map final_file next ≡ first_above fs n → files_left fs next ≡ files_above fs n
above-left fs n None rise is = sym (none-above fs n (sym is))
above-left fs n (Some f) rise is = sym (first-above fs n (final_file f) rise (sym is)).all

-- this one is left, and those from the next one on
module _ (fs : List FinalFile) (now next : Option FilePages) (f : FilePages) (rise : AreRising fs) (now_is : now ≡ Some f) (is : option_map final_file next ≡ first_above fs f.file) where
  one-left : files_left fs now ≡ final_file f ∷ files_left fs next
  one-left = ap (files_left fs) now_is ∙ ap (λ (us : List FinalFile). final_file f ∷ us) (sym (above-left fs f.file next rise is))

  pub fewer-left : length (files_left fs next) < length (files_left fs now)
  fewer-left = let e = ap length one-left in omega arith

  pub changes-left : changes_left fs now ≡ changes_of_file (final_file f) ++ changes_left fs next
  changes-left = ap (flat_map changes_of_file) one-left

  pub count-left : length (changes_left fs now) ≡ length (changes_of_file (final_file f)) + length (changes_left fs next)
  count-left = ap length changes-left ∙ length-append (changes_of_file (final_file f)) (changes_left fs next)

  pub size-left : sum_by change_size (changes_left fs now) ≡ sum_by change_size (changes_of_file (final_file f)) + sum_by change_size (changes_left fs next)
  size-left = ap (sum_by change_size) changes-left ∙ sum_by-append change_size (changes_of_file (final_file f)) (changes_left fs next)
