-- The files that a transaction wrote, one after another, and sums of units.
use Rattle.std.proofs.Math.Seq.{drop-cons}
use Rattle.std.proofs.Common.{◌≡◌, ℕ, suc, ◌++◌, add-one, drop, get_or, ◌+◌, ◌<◌, ◌≤◌, not, filter, length, List, [], ◌∷◌, Option, Some, None, sum_by, refl, sym, ◌∙◌, ap, arith, inl, inr}
use Rattle.std.proofs.lemmas.Bool.{cases_Bool, le-ltb, lt-ltb, ltb-false, ltb-true}
use Rattle.std.proofs.lemmas.List.Sums.{sum_by-append, sum_by-cons}
use Rattle.std.proofs.lemmas.Option.{none-some, same_Some}
use Rattle.std.specs.Prelude.{nat_lt}
use Rattle.ktm_world.specs.Tree.{Tree, bytes_or_none, units_of}
use Rattle.txf_overlay.specs.OverlayState.{OverlayState, Written}
use Rattle.txf_overlay.specs.Written.{AreFilesRising, AreOver, first_from, total_units, units_in}
use Rattle.txf_volume.specs.Held.{OwnHeld, node_units, tree_units}
use Rattle.txf_volume.specs.Pages.{all_written, tree_contents, written_contents}
use Rattle.txf_volume.specs.Ties.{units_held}

-- ---- units

pub tree-units : (tree : Tree) → sum_by units_of (tree_contents tree) ≡ tree_units tree
tree-units [] = refl
tree-units (n ∷ ns) = let rest = tree-units ns in rw (sum_by-cons units_of (bytes_or_none n.content) (tree_contents ns), sum_by-cons node_units n ns) (omega (arith, rest))

pub written-units : (ws : List Written) → sum_by units_of (written_contents ws) ≡ total_units ws
written-units [] = refl
written-units (w ∷ ws) = let rest = written-units ws in rw (sum_by-cons units_of w.bytes (written_contents ws), sum_by-cons units_in w ws) (omega (arith, rest))

pub all-units : (os : List OwnHeld) → sum_by units_of (all_written os) ≡ sum_by units_held os
all-units [] = refl
all-units (o ∷ os) =
    sum_by-append units_of (written_contents o.overlay.written) (all_written os)
    ∙ (let rest = all-units os in let first = written-units o.overlay.written in rw (sum_by-cons units_held o os) (omega (arith, first, rest)))

-- ---- one file after another

-- the files that are not below this number
abbrev files_from : List Written → ℕ → List Written
files_from ws n = filter (λ w. not (nat_lt w.file n)) ws

-- what is left where this is the next one
abbrev pub files_left : List Written → Option Written → List Written
files_left ws None = []
files_left ws (Some w) = w ∷ files_from ws (w.file + 1)

from-over : (ws : List Written) (n m : ℕ) → AreOver n ws → m ≤ n + 1 → files_from ws m ≡ ws
from-over [] n m over most = refl
from-over (w ∷ ws) n m over most = rw (le-ltb w.file m (omega (arith, over.0, most))) (ap (λ (us : List Written). w ∷ us) (from-over ws n m over.1 most))

-- the first from a number on, and the others behind it
record IsFirst (ws : List Written) (n : ℕ) (w : Written) : Type 0 where
  from : n ≤ w.file
  all : files_from ws n ≡ w ∷ files_from ws (w.file + 1)

first-from : (ws : List Written) (n : ℕ) (w : Written) → AreFilesRising ws → first_from ws n ≡ Some w → IsFirst ws n w
first-from [] n w rise is = absurd (none-some w is)
first-from (v ∷ vs) n w rise is = elim (cases_Bool (nat_lt v.file n)) [
  | inl low ↦
      let rest = first-from vs n w rise.1 (rw low at is) in
      let less = ltb-true v.file n low in
      record { from = rest.from; all = rw (low, lt-ltb v.file (w.file + 1) (omega (arith, less, rest.from))) rest.all }
  | inr high ↦
      let same : v ≡ w = same_Some v w (rw high at is) in
      let most = ltb-false v.file n high in
      rw (← same) (record {
        from = most;
        all = rw (high, lt-ltb v.file (v.file + 1) (omega arith))
            (ap (λ (us : List Written). v ∷ us) (from-over vs v.file n rise.0 (omega (arith, most)) ∙ sym (from-over vs v.file (v.file + 1) rise.0 (omega arith))));
      })
]

from-none : (ws : List Written) (n : ℕ) → first_from ws n ≡ None → files_from ws n ≡ []
from-none [] n none = refl
from-none (w ∷ ws) n none = elim (cases_Bool (nat_lt w.file n)) [
  | inl low ↦ rw low (from-none ws n (rw low at none))
  | inr high ↦ absurd (none-some w (sym (rw high at none)))
]

-- what is left behind a number
pub left-from : (ws : List Written) (n : ℕ) (next : Option Written) → AreFilesRising ws → next ≡ first_from ws n → files_left ws next ≡ files_from ws n
left-from ws n None rise is = sym (from-none ws n (sym is))
left-from ws n (Some w) rise is = sym (first-from ws n w rise (sym is)).all

-- at first all are left
pub left-all : (ws : List Written) (next : Option Written) → AreFilesRising ws → next ≡ first_from ws 0 → files_left ws next ≡ ws
left-all ws next rise is = left-from ws 0 next rise is ∙ all ws
  where
    all : (us : List Written) → files_from us 0 ≡ us
    all [] = refl
    all (u ∷ us) = rw (le-ltb u.file 0 (omega arith)) (ap (λ (vs : List Written). u ∷ vs) (all us))

-- behind the next one are fewer
pub fewer-left : (ws : List Written) (now next : Option Written) (w : Written) → AreFilesRising ws → now ≡ Some w → next ≡ first_from ws (w.file + 1) → length (files_left ws next) < length (files_left ws now)
fewer-left ws now next w rise now_is is =
    let rest = ap length (left-from ws (w.file + 1) next rise is) in
    let all : length (files_left ws now) ≡ length (files_from ws (w.file + 1)) + 1 = ap (λ (o : Option Written). length (files_left ws o)) now_is ∙ omega arith in
    omega (arith, rest, all)

-- ---- one transaction after another

-- what the next one wrote, and what those behind it did
pub written-next : (os : List OwnHeld) (i : ℕ) (own : OwnHeld) (o : OverlayState) → i < length os → own ≡ get_or os i own → o ≡ own.overlay
    → all_written (drop i os) ≡ written_contents o.written ++ all_written (drop (i + 1) os)
written-next os i own o low own_is is =
    let here : all_written (drop i os) ≡ written_contents own.overlay.written ++ all_written (drop (i + 1) os) =
    rw add-one (ap all_written (drop-cons os i own low) ∙ ap (λ (p : OwnHeld). written_contents p.overlay.written ++ all_written (drop (suc i) os)) (sym own_is)) in
    here ∙ ap (λ (p : OverlayState). written_contents p.written ++ all_written (drop (i + 1) os)) (sym is)
