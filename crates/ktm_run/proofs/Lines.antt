-- What is kept of a line stands for the whole line, and lines that are cut out of pieces.
use Rattle.std.proofs.Common.{◌≡◌, ℕ, ◌+◌, ◌-◌, ◌<◌, ◌==◌, zero, suc, min, inl, inr, true, false, List, [], ◌∷◌, ◌++◌, length, get_or, take, drop, cond, eqb, Option, None, Some, refl, sym, ◌∙◌, ap, subst, arith, append_assoc, length-take, length-drop}
use Rattle.std.proofs.lemmas.Bool.{cases_lt}
use Rattle.std.proofs.lemmas.List.{append-nil, take_all, take-append-le, take_min, length-take-le}
use Rattle.std.proofs.Math.Nat.{min_comm}
use Rattle.std.proofs.Math.Seq.{take-append-add}
use Rattle.std.proofs.Math.Dec.{eqb-suc-zero}
use Rattle.std.proofs.lemmas.Grind.{common_steps}
use Rattle.ktm_run.specs.Script.{ended, lines_from, part_from, last_line, has_reply, Means, kept_of}
use Rattle.ktm_script.specs.Spelling.{spelling, IsLine}
use Rattle.ktm_world.specs.declared.command.Line.{Line}

-- a part that is short is kept whole
pub kept_whole : (n : ℕ) (part : List ℕ) → length (take n part) < n → take n part ≡ part
kept_whole n part h = grind (arith, common_steps)

has_reply-kept : (line : List ℕ) → has_reply (kept_of line) ≡ has_reply line
has_reply-kept [] = refl
has_reply-kept (byte ∷ bytes) = refl

-- what is kept of a line has a reply where the line has
pub has_reply-of : (line kept : List ℕ) → kept ≡ kept_of line → has_reply line ≡ has_reply kept
has_reply-of line kept is = sym (has_reply-kept line) ∙ ap has_reply (sym is)

pub Means-kept : (line : List ℕ) (meant : Option Line) → Means (kept_of line) meant → Means line meant
Means-kept line (Some x) h = let short = h.0.short in (h.0, h.1 ∙ kept_whole 140001 line (subst (λ (l : List ℕ). length l < 140001) h.1 (omega arith)))
Means-kept line None h = λ x is e. h x is (e ∙ sym (kept_whole 140001 line (subst (λ (l : List ℕ). length (take 140001 l) < 140001) e (short x is))))
  where
    short : (x : Line) → IsLine x → length (take 140001 (spelling x)) < 140001
    short x is = let brief = is.short in omega (arith, length-take {A = ℕ})

-- bytes more, as far as there is room for them
pub kept_with : (kept part bytes : List ℕ) (m : ℕ) → kept ≡ kept_of part → m ≡ min (length bytes) (140001 - length kept) → kept ++ take m bytes ≡ kept_of (part ++ bytes)
kept_with kept part bytes m is many = elim (cases_lt (length part) 140001) [
  | inl short ↦
      (let whole : kept ≡ part = is ∙ take_all 140001 part (omega (arith, short)) in
      let room : 140001 ≡ length part + (140001 - length kept) = omega (arith, ap (λ (l : List ℕ). length l) whole, short) in
      ap (λ (l : List ℕ). l ++ take m bytes) whole
      ∙ ap (λ (l : List ℕ). part ++ l) (ap (λ n. take n bytes) (many ∙ min_comm (length bytes) (140001 - length kept)) ∙ take_min (140001 - length kept) bytes)
      ∙ sym (take-append-add part bytes (140001 - length kept))
      ∙ ap (λ n. take n (part ++ bytes)) (sym room))
  | inr long ↦
      (let full : length kept ≡ 140001 = ap (λ (l : List ℕ). length l) is ∙ length-take-le 140001 part long in
      let none : m ≡ 0 = omega (arith, many, full) in
      ap (λ n. kept ++ take n bytes) none ∙ append-nil kept ∙ is ∙ sym (take-append-le 140001 part bytes long))
]

-- so much of the bytes is kept where there is no part
pub ended_none : (kept bytes : List ℕ) (m : ℕ) → true ≡ eqb (length kept) 0 → m ≡ min (length bytes) 140001 → take m bytes ≡ ended kept bytes
ended_none [] bytes m none many = ap (λ n. take n bytes) (many ∙ min_comm (length bytes) 140001) ∙ take_min 140001 bytes
ended_none (b ∷ bs) bytes m none many = let wrong : true ≡ false = none ∙ eqb-suc-zero (length bs) in cc

-- without a part the line is in the bytes
pub ended_alone : (kept part bytes : List ℕ) → kept ≡ kept_of part → true ≡ eqb (length kept) 0 → ended kept bytes ≡ kept_of (part ++ bytes)
ended_alone kept [] bytes is none = ap (λ (l : List ℕ). ended l bytes) is
ended_alone kept (b ∷ bs) bytes is none =
    let wrong : true ≡ false = subst (λ (l : List ℕ). true ≡ eqb (length l) 0) is none ∙ eqb-suc-zero (length (take 140000 bs)) in cc

-- with a part it is behind that
pub ended_behind : (kept new part bytes : List ℕ) → kept ≡ kept_of part → false ≡ eqb (length kept) 0 → new ≡ kept_of (part ++ bytes) → ended new bytes ≡ kept_of (part ++ bytes)
ended_behind kept new [] bytes is some whole = let wrong : false ≡ true = subst (λ (l : List ℕ). false ≡ eqb (length l) 0) is some in cc
ended_behind kept new (b ∷ bs) bytes is some whole = ap (λ (l : List ℕ). ended l bytes) whole

-- up to the first newline it is one line, and what is behind it begins the next
pub cut_at : (now rest : List ℕ) (end : ℕ) → end < length rest → (get_or rest end 0 == 10) ≡ true → ((k : ℕ) → k < end → (get_or rest k 0 == 10) ≡ false)
    → (lines_from now rest ≡ (now ++ take end rest) ∷ lines_from [] (drop (suc end) rest)) × (part_from now rest ≡ part_from [] (drop (suc end) rest))
cut_at now [] end within ends others = absurd (omega (arith, within))
cut_at now (b ∷ bs) zero within ends others = (
  ap (λ t. cond t (now ∷ lines_from [] bs) (lines_from (now ++ b ∷ []) bs)) ends ∙ ap (λ (l : List ℕ). l ∷ lines_from [] bs) (sym (append-nil now)),
  ap (λ t. cond t (part_from [] bs) (part_from (now ++ b ∷ []) bs)) ends,
)
cut_at now (b ∷ bs) (suc end) within ends others =
    let other = others 0 (omega arith) in
    let further = cut_at (now ++ b ∷ []) bs end (omega (arith, within)) ends (λ k below. others (suc k) (omega (arith, below))) in (
      ap (λ t. cond t (now ∷ lines_from [] bs) (lines_from (now ++ b ∷ []) bs)) other
          ∙ further.0
          ∙ ap (λ (l : List ℕ). l ∷ lines_from [] (drop (suc end) bs)) (append_assoc now (b ∷ []) (take end bs)),
      ap (λ t. cond t (part_from [] bs) (part_from (now ++ b ∷ []) bs)) other ∙ further.1,
    )

drop_next : (n : ℕ) (bytes : List ℕ) → drop 1 (drop n bytes) ≡ drop (suc n) bytes
drop_next zero bytes = refl
drop_next (suc n) [] = refl
drop_next (suc n) (b ∷ bs) = drop_next n bs

-- what is behind a newline, as two slices give it
pub behind : (end : ℕ) (bytes : List ℕ) → take (length (take (length bytes - end) (drop end bytes)) - 1) (drop 1 (take (length bytes - end) (drop end bytes))) ≡ drop (suc end) bytes
behind end bytes =
    ap (λ (l : List ℕ). take (length l - 1) (drop 1 l)) (take_all (length bytes - end) (drop end bytes) (omega (arith, length-drop end bytes)))
    ∙ take_all (length (drop end bytes) - 1) (drop 1 (drop end bytes)) (omega (arith, length-drop 1 (drop end bytes)))
    ∙ drop_next end bytes

-- without a newline it is a part of a line
pub uncut : (now rest : List ℕ) → ((k : ℕ) → k < length rest → (get_or rest k 0 == 10) ≡ false) → (lines_from now rest ≡ []) × (part_from now rest ≡ now ++ rest)
uncut now [] others = (refl, sym (append-nil now))
uncut now (b ∷ bs) others =
    let other = others 0 (omega arith) in
    let further = uncut (now ++ b ∷ []) bs (λ k below. others (suc k) (omega (arith, below))) in (
      ap (λ t. cond t (now ∷ lines_from [] bs) (lines_from (now ++ b ∷ []) bs)) other ∙ further.0,
      ap (λ t. cond t (part_from [] bs) (part_from (now ++ b ∷ []) bs)) other ∙ further.1 ∙ append_assoc now (b ∷ []) bs,
    )

pub lines_from-append : (p xs ys : List ℕ) → lines_from p (xs ++ ys) ≡ lines_from p xs ++ lines_from (part_from p xs) ys
lines_from-append p [] ys = refl
lines_from-append p (b ∷ xs) ys =
    elim (eqb b 10) as (λ t. cond t (p ∷ lines_from [] (xs ++ ys)) (lines_from (p ++ b ∷ []) (xs ++ ys))
    ≡ cond t (p ∷ lines_from [] xs) (lines_from (p ++ b ∷ []) xs) ++ lines_from (cond t (part_from [] xs) (part_from (p ++ b ∷ []) xs)) ys)
    [ true ↦ ap (λ (l : List (List ℕ)). p ∷ l) (lines_from-append [] xs ys) | false ↦ lines_from-append (p ++ b ∷ []) xs ys ]

pub part_from-append : (p xs ys : List ℕ) → part_from p (xs ++ ys) ≡ part_from (part_from p xs) ys
part_from-append p [] ys = refl
part_from-append p (b ∷ xs) ys =
    elim (eqb b 10) as (λ t. cond t (part_from [] (xs ++ ys)) (part_from (p ++ b ∷ []) (xs ++ ys)) ≡ part_from (cond t (part_from [] xs) (part_from (p ++ b ∷ []) xs)) ys)
    [ true ↦ part_from-append [] xs ys | false ↦ part_from-append (p ++ b ∷ []) xs ys ]

-- at the end of the script
pub last_none : (part kept : List ℕ) → kept ≡ kept_of part → true ≡ eqb (length kept) 0 → last_line part ≡ []
last_none [] kept is none = refl
last_none (b ∷ bs) kept is none =
    let wrong : true ≡ false = subst (λ (l : List ℕ). true ≡ eqb (length l) 0) is none ∙ eqb-suc-zero (length (take 140000 bs)) in cc

pub last_some : (part kept : List ℕ) → kept ≡ kept_of part → false ≡ eqb (length kept) 0 → last_line part ≡ part ∷ []
last_some [] kept is some = let wrong : false ≡ true = subst (λ (l : List ℕ). false ≡ eqb (length l) 0) is some in cc
last_some (b ∷ bs) kept is some = refl

-- the first bytes of two parts, of which the first has so many
pub take_front : (n : ℕ) (xs ys : List ℕ) → length xs ≡ n → take n (xs ++ ys) ≡ xs
take_front n xs ys same = take-append-le n xs ys (omega (arith, same)) ∙ take_all n xs (omega (arith, same))
