-- Pages that are put over others, and pages that are left.
use Rattle.std.proofs.Common.{◌≡◌, ◌⊎◌, ℕ, ◌+◌, ◌-◌, ◌*◌, ◌/◌, ◌≤◌, max, List, [], ◌++◌, length, take, drop, replicate, refl, sym, ◌∙◌, ap, ap₂, arith, inl, inr, append_assoc, length-take, length-drop, length-append}
use Rattle.std.specs.Prelude.{flat_map}
use Rattle.std.proofs.lemmas.Bool.{cases_lt}
use Rattle.std.proofs.lemmas.List.{append-nil, drop_all, length-replicate, take-append-le, take_all}
use Rattle.std.proofs.lemmas.List.Concat.{flat_map-append}
use Rattle.ktm_page.specs.Bytes.{written}
use Rattle.ktm_content.specs.Contents.{cut_to, put_over}
use Rattle.ktm_content.specs.Places.{CanBePut, places_of, places_on}
use Rattle.ktm_content.proofs.offered.Placing.{drop-places_on, length-all, length-places_on, places_on-append, places_on-take, places_on-units, take-places_on}

-- zeros behind a list, which are written over
drop-filled : (old : List ℕ) (behind : ℕ) → drop behind (old ++ replicate (behind - length old) 0) ≡ drop behind old
drop-filled old behind = elim (cases_lt (length old) behind) [
  | inl short ↦ drop_all behind (old ++ replicate (behind - length old) 0) (omega (arith, short, length-append old (replicate (behind - length old) 0), length-replicate {A = ℕ} (behind - length old) 0))
      ∙ sym (drop_all behind old (omega (arith, short)))
  | inr long ↦ (let none : behind - length old ≡ 0 = omega (arith, long) in
      ap (λ n. drop behind (old ++ replicate n 0)) none ∙ ap (drop behind) (append-nil old))
]

-- pages that are written over others with zeros behind them
pub written-filled : (old new : List ℕ) (first more : ℕ) → first ≤ length old → more ≡ first + length new - length old → written (old ++ replicate more 0) first new ≡ written old first new
written-filled old new first more fits is =
    ap₂ (λ (front back : List ℕ). front ++ new ++ back)
    (take-append-le first old (replicate more 0) fits)
    (ap (λ n. drop (first + length new) (old ++ replicate n 0)) is ∙ drop-filled old (first + length new))

-- the front of places is what they are cut to
cut-front : (pages : List ℕ) (size less : ℕ) → size ≤ length pages * 4096 → less ≤ size → cut_to (places_on pages size) less ≡ places_on pages less
cut-front pages size less fits shorter =
    let none : less - length (places_on pages size) ≡ 0 = omega (arith, shorter, length-places_on pages size fits) in
    ap₂ (λ (l : List ℕ) (n : ℕ). l ++ replicate n 0) (take-places_on pages size less shorter) none ∙ append-nil (places_on pages less)

-- what is cut lies on the first pages
pub cut-places : (pages : List ℕ) (size less units : ℕ) → length pages ≡ (size + 4095) / 4096 → less ≤ length (places_on pages size) → units ≡ (less + 4095) / 4096
    → places_on (take units pages) less ≡ cut_to (places_on pages size) less
cut-places pages size less units all shorter is =
    let fits : size ≤ length pages * 4096 = omega (arith, all) in
    places_on-take pages units less (omega (arith, is))
    ∙ sym (cut-front pages size less fits (omega (arith, shorter, length-places_on pages size fits)))

-- the bytes of a part, and those of the pages behind it
behind-part : (new rest old : List ℕ) (size start len behind : ℕ) → len ≤ length new * 4096 → behind * 4096 ≡ start + length new * 4096 → rest ≡ drop behind old → size ≤ length old * 4096 → start ≤ size
    → (length new * 4096 ≡ len) ⊎ (size ≤ start + len)
    → places_on (new ++ rest) (max size (start + len) - start) ≡ places_on new len ++ drop (start + length (places_on new len)) (places_on old size)
behind-part new rest old size start len behind enough is rest_is fits reaches ends = elim (cases_lt (start + len) size) [
  | inl within ↦ (
      let whole : length new * 4096 ≡ len = elim ends [ inl whole ↦ whole | inr past ↦ absurd (omega (arith, within, past)) ] in
      let many : max size (start + len) - start ≡ length new * 4096 + (size - behind * 4096) = omega (arith, whole, is, within) in
      let front : flat_map places_of new ≡ places_on new len = sym (take_all len (flat_map places_of new) (omega (arith, whole, length-all new))) in
      let from : behind * 4096 ≡ start + length (places_on new len) = omega (arith, whole, is, length-places_on new len enough) in
      ap (places_on (new ++ rest)) many
      ∙ places_on-append new rest (size - behind * 4096)
      ∙ ap₂ (λ (a b : List ℕ). a ++ b) front
      (ap (λ (l : List ℕ). places_on l (size - behind * 4096)) rest_is ∙ sym (drop-places_on old size behind) ∙ ap (λ n. drop n (places_on old size)) from))
  | inr past ↦ (
      let many : max size (start + len) - start ≡ len = omega (arith, past, reaches) in
      let none : drop (start + length (places_on new len)) (places_on old size) ≡ [] = drop_all (start + length (places_on new len)) (places_on old size) (omega (arith, past, length-places_on new len enough, length-places_on old size fits)) in
      ap (places_on (new ++ rest)) many
      ∙ part
      ∙ sym (append-nil (places_on new len))
      ∙ ap (λ (l : List ℕ). places_on new len ++ l) (sym none))
]
  where
    part : places_on (new ++ rest) len ≡ places_on new len
    part = ap (take len) (flat_map-append places_of new rest) ∙ take-append-le len (flat_map places_of new) (flat_map places_of rest) (omega (arith, enough, length-all new))

-- pages of a part that is put over contents are written over theirs
put-whole : (old new : List ℕ) (size start len first : ℕ) → length old ≡ (size + 4095) / 4096 → length new ≡ (len + 4095) / 4096 → start ≡ first * 4096 → start ≤ size
    → (length new * 4096 ≡ len) ⊎ (size ≤ start + len)
    → places_on (written old first new) (max size (start + len)) ≡ put_over (places_on old size) start (places_on new len)
put-whole old new size start len first all units is reaches ends =
    let fits : size ≤ length old * 4096 = omega (arith, all) in
    let enough : len ≤ length new * 4096 = omega (arith, units) in
    let front_long : length (take first old) ≡ first = omega (arith, all, is, reaches, length-take first old) in
    let many : max size (start + len) ≡ length (take first old) * 4096 + (max size (start + len) - start) = omega (arith, is, reaches, front_long) in
    let front : flat_map places_of (take first old) ≡ cut_to (places_on old size) start = sym (places_on-units old first) ∙ ap (places_on old) (sym is) ∙ sym (cut-front old size start fits reaches) in
    ap₂ places_on (append_assoc (take first old) new (drop (first + length new) old)) many
    ∙ places_on-append (take first old) (new ++ drop (first + length new) old) (max size (start + len) - start)
    ∙ ap₂ (λ (a b : List ℕ). a ++ b) front
    (behind-part new (drop (first + length new) old) old size start len (first + length new) enough (omega (arith, is)) refl fits reaches ends)
    ∙ sym (append_assoc (cut_to (places_on old size) start) (places_on new len) (drop (start + length (places_on new len)) (places_on old size)))

-- the same, where they can be put
pub put-places : (old new : List ℕ) (size start len first : ℕ) → length old ≡ (size + 4095) / 4096 → length new ≡ (len + 4095) / 4096 → first ≡ start / 4096 → CanBePut (places_on old size) start (places_on new len)
    → places_on (written old first new) (max size (start + len)) ≡ put_over (places_on old size) start (places_on new len)
put-places old new size start len first all units first_is can =
    put-whole old new size start len first all units starts (omega (arith, can.reaches, old_long)) ends
  where
    old_long : length (places_on old size) ≡ size
    old_long = length-places_on old size (omega (arith, all))

    new_long : length (places_on new len) ≡ len
    new_long = length-places_on new len (omega (arith, units))

    starts : start ≡ first * 4096
    starts = omega (arith, first_is, can.begins)

    ends : (length new * 4096 ≡ len) ⊎ (size ≤ start + len)
    ends = elim can.ends [
      | inl whole ↦ inl (omega (arith, whole, starts, units, new_long))
      | inr past ↦ inr (omega (arith, past, old_long, new_long))
    ]

-- there is a page for each unit still
pub put-units : (old new : List ℕ) (size start len first : ℕ) → length old ≡ (size + 4095) / 4096 → length new ≡ (len + 4095) / 4096 → first * 4096 ≡ start → start ≤ size
    → length (written old first new) ≡ (max size (start + len) + 4095) / 4096
put-units old new size start len first all units is reaches =
    let long : length (written old first new) ≡ max (length old) (first + length new) =
    omega (arith, all, is, reaches, length-append (take first old ++ new) (drop (first + length new) old), length-append (take first old) new, length-take first old, length-drop (first + length new) old) in
    elim (cases_lt (start + len) size) [
      | inl within ↦ omega (arith, long, all, units, is, within)
      | inr past ↦ omega (arith, long, all, units, is, past)
    ]
