-- A text that is put at the end of a list of texts.
use Rattle.std.proofs.Common.{◌≡◌, ℕ, ◌-◌, ◌≤◌, List, [], ◌∷◌, ◌++◌, length, map, drop, refl, sym, ◌∙◌, arith, length-append, length-drop}
use Rattle.std.proofs.lemmas.List.{drop-append-le, drop_at, map_push, take-append-le, take_all}
use Rattle.std.proofs.lemmas.List.Elements.{All-head, All-tail}
use Rattle.ktm_names.specs.Places.{AreWithin, IsWithin, text_at}
use Rattle.ktm_names.specs.declared.list.Span.{Span}

kept : (bytes more : List ℕ) (place : Span) → IsWithin bytes place → text_at (bytes ++ more) place ≡ text_at bytes place
kept bytes more place h =
    let ordered = h.ordered in
    let within = h.within in
    let inside : place.start ≤ length bytes = omega arith in
    let long : place.end - place.start ≤ length (drop place.start bytes) = omega (arith, length-drop place.start bytes) in
    rw (drop-append-le place.start bytes more inside) (take-append-le (place.end - place.start) (drop place.start bytes) more long)

all_kept : (bytes more : List ℕ) (places : List Span) → AreWithin bytes places → map (text_at (bytes ++ more)) places ≡ map (text_at bytes) places
all_kept bytes more [] h = refl
all_kept bytes more (place ∷ places) h =
    rw (kept bytes more place (All-head (IsWithin bytes) place places h), all_kept bytes more places (All-tail (IsWithin bytes) place places h)) refl

added : (bytes more : List ℕ) (place : Span) → place.start ≡ length bytes → place.end ≡ length (bytes ++ more) → text_at (bytes ++ more) place ≡ more
added bytes more place start end =
    let size = length-append bytes more in
    let enough : length more ≤ place.end - place.start = omega arith in
    rw (drop_at bytes more place.start (sym start)) (take_all (place.end - place.start) more enough)

-- the texts of the list with one text more
pub texts-push : (bytes more : List ℕ) (places : List Span) (place : Span) → AreWithin bytes places → place.start ≡ length bytes → place.end ≡ length (bytes ++ more)
    → map (text_at (bytes ++ more)) (places ++ place ∷ []) ≡ map (text_at bytes) places ++ more ∷ []
texts-push bytes more places place h start end =
    map_push (text_at (bytes ++ more)) places place ∙ rw (all_kept bytes more places h, added bytes more place start end) refl
