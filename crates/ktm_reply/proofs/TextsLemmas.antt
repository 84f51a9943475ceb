-- What is read as texts behind spaces is spelled so, and what is spelled so is read.
use Rattle.std.proofs.Common.{◌≡◌, ℕ, ◌<◌, true, false, List, [], ◌∷◌, ◌++◌, length, length-append, Option, Some, None, codes, refl, sym, ◌∙◌, ap, subst, arith, append_assoc, nat_eq, flat_map, option_map, inl, inr}
use Rattle.std.proofs.lemmas.Bool.{cases_Bool}
use Rattle.std.proofs.lemmas.Bool.Decides.{nat_tests}
use Rattle.std.proofs.lemmas.List.{append-nil}
use Rattle.std.proofs.lemmas.Option.{same_Some}
use Rattle.std.specs.List.{AllByRecursion}
use Rattle.ktm_codec.specs.Quoted.{AreTextBytes, is_text_byte, quotation_mark, quoted, quoted_at, text_from}
use Rattle.ktm_codec.specs.Steps.{◌>>=◌}
use Rattle.ktm_codec.specs.Word.{after_word}
use Rattle.ktm_codec.proofs.HexLemmas.{option_map_some}
use Rattle.ktm_codec.proofs.QuotedLemmas.{quoted_is, quoted_again}
use Rattle.ktm_codec.proofs.Steps.{bind_some}
use Rattle.ktm_codec.proofs.WordLemmas.{after_word_is, after_word_again}
use Rattle.ktm_world.specs.Values.{IsTextByte, IsText}
use Rattle.ktm_reply.specs.Reading.{spaced_at, texts_at, texts_from}
use Rattle.ktm_reply.specs.Spelling.{spaced}

-- the bytes of a text, by the test of the reader and by the grammar
byte_is : (c : ℕ) → is_text_byte c ≡ true → IsTextByte c
byte_is c h = record { from = grind (arith, nat_tests); to = grind (arith, nat_tests); other = λ e. grind (arith, nat_tests) }

byte_again : (c : ℕ) → IsTextByte c → is_text_byte c ≡ true
byte_again c h =
    let from = h.from in
    let to = h.to in
    let other = h.other in
    grind (arith, nat_tests)

bytes_are : (text : List ℕ) → AreTextBytes text → IsText text
bytes_are [] h = tt
bytes_are (c ∷ cs) h = (byte_is c h.0, bytes_are cs h.1)

bytes_again : (text : List ℕ) → IsText text → AreTextBytes text
bytes_again [] h = tt
bytes_again (c ∷ cs) h = (byte_again c h.0, bytes_again cs h.1)

spaced_is : (text t rest : List ℕ) → spaced_at text ≡ Some (t, rest) → IsText t × (text ≡ spaced t ++ rest)
unfolding spaced_at
spaced_is text t rest e = bind_some _ (after_word (codes " ") text) (t, rest) e (λ mark f g.
    let space = after_word_is (codes " ") text mark f in
    let read = quoted_is mark t rest g in
    (bytes_are t read.0, space ∙ ap (λ (xs : List ℕ). codes " " ++ xs) read.1))

-- what follows a text is shorter
pub shorter : (text t rest : List ℕ) → spaced_at text ≡ Some (t, rest) → length rest < length text
shorter text t rest e =
    let read = spaced_is text t rest e in
    omega (arith, ap length read.1, length-append (quoted t) rest)

-- behind the front of a text, the text goes on to its mark, and then other texts follow
from_front : (front text : List ℕ) → texts_from (Some front) text ≡ (text_from front text >>= λ read. option_map (λ more. read.0 ∷ more) (texts_at read.1))
unfolding texts_from text_from
from_front front [] = refl
from_front front (c ∷ cs) = elim (cases_Bool (nat_eq c quotation_mark)) [
  | inl mark ↦ rw mark refl
  | inr other ↦ elim (cases_Bool (is_text_byte c)) [
    | inl byte ↦ rw (byte, other) (from_front (front ++ c ∷ []) cs)
    | inr bad ↦ rw (bad, other) refl
  ]
]

-- one text more
spelled_step : (t rest : List ℕ) → IsText t → texts_at (spaced t ++ rest) ≡ option_map (λ more. t ∷ more) (texts_at rest)
unfolding texts_from quoted_at
spelled_step t rest h =
    from_front [] (t ++ quotation_mark ∷ [] ++ rest)
    ∙ ap (λ (o : Option (List ℕ × List ℕ)). o >>= λ read. option_map (λ more. read.0 ∷ more) (texts_at read.1)) (quoted_again t rest (bytes_again t h))

texts-step : (text t rest : List ℕ) → spaced_at text ≡ Some (t, rest) → texts_at text ≡ option_map (λ more. t ∷ more) (texts_at rest)
texts-step text t rest e =
    let read = spaced_is text t rest e in
    ap texts_at read.1 ∙ spelled_step t rest read.0

map-front : (front : List (List ℕ)) (t : List ℕ) (o : Option (List (List ℕ))) → option_map (λ more. (front ++ t ∷ []) ++ more) o ≡ option_map (λ more. front ++ more) (option_map (λ more. t ∷ more) o)
map-front front t None = refl
map-front front t (Some more) = ap Some (append_assoc front (t ∷ []) more)

pub one_more : (front : List (List ℕ)) (text t rest : List ℕ) → spaced_at text ≡ Some (t, rest)
    → option_map (λ more. (front ++ t ∷ []) ++ more) (texts_at rest) ≡ option_map (λ more. front ++ more) (texts_at text)
one_more front text t rest e = map-front front t (texts_at rest) ∙ ap (option_map (λ more. front ++ more)) (sym (texts-step text t rest e))

-- where no text is at the front there is nothing, or what is there is not spelled so
pub ended : (front : List (List ℕ)) (text : List ℕ) → true ≡ nat_eq (length text) 0 → option_map (λ more. front ++ more) (texts_at text) ≡ Some front
unfolding texts_from
ended front [] e = ap Some (append-nil front)
ended front (c ∷ cs) e = absurd (grind (arith, nat_tests))

not_texts : (c : ℕ) (cs : List ℕ) → spaced_at (c ∷ cs) ≡ None → texts_at (c ∷ cs) ≡ None
unfolding texts_from spaced_at quoted_at
not_texts c [] e = refl
not_texts c (d ∷ cs) e = elim (cases_Bool (nat_eq c 32)) [
  | inl space ↦ elim (cases_Bool (nat_eq d quotation_mark)) [
    | inl mark ↦
        let same : c ≡ 32 = grind (arith, nat_tests) in
        let none : text_from [] cs ≡ None = rw (same, after_word_again (codes " ") (d ∷ cs), mark) at e in
        rw (space, mark) (from_front [] cs ∙ rw none refl)
    | inr other ↦ rw (space, other) refl
  ]
  | inr other ↦ rw other refl
]

pub stuck : (front : List (List ℕ)) (text : List ℕ) → spaced_at text ≡ None → false ≡ nat_eq (length text) 0 → option_map (λ more. front ++ more) (texts_at text) ≡ None
stuck front [] e some = absurd (grind (arith, nat_tests))
stuck front (c ∷ cs) e some = ap (option_map (λ more. front ++ more)) (not_texts c cs e)

-- what texts_from reads behind the front of a text
abbrev Goes : List ℕ → List ℕ → List (List ℕ) → Type 0
Goes front text texts = (t : List ℕ) × (more : List (List ℕ)) × (texts ≡ (front ++ t) ∷ more)
    × IsText t × AllByRecursion IsText more × (text ≡ t ++ quotation_mark ∷ flat_map spaced more)

closed : (front text : List ℕ) (more texts : List (List ℕ)) → front ∷ more ≡ texts → AllByRecursion IsText more → text ≡ flat_map spaced more
    → Goes front (quotation_mark ∷ text) texts
closed front text more texts whole valid is =
    ([], more, sym whole ∙ ap (λ (t : List ℕ). t ∷ more) (sym (append-nil front)), tt, valid, ap (λ (xs : List ℕ). quotation_mark ∷ xs) is)

longer : (front text : List ℕ) (c : ℕ) (texts : List (List ℕ)) → is_text_byte c ≡ true → Goes (front ++ c ∷ []) text texts → Goes front (c ∷ text) texts
longer front text c texts byte (t, more, whole, is, valid, behind) =
    (c ∷ t, more, whole ∙ ap (λ (xs : List ℕ). xs ∷ more) (append_assoc front (c ∷ []) t), (byte_is c byte, is), valid, ap (λ (xs : List ℕ). c ∷ xs) behind)

opened : (text : List ℕ) (texts : List (List ℕ)) → Goes [] text texts → AllByRecursion IsText texts × (32 ∷ quotation_mark ∷ text ≡ flat_map spaced texts)
opened text texts (t, more, whole, is, valid, behind) =
    let spelled : 32 ∷ quotation_mark ∷ text ≡ flat_map spaced (t ∷ more) =
    ap (λ (xs : List ℕ). 32 ∷ quotation_mark ∷ xs) (behind ∙ sym (append_assoc t (quotation_mark ∷ []) (flat_map spaced more))) in
    (subst (AllByRecursion IsText) (sym whole) (is, valid), spelled ∙ ap (flat_map spaced) (sym whole))

mutual
  unfolding texts_from

  pub texts_is : (text : List ℕ) (texts : List (List ℕ)) → texts_at text ≡ Some texts → AllByRecursion IsText texts × (text ≡ flat_map spaced texts)
  texts_is [] texts e = let none = same_Some _ _ e in (subst (AllByRecursion IsText) none tt, ap (flat_map spaced) none)
  texts_is (c ∷ []) texts e = cc
  texts_is (c ∷ d ∷ cs) texts e = elim (cases_Bool (nat_eq c 32)) [
    | inl space ↦ elim (cases_Bool (nat_eq d quotation_mark)) [
      | inl mark ↦
          let same : (c ≡ 32) × (d ≡ quotation_mark) = (grind (arith, nat_tests), grind (arith, nat_tests)) in
          let read = opened cs texts (goes_is [] cs texts (rw (space, mark) at e)) in
          (read.0, rw (same.0, same.1) read.1)
      | inr other ↦ cc (rw (space, other) at e)
    ]
    | inr other ↦ cc (rw other at e)
  ]

  goes_is : (front text : List ℕ) (texts : List (List ℕ)) → texts_from (Some front) text ≡ Some texts → Goes front text texts
  goes_is front [] texts e = cc
  goes_is front (c ∷ cs) texts e = elim (cases_Bool (nat_eq c quotation_mark)) [
    | inl mark ↦
        let same : c ≡ quotation_mark = grind (arith, nat_tests) in
        option_map_some _ (texts_at cs) texts (rw mark at e) (λ more f whole.
        let read = texts_is cs more f in
        rw same (closed front cs more texts whole read.0 read.1))
    | inr other ↦ elim (cases_Bool (is_text_byte c)) [
      | inl byte ↦ longer front cs c texts byte (goes_is (front ++ c ∷ []) cs texts (rw (byte, other) at e))
      | inr bad ↦ cc (rw (bad, other) at e)
    ]
  ]

pub texts_again : (texts : List (List ℕ)) → AllByRecursion IsText texts → texts_at (flat_map spaced texts) ≡ Some texts
unfolding texts_from
texts_again [] h = refl
texts_again (t ∷ more) h = spelled_step t (flat_map spaced more) h.0 ∙ ap (option_map (λ ts. t ∷ ts)) (texts_again more h.1)
