-- What is cut at the backslashes is spelled with them, and what is spelled with them is cut so.
use Rattle.std.proofs.Common.{◌+◌, ◌≡◌, ℕ, ◌<◌, ◌≤◌, nat_eq, nat_le, false, List, [], ◌∷◌, length, take, Some, None, refl, sym, ap, ◌∙◌, arith, inl, inr, All, length-take}
use Rattle.std.specs.List.{join_with_byte}
use Rattle.std.proofs.lemmas.Bool.{cases_Bool, le-leb}
use Rattle.std.proofs.lemmas.List.{take_all}
use Rattle.std.proofs.lemmas.List.Elements.{All-head, All-tail}
use Rattle.std.proofs.lemmas.List.Splits.{join_with_byte-slice_split, slice_split_at, slice_split_none}
use Rattle.std.proofs.lemmas.Option.{same_Some}
use Rattle.ktm_base.specs.declared.limits.TheConstants.{MOST_PARTS}
use Rattle.ktm_base.specs.Names.{backslash, path_text}
use Rattle.ktm_names.specs.Reading.{behind_backslash, cut, few_parts, parts_of}

-- no character of it is a backslash
abbrev pub HasNoBackslash : List ℕ → Type 0
HasNoBackslash part = All (λ c. nat_eq c backslash ≡ false) part

-- parts that are joined by backslashes are cut there
pub cut-join : (part : List ℕ) (parts : List (List ℕ)) → All HasNoBackslash (part ∷ parts) → cut (join_with_byte backslash (part ∷ parts)) ≡ part ∷ parts
cut-join part [] h = slice_split_none (λ c. nat_eq c backslash) part (All-head HasNoBackslash part [] h)
cut-join part (next ∷ parts) h =
    slice_split_at (λ c. nat_eq c backslash) part backslash (join_with_byte backslash (next ∷ parts)) (All-head HasNoBackslash part (next ∷ parts) h) refl
    ∙ ap (λ (more : List (List ℕ)). part ∷ more) (cut-join next parts (All-tail HasNoBackslash part (next ∷ parts) h))

few_is : (text : List ℕ) (parts : List (List ℕ)) → few_parts text ≡ Some parts → (length parts ≤ MOST_PARTS) × (text ≡ join_with_byte backslash parts)
few_is text parts e = elim (cases_Bool (nat_le (length (cut text)) MOST_PARTS)) [
  | inl few ↦
      let same : cut text ≡ parts = same_Some _ _ (rw few at e) in
      let bound : length (cut text) ≤ MOST_PARTS = grind arith in
      (rw (← same) bound, rw (← same) (sym (join_with_byte-slice_split backslash text)))
  | inr many ↦ cc (rw many at e)
]

-- the parts that were cut spell the text
pub parts_is : (text : List ℕ) (parts : List (List ℕ)) → parts_of text ≡ Some parts → (length parts ≤ MOST_PARTS) × (text ≡ path_text parts)
unfolding parts_of behind_backslash
parts_is [] parts e = cc
parts_is (c ∷ cs) parts e = elim (cases_Bool (nat_eq c backslash)) [
  | inl same ↦
      let read = few_is cs parts (rw same at e) in
      let front : c ≡ backslash = grind arith in
      (read.0, rw (front, ← read.1) refl)
  | inr other ↦ cc (rw other at e)
]

-- parts without a backslash that spell the text are cut
pub parts_again : (text : List ℕ) (part : List ℕ) (parts : List (List ℕ)) → text ≡ path_text (part ∷ parts) → All HasNoBackslash (part ∷ parts) → length (part ∷ parts) ≤ MOST_PARTS
    → parts_of text ≡ Some (part ∷ parts)
unfolding parts_of behind_backslash
parts_again text part parts spelled h few =
    ap parts_of spelled ∙ rw (cut-join part parts h, le-leb (length (part ∷ parts)) MOST_PARTS few) refl

-- where the first parts are few, they are all
pub parts_few : (text rest : List ℕ) (parts : List (List ℕ)) → Some rest ≡ behind_backslash text → parts ≡ take (MOST_PARTS + 1) (cut rest) → length parts ≤ MOST_PARTS → parts_of text ≡ Some parts
unfolding parts_of
parts_few text rest parts e cuts few =
    let whole : length (cut rest) ≤ MOST_PARTS = omega (arith, length-take (MOST_PARTS + 1) (cut rest), ap length cuts) in
    rw (← e, le-leb (length (cut rest)) MOST_PARTS whole) (ap Some (sym (cuts ∙ take_all (MOST_PARTS + 1) (cut rest) (omega arith))))

-- where the first parts are too many, all are
pub parts_many : (text rest : List ℕ) (parts : List (List ℕ)) → Some rest ≡ behind_backslash text → parts ≡ take (MOST_PARTS + 1) (cut rest) → MOST_PARTS < length parts → parts_of text ≡ None
unfolding parts_of
parts_many text rest parts e cuts many =
    let long : MOST_PARTS < length (cut rest) = omega (arith, length-take (MOST_PARTS + 1) (cut rest), ap length cuts) in
    let test : nat_le (length (cut rest)) MOST_PARTS ≡ false = grind arith in
    rw (← e, test) refl
