-- What is read as a GUID is spelled so, and what is spelled so is read.
use Rattle.std.proofs.Common.{◌≡◌, ◌↔◌, ℕ, zero, suc, ◌+◌, ◌*◌, ◌<◌, ◌&&◌, nat_eq, true, false, List, ◌++◌, length, length-take, get_or, take, Option, Some, None, Result, Ok, Err, IsOk, IfOk, refl, sym, ◌∙◌, ap, subst, inl, inr, arith}
use Rattle.std.proofs.SliceLists.{all_by_recursion_push}
use Rattle.std.proofs.lemmas.Bool.{cases_Bool}
use Rattle.std.proofs.lemmas.Bool.Decides.{nat_tests}
use Rattle.std.proofs.lemmas.List.{take_at}
use Rattle.std.proofs.lemmas.List.Elements.{All-from_get_or}
use Rattle.std.proofs.lemmas.List.Folds.{list_all_at}
use Rattle.std.proofs.lemmas.Option.{option_and_then_some, same_Some, some_pair_parts}
use Rattle.std.specs.List.{list_all}
use Rattle.std.specs.Result.{result_ok}
use Rattle.ktm_base.specs.Bytes.{AreBytes}
use Rattle.ktm_codec.specs.Guid.{guid_at, guid_spelling}
use Rattle.ktm_codec.specs.Word.{after_word}
use Rattle.ktm_codec.proofs.Forms.{each_byte}
use Rattle.ktm_codec.proofs.HexLemmas.{option_map_some}
use Rattle.ktm_codec.proofs.WordLemmas.{after_word_is, after_word_again}
use Rattle.uuid.specs.Text.{by_index, byte_of_digits, digits_of, has_hyphens, is_hex_digit, lower, parsed, parsed_hyphenated, parsed_simple, value_of}
use Rattle.uuid.proofs.TextLemmas.{by_index_length}
use Rattle.uuid.proofs.RoundTrips.{parses_hyphenated_text}

bytes_by_index : (n : ℕ) (f : ℕ → ℕ) → ((k : ℕ) → k < n → f k < 256) → AreBytes (by_index n f)
unfolding by_index
bytes_by_index zero f small = tt
bytes_by_index (suc n) f small =
    all_by_recursion_push (λ b. b < 256) (by_index n f) (f n) (bytes_by_index n f (λ k h. small k (omega arith))) (small n (omega arith))

small_value : (c : ℕ) → is_hex_digit c ≡ true → value_of c < 16
small_value c h = grind (arith, nat_tests)

digit_at : (hex : List ℕ) (k : ℕ) → list_all is_hex_digit hex ≡ true → k < length hex → is_hex_digit (get_or hex k 0) ≡ true
digit_at hex k all within = elim (cases_Bool (is_hex_digit (get_or hex k 0))) [
  | inl digit ↦ digit
  | inr other ↦ let none = list_all_at is_hex_digit hex k 0 within other in cc
]

small_byte : (hex : List ℕ) (j : ℕ) → length hex ≡ 32 → list_all is_hex_digit hex ≡ true → j < 16 → byte_of_digits hex j < 256
small_byte hex j long all within =
    let high = small_value (get_or hex (2 * j) 0) (digit_at hex (2 * j) all (omega arith)) in
    let low = small_value (get_or hex (2 * j + 1) 0) (digit_at hex (2 * j + 1) all (omega arith)) in
    omega (arith, high, low)

simple_is : (hex guid : List ℕ) → parsed_simple hex ≡ Some guid → (length guid ≡ 16) × AreBytes guid
simple_is hex guid e = elim (cases_Bool (nat_eq (length hex) 32)) [
  | inl long ↦ elim (cases_Bool (list_all is_hex_digit hex)) [
    | inl all ↦
        let len : length hex ≡ 32 = grind (arith, nat_tests) in
        let same : by_index 16 (byte_of_digits hex) ≡ guid = same_Some _ _ (rw (long, all) at e) in
        (ap length (sym same) ∙ by_index_length 16 (byte_of_digits hex), subst AreBytes same (bytes_by_index 16 (byte_of_digits hex) (λ j h. small_byte hex j len all h)))
    | inr other ↦ cc (rw (long, other) at e)
  ]
  | inr other ↦ cc (rw other at e)
]

hyphenated_is : (text guid : List ℕ) → parsed_hyphenated text ≡ Some guid → (length guid ≡ 16) × AreBytes guid
hyphenated_is text guid e = elim (cases_Bool (nat_eq (length text) 36 && has_hyphens text)) [
  | inl form ↦ simple_is (digits_of text) guid (rw form at e)
  | inr other ↦ cc (rw other at e)
]

pub guid_is : (text guid rest : List ℕ) → guid_at text ≡ Some (guid, rest) → (length guid ≡ 16) × AreBytes guid × (text ≡ guid_spelling guid ++ rest)
unfolding guid_at
guid_is text guid rest e = option_and_then_some _ (parsed_hyphenated (take 36 text)) (guid, rest) e (λ g f h.
    option_map_some _ (after_word (guid_spelling g) text) (guid, rest) h (λ r k whole.
    let same = some_pair_parts g guid r rest (ap Some whole) in
    let bytes = hyphenated_is (take 36 text) g f in
    let spelled = after_word_is (guid_spelling g) text r k in
    (rw (← same.0) bytes.0, rw (← same.0) bytes.1, rw (← same.0, ← same.1) spelled)))

pub guid_again : (guid rest : List ℕ) → length guid ≡ 16 → AreBytes guid → guid_at (guid_spelling guid ++ rest) ≡ Some (guid, rest)
unfolding guid_at
guid_again guid rest long bytes =
    let front : take 36 (guid_spelling guid ++ rest) ≡ guid_spelling guid = take_at (guid_spelling guid) rest 36 (by_index_length 36 _) in
    let parsed = parses_hyphenated_text lower guid (inl refl) long (All-from_get_or (λ b. b < 256) guid 0 (λ i h. each_byte guid bytes i)) in
    rw (front, ← parsed, after_word_again (guid_spelling guid) rest) refl

-- a shorter text is no GUID
pub short_is_none : (text : List ℕ) → length text < 36 → parsed_hyphenated (take 36 text) ≡ None
short_is_none text short =
    let other : nat_eq (length (take 36 text)) 36 ≡ false = grind (arith, nat_tests, length-take 36 text) in
    rw other refl

-- of the forms that are read, one has this length
pub long_is_hyphenated : (text : List ℕ) → length text ≡ 36 → parsed text ≡ parsed_hyphenated text
long_is_hyphenated text long = rw long refl

-- what a parse gives, from its two clauses
pub parse_is : {E : Type 0} (r : Result (List ℕ) E) (text : List ℕ) → (IsOk r ↔ ((u : List ℕ) × (parsed text ≡ Some u)))
    → IfOk r (λ u. Some u ≡ parsed text) → result_ok r ≡ parsed text
parse_is (Ok u) text ok bytes = bytes
parse_is (Err e) text ok bytes = none (parsed text) (λ u e. ok.1 (u, e))
  where
    none : (o : Option (List ℕ)) → ((u : List ℕ) → o ≡ Some u → false ≡ true) → None ≡ o
    none None gone = refl
    none (Some u) gone = cc (gone u refl)
