-- What is read in hexadecimal digits is what is spelled in them.
use Rattle.std.proofs.Common.{◌≡◌, ◌≢◌, ℕ, length, get_or, set, take, drop, sym, ◌+◌, ◌*◌, ◌/◌, ◌%◌, ◌<◌, List, [], ◌∷◌, ◌++◌, Option, Some, None, is_some, refl, ap, ◌∙◌, arith, option_map, option_and_then, append_assoc, subst, codes, bytes_eq, nat_eq, true, false, zero, suc, inl, inr, take-append-drop}
use Rattle.std.specs.List.{list_all}
use Rattle.std.proofs.lemmas.List.{take_more_set, drop_more}
use Rattle.std.proofs.lemmas.Option.{option_and_then_some, same_Some}
use Rattle.std.proofs.lemmas.Bool.{and_parts, cases_Bool}
use Rattle.std.proofs.lemmas.Grind.{common_steps}
use Rattle.std.proofs.lemmas.Slice.Eq.{bytes_eq-Decides}
use Rattle.ktm_base.specs.Bytes.{AreBytes}
use Rattle.ktm_codec.specs.Hex.{digit_value, hex_digit, is_hex_digit, hex_of, hex_or_dash, pair_value, unhex, unhex_or_dash}

map-front : (front : List ℕ) (b : ℕ) (r : Option (List ℕ)) → option_map (λ bs. (front ++ b ∷ []) ++ bs) r ≡ option_map (λ bs. front ++ bs) (option_map (λ bs. b ∷ bs) r)
map-front front b None = refl
map-front front b (Some bs) = ap Some (append_assoc front (b ∷ []) bs)

pub option_map_some : {A B P : Type 0} (f : A → B) (o : Option A) (y : B) → option_map f o ≡ Some y → ((x : A) → o ≡ Some x → f x ≡ y → P) → P
option_map_some f None y e then = cc
option_map_some f (Some x) y e then = then x refl (same_Some _ _ e)

-- before the first pair
pub unhex-start : (o : Option (List ℕ)) → option_map (λ bs. [] ++ bs) o ≡ o
unhex-start None = refl
unhex-start (Some bs) = refl

-- one pair more
unhex-pair : (front rest : List ℕ) (high low b : ℕ) → Some b ≡ pair_value high low
    → option_map (λ bs. (front ++ b ∷ []) ++ bs) (unhex rest) ≡ option_map (λ bs. front ++ bs) (unhex (high ∷ low ∷ rest))
unhex-pair front rest high low b is = rw (← is) (map-front front b (unhex rest))

-- one pair of the text more is read into the bytes
pub unhex-step : (text bytes : List ℕ) (i b : ℕ) → 2 * i + 1 < length text → i < length bytes
    → Some b ≡ pair_value (get_or text (2 * i) 0) (get_or text (2 * i + 1) 0)
    → option_map (λ bs. take i bytes ++ bs) (unhex (drop (2 * i) text)) ≡ unhex text
    → option_map (λ bs. take (i + 1) (set bytes i b) ++ bs) (unhex (drop (2 * (i + 1)) text)) ≡ unhex text
unhex-step text bytes i b within room is so_far =
    let behind : 2 * (i + 1) ≡ 2 * i + 1 + 1 = omega arith in
    rw (take_more_set bytes i b room, behind)
    (unhex-pair (take i bytes) (drop (2 * i + 1 + 1) text) (get_or text (2 * i) 0) (get_or text (2 * i + 1) 0) b is
    ∙ ap (λ (t : List ℕ). option_map (λ bs. take i bytes ++ bs) (unhex t)) (sym (drop_more text (2 * i) 0 (omega arith) ∙ ap (λ (t : List ℕ). get_or text (2 * i) 0 ∷ t) (drop_more text (2 * i + 1) 0 within)))
    ∙ so_far)

none_behind : (o : Option ℕ) → option_and_then (λ b. option_map (λ (bs : List ℕ). b ∷ bs) None) o ≡ None
none_behind None = refl
none_behind (Some b) = refl

-- an odd number of digits is no bytes
pub unhex-odd : (text : List ℕ) → length text % 2 ≢ 0 → unhex text ≡ None
unhex-odd [] odd = absurd (odd refl)
unhex-odd (c ∷ []) odd = refl
unhex-odd (high ∷ low ∷ rest) odd = rw (unhex-odd rest (λ even. odd (omega arith))) (none_behind (pair_value high low))

none_of : {A : Type 0} (o : Option A) → is_some o ≡ false → o ≡ None
none_of None e = refl
none_of (Some x) e = cc

none_low : (o : Option ℕ) → option_and_then (λ h. option_map (λ l. h * 16 + l) None) o ≡ None
none_low None = refl
none_low (Some h) = refl

-- what has another character among them is no bytes
pub unhex-other : (text : List ℕ) → list_all is_hex_digit text ≡ false → unhex text ≡ None
unhex-other [] other = cc
unhex-other (c ∷ []) other = refl
unhex-other (high ∷ low ∷ rest) other = elim (cases_Bool (is_hex_digit high)) [
  | inr wrong ↦ rw (none_of (digit_value high) wrong) refl
  | inl right ↦ elim (cases_Bool (is_hex_digit low)) [
    | inr wrong ↦ rw (none_of (digit_value low) wrong, none_low (digit_value high)) refl
    | inl right' ↦ rw (unhex-other rest (rw (right, right') at other)) (none_behind (pair_value high low))
  ]
]

pub digit_again : (n : ℕ) → n < 16 → digit_value (hex_digit n) ≡ Some n
digit_again n h = grind (arith, common_steps)

pub digit_is : (c n : ℕ) → digit_value c ≡ Some n → (n < 16) × (c ≡ hex_digit n)
digit_is c n h = grind (arith, common_steps)

pair_again : (b : ℕ) → b < 256 → pair_value (hex_digit (b / 16)) (hex_digit (b % 16)) ≡ Some b
pair_again b h =
    let same : b / 16 * 16 + b % 16 ≡ b = omega arith in
    rw (digit_again (b / 16) (omega arith), digit_again (b % 16) (omega arith)) (ap Some same)

pair_of : (high low h b : ℕ) → digit_value high ≡ Some h → option_map (λ l. h * 16 + l) (digit_value low) ≡ Some b
    → (b < 256) × (high ≡ hex_digit (b / 16)) × (low ≡ hex_digit (b % 16))
pair_of high low h b e f = option_map_some _ (digit_value low) b f (λ l g sum.
    let first = digit_is high h e in
    let second = digit_is low l g in
    let high_half : h ≡ b / 16 = omega (arith, first.0, second.0) in
    let low_half : l ≡ b % 16 = omega (arith, first.0, second.0) in
    (omega (arith, first.0, second.0), rw (← high_half) first.1, rw (← low_half) second.1))

pub pair_is : (high low b : ℕ) → pair_value high low ≡ Some b → (b < 256) × (high ≡ hex_digit (b / 16)) × (low ≡ hex_digit (b % 16))
pair_is high low b e = option_and_then_some _ (digit_value high) b e (λ h f g. pair_of high low h b f g)

-- what is spelled in pairs of digits is read
pub unhex_again : (bytes : List ℕ) → AreBytes bytes → unhex (hex_of bytes) ≡ Some bytes
unhex_again [] h = refl
unhex_again (b ∷ bs) h = rw (pair_again b h.0, unhex_again bs h.1) refl

-- what is read is spelled so
pub unhex_is : (text bytes : List ℕ) → unhex text ≡ Some bytes → AreBytes bytes × (text ≡ hex_of bytes)
unhex_is [] bytes e =
    let none = same_Some _ _ e in
    (subst AreBytes none tt, ap hex_of none)
unhex_is (c ∷ []) bytes e = cc
unhex_is (high ∷ low ∷ rest) bytes e =
    option_and_then_some _ (pair_value high low) bytes e (λ b f g.
    option_map_some _ (unhex rest) bytes g (λ bs k whole.
    let pair = pair_is high low b f in
    let more = unhex_is rest bs k in
    let spelled : high ∷ low ∷ rest ≡ hex_of (b ∷ bs) = rw (← pair.1, ← pair.2, ← more.1) refl in
    (subst AreBytes whole (pair.0, more.0), spelled ∙ ap hex_of whole)))

not_dash : (c : ℕ) (cs bytes : List ℕ) → unhex (c ∷ cs) ≡ Some bytes → (AreBytes bytes) × (c ∷ cs ≡ hex_or_dash bytes)
not_dash c cs [] e = cc (unhex_is (c ∷ cs) [] e).1
not_dash c cs (b ∷ bs) e = unhex_is (c ∷ cs) (b ∷ bs) e

-- a text from which bytes are read, where a dash stands for none, is their spelling
pub unhex_or_dash_is : (text bytes : List ℕ) → unhex_or_dash text ≡ Some bytes → AreBytes bytes × (text ≡ hex_or_dash bytes)
unhex_or_dash_is [] bytes e = cc
unhex_or_dash_is (c ∷ cs) bytes e = elim (cases_Bool (bytes_eq (c ∷ cs) (codes "-"))) [
  | inl same ↦
      let none : [] ≡ bytes = same_Some _ _ (rw same at e) in
      (subst AreBytes none tt, (bytes_eq-Decides (c ∷ cs) (codes "-")).0 same ∙ ap hex_or_dash none)
  | inr other ↦ not_dash c cs bytes (rw other at e)
]

two_are_no_dash : (c d : ℕ) (cs : List ℕ) → bytes_eq (c ∷ d ∷ cs) (codes "-") ≡ false
two_are_no_dash c d cs = elim (cases_Bool (nat_eq c 45)) [ inl same ↦ rw same refl | inr other ↦ rw other refl ]

pub unhex_or_dash_again : (bytes : List ℕ) → AreBytes bytes → unhex_or_dash (hex_or_dash bytes) ≡ Some bytes
unhex_or_dash_again [] h = refl
unhex_or_dash_again (b ∷ bs) h =
    rw (two_are_no_dash (hex_digit (b / 16)) (hex_digit (b % 16)) (hex_of bs)) (unhex_again (b ∷ bs) h)

behind-bytes : (b : ℕ) (bs : List ℕ) (o : Option (List ℕ)) → option_map (λ xs. b ∷ xs) (option_map (λ xs. bs ++ xs) o) ≡ option_map (λ xs. (b ∷ bs) ++ xs) o
behind-bytes b bs None = refl
behind-bytes b bs (Some xs) = refl

-- behind digits that are read
unhex-append : (front text bytes : List ℕ) → unhex front ≡ Some bytes → unhex (front ++ text) ≡ option_map (λ bs. bytes ++ bs) (unhex text)
unhex-append [] text bytes e = sym (unhex-start (unhex text)) ∙ ap (λ (xs : List ℕ). option_map (λ bs. xs ++ bs) (unhex text)) (same_Some _ _ e)
unhex-append (c ∷ []) text bytes e = cc
unhex-append (high ∷ low ∷ rest) text bytes e =
    option_and_then_some _ (pair_value high low) bytes e (λ b f g.
    option_map_some _ (unhex rest) bytes g (λ bs k whole.
    rw (f, unhex-append rest text bs k) (behind-bytes b bs (unhex text) ∙ ap (λ (xs : List ℕ). option_map (λ bs. xs ++ bs) (unhex text)) whole)))

behind-front : (front bytes : List ℕ) (o : Option (List ℕ)) → option_map (λ bs. (front ++ bytes) ++ bs) o ≡ option_map (λ bs. front ++ bs) (option_map (λ bs. bytes ++ bs) o)
behind-front front bytes None = refl
behind-front front bytes (Some bs) = ap Some (append_assoc front bytes bs)

-- a block of the text more is read behind the bytes
pub unhex-block : (text front new : List ℕ) (n : ℕ) → unhex (take n text) ≡ Some (drop (length front) new) → take (length front) new ≡ front
    → option_map (λ bs. new ++ bs) (unhex (drop n text)) ≡ option_map (λ bs. front ++ bs) (unhex text)
unhex-block text front new n read kept =
    let behind = drop (length front) new in
    let whole : new ≡ front ++ behind = sym (take-append-drop (length front) new) ∙ ap (λ (l : List ℕ). l ++ behind) kept in
    ap (λ (l : List ℕ). option_map (λ bs. l ++ bs) (unhex (drop n text))) whole
    ∙ behind-front front behind (unhex (drop n text))
    ∙ ap (λ (o : Option (List ℕ)). option_map (λ bs. front ++ bs) o) (sym (unhex-append (take n text) (drop n text) behind read))
    ∙ ap (λ (t : List ℕ). option_map (λ bs. front ++ bs) (unhex t)) (take-append-drop n text)

-- what is behind a block has digits alone, too
pub digits-behind : (n : ℕ) (text : List ℕ) → list_all is_hex_digit text ≡ true → list_all is_hex_digit (drop n text) ≡ true
digits-behind zero text all = all
digits-behind (suc n) [] all = all
digits-behind (suc n) (c ∷ cs) all = digits-behind n cs (and_parts (is_hex_digit c) _ all).1
