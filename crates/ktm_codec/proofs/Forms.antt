-- No spelling of a form begins another one, and a thing has one spelling.
use Rattle.std.proofs.Common.{◌≡◌, ℕ, zero, suc, ◌<◌, ◌^◌, List, [], ◌∷◌, ◌++◌, length, get_or, take, refl, sym, ◌∙◌, ap, subst, arith, append_assoc}
use Rattle.std.proofs.lemmas.List.{take_at, append_cancel_left}
use Rattle.std.proofs.lemmas.Nat.{le_bytes_2, le_bytes_4, le_bytes_8}
use Rattle.std.specs.Int.{w16, w32, w64, from_le_bytes}
use Rattle.ktm_base.specs.Bytes.{AreBytes}
use Rattle.ktm_base.specs.Grammar.{IsU8, IsU16, IsU32, IsU64, IsTextOf, IsValueOf, IsBytesOf, Then, Tagged, IsRow, IsListOf}
use Rattle.ktm_codec.specs.Spans.{Unambiguous, OneSpelling}

-- fronts of one length
same_fronts : (n : ℕ) (a b c d : List ℕ) → length a ≡ n → length b ≡ n → a ++ c ≡ b ++ d → a ≡ b
same_fronts n a b c d first second e = sym (take_at a c n first) ∙ ap (λ (l : List ℕ). take n l) e ∙ take_at b d n second

-- what is behind equal fronts
same_rests : (a b c d : List ℕ) → a ≡ b → a ++ c ≡ b ++ d → c ≡ d
same_rests a b c d same e = append_cancel_left b c d (ap (λ (l : List ℕ). l ++ c) (sym same) ∙ e)

pub unambiguous_u8 : Unambiguous IsU8
unambiguous_u8 x y a b c d p q e =
    let whole : x ∷ c ≡ y ∷ d = sym (ap (λ (l : List ℕ). l ++ c) p.value) ∙ e ∙ ap (λ (l : List ℕ). l ++ d) q.value in
    let same : x ≡ y = cc in
    (same, p.value ∙ ap (λ n. n ∷ []) same ∙ sym q.value)

pub unambiguous_u16 : Unambiguous IsU16
unambiguous_u16 x y a b c d p q e =
    let same = same_fronts 2 a b c d p.long q.long e in
    (sym p.value ∙ ap (λ (l : List ℕ). from_le_bytes w16 l) same ∙ q.value, same)

pub unambiguous_u32 : Unambiguous IsU32
unambiguous_u32 x y a b c d p q e =
    let same = same_fronts 4 a b c d p.long q.long e in
    (sym p.value ∙ ap (λ (l : List ℕ). from_le_bytes w32 l) same ∙ q.value, same)

pub unambiguous_u64 : Unambiguous IsU64
unambiguous_u64 x y a b c d p q e =
    let same = same_fronts 8 a b c d p.long q.long e in
    (sym p.value ∙ ap (λ (l : List ℕ). from_le_bytes w64 l) same ∙ q.value, same)

-- where the second things are of one kind once the first ones are the same
pub unambiguous_then : {X Y : Type 0} (First : X → List ℕ → Type 0) (Second : Y → List ℕ → Type 0) → Unambiguous First
    → (x x' : X) (y y' : Y) → (x ≡ x' → (a b c d : List ℕ) → Second y a → Second y' b → a ++ c ≡ b ++ d → (y ≡ y') × (a ≡ b))
    → (a b c d : List ℕ) → Then (First x) (Second y) a → Then (First x') (Second y') b → a ++ c ≡ b ++ d → (x ≡ x') × (y ≡ y') × (a ≡ b)
unambiguous_then First Second one x x' y y' two a b c d (first, second, is, p, q) (first', second', is', p', q') e =
    let whole : first ++ (second ++ c) ≡ first' ++ (second' ++ d) =
    sym (append_assoc first second c) ∙ ap (λ (l : List ℕ). l ++ c) (sym is) ∙ e ∙ ap (λ (l : List ℕ). l ++ d) is' ∙ append_assoc first' second' d in
    let (same, front) = one x x' first first' (second ++ c) (second' ++ d) p p' whole in
    let (same', back) = two same second second' c d q q' (same_rests first first' (second ++ c) (second' ++ d) front whole) in
    (same, same', is ∙ ap (λ (l : List ℕ). l ++ second) front ∙ ap (λ (l : List ℕ). first' ++ l) back ∙ sym is')

-- a list behind its length
pub unambiguous_counted : (Count : ℕ → List ℕ → Type 0) → Unambiguous Count → Unambiguous (λ (value : List ℕ). Then (Count (length value)) (λ bytes. bytes ≡ value))
unambiguous_counted Count one x y a b c d p q e =
    let (len, same, bytes) = unambiguous_then Count (λ (value bytes : List ℕ). bytes ≡ value) one (length x) (length y) x y
    (λ lens a' b' c' d' is is' e'. let same : a' ≡ b' = same_fronts (length y) a' b' c' d' (ap length is ∙ lens) (ap length is') e' in (sym is ∙ same ∙ is', same))
    a b c d p q e in
    (same, bytes)

-- a text is such a list
pub text_counted : (text bytes : List ℕ) → IsTextOf text bytes → Then (IsU8 (length text)) (λ rest. rest ≡ text) bytes
text_counted text bytes is = (length text ∷ [], text, is, record { value = refl }, refl)

pub counted_text : (text bytes : List ℕ) → Then (IsU8 (length text)) (λ rest. rest ≡ text) bytes → IsTextOf text bytes
counted_text text bytes (first, second, is, p, q) = is ∙ ap (λ (l : List ℕ). l ++ second) p.value ∙ ap (λ (l : List ℕ). length text ∷ l) q

pub unambiguous_text : Unambiguous IsTextOf
unambiguous_text x y a b c d p q e = unambiguous_counted IsU8 unambiguous_u8 x y a b c d (text_counted x a p) (text_counted y b q) e

pub unambiguous_value : Unambiguous IsValueOf
unambiguous_value = unambiguous_counted IsU16 unambiguous_u16

pub unambiguous_bytes : Unambiguous IsBytesOf
unambiguous_bytes = unambiguous_counted IsU32 unambiguous_u32

-- behind one tag; other tags begin other spellings
pub unambiguous_tagged : {X : Type 0} (Rest : X → List ℕ → Type 0) → Unambiguous Rest → (tag : ℕ) → Unambiguous (λ x. Tagged tag (Rest x))
unambiguous_tagged Rest one tag x y a b c d (rest, is, p) (rest', is', q) e =
    let whole : rest ++ c ≡ rest' ++ d = append_cancel_left (tag ∷ []) (rest ++ c) (rest' ++ d) (ap (λ (l : List ℕ). l ++ c) (sym is) ∙ e ∙ ap (λ (l : List ℕ). l ++ d) is') in
    let (same, bytes) = one x y rest rest' c d p q whole in
    (same, is ∙ ap (λ (l : List ℕ). tag ∷ l) bytes ∙ sym is')

pub other_tags : {P Q : List ℕ → Type 0} (tag other : ℕ) (a b c d : List ℕ) → Tagged tag P a → Tagged other Q b → a ++ c ≡ b ++ d → tag ≡ other
other_tags tag other a b c d (rest, is, p) (rest', is', q) e =
    let whole : tag ∷ (rest ++ c) ≡ other ∷ (rest' ++ d) = ap (λ (l : List ℕ). l ++ c) (sym is) ∙ e ∙ ap (λ (l : List ℕ). l ++ d) is' in
    cc

-- as many things in a row
pub unambiguous_row : {X : Type 0} (Item : X → List ℕ → Type 0) → Unambiguous Item → (xs ys : List X) → length xs ≡ length ys
    → (a b c d : List ℕ) → IsRow Item xs a → IsRow Item ys b → a ++ c ≡ b ++ d → (xs ≡ ys) × (a ≡ b)
unambiguous_row Item one [] [] lens a b c d p q e = (refl, p ∙ sym q)
unambiguous_row Item one [] (y ∷ ys) lens a b c d p q e = cc
unambiguous_row Item one (x ∷ xs) [] lens a b c d p q e = cc
unambiguous_row Item one (x ∷ xs) (y ∷ ys) lens a b c d p q e =
    let rest : length xs ≡ length ys = cc in
    let (head, tail, bytes) = unambiguous_then Item (IsRow Item) one x y xs ys (λ same. unambiguous_row Item one xs ys rest) a b c d p q e in
    (cc, bytes)

pub unambiguous_list : {X : Type 0} (Item : X → List ℕ → Type 0) → Unambiguous Item → Unambiguous (IsListOf Item)
unambiguous_list Item one xs ys a b c d p q e =
    let (lens, same, bytes) = unambiguous_then IsU32 (IsRow Item) unambiguous_u32 (length xs) (length ys) xs ys (λ lens. unambiguous_row Item one xs ys lens) a b c d p q e in
    (same, bytes)

pub AreBytes-parts : (a b : List ℕ) → AreBytes (a ++ b) → AreBytes a × AreBytes b
AreBytes-parts [] b all = (tt, all)
AreBytes-parts (n ∷ a) b all = let (front, back) = AreBytes-parts a b all.1 in ((all.0, front), back)

pub each_byte : (a : List ℕ) → AreBytes a → (i : ℕ) → get_or a i 0 < 256
each_byte [] all i = omega arith
each_byte (n ∷ a) all zero = all.0
each_byte (n ∷ a) all (suc i) = each_byte a all.1 i

-- numbers of bytes fit
pub u16_fits : (n : ℕ) (a : List ℕ) → AreBytes a → IsU16 n a → n < 2 ^ 16
u16_fits n a all p = omega (arith, p.value, each_byte a all 0, each_byte a all 1)

pub u32_fits : (n : ℕ) (a : List ℕ) → AreBytes a → IsU32 n a → n < 2 ^ 32
u32_fits n a all p = omega (arith, p.value, each_byte a all 0, each_byte a all 1, each_byte a all 2, each_byte a all 3)

pub one_u8 : OneSpelling IsU8
one_u8 n a b all all' p q = p.value ∙ sym q.value

pub one_u16 : OneSpelling IsU16
one_u16 n a b all all' p q = sym (le_bytes_2 a n p.long (each_byte a all) (sym p.value)) ∙ le_bytes_2 b n q.long (each_byte b all') (sym q.value)

pub one_u32 : OneSpelling IsU32
one_u32 n a b all all' p q = sym (le_bytes_4 a n p.long (each_byte a all) (sym p.value)) ∙ le_bytes_4 b n q.long (each_byte b all') (sym q.value)

pub one_u64 : OneSpelling IsU64
one_u64 n a b all all' p q = sym (le_bytes_8 a n p.long (each_byte a all) (sym p.value)) ∙ le_bytes_8 b n q.long (each_byte b all') (sym q.value)

abbrev pub HasOne : (List ℕ → Type 0) → Type 0
HasOne Form = (a b : List ℕ) → AreBytes a → AreBytes b → Form a → Form b → a ≡ b

pub one_then : (First Second : List ℕ → Type 0) → HasOne First → HasOne Second → HasOne (Then First Second)
one_then First Second one two a b all all' (first, second, is, p, q) (first', second', is', p', q') =
    let (front, back) = AreBytes-parts first second (subst AreBytes is all) in
    let (front', back') = AreBytes-parts first' second' (subst AreBytes is' all') in
    is ∙ ap (λ (l : List ℕ). l ++ second) (one first first' front front' p p') ∙ ap (λ (l : List ℕ). first' ++ l) (two second second' back back' q q') ∙ sym is'

pub one_exact : (value : List ℕ) → HasOne (λ bytes. bytes ≡ value)
one_exact value a b all all' p q = p ∙ sym q

pub one_text : OneSpelling IsTextOf
one_text text a b all all' p q = p ∙ sym q

pub one_value : OneSpelling IsValueOf
one_value value = one_then (IsU16 (length value)) (λ bytes. bytes ≡ value) (one_u16 (length value)) (one_exact value)

pub one_bytes : OneSpelling IsBytesOf
one_bytes value = one_then (IsU32 (length value)) (λ bytes. bytes ≡ value) (one_u32 (length value)) (one_exact value)

pub one_tagged : (tag : ℕ) (Rest : List ℕ → Type 0) → HasOne Rest → HasOne (Tagged tag Rest)
one_tagged tag Rest one a b all all' (rest, is, p) (rest', is', q) =
    is ∙ ap (λ (l : List ℕ). tag ∷ l) (one rest rest' (subst AreBytes is all).1 (subst AreBytes is' all').1 p q) ∙ sym is'

pub one_row : {X : Type 0} (Item : X → List ℕ → Type 0) → OneSpelling Item → (xs : List X) → HasOne (IsRow Item xs)
one_row Item one [] = one_exact []
one_row Item one (x ∷ xs) = one_then (Item x) (IsRow Item xs) (one x) (one_row Item one xs)

pub one_list : {X : Type 0} (Item : X → List ℕ → Type 0) → OneSpelling Item → OneSpelling (IsListOf Item)
one_list Item one xs = one_then (IsU32 (length xs)) (IsRow Item xs) (one_u32 (length xs)) (one_row Item one xs)
