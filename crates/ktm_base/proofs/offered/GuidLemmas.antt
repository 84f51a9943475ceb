-- Sixteen bytes and their four fields.
use Rattle.std.proofs.Common.{◌≡◌, ℕ, ◌<◌, ◌≤◌, ◌+◌, ◌^◌, List, ◌++◌, length, get_or, take, drop, refl, sym, ap, ◌∙◌, arith, append_assoc, length-take, length-drop, inl, inr}
use Rattle.std.proofs.lemmas.Bool.{cases_lt}
use Rattle.std.proofs.lemmas.List.{take-append-drop, drop-drop, get_or-take, get_or-drop, get_or_past}
use Rattle.std.proofs.lemmas.Nat.{be_bytes_2, be_bytes_4, from_be_bytes-to_be_bytes_4, from_be_bytes-to_be_bytes_8}
use Rattle.std.specs.Int.{w16, w32, w64, to_be_bytes, from_be_bytes}
use Rattle.ktm_base.specs.declared.id.Id.{Id}
use Rattle.ktm_base.specs.declared.id.ObjectKind.{ObjectKind}
use Rattle.ktm_base.specs.Guid.{IsId, guid_of}

take_small : (n : ℕ) (bytes : List ℕ) → ((i : ℕ) → get_or bytes i 0 < 256) → (i : ℕ) → get_or (take n bytes) i 0 < 256
take_small n bytes small i =
    elim (cases_lt i n) [
      | inl less ↦ rw get_or-take (small i)
      | inr more ↦ let past : length (take n bytes) ≤ i = omega (arith, length-take n bytes) in rw get_or_past (omega arith)
    ]

drop_small : (n : ℕ) (bytes : List ℕ) → ((i : ℕ) → get_or bytes i 0 < 256) → (i : ℕ) → get_or (drop n bytes) i 0 < 256
drop_small n bytes small i = rw get_or-drop (small (n + i))

-- the field of m bytes behind n others, and the rest
field_rest : (n m : ℕ) (bytes : List ℕ) → take m (drop n bytes) ++ drop (n + m) bytes ≡ drop n bytes
field_rest n m bytes = rw (← drop-drop m n bytes) (take-append-drop m (drop n bytes))

field_2 : (n k : ℕ) (bytes : List ℕ) → n + 2 ≤ length bytes → ((i : ℕ) → get_or bytes i 0 < 256) → k ≡ from_be_bytes w16 (take 2 (drop n bytes)) → to_be_bytes w16 k ≡ take 2 (drop n bytes)
field_2 n k bytes long small is =
    be_bytes_2 (take 2 (drop n bytes)) k (omega (arith, length-take 2 (drop n bytes), length-drop n bytes)) (take_small 2 (drop n bytes) (drop_small n bytes small)) is

-- sixteen bytes are what their fields write
pub from_fields : (bytes : List ℕ) (a b c d : ℕ) → length bytes ≡ 16 → ((i : ℕ) → get_or bytes i 0 < 256) → a ≡ from_be_bytes w32 (take 4 bytes) → b ≡ from_be_bytes w16 (take 2 (drop 4 bytes)) → c ≡ from_be_bytes w16 (take 2 (drop 6 bytes)) → to_be_bytes w64 d ≡ drop 8 bytes → to_be_bytes w32 a ++ to_be_bytes w16 b ++ to_be_bytes w16 c ++ to_be_bytes w64 d ≡ bytes
from_fields bytes a b c d long small is_a is_b is_c is_d =
    let e1 : to_be_bytes w32 a ≡ take 4 bytes = be_bytes_4 (take 4 bytes) a (omega (arith, length-take 4 bytes)) (take_small 4 bytes small) is_a in
    let e2 : to_be_bytes w16 b ≡ take 2 (drop 4 bytes) = field_2 4 b bytes (omega arith) small is_b in
    let e3 : to_be_bytes w16 c ≡ take 2 (drop 6 bytes) = field_2 6 c bytes (omega arith) small is_c in
    append_assoc (to_be_bytes w32 a ++ to_be_bytes w16 b) (to_be_bytes w16 c) (to_be_bytes w64 d)
    ∙ ap (λ (l : List ℕ). to_be_bytes w32 a ++ to_be_bytes w16 b ++ (to_be_bytes w16 c ++ l)) is_d
    ∙ ap (λ (l : List ℕ). to_be_bytes w32 a ++ to_be_bytes w16 b ++ (l ++ drop 8 bytes)) e3
    ∙ ap (λ (l : List ℕ). to_be_bytes w32 a ++ to_be_bytes w16 b ++ l) (field_rest 6 2 bytes)
    ∙ append_assoc (to_be_bytes w32 a) (to_be_bytes w16 b) (drop 6 bytes)
    ∙ ap (λ (l : List ℕ). to_be_bytes w32 a ++ (l ++ drop 6 bytes)) e2
    ∙ ap (λ (l : List ℕ). to_be_bytes w32 a ++ l) (field_rest 4 2 bytes)
    ∙ ap (λ (l : List ℕ). l ++ drop 4 bytes) e1
    ∙ take-append-drop 4 bytes

same_id : (id : Id) (boot number : ℕ) → boot ≡ id.boot → number ≡ id.number → record { boot = boot; number = number } ≡ id
same_id id boot number p q = rw (p, q) refl

-- a GUID says which object has it
pub id_read : (kind : ObjectKind) (image : ℕ) (id : Id) (bytes : List ℕ) (boot number : ℕ) → IsId id → guid_of kind image id ≡ bytes → boot ≡ from_be_bytes w32 (take 4 bytes) → number ≡ from_be_bytes w64 (drop 8 bytes) → record { boot = boot; number = number } ≡ id
id_read kind image id bytes boot number is same is_boot is_number =
    let fits : id.number < 2 ^ 64 = omega (arith, is.number_fits) in
    same_id id boot number
    (is_boot ∙ ap (λ (l : List ℕ). from_be_bytes w32 (take 4 l)) (sym same) ∙ from_be_bytes-to_be_bytes_4 id.boot is.boot_fits)
    (is_number ∙ ap (λ (l : List ℕ). from_be_bytes w64 (drop 8 l)) (sym same) ∙ from_be_bytes-to_be_bytes_8 id.number fits)
