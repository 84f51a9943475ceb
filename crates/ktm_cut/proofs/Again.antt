-- Bytes that are written again as they are.
use Rattle.std.specs.Prelude.{IfSome, slice_range}
use Rattle.std.proofs.Common.{◌≡◌, ℕ, ◌+◌, ◌-◌, ◌≤◌, List, ◌++◌, length, take, drop, Option, None, Some, refl, sym, ap, ◌∙◌, append_assoc, length-drop, arith}
use Rattle.std.proofs.lemmas.List.{take-append-drop, length-take-le}
use Rattle.std.proofs.lemmas.List.Folds.{drop_split}
use Rattle.ktm_base.specs.Bytes.{written}
use Rattle.ktm_base.specs.Told.{Goes}

long_as_read : (old : List ℕ) (at n : ℕ) (p : List ℕ) → at + n ≤ length old → p ≡ slice_range old at (at + n) → length p ≡ n
long_as_read old at n p fits is =
    let some : at + n - at ≡ n = omega arith in
    ap length is ∙ length-take-le (at + n - at) (drop at old) (omega (arith, length-drop at old)) ∙ some

written_same : (old : List ℕ) (at n : ℕ) (p : List ℕ) → at + n ≤ length old → p ≡ slice_range old at (at + n) → written old at p ≡ old
written_same old at n p fits is =
    ap (λ (k : ℕ). take at old ++ p ++ drop (at + k) old) (long_as_read old at n p fits is)
    ∙ append_assoc (take at old) p (drop (at + n) old)
    ∙ ap (λ (l : List ℕ). take at old ++ l) (ap (λ (q : List ℕ). q ++ drop (at + n) old) is ∙ sym (drop_split old at (at + n) (omega arith)))
    ∙ take-append-drop at old

write_again : (at n : ℕ) (p : List ℕ) (a b : Option (List ℕ)) → IfSome a (λ bytes. at + n ≤ length bytes) → IfSome a (λ bytes. p ≡ slice_range bytes at (at + n)) → Goes (λ old new. new ≡ written old at p) a b → b ≡ a
write_again at n p None None fits is goes = refl
write_again at n p None (Some b) fits is goes = absurd goes
write_again at n p (Some a) None fits is goes = absurd goes
write_again at n p (Some a) (Some b) fits is goes = ap Some (goes ∙ written_same a at n p fits is)

-- a read, and then a write of what was read, change nothing
pub written_again : (at n : ℕ) (p : List ℕ) (a b c : Option (List ℕ)) → b ≡ a → IfSome a (λ bytes. at + n ≤ length bytes) → IfSome a (λ bytes. p ≡ slice_range bytes at (at + n)) → Goes (λ old new. new ≡ written old at p) b c → c ≡ a
written_again at n p a b c same fits is goes = write_again at n p a c fits is (rw same at goes)

-- what ends before the end ends before the bytes do
pub ends_before : (middle end : ℕ) (a : Option (List ℕ)) → middle ≤ end → IfSome a (λ bytes. end ≤ length bytes) → IfSome a (λ bytes. middle ≤ length bytes)
ends_before middle end None low within = tt
ends_before middle end (Some a) low within = omega arith
