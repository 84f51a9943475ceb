-- Bytes that are known piece by piece, and counts that never fall.
use Rattle.std.specs.Prelude.{IfSome}
use Rattle.std.proofs.Common.{◌≡◌, ℕ, ◌<◌, ◌≤◌, List, [], ◌++◌, length, take, Option, None, Some, refl, sym, ◌∙◌, ap, subst, append_assoc, arith, length-append}
use Rattle.std.proofs.lemmas.List.{append-nil}
use Rattle.std.specs.Io.KnownBytes.{Appends, Consumes, Keeps}
use Rattle.ktm_base.specs.Count.{Rose}

pub Appends-none : (o : Option (List ℕ)) → Appends o o []
Appends-none None = tt
Appends-none (Some xs) = sym (append-nil xs)

pub Appends-trans : (a b c : Option (List ℕ)) (xs ys : List ℕ) → Appends a b xs → Appends b c ys → Appends a c (xs ++ ys)
Appends-trans None b c xs ys h k = tt
Appends-trans (Some a) None c xs ys h k = absurd h
Appends-trans (Some a) (Some b) None xs ys h k = absurd k
Appends-trans (Some a) (Some b) (Some c) xs ys h k = k ∙ ap (λ (l : List ℕ). l ++ ys) h ∙ append_assoc a xs ys

pub Appends-kept : (a b c : Option (List ℕ)) (xs : List ℕ) → Appends a b xs → Keeps b c → Appends a c xs
Appends-kept None b c xs h k = tt
Appends-kept (Some a) None c xs h k = absurd h
Appends-kept (Some a) (Some b) None xs h k = absurd k
Appends-kept (Some a) (Some b) (Some c) xs h k = k ∙ h

pub Consumes-kept : (a b c : Option (List ℕ)) (xs : List ℕ) → Consumes a b xs → Keeps b c → Consumes a c xs
Consumes-kept None b c xs h k = tt
Consumes-kept (Some a) None c xs h k = absurd h
Consumes-kept (Some a) (Some b) None xs h k = absurd k
Consumes-kept (Some a) (Some b) (Some c) xs h k = h ∙ ap (λ (l : List ℕ). xs ++ l) (sym k)

pub Consumes-none : (o : Option (List ℕ)) → Consumes o o []
Consumes-none None = tt
Consumes-none (Some xs) = refl

pub Consumes-trans : (a b c : Option (List ℕ)) (xs ys : List ℕ) → Consumes a b xs → Consumes b c ys → Consumes a c (xs ++ ys)
Consumes-trans None b c xs ys h k = tt
Consumes-trans (Some a) None c xs ys h k = absurd h
Consumes-trans (Some a) (Some b) None xs ys h k = absurd k
Consumes-trans (Some a) (Some b) (Some c) xs ys h k = h ∙ ap (λ (l : List ℕ). xs ++ l) k ∙ sym (append_assoc xs ys c)

-- a count that rose later rose
pub Rose-later : (a b c : ℕ) → a ≤ b → Rose b c → Rose a c
Rose-later a b c h k = omega arith

-- a read of no byte
pub Consumes-end : (a b c : Option (List ℕ)) (xs ys : List ℕ) (n : ℕ) → Consumes a b xs → Consumes b c (take n ys) → n ≡ 0 → Consumes a c xs
Consumes-end a b c xs ys n h k none =
    subst (λ (l : List ℕ). Consumes a c l) (append-nil xs) (Consumes-trans a b c xs [] h (subst (λ m. Consumes b c (take m ys)) none k))

-- what was read is as long as what was told
pub Consumes-long : (a b : Option (List ℕ)) (xs : List ℕ) (n : ℕ) → Consumes a b xs → n < length xs → IfSome a (λ l. n < length l)
Consumes-long None b xs n h long = tt
Consumes-long (Some a) None xs n h long = absurd h
Consumes-long (Some a) (Some b) xs n h long = rw h (simp length-append (omega arith))
